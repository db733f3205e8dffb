-- What has no answer, or no marks, and what it is told of.
use Rattle.std.proofs.Common.{◌≡◌, ℕ, List, Bool, Some, None, Ok, Err, subst, sym}
use Rattle.std.specs.Prelude.{IfOk, IfErr, MatchResult, Option, Result}
use Rattle.systems.specs.System.{System}
use Rattle.calculus.specs.Tree.{Formula}
use Rattle.requests.specs.declared.error.MuError.{MuError}
use Rattle.requests.specs.declared.error.MuError.TheVariants as error
use Rattle.calculus.specs.declared.priorities.Priorities.{Priorities}
use Rattle.requests.specs.Check.{IsArenaOf, ByGame, AreSpelled, AreMarks, IsBeyond}
use Rattle.requests.specs.Check.{RefusesCheck}
use Rattle.requests.specs.Writers.{Lent, AreKept}
use Rattle.requests.specs.Solver.{FitsBoard, IsUnsolved}
use Rattle.game.specs.Game.{Game}
use Rattle.workers.specs.declared.team.BoardKind.{BoardKind}
use Rattle.requests.specs.declared.texts.Texts.{Texts}
use Rattle.calculus.specs.Closed.{closed_formula}
use Rattle.requests.specs.Causes.{HaveCauses}
use Rattle.requests.proofs.Caused.{no_read}

-- That a limit is passed is told where both texts are spelled.
pub beyond_of : (rule : Priorities) (board : Option BoardKind) (first second : List ℕ) (writers : List Lent) (l : System) (f : Formula) (e : MuError)
    → AreSpelled first second l f
    → IsBeyond (ByGame rule board) l f e → AreKept writers → RefusesCheck (ByGame rule board) first second writers e
beyond_of rule board first second writers l f error.Memory spelled h kept = ((l, spelled.system.spelled), kept)
beyond_of rule board first second writers l f (error.Normal e) spelled h kept = (record { l = l; f = f; spelled = spelled; beyond = h }, kept)
beyond_of rule board first second writers l f (error.Build e) spelled h kept = (record { l = l; f = f; spelled = spelled; beyond = h }, kept)
beyond_of rule board first second writers l f (error.Table e) spelled h kept = (record { l = l; f = f; spelled = spelled; beyond = h }, kept)
beyond_of rule board first second writers l f (error.Solve e) spelled h kept = (record { l = l; f = f; spelled = spelled; beyond = h }, kept)
beyond_of rule board first second writers l f (error.Arguments e) spelled h kept = absurd h
beyond_of rule board first second writers l f error.File spelled h kept = absurd h
beyond_of rule board first second writers l f error.Read spelled h kept = absurd h
beyond_of rule board first second writers l f (error.System e) spelled h kept = absurd h
beyond_of rule board first second writers l f (error.Formula e) spelled h kept = absurd h
beyond_of rule board first second writers l f (error.Game e) spelled h kept = absurd h
beyond_of rule board first second writers l f (error.Evidence e) spelled h kept = absurd h
beyond_of rule board first second writers l f (error.Schedule e) spelled h kept = absurd h
beyond_of rule board first second writers l f (error.NoLabel offset) spelled h kept = absurd h
beyond_of rule board first second writers l f (error.Write e) spelled h kept = absurd h

-- What is beyond a limit before a board is asked for is so whatever board is.
pub beyond_any : (rule : Priorities) (board : Option BoardKind) (l : System) (f : Formula) (e : MuError) → IsBeyond (ByGame rule None) l f e
    → IsBeyond (ByGame rule board) l f e
beyond_any rule board l f error.Memory h = tt
beyond_any rule board l f (error.Normal e) h = h
beyond_any rule board l f (error.Build e) h = h
beyond_any rule board l f (error.Table e) h = absurd h.1
beyond_any rule board l f (error.Solve e) h = absurd h.1
beyond_any rule board l f (error.Arguments e) h = absurd h
beyond_any rule board l f error.File h = absurd h
beyond_any rule board l f error.Read h = absurd h
beyond_any rule board l f (error.System e) h = absurd h
beyond_any rule board l f (error.Formula e) h = absurd h
beyond_any rule board l f (error.Game e) h = absurd h
beyond_any rule board l f (error.Evidence e) h = absurd h
beyond_any rule board l f (error.Schedule e) h = absurd h
beyond_any rule board l f (error.NoLabel offset) h = absurd h
beyond_any rule board l f (error.Write e) h = absurd h

-- A game that isn't solved is one that was made.
pub beyond_board : (rule : Priorities) (kind : BoardKind) (l : System) (f : Formula) (g : Game) (e : MuError) → IsArenaOf rule l f g
    → IsUnsolved (Some kind) g e
    → IsBeyond (ByGame rule (Some kind)) l f e
beyond_board rule kind l f g error.Memory is h = tt
beyond_board rule kind l f g (error.Table e) is h = (is.within, subst (λ x. IsUnsolved (Some kind) x (error.Table e)) is.same h)
beyond_board rule kind l f g (error.Solve e) is h = (is.within, subst (λ x. IsUnsolved (Some kind) x (error.Solve e)) is.same h)
beyond_board rule kind l f g (error.Normal e) is h = absurd h
beyond_board rule kind l f g (error.Build e) is h = absurd h
beyond_board rule kind l f g (error.Arguments e) is h = absurd h
beyond_board rule kind l f g error.File is h = absurd h
beyond_board rule kind l f g error.Read is h = absurd h
beyond_board rule kind l f g (error.System e) is h = absurd h
beyond_board rule kind l f g (error.Formula e) is h = absurd h
beyond_board rule kind l f g (error.Game e) is h = absurd h
beyond_board rule kind l f g (error.Evidence e) is h = absurd h
beyond_board rule kind l f g (error.Schedule e) is h = absurd h
beyond_board rule kind l f g (error.NoLabel offset) is h = absurd h
beyond_board rule kind l f g (error.Write e) is h = absurd h

-- What was read is what something is made of.
pub spelled_by : {T : Type 0} → (texts_of : T → Texts) (first second : List ℕ) (texts : Texts) (r : Result T MuError)
    → AreSpelled first second texts.system.system (closed_formula texts.formula)
    → IfOk r (λ x. texts_of x ≡ texts) → IfOk r (λ x. AreSpelled first second (texts_of x).system.system (closed_formula (texts_of x).formula))
spelled_by texts_of first second texts (Ok x) h e = subst (λ (t : Texts). AreSpelled first second t.system.system (closed_formula t.formula)) (sym e) h
spelled_by texts_of first second texts (Err e) h same = tt

-- Marks that were found for each board that can be had are those of the one that is asked for; memory may be wanting anyway.
pub marks_or_memory : {A : Type 0} (items : A → List Bool) (rule : Priorities) (board : BoardKind) (l : System) (f : Formula) (g : Game) (r : Result A MuError)
    → FitsBoard (Some board) g → IfOk r (λ marks. (b : Option BoardKind) → FitsBoard b g → AreMarks (ByGame rule b) l f (items marks))
    → IfErr r (λ e. e ≡ error.Memory)
    → MatchResult r (λ marks. AreMarks (ByGame rule (Some board)) l f (items marks)) (IsBeyond (ByGame rule (Some board)) l f)
marks_or_memory items rule board l f g (Ok marks) fits found memory = found (Some board) fits
marks_or_memory items rule board l f g (Err e) fits found memory = subst (IsBeyond (ByGame rule (Some board)) l f) (sym memory) tt

-- Out of memory is no read that failed.
pub memory_caused : (aut formula : Bool) (e : MuError) → e ≡ error.Memory → HaveCauses aut formula e
memory_caused aut formula e h = no_read (λ d. d ≡ error.Memory) aut formula e (λ no. absurd cc) (λ no. absurd cc) h
