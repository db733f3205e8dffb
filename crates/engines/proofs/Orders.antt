-- Texts that are found, and are written one after another.
use Rattle.text.specs.Taken.{Taken}
use Rattle.std.proofs.Common.{◌≡◌, Result, Ok, Err, refl, ap, subst, sym}
use Rattle.std.specs.Prelude.{IsErrAnd, MatchResult}
use Rattle.game.specs.Game.{Game}
use Rattle.pgsolver.specs.Canon.{game_text}
use Rattle.engines.specs.Prepared.{IsTextFound, Outcome, game_played}
use Rattle.requests.specs.Writers.{GameText, Unasked, IsWhole, lent_for}
use Rattle.requests.specs.declared.error.MuError.{MuError}
use Rattle.requests.proofs.Orders as order
pub use Rattle.requests.proofs.Orders.{one_text, stopped_at, then_more}

-- the game's text is that of the system and the formula
pub found_game : (x : Outcome) (g : Game) → g ≡ game_played x → IsTextFound x GameText (game_text g)
found_game x g e = ap game_text e

-- Nothing is asked from a writer, and nothing was written to it.
pub unasked : (x : Outcome) (old : Taken) → IsWhole (IsTextFound x) (lent_for Unasked old old)
unasked x old = order.unasked (IsTextFound x) old refl

-- What holds of a refusal holds of the answer where it is handed on.
pub refused_on : {T : Type 0} → (r : Result T MuError) (e : MuError) (P : T → Type 0) (Q : MuError → Type 0) → IsErrAnd r (λ x. x ≡ e) → Q e → MatchResult r P Q
refused_on (Ok x) e P Q h q = absurd h
refused_on (Err x) e P Q h q = subst Q (sym h) q
