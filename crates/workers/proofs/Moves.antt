-- Each move of a deque keeps every job a vertex.
use Rattle.std.proofs.Common.{◌≡◌, ℕ, ◌<◌, List, [], ◌∷◌, ◌++◌, length, refl, subst}
use lib.Seq.{take-append_seam, drop-append_seam}
use Rattle.std.proofs.lemmas.List.Elements.{All-append, All-take, All-drop}
use Rattle.crossbeam_deque.specs.Tasks.{Pushes, Takes, Pops}
use Rattle.game.specs.Game.{Game}
use Rattle.workers.specs.Jobs.{AreJobs, more_given}
use Rattle.workers.specs.declared.jobs.Given.{Given}

abbrev Holds : Game → List ℕ → List Given → Type 0
Holds g items _ = AreJobs g items

left : (g : Game) (xs ys : List ℕ) → AreJobs g (xs ++ ys) → AreJobs g xs
left g xs ys h = subst (AreJobs g) (take-append_seam xs ys) (All-take (λ v. v < length g.vertices) (length xs) (xs ++ ys) h)

right : (g : Game) (xs ys : List ℕ) → AreJobs g (xs ++ ys) → AreJobs g ys
right g xs ys h = subst (AreJobs g) (drop-append_seam xs ys) (All-drop (λ v. v < length g.vertices) (length xs) (xs ++ ys) h)

pub pushes : (g : Game) (port : ℕ) (given : Given) (xs : List ℕ) → AreJobs g xs → Pushes (Holds g) port given xs (λ after. after ≡ more_given given xs)
pushes g port given xs new items views h _ = (more_given given xs, All-append (λ v. v < length g.vertices) items xs h new, refl)

pub takes : (g : Game) (port : ℕ) (given : Given) (most : ℕ) → Takes (Holds g) port given most (λ xs after. AreJobs g xs × (after ≡ given))
takes g port given most xs items views _ _ h _ = (given, right g xs items h, (left g xs items h, refl))

pub pops : (g : Game) (port : ℕ) (given : Given) → Pops (Holds g) port given (λ xs after. AreJobs g xs × (after ≡ given))
pops g port given x items views h _ = (given, left g items (x ∷ []) h, (right g items (x ∷ []) h, refl))
