use Rattle.std.proofs.Common.{ℕ, ◌≡◌, ◌<◌, ◌⊎◌, List, [], ◌∷◌, arith, length, max, subst}
use Rattle.workers.specs.Jobs.{WasFilled}
use Rattle.workers.specs.Turns.{HasWorked, own_vertices}
use Rattle.workers.proofs.solving.run.Goals as goal

an_item : {X : Type 0} (xs : List X) → 0 < length xs → X
an_item [] l = absurd (omega (arith, l))
an_item (x ∷ xs) l = x

pub returns : goal.returns
returns g c = λ number lt.
    let slice = c.as_mut_slice.result.now in
    let long : length slice ≡ c.args.workers = let l = c.as_mut_slice.ensures.len in let made = c.in_ok-states.ensures.count.0 in omega (arith, l, made) in
    let others : max (length c.as_slice-others.result.now) 1 ≡ c.args.workers =
    let l = c.as_slice-others.ensures.len in let made = c.in_ok-states.ensures.count.1 in let some = c.requires.workers in omega (arith, l, made, some) in
    let here : number < length slice = omega (arith, lt, long) in
    let did = (c.for_each_worker.ensures number (an_item slice (omega (arith, here))) here).1.call in
    subst (λ (workers : ℕ). (g.B.Board.is_full c.args.board.now ⊎ WasFilled g.row.K.Denot)
    ⊎ ((first last : g.row.B-Seat.Denot) × HasWorked g.K.GameName.game (λ v. Unit {0}) (own_vertices (length g.K.GameName.game.vertices) workers number)
    (g.B.Board.did c.args.board.now first last) (λ jobs. Unit {0}))) others did
