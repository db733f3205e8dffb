use Rattle.std.proofs.Common.{ℕ, ◌≡◌, ◌≤◌, ap, arith, subst, sym, ◌∙◌}
use Rattle.game.specs.Game.{Game}
use Rattle.measures.specs.Lifting.{height, of_rank, rank}
use Rattle.measures.specs.Measure.{IsAtMost, IsMeasure, Measure}
use Rattle.measures.specs.Progress.{value_at}
use Rattle.measures.specs.Tables.{LiesBelow}
use Rattle.measures.proofs.Numbers.{of_rank_rank}
use Rattle.measures.proofs.Ranks.{rank_bounded}
use Rattle.tables.specs.Seats.{Did, board_game, seen}
use Rattle.tables.specs.Turns.{By, IsRaise}
use Rattle.tables.proofs.packed.PackedBoard.lift_to.Goals as goal

-- the measure of the rank of a measure of the game
back : (h g : Game) (m : Measure) (n : ℕ) → h ≡ g → IsMeasure g m → n ≡ rank h m → (of_rank g n ≡ m) × (n ≤ height g)
back h g m n same is e =
    let here : n ≡ rank g m = e ∙ ap (λ (k : Game). rank k m) same in
    let bound = rank_bounded g m is in
    (ap (of_rank g) here ∙ of_rank_rank g m is, omega (arith, here, bound))

pub raise_to-requires-clause-low : goal.raise_to-requires-clause-low
raise_to-requires-clause-low c =
    (back c.deref.result.now (board_game c.args.self.now) c.args.m.now c.rank.result c.deref.ensures c.requires.below.measure c.rank.ensures.value).1

pub raise_to-requires-clause-below : goal.raise_to-requires-clause-below
raise_to-requires-clause-below c =
    let g = board_game c.args.self.now in
    subst (LiesBelow g c.args.v)
    (sym (back c.deref.result.now g c.args.m.now c.rank.result c.deref.ensures c.requires.below.measure c.rank.ensures.value).0) c.requires.below

pub returns-clause-raised : goal.returns-clause-raised
returns-clause-raised c =
    let g = board_game c.args.self.now in
    let same = (back c.deref.result.now g c.args.m.now c.rank.result c.deref.ensures c.requires.below.measure c.rank.ensures.value).0 in
    subst (λ (n : Measure). IsAtMost n (value_at (seen c.raise_to.new.seat) c.args.v)) same c.raise_to.ensures.raised

pub returns-clause-rose : goal.returns-clause-rose
returns-clause-rose c =
    let g = board_game c.args.self.now in
    let same = (back c.deref.result.now g c.args.m.now c.rank.result c.deref.ensures c.requires.below.measure c.rank.ensures.value).0 in
    subst (λ (n : Measure). By (Did c.args.seat.now c.raise_to.new.seat) (IsRaise c.args.v n c.raise_to.result)) same c.raise_to.ensures.rose
