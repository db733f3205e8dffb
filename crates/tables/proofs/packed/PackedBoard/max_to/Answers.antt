use Rattle.std.proofs.Common.{ℕ, ◌<◌, ◌≤◌, ◌↔◌, List, [], ◌∷◌, ◌++◌, IsTrue, ap, arith, length, max, nat_lt, subst, sym, ◌∙◌}
use Rattle.std.proofs.lemmas.Bool.{lt-ltb, ltb-true}
use Rattle.std.specs.Arc.{arc_value}
use Rattle.game.specs.Game.{Game}
use Rattle.measures.specs.Lifting.{of_rank, height}
use Rattle.measures.specs.Measure.{IsBelow}
use Rattle.measures.specs.Tables.{LiesBelow}
use Rattle.measures.proofs.Numbers.{of_rank_measure, rank_of_rank, rank_order}
use Rattle.tables.specs.Packed.{IsWord}
use Rattle.tables.proofs.Packing.{raised_seen, raises, seen_more, word_max}
use Rattle.tables.specs.declared.access.Access.{Access}
use Rattle.tables.specs.declared.access.Access.TheVariants.{Raise}
use Rattle.tables.specs.declared.packed.View.{View}
use Rattle.tables.proofs.packed.PackedBoard.max_to.Goals as goal

-- what a seat that knew this did, a raise of a word to a number among it
abbrev raised : View → ℕ → ℕ → ℕ → List Access
raised w v found number = w.done ++ Raise v (of_rank w.of found) (of_rank w.of number) ∷ []

-- one rank is less than another just where its measure is below the other's
rises : (g : Game) (found number : ℕ) → found ≤ height g → number ≤ height g → IsTrue (nat_lt found number) ↔ IsBelow (of_rank g found) (of_rank g number)
rises g found number low high =
    let order = rank_order g (of_rank g found) (of_rank g number) found (of_rank_measure g found) (sym (rank_of_rank g found low)) (of_rank_measure g number) in
    let same = rank_of_rank g number high in (
      (λ t. order.1 (let l = ltb-true found number t in omega (arith, l, same))),
      (λ b. let l = order.0 b in lt-ltb found number (omega (arith, l, same))),
    )

pub fetch_max-found-requires : goal.fetch_max-found-requires
fetch_max-found-requires c =
    let board = c.args.self.now in
    let shared = board.table.shared in
    let me = c.args.seat.now.seat in (
      c.requires.seat.table,
      subst (λ n. c.args.v < n) (sym board.sized) c.requires.vertex,
      raises shared.key shared.table_id.slots me.id c.args.v c.args.number me.me (c.requires.seat.game ∙ sym board.keyed)
          (subst (λ (g : Game). c.args.v < length g.vertices) (sym board.keyed) c.requires.vertex)
          (subst (λ (g : Game). c.args.number ≤ height g) (sym board.keyed) c.requires.low)
          (subst (λ (g : Game). LiesBelow g c.args.v (of_rank g c.args.number)) (sym board.keyed) c.requires.below),
    )

pub returns-clause-seat : goal.returns-clause-seat
returns-clause-seat c =
    let g = arc_value c.args.self.now.game in
    let was = c.args.seat.now.seat.me.0 in
    let told = c.fetch_max-found.ensures.2 in
    let found = c.fetch_max-found.result in
    let word : IsWord g c.args.v found = subst (λ (h : Game). IsWord h c.args.v found) c.requires.seat.game told.word in
    let now : IsWord g c.args.v (max found c.args.number) = word_max g c.args.v found c.args.number word c.requires.low c.requires.below in
    let more = seen_more g was c.fetch_max-found.new.seat.me.0 c.args.v (of_rank was.of (max found c.args.number))
    (raised was c.args.v found c.args.number) c.requires.seat.game c.requires.seat.plain c.requires.vertex
    (subst (λ (h : Game). LiesBelow g c.args.v (of_rank h (max found c.args.number))) (sym c.requires.seat.game) now.below) told.view in record {
      table = c.fetch_max-found.ensures.0 ∙ c.requires.seat.table;
      game = more.0;
      plain = more.1;
    }

pub returns-clause-kept : goal.returns-clause-kept
returns-clause-kept c =
    let was = c.args.seat.now.seat.me.0 in
    let told = c.fetch_max-found.ensures.2 in
    (raised_seen (arc_value c.args.self.now.game) was c.fetch_max-found.new.seat.me.0 c.args.v c.fetch_max-found.result c.args.number
    (raised was c.args.v c.fetch_max-found.result c.args.number) c.requires.seat.game c.requires.seat.plain c.requires.vertex told.view told.later).0

pub returns-clause-raised : goal.returns-clause-raised
returns-clause-raised c =
    let was = c.args.seat.now.seat.me.0 in
    let told = c.fetch_max-found.ensures.2 in
    (raised_seen (arc_value c.args.self.now.game) was c.fetch_max-found.new.seat.me.0 c.args.v c.fetch_max-found.result c.args.number
    (raised was c.args.v c.fetch_max-found.result c.args.number) c.requires.seat.game c.requires.seat.plain c.requires.vertex told.view told.later).1

pub returns-clause-rose : goal.returns-clause-rose
returns-clause-rose c =
    let g = arc_value c.args.self.now.game in
    let was = c.args.seat.now.seat.me.0 in
    let told = c.fetch_max-found.ensures.2 in
    let found = c.fetch_max-found.result in
    let word : IsWord g c.args.v found = subst (λ (h : Game). IsWord h c.args.v found) c.requires.seat.game told.word in (
      found,
      rises g found c.args.number word.rank c.requires.low,
      ap (λ (w : View). w.done) told.view
          ∙ ap (λ (h : Game). was.done ++ Raise c.args.v (of_rank h found) (of_rank h c.args.number) ∷ []) c.requires.seat.game,
    )
