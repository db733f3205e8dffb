use Rattle.std.proofs.Common.{◌<◌, [], ◌∷◌, arith, length, refl}
use Rattle.measures.specs.Lifting.{of_rank}
use Rattle.measures.proofs.Rising.{under_trans}
use Rattle.tables.specs.Seats.{board_game, seen}
use Rattle.measures.proofs.Numbers.{of_rank_up}
use Rattle.tables.proofs.Doing.{did_both}
use Rattle.tables.proofs.Packing.{looked_high}
use Rattle.tables.specs.declared.access.Access.TheVariants.{Raise, Read}
use Rattle.tables.proofs.packed.PackedBoard.raise_to.Goals as goal

pub returns-then-number-found-clause-kept : goal.returns-then-number-found-clause-kept
returns-then-number-found-clause-kept c =
    let was = seen c.args.seat.now in
    let there : c.args.v < length was = omega (arith, c.requires.vertex, c.requires.seat.plain.long) in
    (looked_high (board_game c.args.self.now) was
    (seen c.look_at-found.new.seat) c.args.v c.look_at-found.result c.args.number c.look_at-found.ensures.seen there c.look_at-found.ensures.later
    c.if-number-found.true).0

pub returns-then-number-found-clause-raised : goal.returns-then-number-found-clause-raised
returns-then-number-found-clause-raised c =
    let was = seen c.args.seat.now in
    let there : c.args.v < length was = omega (arith, c.requires.vertex, c.requires.seat.plain.long) in
    (looked_high (board_game c.args.self.now) was
    (seen c.look_at-found.new.seat) c.args.v c.look_at-found.result c.args.number c.look_at-found.ensures.seen there c.look_at-found.ensures.later
    c.if-number-found.true).1

pub returns-clause-kept : goal.returns-clause-kept
returns-clause-kept c =
    let was = seen c.args.seat.now in
    let there : c.args.v < length was = omega (arith, c.requires.vertex, c.requires.seat.plain.long) in
    let g = board_game c.args.self.now in
    let found = c.look_at-found.result in
    under_trans was (seen c.look_at-found.new.seat) (seen c.max_to.new.seat)
    (looked_high g was (seen c.look_at-found.new.seat) c.args.v found found c.look_at-found.ensures.seen there c.look_at-found.ensures.later
    (omega arith)).0 c.max_to.ensures.kept

pub returns-then-number-found-clause-rose : goal.returns-then-number-found-clause-rose
returns-then-number-found-clause-rose c =
    let found = of_rank (board_game c.args.self.now) c.look_at-found.result in
    (Read c.args.v found ∷ [], c.look_at-found.ensures.read, (refl, of_rank_up (board_game c.args.self.now) c.args.number c.look_at-found.result c.if-number-found.true, refl))

pub returns-clause-rose : goal.returns-clause-rose
returns-clause-rose c =
    let g = board_game c.args.self.now in
    let found = of_rank g c.look_at-found.result in
    let rose = c.max_to.ensures.rose in
    let raise = Raise c.args.v (of_rank g rose.0) (of_rank g c.args.number) ∷ [] in (
      Read c.args.v found ∷ raise,
      did_both c.args.seat.now c.look_at-found.new.seat c.max_to.new.seat (Read c.args.v found ∷ []) raise c.look_at-found.ensures.read rose.2,
      (refl, refl, refl, rose.1),
    )
