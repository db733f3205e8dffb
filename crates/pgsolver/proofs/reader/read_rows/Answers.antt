use Rattle.std.proofs.Common.{◌≡◌, ◌+◌, length, arith, ap}
use Rattle.std.proofs.lemmas.Result.{IfOk-weaker, IfErr-weaker}
use Rattle.pgsolver.proofs.Reading.{nothing_yet, all_rows, read_game_is, all_filled}
use Rattle.pgsolver.proofs.reader.read_rows.Goals as goal

pub loop-good-init : goal.loop-good-init
loop-good-init g c = record {
  so_far = nothing_yet c.args.last _ c.args.rows.now.vertices c.args.rows.now.places.items c.requires.none
      (omega (arith, c.args.rows.now.places.ok.0, c.requires.places)) c.requires.empty;
  count = ap length c.requires.none;
  places = c.requires.places;
}

pub returns-clause-all : goal.returns-clause-all
returns-clause-all g c = IfOk-weaker c.read_end.result _ _ (λ _ none. all_rows c.args.last c.loop-good.good
    (omega arith) _ _ _ _ _ c.loop-good.invariant.so_far none) c.read_end.ensures.end

pub returns-clause-game : goal.returns-clause-game
returns-clause-game g c = IfOk-weaker c.read_end.result _ _ (λ _ _. read_game_is c.args.last c.loop-good.good
    (omega arith) c.requires.limit _ _ _ _ c.loop-good.invariant.so_far) c.read_end.ensures.end

pub returns-clause-filled : goal.returns-clause-filled
returns-clause-filled g c = IfOk-weaker c.read_end.result _ _
    (λ _ _. all_filled c.args.last c.loop-good.good (omega arith) _ _ _ _ c.loop-good.invariant.so_far) c.read_end.ensures.end

pub returns-clause-fault : goal.returns-clause-fault
returns-clause-fault g c =
    let all : c.loop-good.good ≡ c.args.last + 1 = omega arith in
    IfErr-weaker c.read_end.result _ _ (λ e told. told (g.B.Read.remaining c.args.reader.now) _ _
    (rw all at c.loop-good.invariant.so_far)) c.read_end.ensures.fault
