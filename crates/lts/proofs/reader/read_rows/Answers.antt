use Rattle.std.proofs.Common.{◌≡◌, arith}
use Rattle.std.proofs.lemmas.Result.{IfOk-weaker, IfErr-weaker}
use Rattle.lts.proofs.Reading.{all_rows, row_count}
use Rattle.lts.proofs.reader.read_rows.Goals as goal

pub returns-clause-rows : goal.returns-clause-rows
returns-clause-rows g c =
    let so = c.loop-good.invariant.so_far in
    IfOk-weaker c.read_end.result _ _ (λ _ none. (so.arrows, so.gathered, so.within, all_rows _ _ (omega arith) _ _ _ _ _ so none)) c.read_end.ensures.end

pub returns-clause-within : goal.returns-clause-within
returns-clause-within g c =
    IfOk-weaker c.read_end.result _ _ (λ _ _. omega (
      arith,
      row_count _ _ _ _ _ _ c.loop-good.invariant.so_far,
      c.requires.admitted.transitions,
    )) c.read_end.ensures.end

pub returns-clause-fault : goal.returns-clause-fault
returns-clause-fault g c =
    let all : c.loop-good.good ≡ c.args.found.transitions = omega arith in
    IfErr-weaker c.read_end.result _ _ (λ e told. told (g.B.Read.remaining c.args.reader.now) _ _
    (rw all at c.loop-good.invariant.so_far)) c.read_end.ensures.fault

pub returns-clause-labels : goal.returns-clause-labels
returns-clause-labels g c = IfOk-weaker c.read_end.result _ _
    (λ _ _. omega (arith, c.loop-good.invariant.labels, c.requires.admitted.transitions)) c.read_end.ensures.end

pub loop-good-preserved : goal.loop-good-preserved
loop-good-preserved g c = record { so_far = c.in_ok-read_row.ensures.row _ c.loop-good.invariant.so_far; labels = c.in_ok-read_row.ensures.labels }
