use Rattle.std.proofs.Common.{subst}
use Rattle.text.specs.Wrote.{Wrote}
use Rattle.requests.specs.Report.{number_lines}
use Rattle.requests.proofs.Lines.{all_numbers}
use Rattle.requests.proofs.report.write_numbers.Goals as goal

pub returns-in-None : goal.returns-in-None
returns-in-None g c =
    let old = g.W.Sink.taken c.args.out.now in
    let new = g.W.Sink.taken c.write_first_numbers-in-None.new.out in
    rw c.in-None.is (subst (λ ns. Wrote old new c.write_first_numbers-in-None.result (number_lines ns)) (all_numbers c.args.wanted c.args.marks.now)
    c.write_first_numbers-in-None.ensures)
