use Rattle.requests.specs.Check.{BySets}
use Rattle.engines.proofs.engine.report_plain.Goals as goal

pub returns-clause-answers : goal.returns-clause-answers
returns-clause-answers g c = λ first second spelled. c.report.ensures.answers BySets first second c.plain_marks-marks.ensures spelled

pub returns-clause-plain : goal.returns-clause-plain
returns-clause-plain g c = c.report.ensures.errors BySets c.plain_marks-marks.ensures
