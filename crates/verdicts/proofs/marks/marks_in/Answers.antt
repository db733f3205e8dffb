use Rattle.std.specs.Arc.{arc_value}
use Rattle.calculus.specs.Closed.{closed_formula}
use Rattle.verdicts.proofs.Beyond.{marks_or_memory}
use Rattle.verdicts.proofs.marks.marks_in.Goals as goal

pub returns : goal.returns
returns g c =
    let options = c.args.options.now in
    marks_or_memory (λ marks. marks.items) options.priorities options.board c.args.system.now.system (closed_formula c.args.formula.now)
    (arc_value c.args.game.now) c.state_marks.result c.in_ok-won.ensures.board c.state_marks.ensures.marks c.state_marks.ensures.refusal
