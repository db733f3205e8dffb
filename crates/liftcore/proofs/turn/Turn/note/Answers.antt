use Rattle.std.proofs.Common.{◌+◌, sym, subst}
use Rattle.liftcore.specs.Reading.{AreRead, IsReading, SuccessorReading}
use Rattle.liftcore.proofs.Turns.{note_keeps, noted, read_more}
use Rattle.liftcore.proofs.turn.Turn.note.Goals as goal

pub invariant_of-self : goal.invariant_of-self
invariant_of-self c =
    let is : IsReading c.args.self.now = subst IsReading c.self.view_is c.self.invariant in
    subst (λ (r : SuccessorReading). IsReading (noted r c.args.place c.args.value)) (sym c.self.view_is)
    (note_keeps c.args.self.now c.args.place c.args.value is c.requires.place c.requires.below)

pub returns-clause-next : goal.returns-clause-next
returns-clause-next c = λ all.
    let is : IsReading c.args.self.now = subst IsReading c.self.view_is c.self.invariant in
    subst (λ (r : SuccessorReading). AreRead (noted r c.args.place c.args.value) (c.args.place + 1)) (sym c.self.view_is)
    (read_more c.args.self.now c.args.place c.args.value is c.requires.place all)
