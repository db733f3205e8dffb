use Rattle.std.proofs.Common.{subst, arith}
use Rattle.std.proofs.lemmas.Result.{IfOk-weaker, IfErr-weaker}
use Rattle.evidence.specs.Reading.{IsAdded, IsWrongLine}
use Rattle.evidence.proofs.Lifted.{kept_whole, lift_added, lift_wrong, too_long}
use Rattle.evidence.proofs.reader.add_short.Goals as goal

pub returns-then-line-ge-LONGEST_LINE-clause-fault : goal.returns-then-line-ge-LONGEST_LINE-clause-fault
returns-then-line-ge-LONGEST_LINE-clause-fault c = λ whole is.
    too_long c.args.evidence.now c.args.line.now whole c.requires.narrow is (omega arith)

pub returns-clause-whole : goal.returns-clause-whole
returns-clause-whole c = IfOk-weaker c.add_line.result _ _ (λ _ added whole is.
    lift_added whole c.args.evidence.now c.add_line.new.evidence c.requires.few (subst (λ l. IsAdded l c.args.evidence.now c.add_line.new.evidence)
    (kept_whole c.args.line.now whole is (omega arith)) added)) c.add_line.ensures.added

pub returns-clause-fault : goal.returns-clause-fault
returns-clause-fault c = IfErr-weaker c.add_line.result _ _ (λ fault wrong whole is.
    lift_wrong c.args.evidence.now whole fault c.requires.few (subst (λ l. IsWrongLine c.args.evidence.now l fault)
    (kept_whole c.args.line.now whole is (omega arith)) wrong)) c.add_line.ensures.fault
