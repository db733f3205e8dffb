use Rattle.std.proofs.Common.{arith, subst, nat_lt, length}
use Rattle.std.specs.Io.BufRead.{FillKeeps}
use Rattle.std.proofs.lemmas.Bool.{ltb-false}
use Rattle.text.proofs.PassedOn.{passed_on}
use Rattle.liftcore.specs.Taken.{TellsRead}
use Rattle.liftcore.specs.declared.error.ReadError.TheVariants.{Schedule}
use Rattle.liftcore.proofs.Taking.{block_taken, block_tells}
use Rattle.liftcore.proofs.schedule.take_block.Goals as goal

pub returns-in_err-take_all-clause-fault : goal.returns-in_err-take_all-clause-fault
returns-in_err-take_all-clause-fault g c =
    let error = c.in_err-take_all.field-0.0 in
    passed_on c.from_residual.result (Schedule error) (TellsRead (g.B.Read.remaining c.args.reader.now) c.args.intake.now) c.from_residual.ensures.1
    (block_tells c.in-Ok.block.now (g.B.Read.remaining c.args.reader.now) c.args.intake.now error c.in-Ok.ensures.front c.in_err-take_all.ensures.fault)

pub returns-clause-taken : goal.returns-clause-taken
returns-clause-taken g c =
    let block = c.in-Ok.block.now in
    let filled = subst (FillKeeps _ (g.B.Read.remaining c.fill_buf.follows.lender-at-none)
    (g.B.BufRead.consumable_len c.fill_buf.follows.lender-at-none)) c.in-Ok.is c.fill_buf.follows.holds-at-none in
    block_taken block (length block) (nat_lt 0 (length block)) _ _ _ (g.B.BufRead.consumable_len c.fill_buf.follows.lender-at-none) c.args.intake.now
    c.take_all.new.self c.in-Ok.ensures.front c.in-Ok.ensures.end filled.0 filled.1 c.consume.ensures.bytes (omega arith)
    (λ e. omega (arith, ltb-false 0 (length block) e)) c.in_ok-take_all.ensures.taken
