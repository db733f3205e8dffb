use Rattle.std.proofs.Common.{◌∙◌, sym, true≢false}
use Rattle.command_line.specs.Refusals.{destructive, repeated}
use Rattle.command_line.proofs.Asked.{asked_by}
use Rattle.command_line.proofs.Refusals.{handed_on}
use Rattle.command_line.proofs.line.command.Goals as goal

pub returns-then-reads_once-clause-asked : goal.returns-then-reads_once-clause-asked
returns-then-reads_once-clause-asked c = asked_by _ _ _ c.in_ok-matches.ensures.found c.in_ok-command.ensures

pub returns-in_err-keep_files-clause-refused : goal.returns-in_err-keep_files-clause-refused
returns-in_err-keep_files-clause-refused c =
    handed_on _ _ (destructive c.in_ok-command.command (asked_by _ _ _ c.in_ok-matches.ensures.found c.in_ok-command.ensures))
    _ _ c.from_residual-in_err-keep_files.ensures.1 c.in_err-keep_files.ensures.refused

pub returns-clause-refused : goal.returns-clause-refused
returns-clause-refused c =
    repeated c.in_ok-command.command (asked_by _ _ _ c.in_ok-matches.ensures.found c.in_ok-command.ensures)
    (λ once. true≢false (sym (c.reads_once.ensures.1 once) ∙ c.if-reads_once.false))
