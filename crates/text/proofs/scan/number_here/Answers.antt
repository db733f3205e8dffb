use Rattle.std.proofs.Common.{ap, ◌∙◌, take}
use Rattle.std.specs.List.{list_all}
use Rattle.text.specs.Text.{is_digit}
use Rattle.text.proofs.Scanning.{run_passes}
use Rattle.text.proofs.scan.number_here.Goals as goal

pub begins_well-requires : goal.begins_well-requires
begins_well-requires c =
    ap (list_all is_digit) c.split_at.ensures.front ∙ ap (λ n. list_all is_digit (take n c.args.line.now)) c.all_digits-value.ensures.count
    ∙ run_passes is_digit c.args.line.now
