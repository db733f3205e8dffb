use Rattle.std.proofs.Common.{length, refl}
use Rattle.lts.specs.Canon.{header_line}
use Rattle.lts.proofs.Canonical.{part_spells, text_is}
use Rattle.text.proofs.Writing.{Wrote-err, Wrote-as, Wrote-after, WroteFront-more}
use Rattle.lts.proofs.writer.write_part.Goals as goal

pub returns-in_err-put_header-clause-wrote : goal.returns-in_err-put_header-clause-wrote
returns-in_err-put_header-clause-wrote g c =
    let text = text_is c.args.lts.now _ _ _ c.args.part.now c.initial.ensures.value refl c.states.ensures.count in
    Wrote-as _ _ _ _ _ text (Wrote-err _ _ _ _ c.from_residual.ensures.0
    (WroteFront-more _ _ (header_line c.initial.result (length c.args.part.now) c.states.result) _ c.in_err-put_header.ensures))

pub returns-in_err-put_header-clause-spelled : goal.returns-in_err-put_header-clause-spelled
returns-in_err-put_header-clause-spelled g c = part_spells c.args.lts.now c.args.part.now

pub returns-clause-wrote : goal.returns-clause-wrote
returns-clause-wrote g c =
    let text = text_is c.args.lts.now _ _ _ c.args.part.now c.initial.ensures.value refl c.states.ensures.count in
    Wrote-as _ _ _ _ _ text (Wrote-after _ _ _ (header_line c.initial.result
    (length c.args.part.now) c.states.result) _ _ c.in_ok-put_header.ensures c.put_arrows.ensures)

pub returns-clause-spelled : goal.returns-clause-spelled
returns-clause-spelled g c = part_spells c.args.lts.now c.args.part.now
