use Rattle.std.proofs.Common.{◌++◌, append_assoc, ap, ◌∙◌, ap₂}
use Rattle.text.proofs.Writing.{Wrote-after, Wrote-as, Wrote-err, WroteFront-more}
use Rattle.text.specs.Pieces.{line_end}
use Rattle.evidence.specs.Canon.{entry_lines, header}
use Rattle.evidence.proofs.writer.write_evidence.Goals as goal

pub returns-in_err-put_header : goal.returns-in_err-put_header
returns-in_err-put_header g c =
    let first = header c.player.result ++ line_end in
    let lines = entry_lines 0 c.args.evidence.now.evidence.entries in
    let whole = append_assoc (header c.player.result) line_end lines ∙ ap (λ p. header p ++ (line_end ++ lines)) c.player.ensures in
    record { wrote = Wrote-as _ _ _ _ _ whole (Wrote-err _ _ _ _ c.from_residual.ensures.0 (WroteFront-more _ _ first _ c.in_err-put_header.ensures)) }

pub returns : goal.returns
returns g c =
    let first = header c.player.result ++ line_end in
    let lines = entry_lines 0 c.entries.result.now.entries in
    let whole = append_assoc (header c.player.result) line_end lines
    ∙ ap₂ (λ p es. header p ++ (line_end ++ entry_lines 0 es)) c.player.ensures c.entries.ensures in
    record { wrote = Wrote-as _ _ _ _ _ whole (Wrote-after _ _ _ first _ _ c.in_ok-put_header.ensures c.put_entries.ensures) }
