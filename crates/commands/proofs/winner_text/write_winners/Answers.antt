use Rattle.std.specs.Prelude.{count_by, length}
use Rattle.text.proofs.Writing.{Wrote-as, Wrote-err, Wrote-after, WroteFront-more}
use Rattle.commands.specs.Winners.{sizes_text}
use Rattle.commands.proofs.Lines.{all_lines}
use Rattle.commands.proofs.winner_text.write_winners.Goals as goal

pub returns-in_err-put_pieces : goal.returns-in_err-put_pieces
returns-in_err-put_pieces g c =
    let marks = c.args.marks.now in
    Wrote-err _ _ _ _ c.from_residual.ensures.0 (WroteFront-more _ _ (sizes_text (length marks) (count_by (λ mark. mark) marks)) _
    (rw c.count_marked.ensures at c.in_err-put_pieces.ensures))

pub returns : goal.returns
returns g c =
    let marks = c.args.marks.now in
    Wrote-after _ _ _ (sizes_text (length marks) (count_by (λ mark. mark) marks)) _ _ (rw c.count_marked.ensures at c.in_ok-put_pieces.ensures)
    (Wrote-as _ _ _ _ _ (all_lines marks) c.put_lines.ensures.wrote)
