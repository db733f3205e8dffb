use Rattle.std.proofs.Common.{◌≡◌, ◌-◌, ◌++◌, ap, length, arith}
use Rattle.text.proofs.Writing.{Wrote-err, Wrote-as, Wrote-after, WroteFront-more}
use Rattle.pgsolver.specs.Canon.{game_header_line, vertex_lines}
use Rattle.pgsolver.proofs.writer.write_game.Goals as goal

pub returns-in_err-put_header : goal.returns-in_err-put_header
returns-in_err-put_header g c =
    let greatest : c.saturating_sub.result ≡ length c.args.game.now.vertices - 1 = omega arith in
    record {
      wrote = Wrote-as _ _ _ _ _ (ap (λ n. game_header_line n ++ vertex_lines c.args.game.now.named 0 c.args.game.now.vertices) greatest)
          (Wrote-err _ _ _ _ c.from_residual.ensures.0 (WroteFront-more _ _ _ _ c.in_err-put_header.ensures));
    }

pub returns : goal.returns
returns g c =
    let greatest : c.saturating_sub.result ≡ length c.args.game.now.vertices - 1 = omega arith in
    record {
      wrote = Wrote-as _ _ _ _ _ (ap (λ n. game_header_line n ++ vertex_lines c.args.game.now.named 0 c.args.game.now.vertices) greatest)
          (Wrote-after _ _ _ _ _ _ c.in_ok-put_header.ensures c.put_vertices.ensures);
    }
