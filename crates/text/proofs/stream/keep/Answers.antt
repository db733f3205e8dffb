use Rattle.std.proofs.Common.{◌≡◌, ◌-◌, ◌++◌, min, length, take, ap, ◌∙◌, arith}
use Rattle.text.proofs.Streaming.{keeps}
use Rattle.text.proofs.stream.keep.Goals as goal

pub returns : goal.returns
returns c = λ front is.
    let many : c.min.result ≡ min (c.args.most - length c.args.kept.now.items) (length c.args.run.now) = omega
    (arith, c.min.ensures, c.saturating_sub-room.ensures, c.len.ensures) in
    keeps c.args.most c.args.kept.now.items _ c.args.run.now front
    (c.in_ok-extend_from_slice.ensures.items ∙ ap (λ n. c.args.kept.now.items ++ take n c.args.run.now) many) is
