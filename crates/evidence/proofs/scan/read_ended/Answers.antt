use Rattle.std.proofs.Common.{◌≡◌, ◌∙◌, ◌+◌, ◌-◌, ◌<◌, ap, arith, length, refl, sym}
use Rattle.std.proofs.lemmas.List.{length-set}
use Rattle.evidence.specs.Scan.{counts_in, end_of}
use Rattle.evidence.proofs.Scanning.{bracket_end, comma_end, read_more, read_stops}
use Rattle.evidence.proofs.scan.read_ended.Goals as goal
use Rattle.evidence.proofs.scan.read_ended.Goals.{then-k-counts, else-k-counts}

pub returns-in_default : goal.returns-in_default
returns-in_default c =
    let counts = c.loop-k.counts in
    let inside : c.loop-k.k < length counts = omega (arith, c.loop-k.auto.counts) in
    let end : c.if-k-counts.end ≡ end_of (length counts - (c.loop-k.k + 1)) = elim c.if-k-counts.branch [
      | then-k-counts w ↦ w.end-is ∙ comma_end c.loop-k.k (length counts) (omega arith)
      | else-k-counts w ↦ w.end-is ∙ bracket_end c.loop-k.k (length counts) inside (omega arith)
    ] in
    ap (λ n. counts_in n c.args.bytes.now) (sym c.loop-k.auto.counts)
    ∙ read_stops c.args.bytes.now counts c.loop-k.k _ c.loop-k.invariant inside c.if-k-counts.end end c.in_default.ensures

pub loop-k-preserved : goal.loop-k-preserved
loop-k-preserved c =
    let counts = c.loop-k.counts in
    let inside : c.loop-k.k < length counts = omega (arith, c.loop-k.auto.counts) in
    let end : c.if-k-counts.end ≡ end_of (length counts - (c.loop-k.k + 1)) = elim c.if-k-counts.branch [
      | then-k-counts w ↦ w.end-is ∙ comma_end c.loop-k.k (length counts) (omega arith)
      | else-k-counts w ↦ w.end-is ∙ bracket_end c.loop-k.k (length counts) inside (omega arith)
    ] in
    read_more c.args.bytes.now counts c.loop-k.k _ c.loop-k.invariant inside c.if-k-counts.end end c.in-Some.count c.in-Some.more.now _ c.in-Some.ensures
    refl (length-set counts c.loop-k.k c.in-Some.count)
