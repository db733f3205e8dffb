use Rattle.std.proofs.Common.{sym}
use Rattle.std.proofs.lemmas.List.{map-append}
use Rattle.systems.specs.Label.{texts}
use Rattle.systems.proofs.Names.{glued_none, part_ends, part_grows, parts_end}
use Rattle.systems.proofs.label.parts_of.Goals as goal
use Rattle.systems.proofs.label.parts_of.Goals.{then-byte-eq124+in_ok-push, else-byte-eq124+in_ok-push-2}

pub loop-byte-init : goal.loop-byte-init
loop-byte-init c = rw (c.new-parts.ensures.items, c.new-part.ensures.items) (sym (glued_none c.args.bytes.now))

pub loop-byte-preserved : goal.loop-byte-preserved
loop-byte-preserved c =
    let done = texts c.loop-byte.parts.items in
    elim c.if-byte-eq124.branch [
      | then-byte-eq124+in_ok-push w ↦
          rw (w.parts-is, w.part-is, w.in_ok-push.ensures.items, w.new-part-then-byte-eq124.ensures.items, map-append)
          (part_ends c.args.bytes.now c.loop-byte.byte-index done c.loop-byte.part.items c.loop-byte-test.true w.if-byte-eq124.true c.loop-byte.invariant)
      | else-byte-eq124+in_ok-push-2 w ↦
          rw (w.parts-is, w.part-is, w.in_ok-push-2.ensures.items)
          (part_grows c.args.bytes.now c.loop-byte.byte-index done c.loop-byte.part.items c.loop-byte-test.true w.if-byte-eq124.false c.loop-byte.invariant)
    ]

pub returns : goal.returns
returns c = parts_end c.args.bytes.now c.loop-byte.byte-index c.loop-byte.parts.items _ c.loop-byte.part c.loop-byte-test.false c.loop-byte.invariant
    c.in_ok-push-3.ensures.items
