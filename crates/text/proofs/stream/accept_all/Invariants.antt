-- the bytes so far
use Rattle.std.proofs.Common.{◌≡◌, ◌++◌, take}
use Rattle.text.specs.Lines.{IfKnown}
use Rattle.text.proofs.stream.accept_all.Given as goal

abbrev pub invariant-loop-byte : goal.invariant-loop-byte
invariant-loop-byte g l = IfKnown (g.B.Read.remaining l.fn.reader) (g.B.Read.remaining l.reader) (λ text left. text ≡ take l.byte-index l.word ++ left)
