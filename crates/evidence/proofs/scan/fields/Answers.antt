use Rattle.std.proofs.Common.{[]}
use Rattle.evidence.proofs.Scanned.{whole_none, whole_some}
use Rattle.evidence.proofs.Scanning.{all_fields, no_next, no_space, no_vertex, one_space}
use Rattle.evidence.proofs.scan.fields.Goals as goal

pub returns-in_err-vertex : goal.returns-in_err-vertex
returns-in_err-vertex c = rw c.from_residual.ensures (no_space c.args.line.now [] [] c.in_err-vertex.ensures)

pub returns-in_err-next : goal.returns-in_err-next
returns-in_err-next c = rw c.from_residual-in_err-next.ensures (one_space c.args.line.now _ _ c.in_ok-vertex.ensures c.in_err-next.ensures)

pub returns-in_err-vertex-2 : goal.returns-in_err-vertex-2
returns-in_err-vertex-2 c = rw c.from_residual-in_err-vertex-2.ensures
    (no_vertex c.args.line.now _ _ _ _ c.in_ok-vertex.ensures c.in_ok-next.ensures (whole_none _ c.in_err-vertex-2.ensures))

pub returns-in_err-next-2 : goal.returns-in_err-next-2
returns-in_err-next-2 c =
    let (n, number, is) = whole_some c.in_ok-vertex.vertex.now c.in_ok-vertex-2.vertex c.in_ok-vertex-2.ensures in
    rw c.from_residual-in_err-next-2.ensures (no_next c.args.line.now _ _ _ _ n c.in_ok-vertex.ensures c.in_ok-next.ensures number c.in_err-next-2.ensures)

pub returns : goal.returns
returns c =
    let (n, number, is) = whole_some c.in_ok-vertex.vertex.now c.in_ok-vertex-2.vertex c.in_ok-vertex-2.ensures in
    let (move, found, next) = c.in_ok-next-2.ensures in
    record {
      vertex = n;
      move = move;
      found = all_fields c.args.line.now _ _ _ _ n move c.in_ok-vertex.ensures c.in_ok-next.ensures number found;
      number = is;
      next = next;
    }
