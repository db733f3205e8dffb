use Rattle.std.proofs.Common.{◌≡◌, ℕ, ◌-◌, List, ◌++◌, length, take, drop, ap, sym, ◌∙◌, take-append-drop}
use Rattle.std.proofs.lemmas.List.{take_rest}
use Rattle.text.proofs.Writing.{WritesOn-fails, WritesOn-more}
use Rattle.text.proofs.write_loop.put.Goals as goal
use Rattle.text.proofs.write_loop.put.Goals.{in-Ok, in-Err+else-ne}

taken_first : (rest : List ℕ) (n : ℕ) → rest ≡ take n rest ++ take (length rest - n) (drop n rest)
taken_first rest n = sym (take-append-drop n rest) ∙ ap (λ l. take n rest ++ l) (sym (take_rest rest n))

pub writes-preserved : goal.writes-preserved
writes-preserved g c =
    let rest = c.writes.rest.now in
    elim c.match-write_some.branch [
      | in-Ok w ↦ rw w.rest-is (WritesOn-more _ _ _ _ rest _ w.in-Ok.taken _ w.in-Ok.taken-test.1 w.in-Ok.ensures.bound
          (taken_first rest w.in-Ok.taken) c.writes.invariant w.in-Ok.ensures.received)
      | in-Err+else-ne w ↦ rw w.rest-is (WritesOn-fails _ _ _ _ _ _ _ c.writes.invariant w.in-Err.ensures.received)
    ]
