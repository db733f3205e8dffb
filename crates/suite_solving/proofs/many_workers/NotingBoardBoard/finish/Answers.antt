use Rattle.std.proofs.Common.{inl, inr}
use Rattle.suite_solving.proofs.many_workers.NotingBoardBoard.finish.Goals as goal

-- The inner board's seats, with any number.
pub returns-clause-poured : goal.returns-clause-poured
returns-clause-poured g c = elim c.finish.ensures.poured [
  | inl full ↦ inl full
  | inr w ↦ inr (record { inner = w.0; number = 0 }, record { inner = w.1; number = 0 }, w.2)
]
