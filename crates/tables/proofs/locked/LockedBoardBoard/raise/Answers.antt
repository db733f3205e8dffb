use Rattle.std.proofs.Common.{Bool, [], ◌∷◌, refl, subst, sym, ◌∙◌}
use Rattle.measures.proofs.Measures.{at_most_itself}
use Rattle.tables.specs.Part.{value_of_part}
use Rattle.tables.specs.Turns.{IsRaise}
use Rattle.tables.specs.declared.access.Access.TheVariants.{Raise, Read}
use Rattle.tables.proofs.locked.LockedBoardBoard.raise.Goals as goal
use Rattle.tables.proofs.locked.LockedBoardBoard.raise.Goals.{then-has_at, else-has_at}

-- The measure was raised under the lock, or else a shard that hasn't the vertex needs no raise of it.
pub returns-clause-raised : goal.returns-clause-raised
returns-clause-raised g c = elim c.if-has_at.branch [
  | then-has_at w ↦ (
      let was = value_of_part w.deref_mut.result.now c.args.v in
      let accesses = Raise c.args.v was c.args.m.now ∷ [] in
      (accesses, tt, subst (λ (rose : Bool). IsRaise c.args.v c.args.m.now rose accesses) (sym w.result-is) (refl, refl, w.raise_at.ensures.rose)))
  | else-has_at w ↦ (
      let m = c.args.m.now in
      (Read c.args.v m ∷ [], tt, (refl, at_most_itself m, w.result-is ∙ w.if-has_at.false)))
]
