use Rattle.std.proofs.Common.{◌≡◌, ◌+◌, ◌-◌, inl, inr, arith, sym, subst, ℕ, slice_index}
use Rattle.std.proofs.lemmas.Bool.Decides.{eqb_tells}
use Rattle.game.proofs.graph.greatest_counted.Goals as goal

pub loop-p-preserved : goal.loop-p-preserved
loop-p-preserved c = λ q l m. elim (eqb_tells q (c.loop-p.p - 1 + 1)) [
  | inl w ↦ subst (λ (n : ℕ). slice_index c.args.counts.now n ≡ 0) (sym w.1) (omega arith)
  | inr w ↦ (let n = w.1 in c.loop-p.invariant q (omega arith) m)
]
