use Rattle.std.proofs.Common.{true, false, arith, subst, sym, ◌∙◌}
use Rattle.measures.specs.Tables.{IsOpening}
use Rattle.measures.proofs.Numbers.{of_rank_top, of_rank_zero}
use Rattle.measures.proofs.Plain.{opening_is}
use Rattle.tables.proofs.packed.opening_rank.Goals as goal

pub returns-then-turns_odd : goal.returns-then-turns_odd
returns-then-turns_odd c = record {
  rank = omega arith;
  value = of_rank_top c.args.game.now c.args.top (omega arith)
      ∙ sym (opening_is c.args.game.now c.args.v true (subst (IsOpening c.args.game.now c.args.v) c.if-turns_odd.true c.turns_odd.ensures));
}

pub returns-else-turns_odd : goal.returns-else-turns_odd
returns-else-turns_odd c = record {
  rank = omega arith;
  value = of_rank_zero c.args.game.now ∙ sym (opening_is c.args.game.now c.args.v false
      (subst (IsOpening c.args.game.now c.args.v) c.if-turns_odd.false c.turns_odd.ensures));
}
