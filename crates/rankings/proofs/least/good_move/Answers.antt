use Rattle.std.proofs.Common.{◌∙◌, ap, sym, subst}
use Rattle.std.specs.Prelude.{Some}
use Rattle.game.specs.Game.{dual}
use Rattle.game.specs.Lent.{lent_vertex}
use Rattle.measures.specs.Proposal.{IsFirstMove}
use Rattle.measures.specs.StoredProposal.{AreBoundsIn, game_for, values_of}
use Rattle.game.proofs.Lending.{vertex_dual}
use Rattle.rankings.proofs.least.good_move.Goals as goal

pub returns-in-Even : goal.returns-in-Even
returns-in-Even c = λ g at even odd.
    let at_odd = vertex_dual g c.args.v (lent_vertex c.args.vertex) at ∙ ap Some (sym c.turned-turned.ensures) in
    let even_bounds = subst (AreBoundsIn g) (sym c.as_slice.ensures.value) even in
    record {
      even = c.in_ok-even.ensures.good g at even_bounds;
      odd = c.in_ok-odd.ensures.good (dual g) at_odd (subst (AreBoundsIn (dual g)) (sym c.as_slice-2.ensures.value) odd);
      move = subst (λ p. IsFirstMove (game_for p g) (values_of p c.args.proposals.now) c.args.v c.in_ok-even.even) c.in-Even.ensures
          (c.in_ok-even.ensures.next g at even_bounds);
    }

pub returns-in-Odd : goal.returns-in-Odd
returns-in-Odd c = λ g at even odd.
    let at_odd = vertex_dual g c.args.v (lent_vertex c.args.vertex) at ∙ ap Some (sym c.turned-turned.ensures) in
    let odd_bounds = subst (AreBoundsIn (dual g)) (sym c.as_slice-2.ensures.value) odd in
    record {
      even = c.in_ok-even.ensures.good g at (subst (AreBoundsIn g) (sym c.as_slice.ensures.value) even);
      odd = c.in_ok-odd.ensures.good (dual g) at_odd odd_bounds;
      move = subst (λ p. IsFirstMove (game_for p g) (values_of p c.args.proposals.now) c.args.v c.in_ok-odd.odd) c.in-Odd.ensures
          (c.in_ok-odd.ensures.next (dual g) at_odd odd_bounds);
    }
