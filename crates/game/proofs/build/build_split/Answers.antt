use Rattle.game.proofs.Common.{◌≡◌, ◌+◌, ◌*◌, ◌≤◌, ℕ, Some, length, subst, sym, ◌∙◌, arith, normal_nodes, IsGame, arena}
use Rattle.game.proofs.Arenas.{arena_is_game, arena_low}
use Rattle.game.specs.Game.{greatest}
use Rattle.game.proofs.build.build_split.Goals as goal
use Rattle.game.proofs.build.build_split.Goals.{then-ranges-eq1+in_ok-builder, else-ranges-eq1+in_ok-builder-2}

-- the product of equal numbers
within : (a b c d : ℕ) → a ≡ c → b ≡ d → 2 + a * b ≤ 16777216 → 2 + c * d ≤ 16777216
within a b c d e f h = subst (λ n. n ≤ 16777216) (λ i. 2 + e i * f i) h

pub into_named-requires : goal.into_named-requires
into_named-requires g c =
    let l = c.args.lts.now.system in
    let nodes = normal_nodes c.args.form.now in
    let few = within c.states-states.result c.count-nodes.result l.states (length nodes) c.states-states.ensures.count c.count-nodes.ensures.count
    (omega (arith, c.if-states-nodes.false)) in
    let all : c.if-ranges-eq1.builder ≡ (arena l nodes).vertices = elim c.if-ranges-eq1.branch [
      | then-ranges-eq1+in_ok-builder w ↦ w.builder-is ∙ w.in_ok-builder.ensures
      | else-ranges-eq1+in_ok-builder-2 w ↦ w.builder-is
          ∙ w.in_ok-builder-2.ensures
    ] in
    subst IsGame (λ i. record { vertices = sym all i; named = Some (sym c.states-states.ensures.count i, sym c.count-nodes.ensures.count i) })
    (arena_is_game l nodes c.known.ensures few)

pub returns-clause-low : goal.returns-clause-low
returns-clause-low g c =
    let l = c.args.lts.now.system in
    let nodes = normal_nodes c.args.form.now in
    let all : c.if-ranges-eq1.builder ≡ (arena l nodes).vertices = elim c.if-ranges-eq1.branch [
      | then-ranges-eq1+in_ok-builder w ↦ w.builder-is ∙ w.in_ok-builder.ensures
      | else-ranges-eq1+in_ok-builder-2 w ↦ w.builder-is
          ∙ w.in_ok-builder-2.ensures
    ] in
    let is = c.into_named.ensures ∙ (λ i. record { vertices = all i; named = Some (c.states-states.ensures.count i, c.count-nodes.ensures.count i) }) in
    subst (λ g. greatest g ≤ 31) (sym is) (arena_low l nodes c.known.ensures)
