use Rattle.game.proofs.Common.{◌≡◌, ◌-◌, ap, ◌∙◌, arith, map, normal_nodes, range_with_len}
use Rattle.rayon.specs.Numbers.{nat_range}
use Rattle.game.specs.Parts.{vertices_of_range}
use Rattle.game.proofs.Parts.{all_given, ok_from}
use Rattle.game.proofs.build.parts.Goals as goal

pub returns : goal.returns
returns g c =
    let part = vertices_of_range c.args.lts.now.system (normal_nodes c.args.form.now) c.args.size in
    let h = c.in_ok-collect.ensures in
    let ends = c.into_par_iter.ensures in
    let n = c.args.ranges in
    let whole : n - 0 ≡ n = omega arith in
    let chain = rw (c.map.ensures.base, c.map.ensures.f, c.with_min_len.ensures.base) at h.1 in
    let places = chain.1 ∙ (λ i. nat_range (ends.0 i) (ends.1 i)) ∙ ap (range_with_len 0) whole in
    ok_from c.in_ok-collect.field-0 _ _ _ h.2 (λ v k. k.2 ∙ all_given part chain.0 h.0 k.0 k.1 chain.2 ∙ ap (map part) places)
