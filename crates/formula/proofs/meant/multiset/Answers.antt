use Rattle.std.proofs.Common.{arith, ◌≡◌, ◌+◌, ◌<◌, ◌∷◌, List, ℕ, [], length, map, take, ap, ◌∙◌}
use Rattle.std.specs.Global.{Vec}
use Rattle.std.specs.List.Sorted.{IsSorted}
use Rattle.std.proofs.lemmas.List.{take_all, get_or-map, length-map}
use Rattle.std.proofs.lemmas.List.Sorted.{IsPermutation-map}
use Rattle.systems.specs.Label.{bytes_cmp, multiset}
use Rattle.systems.proofs.Names.{sorted_multiset}
use Rattle.formula.proofs.meant.multiset.Goals as goal

sorted_bytes : (names : List (Vec ℕ)) → IsSorted (λ (x y : Vec ℕ). bytes_cmp x.items y.items) names → IsSorted bytes_cmp (map (λ (v : Vec ℕ). v.items) names)
sorted_bytes [] up = λ k d low high. absurd (omega arith)
sorted_bytes (name ∷ names) up = λ k d low high.
    let all = name ∷ names in
    let inside : k + 1 < length all = omega (arith, length-map all (λ (v : Vec ℕ). v.items)) in
    rw (get_or-map (λ (v : Vec ℕ). v.items) all (k + 1) name d inside, get_or-map (λ (v : Vec ℕ). v.items) all k name d (omega arith)) (up k name low inside)

pub returns : goal.returns
returns c =
    let old = c.loop-name.names.items in
    let new = c.sort_unstable.new.self.items in
    let all : take c.loop-name.name-index c.args.others.now ≡ c.args.others.now = take_all c.loop-name.name-index c.args.others.now (omega arith) in
    sorted_multiset _ _ (IsPermutation-map (λ (v : Vec ℕ). v.items) old new c.sort_unstable.ensures.permutation)
    (sorted_bytes new c.sort_unstable.ensures.sorted)
    ∙ ap multiset (c.loop-name.invariant ∙ ap (λ names. c.args.first.now ∷ map (λ name. name.now) names) all)
