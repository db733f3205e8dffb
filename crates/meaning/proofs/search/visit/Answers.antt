use Rattle.std.proofs.Common.{◌≡◌, ℕ, suc, ◌-◌, ◌<◌, ◌≤◌, ◌⊎◌, true, false, List, [], ◌∷◌, ◌++◌, length, length-append, sym, ◌∙◌, ap, subst, inl, inr, arith}
use Rattle.std.specs.Prelude.{slice_set, slice_index_or, All, Contains}
use Rattle.std.proofs.Math.ListN.{length-set}
use Rattle.std.proofs.lemmas.List.Elements.{All-push, Contains-push, Contains-push_cases, Contains-append_left}
use Rattle.std.proofs.lemmas.List.{get_or_default}
use Rattle.calculus.specs.Meaning.{marked}
use Rattle.meaning.specs.declared.arrivals.Arrival.{Arrival}
use Rattle.meaning.specs.Arrivals.{nowhere, arrival_at, IsSource, IsOneOf}
use Rattle.meaning.proofs.Marked.{at}
use Rattle.meaning.proofs.Chains.{none_there, first_or_earlier, first, later}
use Rattle.meaning.proofs.Setting.{set_keeps, set_there, set_adds, one_fewer}
use Rattle.meaning.proofs.search.visit.Goals as goal

-- the step of this number, plus 1
one_step : (all : List Arrival) (next s : ℕ) (a : Arrival) → a ≡ slice_index_or all (next - 1) a → 1 ≤ next → next ≤ length all → IsOneOf all next s
    → (a.source ≡ s) ⊎ IsOneOf all a.earlier s
one_step all next s a is some le h =
    let k : ℕ = next - 1 in
    let there : next ≡ suc k = omega arith in
    let e : a ≡ arrival_at all k = is ∙ get_or_default all k a nowhere (omega arith) in
    subst (λ (b : Arrival). (b.source ≡ s) ⊎ IsOneOf all b.earlier s) (sym e) (first_or_earlier all k s (subst (λ n. IsOneOf all n s) there h))

from_step : (all : List Arrival) (next s : ℕ) (a : Arrival) → a ≡ slice_index_or all (next - 1) a → 1 ≤ next → next ≤ length all → (a.source ≡ s)
    ⊎ IsOneOf all a.earlier s → IsOneOf all next s
from_step all next s a is some le h =
    let k : ℕ = next - 1 in
    let there : next ≡ suc k = omega arith in
    let e : a ≡ arrival_at all k = is ∙ get_or_default all k a nowhere (omega arith) in
    subst (λ n. IsOneOf all n s) (sym there)
    (elim h [
      | inl same ↦ first all k s (omega arith) (ap (λ (b : Arrival). b.source) (sym e) ∙ same)
      | inr more ↦ later all k s (subst (λ (b : Arrival). IsOneOf all b.earlier s) e more)
    ])

pub loop-next-preserved-in_ok-push : goal.loop-next-preserved-in_ok-push
loop-next-preserved-in_ok-push c =
    let all = c.args.arrivals.now.all.items in
    let found = c.loop-next.found.items in
    let waiting = c.loop-next.waiting.items in
    let now = c.loop-next.invariant in
    let a = c.index.result.now in
    let some : 1 ≤ c.loop-next.next = omega arith in
    let k : ℕ = c.loop-next.next - 1 in
    let within : k < length all = omega (arith, now.next) in
    let is : a ≡ arrival_at all k = c.index.ensures ∙ get_or_default all k a nowhere within in
    let back : a.earlier ≤ k = subst (λ (b : Arrival). b.earlier ≤ k) (sym is) (c.requires.room.earlier k within) in
    let room : a.source < length c.args.found.now.items = subst (λ (b : Arrival). b.source < length c.args.found.now.items) (sym is)
    (c.requires.room.source k within) in
    let pushed : c.push.new.self.items ≡ waiting ++ a.source ∷ [] = c.in_ok-push.ensures.items in
    let source : (s : ℕ) → (a.source ≡ s) ⊎ IsOneOf all a.earlier s → IsSource c.args.arrivals.now c.args.state s =
    λ s h. now.origin s (from_step all c.loop-next.next s a c.index.ensures some now.next h) in
    record {
      next = omega arith;
      count = simp length-set now.count;
      inside = subst (All (λ t. t < length c.args.found.now.items)) (sym pushed)
          (All-push (λ t. t < length c.args.found.now.items) waiting a.source now.inside room);
      known = λ s h. elim (Contains-push_cases waiting a.source s (subst (λ ws. Contains ws s) pushed h)) [
        | inl old ↦ set_keeps found a.source s (now.known s old)
        | inr new ↦ subst (marked (slice_set found a.source true)) new (set_there found a.source (omega (arith, now.count)))
      ];
      kept = λ s h. set_keeps found a.source s (now.kept s h);
      waits = λ s h. subst (λ ws. Contains ws s) (sym pushed) (Contains-append_left waiting (a.source ∷ []) s (now.waits s h));
      sources = λ s h. elim (now.sources s h) [
        | inl m ↦ inl (set_keeps found a.source s m)
        | inr m ↦ elim (one_step all c.loop-next.next s a c.index.ensures some now.next m) [
          | inl e ↦ inl (subst (marked (slice_set found a.source true)) e (set_there found a.source (omega (arith, now.count))))
          | inr rest ↦ inr rest
        ]
      ];
      origin = λ s h. source s (inr h);
      fresh = λ s h. elim (set_adds found a.source s h) [
        | inl m ↦ elim (now.fresh s m) [
          | inl old ↦ inl old
          | inr w ↦ inr
              (subst (λ ws. Contains ws s) (sym pushed) (Contains-append_left waiting (a.source ∷ []) s w.0), w.1)
        ]
        | inr e ↦ inr (
          subst (λ ws. Contains ws s) (sym pushed) (subst (Contains (waiting ++ a.source ∷ [])) e (Contains-push waiting a.source)),
          source s (inl e),
        )
      ];
      fewer =
          let fits : a.source < length found = omega (arith, now.count) in
          let was : at found a.source ≡ false = get_or_default found a.source false c.index-in-loop-next.result.now fits
          ∙ (sym c.index-in-loop-next.ensures ∙ c.if-not-index.true) in
          omega (arith, one_fewer found a.source fits was, now.fewer, ap length pushed, length-append waiting (a.source ∷ []));
    }

pub loop-next-preserved : goal.loop-next-preserved
loop-next-preserved c =
    let all = c.args.arrivals.now.all.items in
    let found = c.loop-next.found.items in
    let now = c.loop-next.invariant in
    let a = c.index.result.now in
    let some : 1 ≤ c.loop-next.next = omega arith in
    let k : ℕ = c.loop-next.next - 1 in
    let within : k < length all = omega (arith, now.next) in
    let is : a ≡ arrival_at all k = c.index.ensures ∙ get_or_default all k a nowhere within in
    let back : a.earlier ≤ k = subst (λ (b : Arrival). b.earlier ≤ k) (sym is) (c.requires.room.earlier k within) in
    let room : a.source < length c.args.found.now.items = subst (λ (b : Arrival). b.source < length c.args.found.now.items) (sym is)
    (c.requires.room.source k within) in
    record {
      next = omega arith;
      count = now.count;
      inside = now.inside;
      known = now.known;
      kept = now.kept;
      waits = now.waits;
      sources = λ s h. elim (now.sources s h) [
        | inl m ↦ inl m
        | inr m ↦ elim (one_step all c.loop-next.next s a c.index.ensures some now.next m) [
          | inl e ↦ inl (subst (marked found) e (get_or_default found a.source false c.index-in-loop-next.result.now (omega (arith, now.count))
              ∙ (sym c.index-in-loop-next.ensures ∙ c.if-not-index.false)))
          | inr rest ↦ inr rest
        ]
      ];
      origin = λ s h. now.origin s (from_step all c.loop-next.next s a c.index.ensures some now.next (inr h));
      fresh = now.fresh;
      fewer = now.fewer;
    }

pub returns-clause-sources : goal.returns-clause-sources
returns-clause-sources c = λ s h. elim (c.loop-next.invariant.sources s h) [
  | inl m ↦ m
  | inr rest ↦ absurd (none_there c.args.arrivals.now.all.items s
      (subst (λ n. IsOneOf c.args.arrivals.now.all.items n s) (let t : c.loop-next.next ≡ 0 = omega arith in t) rest))
]
