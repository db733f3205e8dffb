-- What a vertex asks for lies below where the values of its successors do.
use Rattle.measures.proofs.Common.{◌≡◌, ℕ, ◌<◌, List, length, map, sym, ◌∙◌, subst, inl, inr, arith, refl, leb_tells, Some, AllZip, range_with_len}
use Rattle.measures.proofs.Common.{slice_index, slice_index_or, length-map, get_or-map, get_or_past, IsBestFor, IsProgress, Game, IsGame, Vertex, vertex}
use Rattle.measures.proofs.Common.{Measure, Top, IsAtMost, IsMeasure, IsProg, LiesBelow, value_at}
use Rattle.std.proofs.lemmas.List.FromFn.{fill_by_all}
use Rattle.measures.proofs.Lifts.{settled}
use Rattle.measures.proofs.Lists.{all_contained}
use Rattle.measures.proofs.Measures.{at_most_top, at_most_trans}
use Rattle.measures.proofs.Monotone.{best_more, best_one_of, right_all}

by_places : (xs : List Measure) (n : ℕ) → length xs ≡ n → xs ≡ map (λ k. slice_index_or xs k Top) (range_with_len 0 n)
by_places xs n e = fill_by_all (λ k. slice_index_or xs k Top) xs n Top e (λ k h. refl)

-- each value lies below at its successor
abbrev pub EachBelow : Game → List ℕ → List Measure → Type 0
EachBelow g ts values = (k : ℕ) → k < length values → LiesBelow g (slice_index ts k) (slice_index_or values k Top)

pub demand_below : (g : Game) (v : ℕ) (values : List Measure) (r : Measure) (x : Vertex) → IsGame g → vertex g v ≡ Some x → length values ≡ length x.successors
    → EachBelow g x.successors values → (progs : List Measure) → AllZip (IsProg g x.priority) values progs → IsBestFor x.owner progs r → LiesBelow g v r
demand_below g v values r x game at long each progs z b = record {
  measure = all_contained (IsMeasure g) progs r (right_all g x.priority values progs z) (best_one_of x.owner progs r b);
  under = by;
}
  where
    by : (other : List Measure) → IsProgress g other → IsAtMost r (value_at other v)
    by other is =
        let s = settled g other game is v x at in
        let theirs = map (value_at other) x.successors in
        let f = λ (k : ℕ). slice_index_or values k Top in
        let h = λ (k : ℕ). slice_index_or theirs k Top in
        let more : (k : ℕ) → IsAtMost (f k) (h k) = λ k. elim (leb_tells (length values) k) [
          | inl w ↦ subst (IsAtMost (f k)) (sym (get_or_past theirs k Top (let l = w.1 in let e = length-map x.successors (value_at other) in omega arith)))
              (at_most_top (f k))
          | inr w ↦ subst (IsAtMost (f k)) (sym (get_or-map (value_at other) x.successors k 0 Top (let l = w.1 in omega arith))) ((each k w.1).under other is)
        ] in
        let z' = subst (λ ms. AllZip (IsProg g x.priority) ms progs) (by_places values (length values) refl) z in
        let w' = subst (λ ms. AllZip (IsProg g x.priority) ms s.progs)
        (by_places theirs (length values) (length-map x.successors (value_at other) ∙ sym long)) s.zipped in
        at_most_trans r s.best (value_at other v) (best_more g x.priority f h more
        (range_with_len 0 (length values)) x.owner progs s.progs r s.best z' w' b s.best_is) s.under
