-- Raising vertices to their lifts until no lift raises one.
use Rattle.measures.proofs.Common.{◌≡◌, ◌≢◌, ◌↔◌, ℕ, ◌+◌, ◌*◌, ◌<◌, ◌≤◌, Bool, true, false, List, length, map, refl, sym, ap, subst, ◌∙◌, inl, inr, arith}
use Rattle.measures.proofs.Common.{Some, option_map, slice_set, IsTrue, not, MatchBool, true≢false, eqb_tells, leb_tells, get_or_past, length-set}
use Rattle.measures.proofs.Common.{slice_get_within, Player, Vertex, Game, IsGame, vertex, IsLifted, height, rank, sum_of, Measure, Top, IsAtMost, IsBelow}
use Rattle.measures.proofs.Common.{IsMeasure, IsProg, Reaches, IsBestFor, IsLeastTable, IsLiftAt, IsProgress, IsTable, greater_of, value_at, IsStill, Sweeps}
use Rattle.measures.proofs.Common.{IsPlain, LiesBelow, GameTable}
use Rattle.measures.proofs.Bests.{best_prog, vertex_here, vertex_tells}
use Rattle.measures.proofs.Lifting.{sum_rises}
use Rattle.measures.proofs.Lifts.{value_measure}
use Rattle.measures.proofs.Lists.{all_from, all_map}
use Rattle.measures.proofs.Measures.{at_most_itself, at_most_top, greater_own, greater_taken, not_below, own_greater, prog, reaches_up}
use Rattle.measures.proofs.Monotone.{LiesUnder, lift_at, lift_measure, lift_one, lift_under}
use Rattle.measures.proofs.Plain.{value_set_other, value_set_same}
use Rattle.measures.proofs.Ranks.{rank_bounded}
use Rattle.measures.proofs.Reaching.{not_reached}
use Rattle.measures.proofs.Rests.{total_bounded}

module _ (g : Game) (values : List Measure) (table : IsTable g values) where
  measured : (v : ℕ) → IsMeasure g (value_at values v)
  measured v = value_measure g values table.1 v

  -- where every vertex is still the table is a progress table
  pub table_still : ((v : ℕ) → v < length g.vertices → IsStill g values v) → IsProgress g values
  table_still still = (table, λ v r lift. lift_one g values v r (value_at values v) lift (still v (within v r lift)))
    where
      within : (v : ℕ) (r : Measure) → IsLiftAt g values v r → v < length g.vertices
      within v r (x, at, more) = slice_get_within g.vertices v x at

  module _ (v : ℕ) (inside : v < length g.vertices) (o : Player) (p : ℕ) (next : List ℕ) (best : ℕ) (owner : option_map (λ x. x.owner) (vertex g v) ≡ Some o)
      (priority : option_map (λ x. x.priority) (vertex g v) ≡ Some p) (successors : option_map (λ x. x.successors) (vertex g v) ≡ Some next)
      (is_best : IsBestFor o (map (value_at values) next) (value_at values best)) where
    abbrev own : Measure
    own = value_at values v

    lift_from : (r : Measure) → IsProg g p (value_at values best) r → IsLiftAt g values v (greater_of own r)
    lift_from r is =
        let here = vertex_here g v inside in
        let x = here.0 in
        let same_owner : x.owner ≡ o = vertex_tells (λ (y : Vertex). y.owner) g v o x here.1 owner in
        let same_priority : x.priority ≡ p = vertex_tells (λ (y : Vertex). y.priority) g v p x here.1 priority in
        let same_next : x.successors ≡ next = vertex_tells (λ (y : Vertex). y.successors) g v next x here.1 successors in
        let b = subst (λ (ts : List ℕ). IsBestFor o (map (value_at values) ts) (value_at values best)) (sym same_next) is_best in
        let w = best_prog g x.priority o (map (value_at values) x.successors) (value_at values best) r
        (all_map (IsMeasure g) (value_at values) x.successors measured) b
        (subst (λ (q : ℕ). IsProg g q (value_at values best) r) (sym same_priority) is) in
        (x, here.1, (w.0, r, w.1, subst (λ q. IsBestFor q w.0 r) (sym same_owner) w.2, refl))

    -- a vertex that reaches its best successor is still
    pub still_from : Reaches g p (value_at values best) own → IsStill g values v
    still_from h =
        let r = prog g p (value_at values best) (measured best) in
        subst (IsLiftAt g values v) (own_greater own r.0 (r.1.least own (measured v) h)) (lift_from r.0 r.1)

    pub reached_from : IsStill g values v → Reaches g p (value_at values best) own
    reached_from still =
        let r = prog g p (value_at values best) (measured best) in
        let same : greater_of own r.0 ≡ own = lift_one g values v (greater_of own r.0) own (lift_from r.0 r.1) still in
        reaches_up g p (value_at values best) r.0 own r.1.reaches (greater_own own r.0 same)

    -- and one that doesn't rises to what it asks for there
    pub risen_lift : (r : Measure) → IsProg g p (value_at values best) r → (Reaches g p (value_at values best) own → ⊥) → IsLiftAt g values v r
    risen_lift r is never = subst (IsLiftAt g values v) (sym (greater_taken own r (not_reached g p (value_at values best) own r is never))) (lift_from r is)

module _ (g : Game) (values : List Measure) (plain : IsPlain (record { game = g; values = values })) where
  pub plain_table : IsTable g values
  plain_table = (plain.long, all_from (IsMeasure g) values Top (λ v l. (plain.below v (let e = plain.long in omega arith)).measure))

  plain_under : (other : List Measure) → IsProgress g other → LiesUnder values other
  plain_under other is v = elim (leb_tells (length g.vertices) v) [
    | inl w ↦ (let h = w.1 in subst (λ (m : Measure). IsAtMost (value_at values v) m) (sym (get_or_past other v Top (let e = is.0.0 in omega arith)))
        (at_most_top (value_at values v)))
    | inr w ↦ (plain.below v w.1).under other is
  ]

  -- a lift of a plain table is below
  pub lift_below : (v : ℕ) (r : Measure) → IsLiftAt g values v r → LiesBelow g v r
  lift_below v r lift = record {
    measure = lift_measure g values plain_table v r lift;
    under = λ other is. lift_under g values other plain.game is (plain_under other is) v r lift;
  }

  -- a lift that is greater than the value raises the sum of the ranks
  pub sum_raised : (v : ℕ) (r : Measure) (new : List Measure) → v < length g.vertices → IsLiftAt g values v r → IsBelow (value_at values v) r
      → new ≡ slice_set values v r → sum_of g values < sum_of g new
  sum_raised v r new h lift below e = subst (λ (ms : List Measure). sum_of g values < sum_of g ms) (sym e)
      (sum_rises g values (slice_set values v r) plain_table lifted differs)
    where
      here : v < length values
      here = let l = plain.long in omega arith

      at : value_at (slice_set values v r) v ≡ r
      at = value_set_same values v r here

      lifted : IsLifted g values (slice_set values v r)
      lifted = record {
        at = v;
        lift = subst (IsLiftAt g values v) (sym at) lift;
        others = λ u n. value_set_other values v u r n;
        long = length-set values v r;
      }

      differs : values ≢ slice_set values v r
      differs q = let same : value_at values v ≡ r = ap (λ ms. value_at ms v) q
          ∙ at in not_below (value_at values v) r below (subst (λ (m : Measure). IsAtMost r m) (sym same) (at_most_itself r))

  pub sum_limit : sum_of g values ≤ length g.vertices * height g
  sum_limit = total_bounded (λ v. rank g (value_at values v)) (height g) (length g.vertices)
      (λ v h. rank_bounded g (value_at values v) (measured g values plain_table v))

  pub all_still : ((v : ℕ) → v < length g.vertices → IsStill g values v) → IsProgress g values
  all_still still = table_still g values plain_table still

-- Of the vertices from v on some rose, or all are still.
abbrev pub Swept : Game → ℕ → List Measure → List Measure → Bool → Type 0
Swept g v old new rose = MatchBool rose (sum_of g old < sum_of g new) ((new ≡ old) × ((u : ℕ) → v ≤ u → u < length g.vertices → IsStill g new u))

pub swept_still : (g : Game) (v w : ℕ) (old mid new : List Measure) (rose : Bool) → Swept g v old mid rose → v ≡ w + 1 → new ≡ mid → IsStill g new w
    → Swept g w old new rose
swept_still g v w old mid new true h e same still = subst (λ (ms : List Measure). sum_of g old < sum_of g ms) (sym same) h
swept_still g v w old mid new false h e same still = (
  same ∙ h.0,
  λ u l m. elim (eqb_tells u w) [
    | inl y ↦ subst (IsStill g new) (sym y.1) still
    | inr y ↦ (let n = y.1 in subst (λ (ms : List Measure). IsStill g ms u) (sym same) (h.1 u (omega arith) m))
  ],
)

-- a sweep over all vertices
pub swept_whole : (g : Game) (v : ℕ) (old new : List Measure) (rose : Bool) → IsPlain (record { game = g; values = new }) → Swept g v old new rose → v ≡ 0
    → Sweeps g old new rose
swept_whole g v old new true plain h e = h
swept_whole g v old new false plain h e = all_still g new plain (λ u l. h.1 u (omega arith) l)

-- a sweep in which none rose leaves the least progress table
pub swept_least : (g : Game) (old new : List Measure) (rose : Bool) → IsPlain (record { game = g; values = new }) → Sweeps g old new rose → rose ≡ false
    → IsLeastTable g new
swept_least g old new true plain h e = absurd (true≢false e)
swept_least g old new false plain h e = record { progress = h; under = λ v l. (plain.below v l).under }

-- in a progress table every vertex is still
pub progress_still : (g : Game) (values : List Measure) → IsGame g → IsProgress g values → (v : ℕ) → v < length g.vertices → IsStill g values v
progress_still g values game is v h =
    let x = vertex_here g v h in
    let r = lift_at g game values is.0 v x.0 x.1 in
    subst (IsLiftAt g values v) (is.1 v r.0 r.1) r.1

pub move_plain : (g : Game) (t : GameTable) → IsPlain t → t.game ≡ g → IsPlain (record { game = g; values = t.values })
move_plain g t plain e = subst (λ (h : Game). IsPlain (record { game = h; values = t.values })) e plain

not_true : (b : Bool) → b ≡ false → IsTrue b → ⊥
not_true b e h = true≢false (sym h ∙ e)

pub not_top_is : (b : Bool) (top wins : Type 0) → (IsTrue b ↔ top) → ((top → ⊥) ↔ wins) → IsTrue (not b) ↔ wins
not_top_is true top wins h w = ((λ f. absurd (true≢false (sym f))), (λ i. absurd (w.1 i (h.0 refl))))
not_top_is false top wins h w = ((λ f. w.0 (λ t. not_true false refl (h.1 t))), (λ i. refl))
