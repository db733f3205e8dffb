-- A walk goes on until nothing waits.
use Rattle.std.proofs.Common.{◌≡◌, ◌≢◌, ℕ, zero, suc, ◌<◌, ◌⊎◌, ◌↔◌, Bool, true, false, List, [], ◌∷◌, ◌++◌, length, refl, sym, ap, subst, ◌∙◌, inl, inr, arith}
use Rattle.std.proofs.Common.{IsTrue, Contains, Option, Some, None, length-append, replicate}
use Rattle.std.specs.Prelude.{MatchOption, option_map, slice_get, slice_set}
use Rattle.std.proofs.Math.ListN.{length-set}
use Rattle.std.proofs.lemmas.List.{length-replicate}
use Rattle.std.proofs.lemmas.List.Elements.{Contains-append_left, Contains-push, Contains-push_cases}
use Rattle.systems.specs.Path.{IsPath}
use Rattle.game.specs.declared.player.Player.{Player}
use Rattle.game.specs.declared.player.Player.TheVariants.{Even, Odd}
use Rattle.game.specs.Game.{Game, Vertex, vertex}
use Rattle.measures.proofs.Lists.{contains_first, contains_none}
use Rattle.measures.proofs.NotBoth.{path_on}
use Rattle.laws.proofs.Lists.{only_in}
use Rattle.evidence.specs.Evidence.{Entry, Evidence, IsGood, entry_at}
use Rattle.evidence.specs.declared.verdict.Fault.TheVariants.{Move}
use Rattle.witness.specs.Walk.{AreGoals, AreTargets, IsMarkedWalk, Visits, is_marked}
use Rattle.witness.proofs.Setting.{no_mark, one_fewer, set_adds, set_keeps, set_there}

-- ------------------------------------------------------------------ visits

-- a vertex that was not
pub visits_new : (marks : List Bool) (waiting : List ℕ) (u : ℕ) → u < length marks → is_marked marks u ≡ false
    → Visits marks waiting (u ∷ []) (slice_set marks u true) (waiting ++ u ∷ [])
visits_new marks waiting u h fresh = record {
  long = length-set marks u true;
  kept = λ t k. set_keeps marks u t k;
  all = λ t k. subst (λ z. IsTrue (is_marked (slice_set marks u true) z)) (sym (only_in u t k)) (set_there marks u h);
  only = λ t k. elim (set_adds marks u t k) [
    | inl old ↦ inl old
    | inr e ↦ inr (subst (λ z. Contains (u ∷ []) z) e (contains_first u []), subst (λ z. Contains (waiting ++ u ∷ []) z) e (Contains-push waiting u))
  ];
  waits = λ t k. Contains-append_left waiting (u ∷ []) t k;
  from = λ t k. elim (Contains-push_cases waiting u t k) [ inl old ↦ inl old | inr e ↦ inr (subst (λ z. Contains (u ∷ []) z) e (contains_first u [])) ];
  rest = (let few = one_fewer marks u h fresh in omega (arith, few, length-append waiting (u ∷ [])));
}

-- some vertices, and one more
pub visits_more : (first second third : List Bool) (a b c targets : List ℕ) (u : ℕ) → Visits first a targets second b → Visits second b (u ∷ []) third c
    → Visits first a (targets ++ u ∷ []) third c
visits_more first second third a b c targets u v w = record {
  long = w.long ∙ v.long;
  kept = λ t k. w.kept t (v.kept t k);
  all = λ t k. elim (Contains-push_cases targets u t k) [
    | inl old ↦ w.kept t (v.all t old)
    | inr e ↦ w.all t (subst (λ z. Contains (u ∷ []) z) e (contains_first u []))
  ];
  only = λ t k. elim (w.only t k) [
    | inl old ↦ elim (v.only t old) [ inl older ↦ inl older | inr m ↦ inr (Contains-append_left targets (u ∷ []) t m.0, w.waits t m.1) ]
    | inr m ↦ inr (later t m.0, m.1)
  ];
  waits = λ t k. w.waits t (v.waits t k);
  from = λ t k. elim (w.from t k) [
    | inl old ↦ elim (v.from t old) [ inl older ↦ inl older | inr m ↦ inr (Contains-append_left targets (u ∷ []) t m) ]
    | inr m ↦ inr (later t m)
  ];
  rest = w.rest ∙ v.rest;
}
  where
    later : (t : ℕ) → Contains (u ∷ []) t → Contains (targets ++ u ∷ []) t
    later t k = subst (λ z. Contains (targets ++ u ∷ []) z) (sym (only_in u t k)) (Contains-push targets u)

-- ------------------------------------------------------------------ where the play goes on

either_player : (p q : Player) → (p ≡ q) ⊎ (p ≢ q)
either_player Even Even = inl refl
either_player Even Odd = inr (λ e. cc)
either_player Odd Even = inr (λ e. cc)
either_player Odd Odd = inl refl

module _ (g : Game) (e : Evidence) (good : IsGood g e) (u : ℕ) (x : Entry) (v : Vertex) (here : entry_at e u ≡ Some x) (at : vertex g u ≡ Some v) where
  same_entry : (y : Entry) → entry_at e u ≡ Some y → y ≡ x
  same_entry y h = let q : Some y ≡ Some x = sym h ∙ here in cc

  same_vertex : (w : Vertex) → vertex g u ≡ Some w → w ≡ v
  same_vertex w h = let q : Some w ≡ Some v = sym h ∙ at in cc

  not_both : (t : ℕ) → x.move ≡ Some t → x.move ≡ None → ⊥
  not_both t some none = let q : Some t ≡ None = sym some ∙ none in cc

  some_same : (a b : ℕ) → Some a ≡ Some b → a ≡ b
  some_same a b q = cc

  -- a move is the only way on
  pub move_goals : (next : ℕ) → x.move ≡ Some next → AreGoals g e u (next ∷ [])
  move_goals next is = λ t. (
    λ go. (
        let y = ap (λ (z : Entry). z.move) (same_entry go.0 go.2) in
        let w = ap (λ (z : Vertex). z.owner) (same_vertex go.1 go.3) in
        elim go.4 [
          | inl own ↦ subst (λ z. Contains (next ∷ []) z) (some_same next t (sym is ∙ (sym y ∙ own.1))) (contains_first next [])
          | inr other ↦ absurd (not_both next is ((good u Move x v here at).1 (λ q. other.0 (w ∙ q))))
        ]),
    λ k. elim (either_player v.owner e.player) [
      | inl own ↦ (x, v, here, at, inl (own, is ∙ ap Some (sym (only_in next t k))))
      | inr other ↦ absurd (not_both next is ((good u Move x v here at).1 other))
    ],
  )

  -- where there is none all successors are
  pub all_goals : x.move ≡ None → AreGoals g e u v.successors
  all_goals none = λ t. (
    λ go. (
        let y = ap (λ (z : Entry). z.move) (same_entry go.0 go.2) in
        let w = ap (λ (z : Vertex). z.successors) (same_vertex go.1 go.3) in
        elim go.4 [
          | inl own ↦ absurd (not_both t (sym y ∙ own.1) none)
          | inr other ↦ subst (λ z. Contains z t) w other.1
        ]),
    λ k. elim (either_player v.owner e.player) [
      | inl own ↦ (let m = (good u Move x v here at).0 own in absurd (not_both m.0 m.1 none))
      | inr other ↦ (x, v, here, at, inr (other, k))
    ],
  )

-- ------------------------------------------------------------------ vertices by number

-- each number has its vertex
pub some_vertex : (g : Game) (u : ℕ) → u < length g.vertices → (v : Vertex) × (vertex g u ≡ Some v)
some_vertex g u h = got g.vertices u h
  where
    got : (xs : List Vertex) (k : ℕ) → k < length xs → (x : Vertex) × (slice_get xs k ≡ Some x)
    got [] k h = absurd (omega arith)
    got (x ∷ xs) zero h = (x, refl)
    got (x ∷ xs) (suc k) h = got xs k (omega arith)

-- the vertex of which these are the successors
pub read_vertex : (g : Game) (u : ℕ) (ts : List ℕ) → option_map (λ x. x.successors) (vertex g u) ≡ Some ts → (v : Vertex) × (vertex g u ≡ Some v)
    × (v.successors ≡ ts)
read_vertex g u ts = by (vertex g u) refl
  where
    by : (o : Option Vertex) → vertex g u ≡ o → option_map (λ x. x.successors) o ≡ Some ts → (v : Vertex) × (vertex g u ≡ Some v) × (v.successors ≡ ts)
    by None e h = cc
    by (Some v) e h = let q : v.successors ≡ ts = cc in (v, e, q)

-- ------------------------------------------------------------------ what waits

-- the vertex that is taken was waiting
pub walk_rest : (before after : List ℕ) (u : ℕ) → before ≡ after ++ u ∷ [] → Contains before u
walk_rest before after u is = subst (λ xs. Contains xs u) (sym is) (Contains-push after u)

pub no_more : (o : Option ℕ) (P : Type 0) (Q : ℕ → Type 0) → MatchOption o P Q → ((x : ℕ) → o ≡ Some x → ⊥) → P
no_more None P Q h none = h
no_more (Some x) P Q h none = absurd (none x refl)

-- ------------------------------------------------------------------ the walk

module _ (size : ℕ) (R : ℕ → ℕ → Type 0) (root : ℕ) where
  pub walk_begins : (n : ℕ) (marks : List Bool) (waiting : List ℕ) → n ≡ size → Visits (replicate n false) [] (root ∷ []) marks waiting
      → IsMarkedWalk size R root marks waiting
  walk_begins n marks waiting long v = record {
    long = v.long ∙ (length-replicate n false ∙ long);
    begins = v.all root (contains_first root []);
    reached = λ t m. elim (v.only t m) [ inl old ↦ absurd (no_mark n t old) | inr c ↦ ([], sym (only_in root t c.0)) ];
    follows = λ u t m go. elim (v.only u m) [ inl old ↦ absurd (no_mark n u old) | inr c ↦ inr c.1 ];
    known = λ u c. elim (v.from u c) [ inl old ↦ absurd (contains_none u old) | inr k ↦ v.all u k ];
  }

  -- one vertex waits no more
  pub walk_on : (u : ℕ) (marks new : List Bool) (before after now targets : List ℕ) → before ≡ after ++ u ∷ [] → IsMarkedWalk size R root marks before
      → AreTargets R u targets → Visits marks after targets new now
      → IsMarkedWalk size R root new now
  walk_on u marks new before after now targets is w goals v = record {
    long = v.long ∙ w.long;
    begins = v.kept root w.begins;
    reached = λ t m. elim (v.only t m) [
      | inl old ↦ w.reached t old
      | inr c ↦ (let p = w.reached u (w.known u (walk_rest before after u is)) in (_, path_on R root p.0 u t p.1 ((goals t).1 c.0)))
    ];
    follows = λ s t m go. elim (v.only s m) [
      | inl old ↦ elim (w.follows s t old go) [
        | inl k ↦ inl (v.kept t k)
        | inr c ↦ elim (Contains-push_cases after u s (subst (λ xs. Contains xs s) is c)) [
          | inl k ↦ inr (v.waits s k)
          | inr q ↦ inl (v.all t ((goals t).0 (subst (λ z. R z t) (sym q) go)))
        ]
      ]
      | inr c ↦ inr c.1
    ];
    known = λ s c. elim (v.from s c) [
      | inl old ↦ v.kept s (w.known s (subst (λ xs. Contains xs s) (sym is) (Contains-append_left after (u ∷ []) s old)))
      | inr k ↦ v.all s k
    ];
  }

  -- nothing waits
  pub walk_ends : (marks : List Bool) (waiting : List ℕ) → length waiting ≡ 0 → IsMarkedWalk size R root marks waiting
      → (t : ℕ) → IsTrue (is_marked marks t) ↔ ((others : List ℕ) × IsPath R root others t)
  walk_ends marks waiting none w t = ((λ m. w.reached t m), λ p. along root p.0 t w.begins p.1)
    where
      along : (s : ℕ) (others : List ℕ) (t : ℕ) → IsTrue (is_marked marks s) → IsPath R s others t → IsTrue (is_marked marks t)
      along s [] t h p = subst (λ z. IsTrue (is_marked marks z)) p h
      along s (m ∷ others) t h p = elim (w.follows s m h p.0) [
        | inl k ↦ along m others t k p.1
        | inr c ↦ absurd (omega (arith, none, c.1))
      ]
