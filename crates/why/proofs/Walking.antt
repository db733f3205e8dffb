-- A walk goes on until nothing is left to be told.
use Rattle.std.proofs.Common.{◌≡◌, ◌≢◌, ℕ, zero, suc, ◌+◌, ◌*◌, ◌≤◌, ◌<◌, ◌⊎◌, Bool, true, false, List, [], ◌∷◌, ◌++◌, length, refl, sym, ap, subst, ◌∙◌, inl, inr, arith}
use Rattle.std.proofs.Common.{IsTrue, Contains, Option, Some, None, Result, Ok, Err, append-nil, length-append, true≢false}
use Rattle.text.specs.declared.error.Memory.{Memory}
use Rattle.std.specs.Prelude.{IfOk, slice_index_or, slice_set}
use Rattle.std.specs.Option.{is_some, option_to_list}
use Rattle.std.proofs.Math.ListN.{length-set}
use Rattle.std.proofs.lemmas.Bool.{cases_lt}
use Rattle.std.proofs.lemmas.Option.{slice_get_within}
use Rattle.std.proofs.lemmas.List.Elements.{Contains-push_cases, Contains-append_left, Contains-push}
use Rattle.systems.specs.System.{System}
use Rattle.calculus.specs.Nodes.{Node}
use Rattle.game.specs.Game.{Game}
use Rattle.measures.proofs.Lists.{contains_cases, contains_first, contains_later, contains_none}
use Rattle.evidence.specs.Evidence.{Entry, Evidence, IsEvidence, IsGood, has}
use Rattle.evidence.specs.Witness.{Goes}
use Rattle.evidence.specs.declared.verdict.Fault.TheVariants.{Leaves}
use Rattle.witness.specs.Walk.{AreGoals, is_marked, unmarked_vertices}
use Rattle.witness.proofs.Setting.{one_fewer, set_adds}
use Rattle.why.specs.Telling.{Comes, GoesOnlyTo, IsOfKind, IsTelling, IsVisit, LeadsOn, WasTold, deeper, goes_on, way_to}
use Rattle.why.specs.Walk.{HasAdded, HasLetWait, HasTold, HasTwo, IsWalk, IsWalkBy, count_of, way_on}
use Rattle.why.specs.declared.visit.Continuation.{Continuation}
use Rattle.why.specs.declared.visit.Continuation.TheVariants.{On, Branch, Sink, Back, Told, Everywhere}
use Rattle.why.specs.declared.visit.Visit.{Visit}
use Rattle.why.specs.declared.visit.Way.{Way}
use Rattle.why.specs.declared.walk.Walk.{Walk}

-- ------------------------------------------------------------------ one visit more

pub at_more : (vs : List Visit) (x : Visit) (i : ℕ) (v : Visit) → IsVisit vs i v → IsVisit (vs ++ x ∷ []) i v
at_more [] x i v h = absurd cc
at_more (w ∷ vs) x zero v h = h
at_more (w ∷ vs) x (suc i) v h = at_more vs x i v h

pub at_last : (vs : List Visit) (x : Visit) → IsVisit (vs ++ x ∷ []) (length vs) x
at_last [] x = refl
at_last (w ∷ vs) x = at_last vs x

pub at_cases : (vs : List Visit) (x : Visit) (i : ℕ) (v : Visit) → IsVisit (vs ++ x ∷ []) i v → IsVisit vs i v ⊎ ((i ≡ length vs) × (x ≡ v))
at_cases [] x zero v h = inr (refl, cc)
at_cases [] x (suc i) v h = absurd cc
at_cases (w ∷ vs) x zero v h = inl h
at_cases (w ∷ vs) x (suc i) v h = elim (at_cases vs x i v h) [ inl k ↦ inl k | inr e ↦ inr (ap suc e.0, e.1) ]

pub at_below : (vs : List Visit) (i : ℕ) (v : Visit) → IsVisit vs i v → i < length vs
at_below vs i v h = slice_get_within vs i v h

-- a way that waits leads on to a later visit, too
pub leads_later : (g : Game) (e : Evidence) (i k l : ℕ) (v : Visit) (way : Way) → k ≤ l → v.kind ≡ Branch → LeadsOn g e i v k way → LeadsOn g e i v l way
leads_later g e i k l v way le is h = record {
  later = (let lt = h.later in omega arith);
  next = λ on. absurd cc;
  goes_on = h.goes_on;
  from = h.from;
  goes = h.goes;
  blanks = h.blanks;
}

pub comes_more : (g : Game) (e : Evidence) (root k : ℕ) (vs : List Visit) (x : Visit) (way : Way) → Comes g e root vs k way → Comes g e root (vs ++ x ∷ []) k way
comes_more g e root k vs x way (inl h) = inl h
comes_more g e root k vs x way (inr h) = inr (h.0, h.1, at_more vs x h.0 h.1 h.2, h.3)

pub kind_more : (lts : System) (ns : List Node) (g : Game) (e : Evidence) (k u : ℕ) (vs : List Visit) (x : Visit) (kind : Continuation) → IsOfKind lts ns g e vs k u kind → IsOfKind lts ns g e (vs ++ x ∷ []) k u kind
kind_more lts ns g e k u vs x On h = h
kind_more lts ns g e k u vs x Branch h = h
kind_more lts ns g e k u vs x Sink h = h
kind_more lts ns g e k u vs x (Back i) h = record {
  visit = h.visit;
  is = at_more vs x i h.visit h.is;
  vertex = h.vertex;
  earlier = h.earlier;
  run = λ j low high. (let r = h.run j low high in (r.0, at_more vs x j r.0 r.1, r.2));
}
kind_more lts ns g e k u vs x (Everywhere n) h = h
kind_more lts ns g e k u vs x Told h = record {
  number = h.number;
  visit = h.visit;
  is = at_more vs x h.number h.visit h.is;
  vertex = h.vertex;
  goes_on = h.goes_on;
  end = h.end;
  last = h.last;
  is_last = at_more vs x h.end h.last h.is_last;
  order = h.order;
  ended = h.ended;
}

-- ------------------------------------------------------------------ the evidence's vertices

-- the play stays in the evidence
pub goes_has : (g : Game) (e : Evidence) (u t : ℕ) → IsGood g e → Goes g e u t → IsTrue (has e t)
goes_has g e u t good go = good u Leaves go.0 go.1 go.2 go.3 t go.4

pub has_within : (g : Game) (e : Evidence) (u : ℕ) → IsEvidence g e → IsTrue (has e u) → u < length g.vertices
has_within g e u is h = subst (λ n. u < n) is.long (got e.entries u h)
  where
    got : (xs : List (Option Entry)) (k : ℕ) → IsTrue (is_some (slice_index_or xs k None)) → k < length xs
    got [] k h = absurd (true≢false (sym h))
    got (x ∷ xs) zero h = omega arith
    got (x ∷ xs) (suc k) h = let l = got xs k h in omega (arith, l)

-- ------------------------------------------------------------------ a visit is added

module _ (lts : System) (ns : List Node) (g : Game) (e : Evidence) (root : ℕ) (told : List Bool) (vs : List Visit) (start : ℕ) (waiting : List Way) (way : Way) (kind : Continuation)
    (is : IsWalk lts ns g e root told vs start waiting (Some way)) (right : IsOfKind lts ns g e vs (length vs) way.vertex kind) where
  abbrev visit : Visit
  visit = record { way = way; kind = kind }

  abbrev now : List Visit
  now = vs ++ visit ∷ []

  long : length now ≡ suc (length vs)
  long = let one = length-append vs (visit ∷ []) in omega (arith, one)

  -- the way leads on from the visit that is added
  abbrev Leads : Way → Type 0
  Leads w = LeadsOn g e (length vs) visit (suc (length vs)) w

  abbrev IsLed : List Way → Option Way → ℕ → ℕ → Visit → Type 0
  IsLed ways after t i v =
      IsTrue (goes_on v.kind) → Goes g e v.way.vertex t
      → (w : Way) × LeadsOn g e i v (length now) w × (w.vertex ≡ t) × ((after ≡ Some w) ⊎ (Contains ways w × (v.kind ≡ Branch)))

  pub walk_more : (marks : List Bool) (begin : ℕ) (ways : List Way) (after : Option Way) → length marks ≡ length told
      → ((u : ℕ) → IsTrue (is_marked marks u) → IsTrue (is_marked told u) ⊎ ((way.vertex ≡ u) × IsTrue (goes_on kind)))
      → ((j : ℕ) → begin ≤ j → j < length now → (v : Visit) × IsVisit now j v × (v.kind ≡ On))
      → (begin ≡ 0) ⊎ ((i : ℕ) × (v : Visit) × (begin ≡ suc i) × IsVisit now i v × (v.kind ≢ On))
      → ((w : Way) → after ≡ Some w → Leads w × IsTrue (has e w.vertex))
      → ((w : Way) → Contains ways w → Contains waiting w ⊎ ((kind ≡ Branch) × Leads w))
      → ((w : Way) → Contains waiting w → Contains ways w)
      → (IsTrue (goes_on kind) → (t : ℕ) → Goes g e way.vertex t
      → (w : Way) × Leads w × (w.vertex ≡ t) × ((after ≡ Some w) ⊎ (Contains ways w × (kind ≡ Branch))))
      → IsWalk lts ns g e root marks now begin ways after
  walk_more marks begin ways after same marked run ended next waits stays onward = record {
    long = same ∙ is.long;
    begins = inl (let l = long in omega (arith, l));
    comes = λ k v at. elim (at_cases vs visit k v at) [
      | inl old ↦ comes_more g e root k vs visit v.way (is.comes k v old)
      | inr new ↦ subst (λ n. Comes g e root now n v.way) (sym new.0)
          (subst (λ (w : Visit). Comes g e root now (length vs) w.way) new.1 (comes_more g e root (length vs) vs visit way (is.next way refl).0))
    ];
    kinds = λ k v at. elim (at_cases vs visit k v at) [
      | inl old ↦ kind_more lts ns g e k v.way.vertex vs visit v.kind (is.kinds k v old)
      | inr new ↦ subst (λ n. IsOfKind lts ns g e now n v.way.vertex v.kind) (sym new.0)
          (subst (λ (w : Visit). IsOfKind lts ns g e now (length vs) w.way.vertex w.kind) new.1 (kind_more lts ns g e (length vs) way.vertex vs visit kind right))
    ];
    told = λ u m. elim (marked u m) [
      | inl old ↦ (let t = is.told u old in (t.0, t.1, at_more vs visit t.0 t.1 t.2, t.3, t.4))
      | inr h ↦ (length vs, visit, at_last vs visit, h.0, h.1)
    ];
    run = run;
    ended = ended;
    next = λ w at. (let n = next w at in (inr (length vs, visit, at_last vs visit, subst (λ k. LeadsOn g e (length vs) visit k w) (sym long) n.0), n.1));
    waits = λ w c. elim (waits w c) [
      | inl old ↦ (let h = is.waits w old in let l = long in
          (h.0, h.1, at_more vs visit h.0 h.1 h.2, h.3, leads_later g e h.0 (length vs) (length now) h.1 w (omega (arith, l)) h.3 h.4))
      | inr h ↦ (length vs, visit, at_last vs visit, h.0, subst (λ k. LeadsOn g e (length vs) visit k w) (sym long) h.1)
    ];
    follows = λ i v t at on go. elim (at_cases vs visit i v at) [
      | inl old ↦ elim (is.follows i v t old on go) [
        | inl f ↦ inl (f.0, f.1, at_more vs visit f.0 f.1 f.2, f.3, f.4)
        | inr f ↦ elim f.3 [
          | inl same ↦ (let e_way : f.0 ≡ way = cc in
              inl (length vs, visit, at_last vs visit, subst (λ (w : Way). LeadsOn g e i v (length vs) w) e_way f.1, ap (λ (w : Way). w.vertex) (sym e_way) ∙ f.2))
          | inr c ↦ (let l = long in
              inr (f.0, leads_later g e i (length vs) (length now) v f.0 (omega (arith, l)) c.1 f.1, f.2, inr (stays f.0 c.0, c.1)))
        ]
      ]
      | inr new ↦ inr (subst (λ n. IsLed ways after t n v) (sym new.0) (subst (λ (w : Visit). IsLed ways after t (length vs) w) new.1
          (λ yes goes. let o = onward yes t goes in (o.0, subst (λ k. LeadsOn g e (length vs) visit k o.0) (sym long) o.1, o.2, o.3))) on go)
    ];
  }

-- it ends its run
pub walk_ends_run : (lts : System) (ns : List Node) (g : Game) (e : Evidence) (root : ℕ) (told : List Bool) (vs : List Visit) (start : ℕ) (waiting : List Way) (way : Way) (kind : Continuation)
    → goes_on kind ≡ false → IsWalk lts ns g e root told vs start waiting (Some way) → IsOfKind lts ns g e vs (length vs) way.vertex kind
    → IsWalk lts ns g e root told (vs ++ record { way = way; kind = kind } ∷ []) (length vs + 1) waiting None
walk_ends_run lts ns g e root told vs start waiting way kind ends is right =
    walk_more lts ns g e root told vs start waiting way kind is right told (length vs + 1) waiting None refl (λ u m. inl m)
    (λ j low high. let l = length-append vs (record { way = way; kind = kind } ∷ []) in absurd (omega (arith, l, low, high)))
    (inr (length vs, record { way = way; kind = kind }, omega arith, at_last vs _, λ on. true≢false (sym (ap goes_on on) ∙ ends)))
    (λ w none. absurd cc) (λ w c. inl c) (λ w c. c) (λ yes. absurd (true≢false (sym yes ∙ ends)))

-- the play has one way on
pub walk_goes_on : (lts : System) (ns : List Node) (g : Game) (e : Evidence) (root : ℕ) (told : List Bool) (vs : List Visit) (start : ℕ) (waiting : List Way) (way : Way) (t : ℕ)
    → IsGood g e → IsWalk lts ns g e root told vs start waiting (Some way) → 2 ≤ t → GoesOnlyTo g e way.vertex t
    → IsWalk lts ns g e root (slice_set told way.vertex true) (vs ++ record { way = way; kind = On } ∷ []) start waiting (Some (way_on way way.blanks t))
walk_goes_on lts ns g e root told vs start waiting way t good is high goes =
    walk_more lts ns g e root told vs start waiting way On is (t, high, goes) (slice_set told way.vertex true) start waiting (Some (way_on way way.blanks t))
    (length-set told way.vertex true)
    (λ u m. elim (set_adds told way.vertex u m) [ inl old ↦ inl old | inr e ↦ inr (e, refl) ])
    (λ j low below. elim (cases_lt j (length vs)) [
      | inl less ↦ (let r = is.run j low less in (r.0, at_more vs _ j r.0 r.1, r.2))
      | inr more ↦ (let l = length-append vs (new ∷ []) in let same : length vs ≡ j = omega (arith, l, below, more) in
          (new, subst (λ n. IsVisit (vs ++ new ∷ []) n new) same (at_last vs new), refl))
    ])
    (elim is.ended [ inl none ↦ inl none | inr h ↦ inr (h.0, h.1, h.2, at_more vs _ h.0 h.1 h.3, h.4) ])
    (λ w same. let e_way : way_on way way.blanks t ≡ w = cc in subst (λ (x : Way). LeadsOn g e (length vs) new (suc (length vs)) x × IsTrue (has e x.vertex))
    e_way (lead, goes_has g e way.vertex t good goes.0))
    (λ w c. inl c) (λ w c. c)
    (λ yes s go. (way_on way way.blanks t, lead, goes.1 t s goes.0 go, inl refl))
  where
    new : Visit
    new = record { way = way; kind = On }

    lead : LeadsOn g e (length vs) new (suc (length vs)) (way_on way way.blanks t)
    lead = record { later = omega arith; next = λ _. refl; goes_on = refl; from = refl; goes = goes.0; blanks = refl }

-- the play has several
pub walk_branches : (lts : System) (ns : List Node) (g : Game) (e : Evidence) (root : ℕ) (told : List Bool) (vs : List Visit) (start : ℕ) (waiting ways : List Way) (way : Way) (ts : List ℕ)
    → IsWalk lts ns g e root told vs start waiting (Some way) → AreGoals g e way.vertex ts → HasTwo ts → HasLetWait way ts waiting ways
    → IsWalk lts ns g e root (slice_set told way.vertex true) (vs ++ record { way = way; kind = Branch } ∷ []) (length vs + 1) ways None
walk_branches lts ns g e root told vs start waiting ways way ts is goals two w =
    walk_more lts ns g e root told vs start waiting way Branch is (two.0, two.1, two.2, (goals two.0).1 two.3, (goals two.1).1 two.4)
    (slice_set told way.vertex true) (length vs + 1) ways None (length-set told way.vertex true)
    (λ u m. elim (set_adds told way.vertex u m) [ inl old ↦ inl old | inr e ↦ inr (e, refl) ])
    (λ j low high. let l = length-append vs (new ∷ []) in absurd (omega (arith, l, low, high)))
    (inr (length vs, new, omega arith, at_last vs new, λ on. absurd cc))
    (λ x none. absurd cc)
    (λ x c. elim (w.only x c) [
      | inl old ↦ inl old
      | inr h ↦ inr (refl, subst (λ (y : Way). LeadsOn g e (length vs) new (suc (length vs)) y) (sym h.1) (lead h.0 ((goals h.0).1 h.2)))
    ])
    w.stays
    (λ yes t go. (way_on way (deeper way.blanks) t, lead t go, refl, inr (w.all t ((goals t).0 go), refl)))
  where
    new : Visit
    new = record { way = way; kind = Branch }

    lead : (t : ℕ) → Goes g e way.vertex t → LeadsOn g e (length vs) new (suc (length vs)) (way_on way (deeper way.blanks) t)
    lead t go = record { later = omega arith; next = λ on. absurd cc; goes_on = refl; from = refl; goes = go; blanks = refl }

-- what waited last is next
pub walk_pops : (lts : System) (ns : List Node) (g : Game) (e : Evidence) (root : ℕ) (told : List Bool) (vs : List Visit) (start : ℕ) (waiting : List Way) (way : Way) → IsGood g e
    → IsWalk lts ns g e root told vs start (waiting ++ way ∷ []) None → IsWalk lts ns g e root told vs start waiting (Some way)
walk_pops lts ns g e root told vs start waiting way good is = record {
  long = is.long;
  begins = inr (way, refl);
  comes = is.comes;
  kinds = is.kinds;
  told = is.told;
  run = is.run;
  ended = is.ended;
  next = λ w same. (let e_way : way ≡ w = cc in
      subst (λ (x : Way). Comes g e root vs (length vs) x × IsTrue (has e x.vertex)) e_way
      (let h = is.waits way (Contains-push waiting way) in (inr (h.0, h.1, h.2, h.4), goes_has g e h.1.way.vertex way.vertex good h.4.goes)));
  waits = λ w c. is.waits w (Contains-append_left waiting (way ∷ []) w c);
  follows = λ i v t at on go. elim (is.follows i v t at on go) [
    | inl f ↦ inl f
    | inr f ↦ elim f.3 [
      | inl none ↦ absurd cc
      | inr c ↦ elim (Contains-push_cases waiting way f.0 c.0) [
        | inl old ↦ inr (f.0, f.1, f.2, inr (old, c.1))
        | inr same ↦ inr (f.0, f.1, f.2, inl (ap Some same))
      ]
    ]
  ];
}

-- the root is next
pub walk_begins : (lts : System) (ns : List Node) (g : Game) (e : Evidence) (root : ℕ) (told : List Bool) → length told ≡ length g.vertices → ((u : ℕ) → IsTrue (is_marked told u) → ⊥)
    → IsTrue (has e root) → IsWalk lts ns g e root told [] 0 [] (Some (way_to root))
walk_begins lts ns g e root told long none there = record {
  long = long;
  begins = inr (way_to root, refl);
  comes = λ k v at. absurd (no_visit k v at);
  kinds = λ k v at. absurd (no_visit k v at);
  told = λ u m. absurd (none u m);
  run = λ j low high. absurd (omega arith);
  ended = inl refl;
  next = λ w same. (let e_way : way_to root ≡ w = cc in
      subst (λ (x : Way). Comes g e root [] 0 x × IsTrue (has e x.vertex)) e_way (inl (refl, refl), there));
  waits = λ w c. absurd (contains_none w c);
  follows = λ i v t at on go. absurd (no_visit i v at);
}
  where
    no_visit : (k : ℕ) (v : Visit) → IsVisit [] k v → ⊥
    no_visit k v at = cc

first_visit : (xs : List Visit) → 0 < length xs → (v : Visit) × IsVisit xs 0 v
first_visit [] h = absurd (omega arith)
first_visit (v ∷ xs) h = (v, refl)

-- nothing is next or waits
pub walk_ends : (lts : System) (ns : List Node) (g : Game) (e : Evidence) (root most : ℕ) (told : List Bool) (vs : List Visit) (start : ℕ) (waiting : List Way) → length waiting ≡ 0
    → IsWalk lts ns g e root told vs start waiting None → IsTelling lts ns g e root most vs
walk_ends lts ns g e root most told vs start waiting none is = record {
  begins = elim is.begins [ inl some ↦ first_visit vs some | inr h ↦ absurd (no_way h.0 h.1) ];
  comes = is.comes;
  kinds = is.kinds;
  follows = λ few i v t at on go. elim (is.follows i v t at on go) [
    | inl f ↦ f
    | inr f ↦ elim f.3 [ inl h ↦ absurd (no_way f.0 h) | inr c ↦ (let some = c.0.1 in absurd (omega (arith, none, some))) ]
  ];
}
  where
    no_way : (w : Way) → ◌≡◌ {A = Option Way} None (Some w) → ⊥
    no_way w h = cc

-- there are so many visits
pub walk_stops : (lts : System) (ns : List Node) (g : Game) (e : Evidence) (root most : ℕ) (told : List Bool) (vs : List Visit) (start : ℕ) (waiting : List Way) (next : Option Way) → 0 < most
    → most ≤ length vs → IsWalk lts ns g e root told vs start waiting next → IsTelling lts ns g e root most vs
walk_stops lts ns g e root most told vs start waiting next some many is = record {
  begins = first_visit vs (omega arith);
  comes = is.comes;
  kinds = is.kinds;
  follows = λ few. absurd (omega (arith, few, many));
}

-- ------------------------------------------------------------------ a way is told

by_added : (lts : System) (ns : List Node) (g : Game) (e : Evidence) (root : ℕ) (way : Way) (kind : Continuation) (old new : Walk) (marks : List Bool) (begin : ℕ) (after : Option Way)
    → HasAdded way kind old new marks begin
    → IsWalk lts ns g e root marks (old.visits.items ++ record { way = way; kind = kind } ∷ []) begin new.waiting.items after → IsWalkBy lts ns g e root new after
by_added lts ns g e root way kind old new marks begin after is h =
    subst (λ ms. IsWalk lts ns g e root ms new.visits.items new.start new.waiting.items after) (sym is.told)
    (subst (λ vs. IsWalk lts ns g e root marks vs new.start new.waiting.items after) (sym is.visits)
    (subst (λ n. IsWalk lts ns g e root marks (old.visits.items ++ record { way = way; kind = kind } ∷ []) n new.waiting.items after) (sym is.start) h))

pub told_end : (lts : System) (ns : List Node) (g : Game) (e : Evidence) (way : Way) (kind : Continuation) (old new : Walk) (r : Result (Option Way) Memory) → goes_on kind ≡ false
    → ((root : ℕ) → IsWalkBy lts ns g e root old (Some way) → IsOfKind lts ns g e old.visits.items (length old.visits.items) way.vertex kind)
    → IfOk r (λ next. next ≡ None) → IfOk r (λ _. HasAdded way kind old new old.told.items (length old.visits.items + 1))
    → IfOk r (λ _. new.waiting.items ≡ old.waiting.items) → IfOk r (HasTold lts ns g e way old new)
told_end lts ns g e way kind old new (Err x) ends right none added waiting = tt
told_end lts ns g e way kind old new (Ok next) ends right none added waiting = record {
  walk = λ root is. subst (λ o. IsWalkBy lts ns g e root new o) (sym none) (by_added lts ns g e root way kind old new old.told.items (length old.visits.items + 1) None added
      (subst (λ ws. IsWalk lts ns g e root old.told.items (old.visits.items ++ record { way = way; kind = kind } ∷ []) (length old.visits.items + 1) ws None) (sym waiting)
      (walk_ends_run lts ns g e root old.told.items old.visits.items old.start old.waiting.items way kind ends is (right root is))));
  falls = (let m = ap unmarked_vertices added.told in let w = ap length waiting in let n = ap count_of none in
      let same : unmarked_vertices new.told.items * suc (length g.vertices) ≡ unmarked_vertices old.told.items * suc (length g.vertices)
      = ap (λ k. k * suc (length g.vertices)) m in
      omega (arith, same, w, n));
}

-- one vertex fewer is left
fewer : (told : List Bool) (u n : ℕ) → u < length told → is_marked told u ≡ false
    → unmarked_vertices (slice_set told u true) * suc n + suc n ≡ unmarked_vertices told * suc n
fewer told u n lt new = let one = one_fewer told u lt new in
    let more : unmarked_vertices told * suc n ≡ suc (unmarked_vertices (slice_set told u true)) * suc n = ap (λ k. k * suc n) (sym one) in
    grind (arith, more)

pub told_on : (lts : System) (ns : List Node) (g : Game) (e : Evidence) (way : Way) (t : ℕ) (old new : Walk) (r : Result (Option Way) Memory) → IsGood g e → 2 ≤ t → GoesOnlyTo g e way.vertex t
    → way.vertex < length old.told.items → is_marked old.told.items way.vertex ≡ false
    → IfOk r (λ next. next ≡ Some (way_on way way.blanks t))
    → IfOk r (λ _. HasAdded way On old new (slice_set old.told.items way.vertex true) old.start)
    → IfOk r (λ _. new.waiting.items ≡ old.waiting.items) → IfOk r (HasTold lts ns g e way old new)
told_on lts ns g e way t old new (Err x) good high goes within fresh is added waiting = tt
told_on lts ns g e way t old new (Ok next) good high goes within fresh is added waiting =
    let marks = slice_set old.told.items way.vertex true in
    record {
      walk = λ root w. subst (λ o. IsWalkBy lts ns g e root new o) (sym is) (by_added lts ns g e root way On old new marks old.start (Some (way_on way way.blanks t)) added
          (subst (λ ws. IsWalk lts ns g e root marks (old.visits.items ++ record { way = way; kind = On } ∷ []) old.start ws (Some (way_on way way.blanks t))) (sym waiting)
          (walk_goes_on lts ns g e root old.told.items old.visits.items old.start old.waiting.items way t good w high goes)));
      falls = (let w = ap length waiting in let n = ap count_of is in
          let same : unmarked_vertices new.told.items * suc (length g.vertices) ≡ unmarked_vertices marks * suc (length g.vertices)
          = ap (λ ms. unmarked_vertices ms * suc (length g.vertices)) added.told in
          let less = fewer old.told.items way.vertex (length g.vertices) within fresh in
          omega (arith, same, w, n, less));
    }

pub told_branch : (lts : System) (ns : List Node) (g : Game) (e : Evidence) (way : Way) (ts : List ℕ) (old new : Walk) (r : Result (Option Way) Memory) → AreGoals g e way.vertex ts → HasTwo ts
    → length ts ≤ length g.vertices → way.vertex < length old.told.items → is_marked old.told.items way.vertex ≡ false → IfOk r (λ next. next ≡ None)
    → IfOk r (λ _. HasAdded way Branch old new (slice_set old.told.items way.vertex true) (length old.visits.items + 1))
    → IfOk r (λ _. HasLetWait way ts old.waiting.items new.waiting.items) → IfOk r (HasTold lts ns g e way old new)
told_branch lts ns g e way ts old new (Err x) goals two few within fresh is added waiting = tt
told_branch lts ns g e way ts old new (Ok next) goals two few within fresh is added waiting =
    let marks = slice_set old.told.items way.vertex true in
    record {
      walk = λ root w. subst (λ o. IsWalkBy lts ns g e root new o) (sym is) (by_added lts ns g e root way Branch old new marks (length old.visits.items + 1) None added
          (walk_branches lts ns g e root old.told.items old.visits.items old.start old.waiting.items new.waiting.items way ts w goals two waiting));
      falls = (let w = waiting.long in let n = ap count_of is in
          let same : unmarked_vertices new.told.items * suc (length g.vertices) ≡ unmarked_vertices marks * suc (length g.vertices)
          = ap (λ ms. unmarked_vertices ms * suc (length g.vertices)) added.told in
          let less = fewer old.told.items way.vertex (length g.vertices) within fresh in
          omega (arith, same, w, n, less, few));
    }

-- one more waits
pub wait_more : (from : Way) (x : ℕ) (ts : List ℕ) (old ways : List Way) → HasLetWait from ts old ways
    → HasLetWait from (x ∷ ts) old (ways ++ way_on from (deeper from.blanks) x ∷ [])
wait_more from x ts old ways h = record {
  stays = λ w c. Contains-append_left ways _ w (h.stays w c);
  all = λ t c. elim (contains_cases x t ts c) [
    | inl same ↦ subst (λ z. Contains (ways ++ on x ∷ []) (on z)) same (Contains-push ways (on x))
    | inr c ↦ Contains-append_left ways (on x ∷ []) (on t) (h.all t c)
  ];
  only = λ w c. elim (Contains-push_cases ways (on x) w c) [
    | inl k ↦ elim (h.only w k) [ inl old ↦ inl old | inr o ↦ inr (o.0, o.1, contains_later x o.0 ts o.2) ]
    | inr same ↦ inr (x, sym same, contains_first x ts)
  ];
  long = (let l = length-append ways (on x ∷ []) in let k = h.long in omega (arith, l, k));
}
  where
    on : ℕ → Way
    on t = way_on from (deeper from.blanks) t

-- the vertex was told of in another run
pub met_told : (lts : System) (ns : List Node) (g : Game) (e : Evidence) (root : ℕ) (w : Walk) (next : Option Way) (u : ℕ) → IsWalkBy lts ns g e root w next → IsTrue (is_marked w.told.items u)
    → ((j : ℕ) (v : Visit) → w.start ≤ j → j < length w.visits.items → IsVisit w.visits.items j v → v.way.vertex ≢ u)
    → WasTold w.visits.items (length w.visits.items) u
met_told lts ns g e root w next u is marked none =
    let t = is.told u marked in
    let below = at_below w.visits.items t.0 t.1 t.2 in
    elim (cases_lt t.0 w.start) [
      | inl less ↦ elim is.ended [
        | inl begins ↦ absurd (omega (arith, begins, less))
        | inr h ↦ (let last = at_below w.visits.items h.0 h.1 h.3 in let order = h.2 in record {
          number = t.0;
          visit = t.1;
          is = t.2;
          vertex = t.3;
          goes_on = t.4;
          end = h.0;
          last = h.1;
          is_last = h.3;
          order = (omega (arith, less, order), last);
          ended = h.4;
        })
      ]
      | inr more ↦ absurd (none t.0 t.1 more below t.2 t.3)
    ]

-- what waited last is told of next
pub told_pop : (lts : System) (ns : List Node) (g : Game) (e : Evidence) (way : Way) (old mid new : Walk) (o : Option Way) → IsGood g e → new.told.items ≡ mid.told.items
    → new.visits.items ≡ mid.visits.items → new.start ≡ mid.start → mid.waiting.items ≡ new.waiting.items ++ option_to_list o → HasTold lts ns g e way old mid None
    → HasTold lts ns g e way old new o
told_pop lts ns g e way old mid new o good told visits start is h = by o is
  where
    n : ℕ
    n = length g.vertices

    marks : unmarked_vertices new.told.items * suc n ≡ unmarked_vertices mid.told.items * suc n
    marks = ap (λ ms. unmarked_vertices ms * suc n) told

    same : (root : ℕ) (ws : List Way) (o : Option Way) → IsWalk lts ns g e root mid.told.items mid.visits.items mid.start ws o
        → IsWalk lts ns g e root new.told.items new.visits.items new.start ws o
    same root ws o w = subst (λ ms. IsWalk lts ns g e root ms new.visits.items new.start ws o) (sym told)
        (subst (λ vs. IsWalk lts ns g e root mid.told.items vs new.start ws o) (sym visits)
        (subst (λ b. IsWalk lts ns g e root mid.told.items mid.visits.items b ws o) (sym start) w))

    by : (o : Option Way) → mid.waiting.items ≡ new.waiting.items ++ option_to_list o → HasTold lts ns g e way old new o
    by None is = record {
      walk = λ root w. same root new.waiting.items None (subst (λ ws. IsWalk lts ns g e root mid.told.items mid.visits.items mid.start ws None) (is ∙ append-nil new.waiting.items)
          (h.walk root w));
      falls = (let f = h.falls in let l = ap length is in let one = length-append new.waiting.items [] in omega (arith, f, l, one, marks));
    }
    by (Some w) is = record {
      walk = λ root all. same root new.waiting.items (Some w) (walk_pops lts ns g e root mid.told.items mid.visits.items mid.start new.waiting.items w good
          (subst (λ ws. IsWalk lts ns g e root mid.told.items mid.visits.items mid.start ws None) is (h.walk root all)));
      falls = (let f = h.falls in let l = ap length is in let one = length-append new.waiting.items (w ∷ []) in omega (arith, f, l, one, marks));
    }
