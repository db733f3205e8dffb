-- What workers noted, and what they owe.
use Rattle.std.proofs.Common.{◌≡◌, ℕ, zero, suc, ◌⊎◌, Bool, true, false, cond, List, [], ◌∷◌, length, map, replicate, refl, sym, ◌∙◌, ap, ap₂, subst, inl}
use Rattle.std.proofs.Common.{inr, true≢false, Contains, Option, Some, None, option_map}
use Rattle.std.specs.Prelude.{slice_get, unwrap_or, find, nat_lt, if◌then◌else◌, ◌==◌}
use Rattle.std.specs.List.{AllZip, list_all, list_any, range_with_len}
use Rattle.std.proofs.Common.{arith}
use Rattle.std.proofs.lemmas.Option.{none-some, same_Some, slice_get_within}
use Rattle.game.specs.Game.{Game, Vertex, vertex}
use Rattle.measures.specs.Measure.{Measure}
use Rattle.measures.proofs.Lists.{contains_first, contains_later, contains_none}
use Rattle.liftcore.specs.Core.{with_note, Note, Worker, Idle, Holding, Owing, is_idle, noted, owing}
use Rattle.game.specs.Predecessors.{predecessors, successors_at}
use Rattle.liftcore.proofs.Sets.{and_both, eqb_same, gives_filter, gives_range}

-- what was noted of a vertex, or else this
abbrev pub noted_or : List Note → (ℕ → Measure) → ℕ → Measure
noted_or notes f t = unwrap_or (noted notes t) (f t)

pub zip_noted : (notes : List Note) (f : ℕ → Measure) (ts : List ℕ) (values : List Measure) → AllZip (λ t m. noted notes t ≡ Some m) ts values
    → values ≡ map (noted_or notes f) ts
zip_noted notes f [] [] h = refl
zip_noted notes f [] (m ∷ ms) h = absurd h
zip_noted notes f (t ∷ ts) [] h = absurd h
zip_noted notes f (t ∷ ts) (m ∷ ms) h = ap₂ (λ y ys. y ∷ ys) (ap (λ o. unwrap_or o (f t)) (sym h.0)) (zip_noted notes f ts ms h.1)

pub zip_fresh : (notes : List Note) (f : ℕ → Measure) (ts : List ℕ) (values : List Measure)
    → ((t : ℕ) (m : Measure) → Contains ts t → noted notes t ≡ Some m → m ≡ f t)
    → AllZip (λ t m. noted notes t ≡ Some m) ts values → values ≡ map f ts
zip_fresh notes f [] [] same h = refl
zip_fresh notes f [] (m ∷ ms) same h = absurd h
zip_fresh notes f (t ∷ ts) [] same h = absurd h
zip_fresh notes f (t ∷ ts) (m ∷ ms) same h = ap₂ (λ y ys. y ∷ ys) (same t m (contains_first t ts) h.0)
    (zip_fresh notes f ts ms (λ s n c e. same s n (contains_later t s ts c) e) h.1)

-- one note more
pub noted_more : (x : Note) (notes : List Note) (t : ℕ) (m : Measure) → noted (with_note x notes) t ≡ Some m → (noted notes t ≡ Some m)
    ⊎ ((x.vertex ≡ t) × (x.value ≡ m))
noted_more x [] t m e = by (x.vertex == t) (eqb_same x.vertex t) e
  where
    by : (b : Bool) → (b ≡ true → x.vertex ≡ t) → option_map (λ (z : Note). z.value) (cond {A = Option Note} b (Some x) None) ≡ Some m → (None ≡ Some m)
        ⊎ ((x.vertex ≡ t) × (x.value ≡ m))
    by true f h = inr (f refl, same_Some x.value m h)
    by false f h = inl h
noted_more x (y ∷ ys) t m e = by (nat_lt x.vertex y.vertex) (noted_more x ys t m) e
  where
    first : (b : Bool) → (b ≡ true → x.vertex ≡ t) → option_map (λ (z : Note). z.value) (cond b (Some x) (find (λ z. z.vertex == t) (y ∷ ys))) ≡ Some m
        → (noted (y ∷ ys) t ≡ Some m) ⊎ ((x.vertex ≡ t) × (x.value ≡ m))
    first true f h = inr (f refl, same_Some x.value m h)
    first false f h = inl h

    later : (b : Bool) → (noted (with_note x ys) t ≡ Some m → (noted ys t ≡ Some m) ⊎ ((x.vertex ≡ t) × (x.value ≡ m)))
        → option_map (λ (z : Note). z.value) (cond b (Some y) (find (λ z. z.vertex == t) (with_note x ys))) ≡ Some m
        → (option_map (λ (z : Note). z.value) (cond b (Some y) (find (λ z. z.vertex == t) ys)) ≡ Some m) ⊎ ((x.vertex ≡ t) × (x.value ≡ m))
    later true r h = inl h
    later false r h = r h

    by : (b : Bool) → (noted (with_note x ys) t ≡ Some m → (noted ys t ≡ Some m) ⊎ ((x.vertex ≡ t) × (x.value ≡ m)))
        → noted (if b then x ∷ y ∷ ys else y ∷ with_note x ys) t ≡ Some m → (noted (y ∷ ys) t ≡ Some m) ⊎ ((x.vertex ≡ t) × (x.value ≡ m))
    by true r h = first (x.vertex == t) (eqb_same x.vertex t) h
    by false r h = later (y.vertex == t) r h

pub owing_has : (xs : List ℕ) (y : ℕ) → Contains xs y → owing xs ≡ Owing xs
owing_has [] y h = absurd (contains_none y h)
owing_has (x ∷ xs) y h = refl

abbrev is_holding : Worker → Bool
is_holding Idle = false
is_holding (Holding u notes) = true
is_holding (Owing owed) = false

pub idle_holds : (u : ℕ) (notes : List Note) → Idle ≡ Holding u notes → ⊥
idle_holds u notes e = true≢false (ap is_idle e)

pub idle_owes : (owed : List ℕ) → Idle ≡ Owing owed → ⊥
idle_owes owed e = true≢false (ap is_idle e)

pub holds_owes : (u : ℕ) (notes : List Note) (owed : List ℕ) → Holding u notes ≡ Owing owed → ⊥
holds_owes u notes owed e = true≢false (ap is_holding e)

pub owing_holds : (owed : List ℕ) (u : ℕ) (notes : List Note) → owing owed ≡ Holding u notes → ⊥
owing_holds [] u notes e = idle_holds u notes e
owing_holds (x ∷ xs) u notes e = holds_owes u notes (x ∷ xs) (sym e)

abbrev held_of : Worker → ℕ
held_of Idle = 0
held_of (Holding u notes) = u
held_of (Owing owed) = 0

abbrev notes_of : Worker → List Note
notes_of Idle = []
notes_of (Holding u notes) = notes
notes_of (Owing owed) = []

abbrev owed_of : Worker → List ℕ
owed_of Idle = []
owed_of (Holding u notes) = []
owed_of (Owing owed) = owed

pub holds_same : (u v : ℕ) (notes others : List Note) → Holding u notes ≡ Holding v others → (u ≡ v) × (notes ≡ others)
holds_same u v notes others e = (ap held_of e, ap notes_of e)

pub owes_same : (a b : List ℕ) → Owing a ≡ Owing b → a ≡ b
owes_same a b e = ap owed_of e

pub all_idle : (workers : List Worker) (k : ℕ) (x : Worker) → list_all is_idle workers ≡ true → slice_get workers k ≡ Some x → is_idle x ≡ true
all_idle [] k x h e = absurd (none-some x e)
all_idle (y ∷ ys) zero x h e = ap is_idle (sym (same_Some y x e)) ∙ (and_both (is_idle y) (list_all is_idle ys) h).0
all_idle (y ∷ ys) (suc k) x h e = all_idle ys k x (and_both (is_idle y) (list_all is_idle ys) h).1 e

pub start_idle : (n k : ℕ) (x : Worker) → slice_get (replicate n Idle) k ≡ Some x → Idle ≡ x
start_idle zero k x e = absurd (none-some x e)
start_idle (suc n) zero x e = same_Some Idle x e
start_idle (suc n) (suc k) x e = start_idle n k x e

pub in_predecessors : (g : Game) (y u : ℕ) (x : Vertex) → vertex g y ≡ Some x → list_any (λ t. t == u) x.successors ≡ true → Contains (predecessors g u) y
unfolding predecessors
in_predecessors g y u x at h =
    let l = slice_get_within g.vertices y x at in
    gives_filter (λ v. list_any (λ t. t == u) (successors_at (vertex g v))) (range_with_len 0 (length g.vertices)) y
    (gives_range 0 (length g.vertices) y (omega arith) (omega (arith, l)))
    (subst (λ o. list_any (λ t. t == u) (successors_at o) ≡ true) (sym at) h)
