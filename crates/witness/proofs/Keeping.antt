-- The transitions that are kept.
use Rattle.std.proofs.Common.{◌≡◌, ℕ, ◌+◌, ◌<◌, Bool, true, false, List, [], ◌∷◌, ◌++◌, Some, Vec, length, map, filter, take, get_or, cond, sym, ap, subst}
use Rattle.std.proofs.Common.{◌∙◌, inl, inr, arith, append-nil, true≢false}
use Rattle.std.specs.Prelude.{option_map, slice_get}
use Rattle.std.specs.Global.{Global}
use Rattle.std.proofs.Math.Seq.{take-length}
use Rattle.std.proofs.lemmas.List.{get_or-map}
use Rattle.std.proofs.lemmas.List.Elements.{filter_more}
use Rattle.std.proofs.lemmas.Nat.{mul-add-lt}
use Rattle.std.specs.List.{AllByRecursion, list_any, range_with_len}
use Rattle.systems.specs.System.{Arrow}
use Rattle.systems.specs.Numbered.{Numbered, arrow_of, system_with}
use Rattle.systems.specs.declared.system.Transition.{Transition}
use Rattle.systems.proofs.Rows.{filter-map}
use Rattle.calculus.specs.Nodes.{Node}
use Rattle.game.specs.Arena.{place, place_in}
use Rattle.game.specs.Game.{Game, IsNamed}
use Rattle.calculus.specs.Taken.{AreSets, IsSetFor}
use Rattle.laws.proofs.Flags.{cases}
use Rattle.laws.proofs.Lists.{any_gives, gives_any, gives_range, range_gives}
use Rattle.laws.proofs.Vertices.{node_in}
use Rattle.evidence.specs.Evidence.{Evidence}
use Rattle.evidence.specs.Witness.{is_taken, is_taken_at, filtered_system}

-- what holds of all transitions holds of those that are kept
pub kept_inside : (P : Transition → Type 0) (p : Transition → Bool) (ts : List Transition) → AllByRecursion P ts → AllByRecursion P (filter p ts)
kept_inside P p [] h = tt
kept_inside P p (t ∷ ts) h = elim (cases (p t)) [ inl e ↦ rw e (h.0, kept_inside P p ts h.1) | inr e ↦ rw e (kept_inside P p ts h.1) ]

-- the system with those that pass
pub kept_system : (l : Numbered) (p : Arrow → Bool) (ts part : List Transition) → map (arrow_of l.labels) ts ≡ l.system.arrows
    → part ≡ filter (λ t. p (arrow_of l.labels t)) ts
    → system_with l part ≡ filtered_system p l.system
kept_system l p ts part arrows is =
    let same : map (arrow_of l.labels) part ≡ filter p l.system.arrows = ap (map (arrow_of l.labels)) is
    ∙ (sym (filter-map p (arrow_of l.labels) ts) ∙ ap (filter p) arrows) in
    λ j. record { states = l.system.states; initial = l.system.initial; arrows = same j }

-- no number passes
pub none_pass : (p : ℕ → Bool) (n : ℕ) → ((k : ℕ) → k < n → p k ≡ false) → list_any p (range_with_len 0 n) ≡ false
none_pass p n none = elim (cases (list_any p (range_with_len 0 n))) [
  | inl e ↦ (let w = any_gives p (range_with_len 0 n) e in absurd (true≢false (sym w.2 ∙ none w.0 (omega (arith, range_gives 0 n w.0 w.1)))))
  | inr e ↦ e
]

-- one passes
pub one_passes : (p : ℕ → Bool) (n k : ℕ) → k < n → p k ≡ true → list_any p (range_with_len 0 n) ≡ true
one_passes p n k h e = gives_any p (range_with_len 0 n) k (gives_range 0 n k (omega arith) (omega arith)) e

-- ------------------------------------------------------------------ a loop over transitions

-- one more that passes, and one that doesn't
pub kept_one : (p : Transition → Bool) (ts part new : List Transition) (i : ℕ) (d : Transition) → i < length ts → part ≡ filter p (take i ts)
    → p (get_or ts i d) ≡ true → new ≡ part ++ get_or ts i d ∷ [] → new ≡ filter p (take (i + 1) ts)
kept_one p ts part new i d h is passes e =
    e ∙ (ap (λ xs. xs ++ get_or ts i d ∷ []) is ∙ (ap (λ b. filter p (take i ts) ++ cond b (get_or ts i d ∷ []) []) (sym passes)
    ∙ sym (filter_more p ts i d h)))

pub kept_none : (p : Transition → Bool) (ts part new : List Transition) (i : ℕ) (d : Transition) → i < length ts → part ≡ filter p (take i ts)
    → p (get_or ts i d) ≡ false → new ≡ part → new ≡ filter p (take (i + 1) ts)
kept_none p ts part new i d h is fails e =
    e ∙ (is ∙ (sym (append-nil (filter p (take i ts))) ∙ (ap (λ b. filter p (take i ts) ++ cond b (get_or ts i d ∷ []) []) (sym fails)
    ∙ sym (filter_more p ts i d h))))

-- past the last one
pub kept_all : (p : Transition → Bool) (ts part : List Transition) (i : ℕ) → i ≡ length ts → part ≡ filter p (take i ts) → part ≡ filter p ts
kept_all p ts part i done is = is ∙ (ap (λ k. filter p (take k ts)) done ∙ ap (filter p) (take-length ts))

-- ------------------------------------------------------------------ the play at a node

-- where it says so of the node, it says so of its number
pub taken_told : (nodes : List Node) (e : Evidence) (set : ℕ → Bool) (arrow : Arrow) (k : ℕ) (b : Bool) → k < length nodes
    → ((node : Node) → slice_get nodes k ≡ Some node → b ≡ is_taken (length nodes) e set arrow k node.shape)
    → is_taken_at (length nodes) e set arrow k (slice_get nodes k) ≡ b
taken_told nodes e set arrow k b h told =
    let node = node_in nodes k h in ap (is_taken_at (length nodes) e set arrow k) node.1 ∙ sym (told node.0 node.1)

-- the set of a node's labels
pub set_told : (labels : List (List ℕ)) (nodes : List Node) (sets : List (Vec Bool Global)) (k : ℕ) (v : Vec Bool Global) (set : List Bool)
    → AreSets labels nodes (map (λ s. s.items) sets)
    → k < length sets → v ≡ get_or sets k v → set ≡ v.items → (node : Node) → slice_get nodes k ≡ Some node → IsSetFor labels node.shape set
set_told labels nodes sets k v set are h is same node at =
    subst (IsSetFor labels node.shape) (get_or-map (λ (s : Vec Bool Global). s.items) sets k v [] h
    ∙ (ap (λ (s : Vec Bool Global). s.items) (sym is) ∙ sym same)) (are k node at)

-- ------------------------------------------------------------------ places

-- the vertex of a state with a node
pub place_is : (g : Game) (states n s k r : ℕ) → g.named ≡ Some (states, n) → place_in g s k ≡ Some r → r ≡ place n s k
place_is g states n s k r named is =
    let q : Some (place n s k) ≡ Some r = sym (ap (option_map (λ n. place n.1 s k)) named) ∙ is in let e : place n s k ≡ r = cc in sym e

pub place_within : (g : Game) (states n s k r : ℕ) → IsNamed g → g.named ≡ Some (states, n) → s < states → k < n → place_in g s k ≡ Some r
    → r < length g.vertices
place_within g states n s k r all named below few is =
    let at = place_is g states n s k r named is in
    let long = all states n named in
    let within = mul-add-lt s n k states below few in
    omega (arith, at, long, within)
