-- What the checker's tests say.
use Rattle.std.proofs.Common.{◌≡◌, ◌≢◌, ◌↔◌, ℕ, suc, ◌+◌, ◌-◌, ◌/◌, ◌<◌, ◌≤◌, Bool, List, [], ◌∷◌, length, take, refl, sym, ap, subst, ◌∙◌, inl, inr, arith}
use Rattle.std.proofs.Common.{count_by, nat_le, Contains, IsTrue, Some, None, Option, option_map}
use Rattle.std.specs.declared.cmp.Ordering.{Ordering}
use Rattle.std.specs.Ordering.{is_le, is_lt, nat_cmp}
use Rattle.std.specs.Cmp.Lexicographic.{slice_cmp}
use Rattle.std.proofs.lemmas.List.{length-map}
use Rattle.std.proofs.lemmas.Option.{slice_get_within}
use Rattle.game.specs.declared.player.Player.{Player}
use Rattle.game.specs.declared.player.Player.TheVariants.{Even, Odd}
use Rattle.game.specs.Game.{Game, IsGame, IsVertex, Vertex, greatest, opponent, vertex}
use Rattle.game.specs.Wins.{IsOf}
use Rattle.measures.specs.Measure.{Counts, IsBelow, odd_down}
use Rattle.measures.proofs.Components.{kept_is}
use Rattle.measures.proofs.Bests.{vertex_tells}
use Rattle.measures.proofs.Lists.{all_got, contains_first, contains_none, contains_cases}
use Rattle.measures.proofs.Measures.{below_at_most}
use Rattle.evidence.specs.Checking.{IsAlong, IsFaultAt, IsLeastFault}
use Rattle.evidence.specs.Evidence.{Descends, Entry, Evidence, GoesTo, LacksFault, IsFreeAt, IsGood, counted, cut, entry_at, even_down}
use Rattle.evidence.specs.declared.verdict.Fault.{Fault}
use Rattle.evidence.specs.declared.verdict.Fault.TheVariants.{Leaves, Move, Rank}
use Rattle.evidence.proofs.Shifted.{count_suc, odd_down_is}
use Rattle.evidence.proofs.Verdicts.{below_leaves, below_rank, each, free_at}

-- ------------------------------------------------------------------ ranks

-- how many of the priorities that a rank counts stand below one
abbrev pub skipped : Player → ℕ → ℕ
skipped Even p = p / 2
skipped Odd p = (p + 1) / 2

kept_even_down : (p n : ℕ) → count_by (λ q. nat_le p q) (even_down n) ≡ length (even_down n) - (p + 1) / 2
kept_even_down p n =
    let g : Game = record { vertices = record { owner = Even; priority = suc n; successors = [] } ∷ []; named = None } in
    let top : greatest g ≡ suc n = omega arith in
    let odd = subst (λ k. count_by (λ q. nat_le (p + 1) q) (odd_down k) ≡ length (odd_down k) - (p + 1) / 2) top (kept_is g (p + 1)) in
    sym (count_suc p (even_down n))
    ∙ (subst (λ qs. count_by (λ q. nat_le (p + 1) q) qs ≡ length qs - (p + 1) / 2) (odd_down_is n) odd
    ∙ ap (λ k. k - (p + 1) / 2) (length-map (even_down n) (λ q. suc q)))

pub kept_counted : (player : Player) (g : Game) (p w k : ℕ) → length (counted player g) ≡ w → k ≡ w - skipped player p
    → k ≡ count_by (λ q. nat_le p q) (counted player g)
kept_counted Even g p w k wide e = let is = kept_is g p in e ∙ omega arith
kept_counted Odd g p w k wide e = e ∙ (ap (λ n. n - (p + 1) / 2) (sym wide) ∙ sym (kept_even_down p (greatest g)))

module _ (player : Player) (g : Game) (p k : ℕ) (rank next : List ℕ) (keeps : k ≡ count_by (λ q. nat_le p q) (counted player g)) (b : Bool) (o : Ordering)
    (order : o ≡ slice_cmp nat_cmp (take k next) (take k rank)) where
  here : o ≡ slice_cmp nat_cmp (cut player g p next) (cut player g p rank)
  here = order ∙ ap (λ n. slice_cmp nat_cmp (take n next) (take n rank)) keeps

  pub falling_is : IsOf (opponent player) p → b ≡ is_lt o → IsTrue b ↔ Descends player g p rank next
  falling_is of e =
      let q : b ≡ is_lt (slice_cmp nat_cmp (cut player g p next) (cut player g p rank)) = e ∙ ap is_lt here in (
        λ yes. (let below : IsBelow (Counts (cut player g p next)) (Counts (cut player g p rank)) = sym q ∙ yes in
            (below_at_most (Counts (cut player g p next)) (Counts (cut player g p rank)) below, λ i. below)),
        λ d. q ∙ d.1 of,
      )

  pub staying_is : (IsOf (opponent player) p → ⊥) → b ≡ is_le o → IsTrue b ↔ Descends player g p rank next
  staying_is not e =
      let q : b ≡ is_le (slice_cmp nat_cmp (cut player g p next) (cut player g p rank)) = e ∙ ap is_le here in (
        λ yes. (sym q ∙ yes, λ i. absurd (not i)),
        λ d. q ∙ d.0,
      )

-- ------------------------------------------------------------------ faults

module _ (g : Game) (e : Evidence) (x : Vertex) (y : Entry) where
  -- these are all to which the play may go
  along_least : (ts : List ℕ) (r : Option Fault) → LacksFault g e x y Move → ((t : ℕ) → GoesTo e.player x y t → Contains ts t)
      → ((t : ℕ) → Contains ts t → GoesTo e.player x y t)
      → IsAlong g e x.priority y.rank ts r → IsLeastFault g e x y r
  along_least ts None f to from a = each (λ k. LacksFault g e x y k) f (λ t goes. a.0 t (to t goes)) (λ t z goes at. a.1 t (to t goes) z at)
  along_least ts (Some Move) f to from a = absurd a
  along_least ts (Some Leaves) f to from a = ((λ free. a (λ t c. free t (from t c))), below_leaves (λ k. LacksFault g e x y k) f)
  along_least ts (Some Rank) f to from a = (
    (λ free. a.1 (λ t c z at. free t z (from t c) at)),
    below_rank (λ k. LacksFault g e x y k) f (λ t goes. a.0 t (to t goes)),
  )

  pub own_least : (t : ℕ) (r : Option Fault) → x.owner ≡ e.player → y.move ≡ Some t → Contains x.successors t → IsAlong g e x.priority y.rank (t ∷ []) r
      → IsLeastFault g e x y r
  own_least t r own move c a = along_least (t ∷ []) r ((λ o. (t, move, c)), (λ n. absurd (n own))) to from a
    where
      some_same : (a b : ℕ) → Some a ≡ Some b → a ≡ b
      some_same a b q = cc

      to : (u : ℕ) → GoesTo e.player x y u → Contains (t ∷ []) u
      to u (inl w) = subst (λ v. Contains (t ∷ []) v) (some_same t u (sym move ∙ w.1)) (contains_first t [])
      to u (inr w) = absurd (w.0 own)

      from : (u : ℕ) → Contains (t ∷ []) u → GoesTo e.player x y u
      from u c = elim (contains_cases t u [] c) [ inl q ↦ inl (own, move ∙ ap Some q) | inr d ↦ absurd (contains_none u d) ]

  pub other_least : (r : Option Fault) → x.owner ≢ e.player → y.move ≡ None → IsAlong g e x.priority y.rank x.successors r → IsLeastFault g e x y r
  other_least r other none a =
      along_least x.successors r ((λ o. absurd (other o)), (λ n. none)) (λ t goes. elim goes [ inl w ↦ absurd (other w.0) | inr w ↦ w.1 ])
      (λ t c. inr (other, c)) a

-- the fault at a vertex by that of its entry
pub fault_here : (g : Game) (e : Evidence) (u : ℕ) (x : Entry) (v : Vertex) (r : Option Fault) → entry_at e u ≡ Some x → vertex g u ≡ Some v
    → IsLeastFault g e v x r → IsFaultAt g e u r
fault_here g e u x v None here at free = λ fault. free_at g e u x v fault here at (free fault)
fault_here g e u x v (Some fault) here at least = (x, v, here, at, least)

pub all_free : (g : Game) (e : Evidence) (n : ℕ) → length g.vertices ≤ n → ((t : ℕ) (other : Fault) → t < n → IsFreeAt g e t other) → IsGood g e
all_free g e n whole before u fault x v here at = let l = slice_get_within g.vertices u v at in before u fault (omega arith) x v here at

-- ------------------------------------------------------------------ by what the game and the evidence tell

pub below_is : (g : Game) (e : Evidence) (p : ℕ) (rank : List ℕ) (t : ℕ) (z : Entry) (player : Player) (b : Bool) → entry_at e t ≡ Some z → player ≡ e.player
    → length rank ≡ length (counted e.player g)
    → ((h : Game) → length (counted player h) ≡ length rank → IsTrue b ↔ Descends player h p rank z.rank) → IsTrue b
    ↔ ((y : Entry) → entry_at e t ≡ Some y → Descends e.player g p rank y.rank)
below_is g e p rank t z player b here same wide f =
    let d = subst (λ o. length (counted o g) ≡ length rank → IsTrue b ↔ Descends o g p rank z.rank) same (f g) (sym wide) in (
      λ yes y at. subst (λ (w : Entry). Descends e.player g p rank w.rank) (some_same z y (sym here ∙ at)) (d.0 yes),
      λ all. d.1 (all z here),
    )
  where
    some_same : (a b : Entry) → Some a ≡ Some b → a ≡ b
    some_same a b q = cc

module _ (g : Game) (v : ℕ) (inside : v < length g.vertices) (game : IsGame g) where
  is_vertex : (x : Vertex) → vertex g v ≡ Some x → IsVertex (length g.vertices) x
  is_vertex x at = all_got (IsVertex (length g.vertices)) g.vertices v x game.vertices at

module _ (g of : Game) (same : of ≡ g) (e : Evidence) (v : ℕ) (owner : Player) (rank : List ℕ) (own : option_map (λ x. x.owner) (vertex g v) ≡ Some owner)
    (x : Vertex) (at : vertex g v ≡ Some x) where
  owner_is : x.owner ≡ owner
  owner_is = vertex_tells (λ y. y.owner) g v owner x at own

  along_here : (p : ℕ) (ts : List ℕ) (r : Option Fault) → option_map (λ y. y.priority) (vertex g v) ≡ Some p → IsAlong of e p rank ts r
      → IsAlong g e x.priority rank ts r
  along_here p ts r q a = subst (λ h. IsAlong h e x.priority rank ts r) same
      (subst (λ n. IsAlong of e n rank ts r) (sym (vertex_tells (λ y. y.priority) g v p x at q)) a)

  pub moved_is : (next p : ℕ) (ts : List ℕ) (r : Option Fault) → owner ≡ e.player → option_map (λ y. y.successors) (vertex g v) ≡ Some ts → Contains ts next
      → option_map (λ y. y.priority) (vertex g v) ≡ Some p
      → IsAlong of e p rank (next ∷ []) r → IsLeastFault g e x (record { move = Some next; rank = rank }) r
  moved_is next p ts r o s c q a =
      own_least g e x (record { move = Some next; rank = rank }) next r (owner_is ∙ o) refl
      (subst (λ us. Contains us next) (sym (vertex_tells (λ y. y.successors) g v ts x at s)) c) (along_here p (next ∷ []) r q a)

  pub stayed_is : (p : ℕ) (ts : List ℕ) (r : Option Fault) → owner ≢ e.player → option_map (λ y. y.successors) (vertex g v) ≡ Some ts
      → option_map (λ y. y.priority) (vertex g v) ≡ Some p
      → IsAlong of e p rank ts r → IsLeastFault g e x (record { move = None; rank = rank }) r
  stayed_is p ts r o s q a =
      other_least g e x (record { move = None; rank = rank }) r (λ i. o (sym owner_is ∙ i)) refl
      (subst (λ us. IsAlong g e x.priority rank us r) (sym (vertex_tells (λ y. y.successors) g v ts x at s)) (along_here p ts r q a))
