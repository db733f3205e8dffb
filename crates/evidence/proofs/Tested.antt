-- Evidence is judged by tests: vertex by vertex, the first fault that stands.
use Rattle.std.proofs.Common.{◌≡◌, ◌≢◌, ℕ, zero, suc, ◌+◌, ◌%◌, ◌<◌, ◌⊎◌, Bool, true, false, ◌&&◌, ◌||◌, not, List, [], ◌∷◌, length, refl, sym, ap, subst}
use Rattle.std.proofs.Common.{◌∙◌, inl, inr, arith, Contains, Some, None, Option, true≢false, if◌then◌else◌}
use Rattle.std.specs.Prelude.{◌==◌}
use Rattle.std.specs.List.{list_all, list_any}
use Rattle.std.specs.Option.{is_some}
use Rattle.std.specs.Ordering.{is_le, is_lt, nat_cmp}
use Rattle.std.specs.Cmp.Lexicographic.{slice_cmp}
use Rattle.std.proofs.lemmas.Bool.Decides.{eqb_tells}
use Rattle.std.proofs.lemmas.Option.{slice_get_within}
use Rattle.game.specs.declared.player.Player.{Player}
use Rattle.game.specs.declared.player.Player.TheVariants.{Even, Odd}
use Rattle.game.specs.Game.{Game, Vertex, opponent, vertex}
use Rattle.game.specs.Wins.{IsOf}
use Rattle.measures.proofs.Lists.{contains_first, contains_none}
use Rattle.laws.proofs.Flags.{and_true, both, either, or_left, or_right, same_true}
use Rattle.laws.proofs.Lists.{all_gives, any_gives, gives_all, gives_any, only_in}
use Rattle.evidence.specs.Evidence.{Descends, Entry, Evidence, GoesTo, LacksFault, cut, entry_at, has}
use Rattle.evidence.specs.Verdict.{IsVerdict, number_of}
use Rattle.evidence.specs.declared.verdict.Fault.{Fault}
use Rattle.evidence.specs.declared.verdict.Fault.TheVariants.{Leaves, Move, Rank}
use Rattle.evidence.specs.declared.verdict.Verdict.{Verdict}
use Rattle.evidence.specs.declared.verdict.Verdict.TheVariants.{Faulty, Good}
use Rattle.evidence.proofs.Verdicts.{AllFree, below_leaves, below_move, below_rank, each, free_at}

abbrev pub is_own : Player → Player → Bool
is_own Even Even = true
is_own Even Odd = false
is_own Odd Even = false
is_own Odd Odd = true

abbrev pub is_of : Player → ℕ → Bool
is_of Even p = p % 2 == 0
is_of Odd p = p % 2 == 1

abbrev pub descends : Player → Game → ℕ → List ℕ → List ℕ → Bool
descends player g p rank next =
    is_le (slice_cmp nat_cmp (cut player g p next) (cut player g p rank))
    && (not (is_of (opponent player) p) || is_lt (slice_cmp nat_cmp (cut player g p next) (cut player g p rank)))

abbrev pub listed : Option ℕ → List ℕ
listed None = []
listed (Some t) = t ∷ []

-- all to which the play may go
abbrev pub goals : Player → Vertex → Entry → List ℕ
goals player v x = if is_own v.owner player then listed x.move else v.successors

abbrev pub is_one_of : List ℕ → Option ℕ → Bool
is_one_of ts None = false
is_one_of ts (Some t) = list_any (λ u. u == t) ts

abbrev pub descends_to : Player → Game → ℕ → List ℕ → Option Entry → Bool
descends_to player g p rank None = true
descends_to player g p rank (Some y) = descends player g p rank y.rank

abbrev pub passes : Game → Evidence → Vertex → Entry → Fault → Bool
passes g e v x Move = if is_own v.owner e.player then is_one_of v.successors x.move else not (is_some x.move)
passes g e v x Leaves = list_all (λ t. has e t) (goals e.player v x)
passes g e v x Rank = list_all (λ t. descends_to e.player g v.priority x.rank (entry_at e t)) (goals e.player v x)

abbrev pub first_of : Bool → Bool → Bool → Option Fault
first_of false b c = Some Move
first_of true false c = Some Leaves
first_of true true false = Some Rank
first_of true true true = None

abbrev pub fault_of : Game → Evidence → Option Vertex → Option Entry → Option Fault
fault_of g e None o = None
fault_of g e (Some v) None = None
fault_of g e (Some v) (Some x) = first_of (passes g e v x Move) (passes g e v x Leaves) (passes g e v x Rank)

abbrev pub told : ℕ → Option Fault → Verdict → Verdict
told u None next = next
told u (Some fault) next = Faulty u fault

-- the verdict on m vertices from u on
abbrev pub judged : Game → Evidence → ℕ → ℕ → Verdict
judged g e u zero = Good
judged g e u (suc m) = told u (fault_of g e (vertex g u) (entry_at e u)) (judged g e (u + 1) m)

-- ------------------------------------------------------------------ what the tests tell

own_tells : (p q : Player) → ((is_own p q ≡ true) × (p ≡ q)) ⊎ ((is_own p q ≡ false) × (p ≢ q))
own_tells Even Even = inl (refl, refl)
own_tells Even Odd = inr (refl, λ e. cc)
own_tells Odd Even = inr (refl, λ e. cc)
own_tells Odd Odd = inl (refl, refl)

of_tells : (p : Player) (n : ℕ) → ((is_of p n ≡ true) × IsOf p n) ⊎ ((is_of p n ≡ false) × (IsOf p n → ⊥))
of_tells Even n = elim (eqb_tells (n % 2) 0) [ inl w ↦ inl w | inr w ↦ inr w ]
of_tells Odd n = elim (eqb_tells (n % 2) 1) [ inl w ↦ inl w | inr w ↦ inr w ]

some_number : (a b : ℕ) → Some a ≡ Some b → a ≡ b
some_number a b q = cc

some_entry : (a b : Entry) → Some a ≡ Some b → a ≡ b
some_entry a b q = cc

descends_is : (player : Player) (g : Game) (p : ℕ) (rank next : List ℕ) → descends player g p rank next ≡ true → Descends player g p rank next
descends_is player g p rank next h =
    let low = is_le (slice_cmp nat_cmp (cut player g p next) (cut player g p rank)) in
    let less = is_lt (slice_cmp nat_cmp (cut player g p next) (cut player g p rank)) in
    let w = both low (not (is_of (opponent player) p) || less) h in (
      w.0,
      λ of. elim (of_tells (opponent player) p) [
        | inl z ↦ elim (either (not (is_of (opponent player) p)) less w.1) [ inl n ↦ absurd (true≢false (sym n ∙ ap not z.0)) | inr l ↦ l ]
        | inr z ↦ absurd (z.1 of)
      ],
    )

is_descends : (player : Player) (g : Game) (p : ℕ) (rank next : List ℕ) → Descends player g p rank next → descends player g p rank next ≡ true
is_descends player g p rank next d =
    let low = is_le (slice_cmp nat_cmp (cut player g p next) (cut player g p rank)) in
    let less = is_lt (slice_cmp nat_cmp (cut player g p next) (cut player g p rank)) in
    and_true low (not (is_of (opponent player) p) || less) d.0 (elim (of_tells (opponent player) p) [
      | inl z ↦ or_right (not (is_of (opponent player) p)) less (d.1 z.1)
      | inr z ↦ or_left (not (is_of (opponent player) p)) less (ap not z.0)
    ])

pub goal_in : (player : Player) (v : Vertex) (x : Entry) (t : ℕ) → GoesTo player v x t → Contains (goals player v x) t
goal_in player v x t to = elim (own_tells v.owner player) [
  | inl w ↦ elim to [
    | inl o ↦ subst (λ b. Contains (if b then listed x.move else v.successors) t) (sym w.0) (subst (λ m. Contains (listed m) t) (sym o.1) (contains_first t []))
    | inr c ↦ absurd (c.0 w.1)
  ]
  | inr w ↦ elim to [ inl o ↦ absurd (w.1 o.0) | inr c ↦ subst (λ b. Contains (if b then listed x.move else v.successors) t) (sym w.0) c.1 ]
]

pub of_goal : (player : Player) (v : Vertex) (x : Entry) (t : ℕ) → Contains (goals player v x) t → GoesTo player v x t
of_goal player v x t c = elim (own_tells v.owner player) [
  | inl w ↦ inl (w.1, by x.move (subst (λ b. Contains (if b then listed x.move else v.successors) t) w.0 c))
  | inr w ↦ inr (w.1, subst (λ b. Contains (if b then listed x.move else v.successors) t) w.0 c)
]
  where
    by : (m : Option ℕ) → Contains (listed m) t → m ≡ Some t
    by None d = absurd (contains_none t d)
    by (Some u) d = ap Some (sym (only_in u t d))

one_of_is : (ts : List ℕ) (m : Option ℕ) → is_one_of ts m ≡ true → (t : ℕ) × (m ≡ Some t) × Contains ts t
one_of_is ts None h = absurd (true≢false (sym h))
one_of_is ts (Some t) h = let w = any_gives (λ u. u == t) ts h
    in (t, refl, elim (eqb_tells w.0 t) [ inl z ↦ subst (λ u. Contains ts u) z.1 w.1 | inr z ↦ absurd (true≢false (sym w.2 ∙ z.0)) ])

is_one : (ts : List ℕ) (m : Option ℕ) (t : ℕ) → m ≡ Some t → Contains ts t → is_one_of ts m ≡ true
is_one ts None t e c = absurd cc
is_one ts (Some u) t e c = gives_any (λ w. w == u) ts t c (same_true t u (sym (some_number u t e)))

none_is : (m : Option ℕ) → not (is_some m) ≡ true → m ≡ None
none_is None h = refl
none_is (Some t) h = absurd (true≢false (sym h))

is_none : (m : Option ℕ) → m ≡ None → not (is_some m) ≡ true
is_none None e = refl
is_none (Some t) e = absurd cc

to_is : (player : Player) (g : Game) (p : ℕ) (rank : List ℕ) (o : Option Entry) (y : Entry) → descends_to player g p rank o ≡ true → o ≡ Some y
    → Descends player g p rank y.rank
to_is player g p rank None y h e = absurd cc
to_is player g p rank (Some z) y h e = subst (λ (w : Entry). Descends player g p rank w.rank) (some_entry z y e) (descends_is player g p rank z.rank h)

is_to : (player : Player) (g : Game) (p : ℕ) (rank : List ℕ) (o : Option Entry) → ((y : Entry) → o ≡ Some y → Descends player g p rank y.rank)
    → descends_to player g p rank o ≡ true
is_to player g p rank None h = refl
is_to player g p rank (Some z) h = is_descends player g p rank z.rank (h z refl)

module _ (g : Game) (e : Evidence) where
  pub passes_free : (v : Vertex) (x : Entry) (fault : Fault) → passes g e v x fault ≡ true → LacksFault g e v x fault
  passes_free v x Move h = elim (own_tells v.owner e.player) [
    | inl w ↦ (
      (λ own. one_of_is v.successors x.move (subst (λ b. (if b then is_one_of v.successors x.move else not (is_some x.move)) ≡ true) w.0 h)),
      λ n. absurd (n w.1),
    )
    | inr w ↦ (
      (λ own. absurd (w.1 own)),
      λ n. none_is x.move (subst (λ b. (if b then is_one_of v.successors x.move else not (is_some x.move)) ≡ true) w.0 h),
    )
  ]
  passes_free v x Leaves h = λ t to. all_gives (λ u. has e u) (goals e.player v x) t h (goal_in e.player v x t to)
  passes_free v x Rank h = λ t y to at. to_is e.player g v.priority x.rank (entry_at e t) y
      (all_gives (λ u. descends_to e.player g v.priority x.rank (entry_at e u)) (goals e.player v x) t h (goal_in e.player v x t to)) at

  pub free_passes : (v : Vertex) (x : Entry) (fault : Fault) → LacksFault g e v x fault → passes g e v x fault ≡ true
  free_passes v x Move f = elim (own_tells v.owner e.player) [
    | inl w ↦ (let m = f.0 w.1 in subst (λ b. (if b then is_one_of v.successors x.move else not (is_some x.move)) ≡ true) (sym w.0)
        (is_one v.successors x.move m.0 m.1 m.2))
    | inr w ↦ subst (λ b. (if b then is_one_of v.successors x.move else not (is_some x.move)) ≡ true) (sym w.0) (is_none x.move (f.1 w.1))
  ]
  free_passes v x Leaves f = gives_all (λ u. has e u) (goals e.player v x) (λ t c. f t (of_goal e.player v x t c))
  free_passes v x Rank f = gives_all (λ u. descends_to e.player g v.priority x.rank (entry_at e u)) (goals e.player v x)
      (λ t c. is_to e.player g v.priority x.rank (entry_at e t) (λ y at. f t y (of_goal e.player v x t c) at))

  fails : (v : Vertex) (x : Entry) (fault : Fault) → passes g e v x fault ≡ false → LacksFault g e v x fault → ⊥
  fails v x fault h f = true≢false (sym (free_passes v x fault f) ∙ h)

  -- what the first fault tells
  record IsFaulty (u : ℕ) (fault : Fault) : Type 0 where
    entry : Entry
    at : Vertex
    here : (entry_at e u ≡ Some entry) × (vertex g u ≡ Some at)
    stands : LacksFault g e at entry fault → ⊥
    least : (other : Fault) → number_of other < number_of fault → LacksFault g e at entry other

  abbrev Tells : ℕ → Option Fault → Type 0
  Tells u None = AllFree g e u
  Tells u (Some fault) = IsFaulty u fault

  tells_first : (u : ℕ) (v : Vertex) (x : Entry) → vertex g u ≡ Some v → entry_at e u ≡ Some x → (a b c : Bool) → passes g e v x Move ≡ a
      → passes g e v x Leaves ≡ b → passes g e v x Rank ≡ c
      → Tells u (first_of a b c)
  tells_first u v x p q false b c i j k = record { entry = x; at = v; here = (q, p); stands = fails v x Move i; least = below_move (λ f. LacksFault g e v x f) }
  tells_first u v x p q true false c i j k =
      record { entry = x; at = v; here = (q, p); stands = fails v x Leaves j; least = below_leaves (λ f. LacksFault g e v x f) (passes_free v x Move i) }
  tells_first u v x p q true true false i j k =
      record {
        entry = x;
        at = v;
        here = (q, p);
        stands = fails v x Rank k;
        least = below_rank (λ f. LacksFault g e v x f) (passes_free v x Move i) (passes_free v x Leaves j);
      }
  tells_first u v x p q true true true i j k = λ fault. free_at g e u x v fault q p
      (each (λ f. LacksFault g e v x f) (passes_free v x Move i) (passes_free v x Leaves j) (passes_free v x Rank k) fault)

  tells : (u : ℕ) → Tells u (fault_of g e (vertex g u) (entry_at e u))
  tells u = by (vertex g u) (entry_at e u) refl refl
    where
      by : (w : Option Vertex) (o : Option Entry) → vertex g u ≡ w → entry_at e u ≡ o → Tells u (fault_of g e w o)
      by None o p q = λ fault x v here at. (let z : None ≡ Some v = sym p ∙ at in absurd cc)
      by (Some v) None p q = λ fault x w here at. (let z : None ≡ Some x = sym q ∙ here in absurd cc)
      by (Some v) (Some x) p q = tells_first u v x p q (passes g e v x Move) (passes g e v x Leaves) (passes g e v x Rank) refl refl refl

  pub judged_is : (m u : ℕ) → u + m ≡ length g.vertices → ((t : ℕ) → t < u → AllFree g e t) → IsVerdict g e (judged g e u m)
  judged_is zero u h before = λ t fault x v here at. (let l = slice_get_within g.vertices t v at in before t (omega arith) fault x v here at)
  judged_is (suc m) u h before = by (fault_of g e (vertex g u) (entry_at e u)) (tells u) (λ here. judged_is m (u + 1) (omega arith) (more here))
    where
      more : AllFree g e u → (t : ℕ) → t < u + 1 → AllFree g e t
      more here t l = elim (eqb_tells t u) [ inl w ↦ subst (λ n. AllFree g e n) (sym w.1) here | inr w ↦ (let d = w.1 in before t (omega arith)) ]

      by : (o : Option Fault) → Tells u o → (AllFree g e u → IsVerdict g e (judged g e (u + 1) m)) → IsVerdict g e (told u o (judged g e (u + 1) m))
      by None here rest = rest here
      by (Some fault) f rest = record { entry = f.entry; at = f.at; here = f.here; stands = f.stands; least = f.least; before = λ t other l. before t l other }

-- the verdict
pub judged_right : (g : Game) (e : Evidence) → IsVerdict g e (judged g e 0 (length g.vertices))
judged_right g e = judged_is g e (length g.vertices) 0 (omega arith) (λ t h. absurd (omega arith))
