-- Evidence has just one verdict, and two pieces have just one answer.
use Rattle.std.proofs.Common.{◌≡◌, ◌≢◌, ℕ, zero, suc, ◌%◌, ◌<◌, ◌⊎◌, Bool, true, false, List, length, refl, sym, ap, subst, ◌∙◌, inl, inr, arith, IsTrue}
use Rattle.std.proofs.Common.{Contains, Some, None, Option, true≢false}
use Rattle.std.proofs.lemmas.Bool.Decides.{eqb_tells}
use Rattle.std.proofs.lemmas.Option.{slice_get_within}
use Rattle.game.specs.declared.player.Player.{Player}
use Rattle.game.specs.declared.player.Player.TheVariants.{Even, Odd}
use Rattle.game.specs.Game.{Game, Vertex, opponent, vertex}
use Rattle.game.specs.Wins.{IsOf}
use Rattle.measures.proofs.Order.{Over, not_over_itself, over_either, over_trans}
use Rattle.measures.proofs.Searches.{either_way, find_in}
use Rattle.evidence.specs.Evidence.{Descends, Entry, Evidence, GoesTo, LacksFault, IsFreeAt, IsGood, entry_at, has}
use Rattle.evidence.specs.Verdict.{IsBoth, IsFirstFault, IsLeftOut, IsVerdict, number_of}
use Rattle.evidence.specs.Laws.{OneAnswer, OneVerdict}
use Rattle.evidence.specs.declared.verdict.Fault.{Fault}
use Rattle.evidence.specs.declared.verdict.Fault.TheVariants.{Leaves, Move, Rank}
use Rattle.evidence.specs.declared.verdict.Verdict.{Verdict}
use Rattle.evidence.specs.declared.verdict.Verdict.TheVariants.{Faulty, Good}
use Rattle.evidence.specs.declared.verdict.Both.{Both}
use Rattle.evidence.specs.declared.verdict.Both.TheVariants.{First, LeftOut, OnePlayer, Second, Yes}
use Rattle.evidence.proofs.Descent.{from_over, some, to_over}

-- ------------------------------------------------------------------ a fault stands or not

abbrev Stands : Type 0 → Type 0
Stands A = A ⊎ (A → ⊥)

same_player : (p q : Player) → Stands (p ≡ q)
same_player Even Even = inl refl
same_player Even Odd = inr (λ e. cc)
same_player Odd Even = inr (λ e. cc)
same_player Odd Odd = inl refl

is_of : (p : Player) (n : ℕ) → Stands (IsOf p n)
is_of Even n = elim (eqb_tells (n % 2) 0) [ inl w ↦ inl w.1 | inr w ↦ inr w.1 ]
is_of Odd n = elim (eqb_tells (n % 2) 1) [ inl w ↦ inl w.1 | inr w ↦ inr w.1 ]

over_or : (s : Bool) (k : ℕ) (c d : List ℕ) → Stands (Over s k c d)
over_or true k c d = elim (over_either k c d) [ inl o ↦ inl o | inr o ↦ inr (λ q. not_over_itself k c (over_trans true false k c d c q o)) ]
over_or false k c d = elim (over_either k d c) [ inl o ↦ inr (λ q. not_over_itself k d (over_trans true false k d c d o q)) | inr o ↦ inl o ]

descends_or : (player : Player) (g : Game) (p : ℕ) (rank next : List ℕ) → Stands (Descends player g p rank next)
descends_or player g p rank next = elim (is_of (opponent player) p) [
  | inl of ↦ elim (over_or true (some player g p rank next) next rank) [
    | inl o ↦ inl (from_over player g p rank next true (λ z. refl) o)
    | inr n ↦ inr (λ d. n (to_over player g p rank next true (λ z. of) d))
  ]
  | inr not ↦ elim (over_or false (some player g p rank next) next rank) [
    | inl o ↦ inl (from_over player g p rank next false (λ z. absurd (not z)) o)
    | inr n ↦ inr (λ d. n (to_over player g p rank next false (λ z. absurd (true≢false (sym z))) d))
  ]
]

-- what is decided of each number is decided of all in a list
all_or : (P : ℕ → Type 0) → ((t : ℕ) → Stands (P t)) → (ts : List ℕ) → Stands ((t : ℕ) → Contains ts t → P t)
all_or P dec ts = elim (find_in (λ t. P t → ⊥) P (λ t. elim (dec t) [ inl p ↦ inr p | inr n ↦ inl n ]) ts) [
  | inl w ↦ inr (λ all. w.2 (all w.0 w.1))
  | inr all ↦ inl all
]

-- what is decided of each number is decided of all to which the play may go
goes_or : (player : Player) (v : Vertex) (x : Entry) (P : ℕ → Type 0) → ((t : ℕ) → Stands (P t)) → Stands ((t : ℕ) → GoesTo player v x t → P t)
goes_or player v x P dec = elim (same_player v.owner player) [
  | inl own ↦ by_move own x.move refl
  | inr not ↦ elim (all_or P dec v.successors) [
    | inl all ↦ inl (λ t to. elim to [ inl o ↦ absurd (not o.0) | inr c ↦ all t c.1 ])
    | inr n ↦ inr (λ all. n (λ t c. all t (inr (not, c))))
  ]
]
  where
    by_move : v.owner ≡ player → (m : Option ℕ) → x.move ≡ m → Stands ((t : ℕ) → GoesTo player v x t → P t)
    by_move own None e = inl (λ t to. elim to [ inl o ↦ (let q : None ≡ Some t = sym e ∙ o.1 in absurd cc) | inr c ↦ absurd (c.0 own) ])
    by_move own (Some m) e = elim (dec m) [
      | inl p ↦ inl (λ t to. elim to [ inl o ↦ subst P (some_same m t (sym e ∙ o.1)) p | inr c ↦ absurd (c.0 own) ])
      | inr n ↦ inr (λ all. n (all m (inl (own, e))))
    ]
      where
        some_same : (a b : ℕ) → Some a ≡ Some b → a ≡ b
        some_same a b q = cc

contains_or : (ts : List ℕ) (t : ℕ) → Stands (Contains ts t)
contains_or ts t = elim (find_in (λ u. u ≡ t) (λ u. u ≢ t) (λ u. elim (eqb_tells u t) [ inl w ↦ inl w.1 | inr w ↦ inr w.1 ]) ts) [
  | inl w ↦ inl (subst (λ u. Contains ts u) w.2 w.1)
  | inr none ↦ inr (λ c. none t c refl)
]

pub below_move : (P : Fault → Type 0) (other : Fault) → number_of other < 1 → P other
below_move P Move h = absurd (omega arith)
below_move P Leaves h = absurd (omega arith)
below_move P Rank h = absurd (omega arith)

pub below_leaves : (P : Fault → Type 0) → P Move → (other : Fault) → number_of other < 2 → P other
below_leaves P f Move h = f
below_leaves P f Leaves h = absurd (omega arith)
below_leaves P f Rank h = absurd (omega arith)

pub below_rank : (P : Fault → Type 0) → P Move → P Leaves → (other : Fault) → number_of other < 3 → P other
below_rank P f f2 Move h = f
below_rank P f f2 Leaves h = f2
below_rank P f f2 Rank h = absurd (omega arith)

pub each : (P : Fault → Type 0) → P Move → P Leaves → P Rank → (fault : Fault) → P fault
each P f f2 f3 Move = f
each P f f2 f3 Leaves = f2
each P f f2 f3 Rank = f3

module _ (g : Game) (e : Evidence) where
  rank_or : (v : Vertex) (x : Entry) (t : ℕ) → Stands ((y : Entry) → entry_at e t ≡ Some y → Descends e.player g v.priority x.rank y.rank)
  rank_or v x t = by (entry_at e t) refl
    where
      some_same : (a b : Entry) → Some a ≡ Some b → a ≡ b
      some_same a b q = cc

      by : (o : Option Entry) → entry_at e t ≡ o → Stands ((y : Entry) → entry_at e t ≡ Some y → Descends e.player g v.priority x.rank y.rank)
      by None q = inl (λ y at. (let w : None ≡ Some y = sym q ∙ at in absurd cc))
      by (Some z) q = elim (descends_or e.player g v.priority x.rank z.rank) [
        | inl d ↦ inl (λ y at. subst (λ (w : Entry). Descends e.player g v.priority x.rank w.rank) (some_same z y (sym q ∙ at)) d)
        | inr n ↦ inr (λ all. n (all z q))
      ]

  free_or : (v : Vertex) (x : Entry) (fault : Fault) → Stands (LacksFault g e v x fault)
  free_or v x Move = by (same_player v.owner e.player) x.move refl
    where
      by : Stands (v.owner ≡ e.player) → (m : Option ℕ) → x.move ≡ m → Stands (LacksFault g e v x Move)
      by (inl own) None q = inr (λ f. (let m = f.0 own in let w : None ≡ Some m.0 = sym q ∙ m.1 in cc))
      by (inl own) (Some t) q = elim (contains_or v.successors t) [
        | inl c ↦ inl ((λ o. (t, q, c)), (λ n. absurd (n own)))
        | inr n ↦ inr (λ f. (let m = f.0 own in n (subst (λ u. Contains v.successors u) (some_same m.0 t (sym m.1 ∙ q)) m.2)))
      ]
        where
          some_same : (a b : ℕ) → Some a ≡ Some b → a ≡ b
          some_same a b q = cc
      by (inr not) None q = inl ((λ o. absurd (not o)), (λ n. q))
      by (inr not) (Some t) q = inr (λ f. (let w : Some t ≡ None = sym q ∙ f.1 not in cc))
  free_or v x Leaves = goes_or e.player v x (λ t. IsTrue (has e t))
      (λ t. elim (either_way (has e t)) [ inl h ↦ inl h | inr n ↦ inr (λ h. true≢false (sym h ∙ n)) ])
  free_or v x Rank = elim (goes_or e.player v x (λ t. (y : Entry) → entry_at e t ≡ Some y → Descends e.player g v.priority x.rank y.rank)
      (λ t. rank_or v x t)) [
        | inl all ↦ inl (λ t y to at. all t to y at)
        | inr n ↦ inr (λ f. n (λ t to y at. f t y to at))
      ]

  -- ------------------------------------------------------------------ the verdict

  -- the least of the faults at a vertex
  record IsFaulty (u : ℕ) (fault : Fault) : Type 0 where
    entry : Entry
    at : Vertex
    here : (entry_at e u ≡ Some entry) × (vertex g u ≡ Some at)
    stands : LacksFault g e at entry fault → ⊥
    least : (other : Fault) → number_of other < number_of fault → LacksFault g e at entry other

  abbrev pub AllFree : ℕ → Type 0
  AllFree u = (fault : Fault) → IsFreeAt g e u fault

  entry_same : (a b : Entry) → Some a ≡ Some b → a ≡ b
  entry_same a b q = cc

  vertex_same : (a b : Vertex) → Some a ≡ Some b → a ≡ b
  vertex_same a b q = cc

  pub free_at : (u : ℕ) (x : Entry) (v : Vertex) (fault : Fault) → entry_at e u ≡ Some x → vertex g u ≡ Some v → LacksFault g e v x fault → IsFreeAt g e u fault
  free_at u x v fault here at f y w there then =
      subst (λ z. LacksFault g e z y fault) (vertex_same v w (sym at ∙ then)) (subst (λ z. LacksFault g e v z fault) (entry_same x y (sym here ∙ there)) f)

  faulty_or : (u : ℕ) → ((fault : Fault) × IsFaulty u fault) ⊎ AllFree u
  faulty_or u = by (entry_at e u) (vertex g u) refl refl
    where
      by : (o : Option Entry) (w : Option Vertex) → entry_at e u ≡ o → vertex g u ≡ w → ((fault : Fault) × IsFaulty u fault) ⊎ AllFree u
      by None w p q = inr (λ fault x v here at. (let z : None ≡ Some x = sym p ∙ here in absurd cc))
      by (Some x) None p q = inr (λ fault y v here at. (let z : None ≡ Some v = sym q ∙ at in absurd cc))
      by (Some x) (Some v) p q = elim (free_or v x Move) [
        | inr n ↦ inl (Move, record { entry = x; at = v; here = (p, q); stands = n; least = below_move (λ k. LacksFault g e v x k) })
        | inl f ↦ elim (free_or v x Leaves) [
          | inr n ↦ inl (Leaves, record { entry = x; at = v; here = (p, q); stands = n; least = below_leaves (λ k. LacksFault g e v x k) f })
          | inl f2 ↦ elim (free_or v x Rank) [
            | inr n ↦ inl (Rank, record { entry = x; at = v; here = (p, q); stands = n; least = below_rank (λ k. LacksFault g e v x k) f f2 })
            | inl f3 ↦ inr (λ fault. free_at u x v fault p q (each (λ k. LacksFault g e v x k) f f2 f3 fault))
          ]
        ]
      ]

-- the least number of the first kind below n, or all are of the second
least_below : (P Q : ℕ → Type 0) → ((u : ℕ) → P u ⊎ Q u) → (n : ℕ) → ((u : ℕ) × (u < n) × P u × ((t : ℕ) → t < u → Q t)) ⊎ ((u : ℕ) → u < n → Q u)
least_below P Q dec zero = inr (λ u h. absurd (omega arith))
least_below P Q dec (suc n) = elim (least_below P Q dec n) [
  | inl w ↦ (let h = w.1 in inl (w.0, omega arith, w.2, w.3))
  | inr all ↦ elim (dec n) [
    | inl p ↦ inl (n, omega arith, p, all)
    | inr q ↦ inr (λ u h. elim (eqb_tells u n) [ inl w ↦ subst Q (sym w.1) q | inr w ↦ (let d = w.1 in all u (omega arith)) ])
  ]
]

verdict_of : (g : Game) (e : Evidence) → (a : Verdict) × IsVerdict g e a
verdict_of g e = elim (least_below (λ u. (fault : Fault) × IsFaulty g e u fault) (AllFree g e) (faulty_or g e) (length g.vertices)) [
  | inl w ↦ (let f = w.2.1 in (
    Faulty w.0 w.2.0,
    record {
      entry = f.entry;
      at = f.at;
      here = f.here;
      stands = f.stands;
      least = f.least;
      before = λ t other h. w.3 t h other;
    },
  ))
  | inr all ↦ (Good, λ u fault x v here at. all u (slice_get_within g.vertices u v at) fault x v here at)
]

not_good : (g : Game) (e : Evidence) (u : ℕ) (fault : Fault) → IsFirstFault g e u fault → IsGood g e → ⊥
not_good g e u fault is good = is.stands (good u fault is.entry is.at is.here.0 is.here.1)

fault_one : (a b : Fault) → number_of a ≡ number_of b → a ≡ b
fault_one Move Move h = refl
fault_one Move Leaves h = absurd (omega arith)
fault_one Move Rank h = absurd (omega arith)
fault_one Leaves Move h = absurd (omega arith)
fault_one Leaves Leaves h = refl
fault_one Leaves Rank h = absurd (omega arith)
fault_one Rank Move h = absurd (omega arith)
fault_one Rank Leaves h = absurd (omega arith)
fault_one Rank Rank h = refl

not_before : (g : Game) (e : Evidence) (u t : ℕ) (a b : Fault) → IsFirstFault g e u a → IsFirstFault g e t b → u < t → ⊥
not_before g e u t a b is other h = is.stands (other.before u a h is.entry is.at is.here.0 is.here.1)

not_less : (g : Game) (e : Evidence) (u t : ℕ) (a b : Fault) → u ≡ t → IsFirstFault g e u a → IsFirstFault g e t b → number_of a < number_of b → ⊥
not_less g e u t a b same is other h =
    is.stands (free_at g e t other.entry other.at a other.here.0 other.here.1 (other.least a h) is.entry is.at (ap (entry_at e) (sym same) ∙ is.here.0)
    (ap (vertex g) (sym same) ∙ is.here.1))

verdict_one : (g : Game) (e : Evidence) (a b : Verdict) → IsVerdict g e a → IsVerdict g e b → a ≡ b
verdict_one g e Good Good h i = refl
verdict_one g e Good (Faulty u fault) h i = absurd (not_good g e u fault i h)
verdict_one g e (Faulty u fault) Good h i = absurd (not_good g e u fault h i)
verdict_one g e (Faulty u a) (Faulty t b) h i =
    let same : u ≡ t = numbers u t (not_before g e u t a b h i) (not_before g e t u b a i h) in
    let fault = fault_one a b (numbers (number_of a) (number_of b) (not_less g e u t a b same h i) (not_less g e t u b a (sym same) i h)) in
    λ k. Faulty (same k) (fault k)
  where
    numbers : (m n : ℕ) → (m < n → ⊥) → (n < m → ⊥) → m ≡ n
    numbers m n h i = omega arith

pub one_verdict : OneVerdict
one_verdict g e = (verdict_of g e, verdict_one g e)

-- ------------------------------------------------------------------ the answer of two

left_not : (e f : Evidence) (v : ℕ) → IsLeftOut e f v → IsTrue (has e v) ⊎ IsTrue (has f v) → ⊥
left_not e f v out (inl h) = out.0 h
left_not e f v out (inr h) = out.1 h

left_one : (e f : Evidence) (u v : ℕ) → IsLeftOut e f u → IsLeftOut e f v → ((t : ℕ) → t < u → IsTrue (has e t) ⊎ IsTrue (has f t))
    → ((t : ℕ) → t < v → IsTrue (has e t) ⊎ IsTrue (has f t)) → u ≡ v
left_one e f u v out other before first = numbers (λ h. left_not e f u out (first u h)) (λ h. left_not e f v other (before v h))
  where
    numbers : (u < v → ⊥) → (v < u → ⊥) → u ≡ v
    numbers h i = omega arith

abbrev to_first : Verdict → Both
to_first Good = Yes
to_first (Faulty u fault) = First u fault

abbrev to_second : Verdict → Both
to_second Good = Yes
to_second (Faulty u fault) = Second u fault

answer_one : (g : Game) (e f : Evidence) (a b : Both) → IsBoth g e f a → IsBoth g e f b → a ≡ b
answer_one g e f (First u x) (First u2 x2) h i = ap (λ z. to_first z) (verdict_one g e (Faulty u x) (Faulty u2 x2) h i)
answer_one g e f (First u x) (Second u2 x2) h i = absurd (not_good g e u x h i.0)
answer_one g e f (First u x) OnePlayer h i = absurd (not_good g e u x h i.0)
answer_one g e f (First u x) (LeftOut v2) h i = absurd (not_good g e u x h i.0.0)
answer_one g e f (First u x) Yes h i = absurd (not_good g e u x h i.0.0)
answer_one g e f (Second u x) (First u2 x2) h i = absurd (not_good g e u2 x2 i h.0)
answer_one g e f (Second u x) (Second u2 x2) h i = ap (λ z. to_second z) (verdict_one g f (Faulty u x) (Faulty u2 x2) h.1 i.1)
answer_one g e f (Second u x) OnePlayer h i = absurd (not_good g f u x h.1 i.1)
answer_one g e f (Second u x) (LeftOut v2) h i = absurd (not_good g f u x h.1 i.0.1)
answer_one g e f (Second u x) Yes h i = absurd (not_good g f u x h.1 i.0.1)
answer_one g e f OnePlayer (First u2 x2) h i = absurd (not_good g e u2 x2 i h.0)
answer_one g e f OnePlayer (Second u2 x2) h i = absurd (not_good g f u2 x2 i.1 h.1)
answer_one g e f OnePlayer OnePlayer h i = refl
answer_one g e f OnePlayer (LeftOut v2) h i = absurd (i.0.2 h.2)
answer_one g e f OnePlayer Yes h i = absurd (i.0.2 h.2)
answer_one g e f (LeftOut v) (First u2 x2) h i = absurd (not_good g e u2 x2 i h.0.0)
answer_one g e f (LeftOut v) (Second u2 x2) h i = absurd (not_good g f u2 x2 i.1 h.0.1)
answer_one g e f (LeftOut v) OnePlayer h i = absurd (h.0.2 i.2)
answer_one g e f (LeftOut v) (LeftOut v2) h i = ap LeftOut (left_one e f v v2 h.2 i.2 h.3 i.3)
answer_one g e f (LeftOut v) Yes h i = absurd (left_not e f v h.2 (i.1 v h.1))
answer_one g e f Yes (First u2 x2) h i = absurd (not_good g e u2 x2 i h.0.0)
answer_one g e f Yes (Second u2 x2) h i = absurd (not_good g f u2 x2 i.1 h.0.1)
answer_one g e f Yes OnePlayer h i = absurd (h.0.2 i.2)
answer_one g e f Yes (LeftOut v2) h i = absurd (left_not e f v2 i.2 (h.1 v2 i.1))
answer_one g e f Yes Yes h i = refl

left_or : (e f : Evidence) (v : ℕ) → IsLeftOut e f v ⊎ (IsTrue (has e v) ⊎ IsTrue (has f v))
left_or e f v = elim (either_way (has e v)) [
  | inl h ↦ inr (inl h)
  | inr n ↦ elim (either_way (has f v)) [ inl h ↦ inr (inr h) | inr m ↦ inl ((λ h. true≢false (sym h ∙ n)), (λ h. true≢false (sym h ∙ m))) ]
]

answer_of : (g : Game) (e f : Evidence) → (a : Both) × IsBoth g e f a
answer_of g e f = by (verdict_of g e) (verdict_of g f)
  where
    by : (a : Verdict) × IsVerdict g e a → (b : Verdict) × IsVerdict g f b → (c : Both) × IsBoth g e f c
    by (Faulty u fault, h) b = (First u fault, h)
    by (Good, h) (Faulty u fault, i) = (Second u fault, (h, i))
    by (Good, h) (Good, i) = elim (same_player e.player f.player) [
      | inl q ↦ (OnePlayer, (h, i, q))
      | inr n ↦ elim (least_below (IsLeftOut e f) (λ v. IsTrue (has e v) ⊎ IsTrue (has f v)) (left_or e f) (length g.vertices)) [
        | inl w ↦ (LeftOut w.0, ((h, i, n), w.1, w.2, w.3))
        | inr all ↦ (Yes, ((h, i, n), all))
      ]
    ]

pub one_answer : OneAnswer
one_answer g e f = (answer_of g e f, answer_one g e f)
