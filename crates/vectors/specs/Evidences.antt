-- Worked examples of evidence: on the game of nu X. mu Y. (<a>X || <b>Y) over the two-state system.
use Rattle.std.specs.Prelude.{◌≡◌, ℕ, zero, suc, ◌<◌, ◌≤◌, ◌⊎◌, ◌||◌, true, IsTrue, List, [], ◌∷◌, Contains, Option, Some, None, refl}
use Rattle.std.specs.List.{AllByRecursion, list_all, range_with_len}
use Rattle.std.proofs.Common.{arith, inl, inr, subst, sym, true≢false}
use Rattle.std.proofs.lemmas.Bool.Decides.{leb_tells}
use Rattle.std.proofs.lemmas.List.{get_or_past}
use Rattle.game.specs.declared.player.Player.TheVariants.{Even, Odd}
use Rattle.game.specs.Game.{Vertex, vertex}
use Rattle.measures.specs.Laws.{IsBestMove, IsLeastSuccessor}
use Rattle.measures.specs.Measure.{Counts, IsAtMost, Measure, Top}
use Rattle.measures.specs.Progress.{value_at}
use Rattle.measures.proofs.Lists.{all_contained}
use Rattle.measures.proofs.Measures.{at_most_itself, prog_more, top_prog}
use Rattle.evidence.specs.Best.{IsEvenOf}
use Rattle.evidence.specs.Evidence.{Entry, Evidence, counted, entry_at, has}
use Rattle.evidence.specs.Verdict.{IsBoth, IsVerdict}
use Rattle.evidence.specs.declared.verdict.Fault.TheVariants.{Leaves, Move, Rank}
use Rattle.evidence.specs.declared.verdict.Verdict.TheVariants.{Faulty, Good}
use Rattle.evidence.specs.declared.verdict.Both.TheVariants.{LeftOut, OnePlayer, Second, Yes}
use Rattle.laws.proofs.Flags.{either}
use Rattle.laws.proofs.Lists.{all_gives, gives_range, of_two}
use Rattle.evidence.proofs.Tested.{judged_right}
use Rattle.vectors.specs.Systems.{◌&◌}
use Rattle.vectors.specs.Games.{even_to, often_a_game, vertex_at}
use Rattle.vectors.specs.Measures.{prog_at_0}
use Rattle.vectors.specs.Tables.{least_often_a, least_table_often_a, number}

-- Even's ranks count priority 1, and Odd's 2 and 0
counted_by : (counted Even often_a_game ≡ 1 ∷ []) × (counted Odd often_a_game ≡ 2 ∷ 0 ∷ [])
counted_by = (refl, refl)

abbrev goes : ℕ → ℕ → Option Entry
goes t k = Some (record { move = Some t; rank = k ∷ [] })

abbrev stays : ℕ → Option Entry
stays k = Some (record { move = None; rank = k ∷ [] })

abbrev lost : ℕ → ℕ → Option Entry
lost j k = Some (record { move = None; rank = j ∷ k ∷ [] })

-- Even's evidence with these entries at 1, 5, 10 and 14
abbrev even_with : Option Entry → Option Entry → Option Entry → Option Entry → Evidence
even_with at_1 at_5 at_10 at_14 = record {
  player = Even;
  entries =
      goes 0 0 ∷ at_1 ∷ goes 3 0 ∷ goes 4 1 ∷ goes 5 0 ∷ at_5 ∷ goes 2 0 ∷ None ∷ goes 3 1 ∷ goes 10 0 ∷ at_10 ∷ goes 14 1 ∷ None ∷ goes 9 0 ∷ at_14
      ∷ goes 10 2 ∷ [];
}

-- Odd's with these at 1 and 7
abbrev odd_with : Option Entry → Option Entry → Evidence
odd_with at_1 at_7 = record {
  player = Odd;
  entries = None ∷ at_1 ∷ None ∷ None ∷ None ∷ None ∷ None ∷ at_7 ∷ None ∷ None ∷ None ∷ None ∷ lost 0 1 ∷ None ∷ None ∷ None ∷ [];
}

abbrev pub evens : Evidence
evens = even_with None (goes 13 0) (goes 11 2) (goes 8 1)

abbrev pub odds : Evidence
odds = odd_with (lost 0 0) (lost 0 1)

good_even : IsVerdict often_a_game evens Good
good_even = judged_right often_a_game evens

good_odd : IsVerdict often_a_game odds Good
good_odd = judged_right often_a_game odds

-- a move that is no successor; none; a vertex that the play leaves for; a rank that doesn't fall; one at a vertex that goes to itself
no_successor : IsVerdict often_a_game (even_with None (goes 9 0) (goes 11 2) (goes 8 1)) (Faulty 5 Move)
no_successor = judged_right often_a_game (even_with None (goes 9 0) (goes 11 2) (goes 8 1))

no_move : IsVerdict often_a_game (even_with None (stays 0) (goes 11 2) (goes 8 1)) (Faulty 5 Move)
no_move = judged_right often_a_game (even_with None (stays 0) (goes 11 2) (goes 8 1))

leaves : IsVerdict often_a_game (even_with None (goes 13 0) (goes 11 2) None) (Faulty 11 Leaves)
leaves = judged_right often_a_game (even_with None (goes 13 0) (goes 11 2) None)

rank_stays : IsVerdict often_a_game (even_with None (goes 13 0) (goes 11 1) (goes 8 1)) (Faulty 10 Rank)
rank_stays = judged_right often_a_game (even_with None (goes 13 0) (goes 11 1) (goes 8 1))

to_itself : IsVerdict often_a_game (even_with (goes 1 0) (goes 13 0) (goes 11 2) (goes 8 1)) (Faulty 1 Rank)
to_itself = judged_right often_a_game (even_with (goes 1 0) (goes 13 0) (goes 11 2) (goes 8 1))

-- a count may be greater than the number of vertices of its priority
abbrev sink_alone : Evidence
sink_alone = record {
  player = Even;
  entries = goes 0 1000 ∷ None ∷ None ∷ None ∷ None ∷ None ∷ None ∷ None ∷ None ∷ None ∷ None ∷ None ∷ None ∷ None ∷ None ∷ None ∷ [];
}

great_count : IsVerdict often_a_game sink_alone Good
great_count = judged_right often_a_game sink_alone

odd_leaves : IsVerdict often_a_game (odd_with None (lost 0 1)) (Faulty 7 Leaves)
odd_leaves = judged_right often_a_game (odd_with None (lost 0 1))

-- Odd's vertices have no moves of Even's
even_moves : IsVerdict often_a_game (odd_with (Some (record { move = Some 1; rank = 0 ∷ 0 ∷ [] })) (lost 0 1)) (Faulty 1 Move)
even_moves = judged_right often_a_game (odd_with (Some (record { move = Some 1; rank = 0 ∷ 0 ∷ [] })) (lost 0 1))

-- two pieces, in either order; a vertex left out; one player's twice; a fault of the second
in_one : (e f : Evidence) (n : ℕ) → list_all (λ v. has e v || has f v) (range_with_len 0 n) ≡ true → (v : ℕ) → v < n → IsTrue (has e v) ⊎ IsTrue (has f v)
in_one e f n all v h = either (has e v) (has f v)
    (all_gives (λ u. has e u || has f u) (range_with_len 0 n) v all (gives_range 0 n v (omega arith) (omega (arith, h))))

both_yes : IsBoth often_a_game evens odds Yes
both_yes = ((good_even, good_odd, λ e. cc), in_one evens odds 16 refl)

other_way : IsBoth often_a_game odds evens Yes
other_way = ((good_odd, good_even, λ e. cc), in_one odds evens 16 refl)

one_player : IsBoth often_a_game evens evens OnePlayer
one_player = (good_even, good_even, refl)

second_fault : IsBoth often_a_game evens (odd_with None (lost 0 1)) (Second 7 Leaves)
second_fault = (good_even, odd_leaves)

-- without the entry of vertex 7 that vertex is in neither
good_fewer : IsVerdict often_a_game (odd_with (lost 0 0) None) Good
good_fewer = judged_right often_a_game (odd_with (lost 0 0) None)

left_out : IsBoth often_a_game evens (odd_with (lost 0 0) None) (LeftOut 7)
left_out = (
  (good_even, good_fewer, λ e. cc),
  omega arith,
  ((λ h. true≢false (sym h)), (λ h. true≢false (sym h))),
  in_one evens (odd_with (lost 0 0) None) 7 refl,
)

-- ------------------------------------------------------------------ it is Even's by the least table

abbrev value : ℕ → Measure
value v = value_at least_often_a v

abbrev Best : Vertex → Option ℕ → Type 0
Best = IsBestMove often_a_game least_often_a

-- a lesser value has a lesser prog
lesser : (x : Vertex) (t : ℕ) → Contains x.successors t → AllByRecursion (λ u. IsAtMost (value t) (value u)) x.successors
    → IsLeastSuccessor often_a_game least_often_a x t
lesser x t c low = record {
  successor = c;
  least = λ u d m r i j. prog_more often_a_game x.priority (value t) (value u) m r
      (all_contained (λ w. IsAtMost (value t) (value w)) x.successors u low d) i j;
}

-- the first of the successors, where none has a lesser value
best : (p : ℕ) (ts : List ℕ) (t : ℕ) → Contains ts t → AllByRecursion (λ u. IsAtMost (value t) (value u)) ts → AllByRecursion (λ u. t ≤ u) ts
    → Best (vertex_at p Even ts) (Some t)
best p ts t c low first = (refl, lesser (vertex_at p Even ts) t c low, λ u is. all_contained (λ w. t ≤ w) ts u first is.successor)

-- from vertex 4 to 5, since 7 is lost
best_4 : Best (vertex_at 0 Even (5 ∷ 7 ∷ [])) (Some 5)
best_4 = best 0 (5 ∷ 7 ∷ []) 5 (0, omega arith, refl) (refl & refl & tt) (omega arith & omega arith & tt)

-- from 11 to 14, though 12 comes first: it is lost
best_11 : Best (vertex_at 0 Even (12 ∷ 14 ∷ [])) (Some 14)
best_11 = (
  refl,
  lesser (vertex_at 0 Even (12 ∷ 14 ∷ [])) 14 (1, omega arith, refl) (refl & refl & tt),
  λ u is. elim (of_two 12 14 u is.successor) [
    | inl e ↦ absurd (never (subst (IsLeastSuccessor often_a_game least_often_a (vertex_at 0 Even (12 ∷ 14 ∷ []))) e is))
    | inr e ↦ omega arith
  ],
)
  where
    never : IsLeastSuccessor often_a_game least_often_a (vertex_at 0 Even (12 ∷ 14 ∷ [])) 12 → ⊥
    never is =
        let one = prog_at_0 often_a_game (number 1) refl (omega arith, tt) in
        true≢false (sym (is.least 14 (1, omega arith, refl) Top (number 1) (top_prog often_a_game 0) one))

abbrev Inside : ℕ → Type 0
Inside v = (c : List ℕ) → value v ≡ Counts c
    → (x : Entry) × (entry_at evens v ≡ Some x) × (x.rank ≡ c) × ((w : Vertex) → vertex often_a_game v ≡ Some w → Best w x.move)

here : (v : ℕ) (w : Vertex) (t k : ℕ) → vertex often_a_game v ≡ Some w → entry_at evens v ≡ goes t k → value v ≡ number k → Best w (Some t) → Inside v
here v w t k at entry is good c h = (
  record { move = Some t; rank = k ∷ [] },
  entry,
  let q : k ∷ [] ≡ c = cc in q,
  λ y there. (let q : w ≡ y = cc in subst (λ z. Best z (Some t)) q good),
)

at_one : (v p t k : ℕ) → vertex often_a_game v ≡ Some (even_to p t) → entry_at evens v ≡ goes t k → value v ≡ number k → Inside v
at_one v p t k at entry is =
    here v (even_to p t) t k at entry is (best p (t ∷ []) t (0, omega arith, refl) (at_most_itself (value t), tt) (omega arith, tt))

lost_at : (v : ℕ) → value v ≡ Top → Inside v
lost_at v top c h = absurd cc

inside : (v : ℕ) → Inside v
inside v = elim (leb_tells 16 v) [
  | inl w ↦ lost_at v (get_or_past least_often_a v Top w.1)
  | inr w ↦ all_contained Inside (range_with_len 0 16) v each (gives_range 0 16 v (omega arith) (omega (arith, w.1)))
]
  where
    each : AllByRecursion Inside (range_with_len 0 16)
    each =
        at_one 0 0 0 0 refl refl refl & lost_at 1 refl & at_one 2 2 3 0 refl refl refl & at_one 3 1 4 1 refl refl refl
        & here 4 (vertex_at 0 Even (5 ∷ 7 ∷ [])) 5 0 refl refl refl best_4 & at_one 5 0 13 0 refl refl refl & at_one 6 0 2 0 refl refl refl
        & lost_at 7 refl & at_one 8 0 3 1 refl refl refl & at_one 9 2 10 0 refl refl refl & at_one 10 1 11 2 refl refl refl
        & here 11 (vertex_at 0 Even (12 ∷ 14 ∷ [])) 14 1 refl refl refl best_11 & lost_at 12 refl & at_one 13 0 9 0 refl refl refl
        & at_one 14 0 8 1 refl refl refl & at_one 15 0 10 2 refl refl refl & tt

outside : (v : ℕ) → value v ≡ Top → entry_at evens v ≡ None
outside (suc zero) h = refl
outside (suc (suc (suc (suc (suc (suc (suc zero))))))) h = refl
outside (suc (suc (suc (suc (suc (suc (suc (suc (suc (suc (suc (suc zero)))))))))))) h = refl
outside (suc (suc (suc (suc (suc (suc (suc (suc (suc (suc (suc (suc (suc (suc (suc (suc v)))))))))))))))) h = refl
outside _ h = absurd cc

even_of : IsEvenOf often_a_game evens
even_of = record { player = refl; long = refl; table = least_often_a; least = least_table_often_a; outside = outside; inside = inside }
