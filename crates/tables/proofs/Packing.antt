-- Each step of the packed board keeps its rule.
use Rattle.std.proofs.Common.{ℕ, zero, suc, ◌≡◌, ◌≢◌, ◌<◌, ◌≤◌, max, List, [], ◌∷◌, length, set, slice_index, ap, ◌+◌, ◌++◌, arith, inl, inr, refl, sym}
use Rattle.std.proofs.Common.{subst, ◌∙◌, ⊎_elim, le_refl, length-set, slice_set}
use Rattle.std.proofs.lemmas.Bool.Decides.{eqb_tells, leb_tells}
use Rattle.std.proofs.lemmas.List.{get_or_past}
use Rattle.std.proofs.Common.{nat_eq, true, false}
use mathlib.Core.Option.{some, some-ne-none, some-injective, none}
use lib.ListN.{get_elem?}
use Rattle.atomic_table.specs.Table.{State, Me, Allows, Enters, step, keeps, opening, stepped}
use Rattle.atomic_table.proofs.Lists.{at_set, at_snoc}
use Rattle.game.specs.Game.{Game, IsGame}
use Rattle.measures.specs.Lifting.{height, of_rank}
use Rattle.measures.specs.Measure.{IsAtMost, Measure, Top}
use Rattle.measures.specs.Progress.{LiesUnder, value_at}
use Rattle.measures.specs.Progress.{opening as first_table}
use Rattle.measures.specs.Tables.{IsPlain, LiesBelow}
use Rattle.measures.proofs.Measures.{at_most_itself, at_most_top, at_most_trans}
use Rattle.measures.proofs.Numbers.{of_rank_max, of_rank_up}
use Rattle.measures.proofs.Opening.{opening_table}
use Rattle.measures.proofs.Rising.{set_under}
use Rattle.measures.proofs.Plain.{opening_below, set_plain, value_set_other, value_set_same}
use Rattle.tables.specs.declared.access.Access.{Access}
use Rattle.tables.specs.declared.access.Access.TheVariants.{Raise, Read}
use Rattle.tables.specs.declared.packed.View.{View}
use Rattle.tables.specs.Packed.{Nothing, view_after, newcomer, IsOpeningRank, IsWord, IsView, IsKept, Looked, Raised, Entered}

-- what holds of each number of a list, and of a new one at its place, holds after the change
changed : (P : ℕ → ℕ → Type 0) (xs : List ℕ) (i n : ℕ) → i < length xs → P i n → ((j : ℕ) → j < length xs → P j (slice_index xs j)) → (j : ℕ) → j < length xs
    → P j (slice_index (set xs i n) j)
changed P [] i n lt here others j in_range = absurd (omega arith)
changed P (x ∷ xs) zero n lt here others zero in_range = here
changed P (x ∷ xs) zero n lt here others (suc j) in_range = others (suc j) in_range
changed P (x ∷ xs) (suc i) n lt here others zero in_range = others zero in_range
changed P (x ∷ xs) (suc i) n lt here others (suc j) in_range = changed (λ k m. P (suc k) m) xs i n (omega arith) here (λ k l. others (suc k) (omega arith)) j
    (omega arith)

set_up : (xs : List ℕ) (i n : ℕ) → slice_index xs i ≤ n → (v : ℕ) → slice_index xs v ≤ slice_index (set xs i n) v
set_up [] i n le v = le_refl _
set_up (x ∷ xs) zero n le zero = le
set_up (x ∷ xs) zero n le (suc v) = le_refl _
set_up (x ∷ xs) (suc i) n le zero = le_refl _
set_up (x ∷ xs) (suc i) n le (suc v) = set_up xs i n le v

set_there : (xs : List ℕ) (i n : ℕ) → i < length xs → slice_index (set xs i n) i ≡ n
set_there [] i n lt = absurd (omega arith)
set_there (x ∷ xs) zero n lt = refl
set_there (x ∷ xs) (suc i) n lt = set_there xs i n (omega arith)

-- a view stays one while words rise
views_stay : (g : Game) (old new : List ℕ) (w : View) → ((v : ℕ) → slice_index old v ≤ slice_index new v) → IsView g old w → IsView g new w
views_stay g old new w up is = record {
  game = is.game;
  long = is.long;
  under = λ v l. at_most_trans (value_at w.seen v) (of_rank g (slice_index old v)) (of_rank g (slice_index new v)) (is.under v l)
      (of_rank_up g (slice_index old v) (slice_index new v) (up v));
}

-- the view of the seat that saw the word's new number
view_steps : (g : Game) (words : List ℕ) (i n : ℕ) (w : View) (accesses : List Access) → length words ≡ length g.vertices → i < length g.vertices → slice_index words i ≤ n
    → IsView g words w
    → IsView g (set words i n) (view_after w.of (set w.seen i (of_rank g n)) accesses)
view_steps g words i n w accesses whole lt up is = record {
  game = is.game;
  long = length-set w.seen i (of_rank g n) ∙ is.long;
  under = λ v l. ⊎_elim
      (λ (t : (nat_eq v i ≡ true) × (v ≡ i)). subst (λ (k : ℕ). IsAtMost (value_at (set w.seen i (of_rank g n)) k)
      (of_rank g (slice_index (set words i n) k))) (sym t.1) here)
      (λ (t : (nat_eq v i ≡ false) × (v ≢ i)). subst (λ (m : Measure). IsAtMost m (of_rank g (slice_index (set words i n) v)))
      (sym (value_set_other w.seen i v (of_rank g n) t.1))
      (at_most_trans (value_at w.seen v) (of_rank g (slice_index words v)) (of_rank g (slice_index (set words i n) v)) (is.under v l)
      (of_rank_up g (slice_index words v) (slice_index (set words i n) v) (set_up words i n up v))))
      (eqb_tells v i);
}
  where
    here : IsAtMost (value_at (set w.seen i (of_rank g n)) i) (of_rank g (slice_index (set words i n) i))
    here =
        subst (λ (m : Measure). IsAtMost m (of_rank g (slice_index (set words i n) i))) (sym (value_set_same w.seen i (of_rank g n) (omega (arith, is.long))))
        (subst (λ (k : ℕ). IsAtMost (of_rank g n) (of_rank g k)) (sym (set_there words i n (omega (arith, whole)))) (at_most_itself (of_rank g n)))

-- a word that rises to the rank of a measure that is below, which its seat then has seen, keeps the rule
rises : (g : Game) (s : State Nothing View) (id i n : ℕ) (c : List (ℕ × Nothing)) (w : View) (accesses : List Access) → IsKept g s → i < length g.vertices
    → get_elem? s.views id ≡ some w
    → slice_index s.words i ≤ n → IsWord g i n → IsKept g (stepped s i n id c (view_after w.of (set w.seen i (of_rank w.of n)) accesses) keeps)
rises g s id i n c w accesses kept lt at up is =
    let mine = kept.seen id w at in
    let there : i < length s.words = omega (arith, kept.whole) in
    let own : IsView g (set s.words i n) (view_after w.of (set w.seen i (of_rank w.of n)) accesses)
    = subst (λ (h : Game). IsView g (set s.words i n) (view_after w.of (set w.seen i (of_rank h n)) accesses)) (sym mine.game)
    (view_steps g s.words i n w accesses kept.whole lt up mine) in record {
      whole = length-set s.words i n ∙ kept.whole;
      words = λ j l. changed (IsWord g) s.words i n there is (λ k m. kept.words k (omega (arith, kept.whole))) j (omega (arith, kept.whole));
      seen = λ j u e. ⊎_elim
          (λ (t : (j ≡ id) × (view_after w.of (set w.seen i (of_rank w.of n)) accesses ≡ u)). subst (IsView g (set s.words i n)) t.1 own)
          (λ (t : (j ≢ id) × (get_elem? s.views j ≡ some u)). views_stay g s.words (set s.words i n) u (set_up s.words i n up) (kept.seen j u t.1))
          (at_set s.views id j (view_after w.of (set w.seen i (of_rank w.of n)) accesses) u e);
    }

-- the greater of two words is one
pub word_max : (g : Game) (v n k : ℕ) → IsWord g v n → k ≤ height g → LiesBelow g v (of_rank g k) → IsWord g v (max n k)
word_max g v n k is fits below = record {
  rank = let l = is.rank in omega arith;
  below = of_rank_max (LiesBelow g v) g n k is.below below;
  opened = at_most_trans (value_at (first_table g) v) (of_rank g n) (of_rank g (max n k)) is.opened (of_rank_up g n (max n k) (omega arith));
}

pub looks : (g : Game) (slots id i : ℕ) (me : Me Nothing View) → me.0.of ≡ g → i < length g.vertices
    → Allows (IsKept g) slots id me i (λ n. n) (Looked (step slots i 0 0 none) me)
looks g slots id i me is lt s kept size at fits =
    let found : ℕ = slice_index s.words i in
    let word : IsWord g i found = kept.words i lt in
    let mine = kept.seen id me.0 at in
    let did : Game → List Access = λ h. me.0.done ++ Read i (of_rank h found) ∷ [] in (
      view_after me.0.of (set me.0.seen i (of_rank me.0.of found)) (did me.0.of),
      keeps,
      tt,
      rises g s id i found me.1 me.0 (did me.0.of) kept lt at (le_refl found) word,
      subst (λ (h : Game). Looked (step slots i 0 0 none) (view_after h me.0.seen me.0.done, me.1) found
          (view_after h (set me.0.seen i (of_rank h found)) (did h), me.1)) (sym is)
          (record { view = refl; later = mine.under i lt; word = word }),
    )

pub raises : (g : Game) (slots id i k : ℕ) (me : Me Nothing View) → me.0.of ≡ g → i < length g.vertices → k ≤ height g → LiesBelow g i (of_rank g k)
    → Allows (IsKept g) slots id me i (λ n. max n k) (Raised (step slots i k 0 none) me)
raises g slots id i k me is lt small new s kept size at fits =
    let found : ℕ = slice_index s.words i in
    let word : IsWord g i found = kept.words i lt in
    let mine = kept.seen id me.0 at in
    let did : Game → List Access = λ h. me.0.done ++ Raise i (of_rank h found) (of_rank h k) ∷ [] in
    let up : found ≤ max found k = omega arith in (
      view_after me.0.of (set me.0.seen i (of_rank me.0.of (max found k))) (did me.0.of),
      keeps,
      tt,
      rises g s id i (max found k) me.1 me.0 (did me.0.of) kept lt at up (word_max g i found k word small new),
      subst (λ (h : Game). Raised (step slots i k 0 none) (view_after h me.0.seen me.0.done, me.1) found
          (view_after h (set me.0.seen i (of_rank h (max found k))) (did h), me.1)) (sym is)
          (record { view = refl; later = mine.under i lt; word = word }),
    )

-- a new seat's view
opened_view : (g : Game) (words : List ℕ) → ((v : ℕ) → v < length g.vertices → IsWord g v (slice_index words v)) → IsView g words (newcomer g)
opened_view g words is = record { game = refl; long = (opening_table g).0; under = λ v l. (is v l).opened }

pub enters : (g : Game) (slots i : ℕ) → Enters (IsKept g) slots i (λ n w. Entered (step slots i 0 0 none) (newcomer g, []) n (w, []))
enters g slots i s kept size fits = (
  newcomer g,
  record {
    whole = kept.whole;
    words = kept.words;
    seen = λ j u e. ⊎_elim (kept.seen j u) (λ (is : newcomer g ≡ u). subst (IsView g s.words) is (opened_view g s.words kept.words))
        (at_snoc s.views (newcomer g) u j e);
  },
  refl,
)

-- the board of the opening table
pub opens : (g : Game) (ranks : List ℕ) → IsGame g → length ranks ≡ length g.vertices
    → ((v : ℕ) → v < length g.vertices → IsOpeningRank g v (slice_index ranks v)) → IsKept g (opening ranks [] (newcomer g))
opens g ranks game whole are = record {
  whole = whole;
  words = words;
  seen = λ j u e. ⊎_elim (λ (x : get_elem? {A = View} [] j ≡ some u). absurd (some-ne-none u (sym x)))
      (λ (is : newcomer g ≡ u). subst (IsView g ranks) is (opened_view g ranks words))
      (at_snoc [] (newcomer g) u j e);
}
  where
    words : (v : ℕ) → v < length g.vertices → IsWord g v (slice_index ranks v)
    words v l = record {
      rank = (are v l).rank;
      below = subst (LiesBelow g v) (sym (are v l).value) (opening_below g v game l);
      opened = subst (IsAtMost (value_at (first_table g) v)) (sym (are v l).value) (at_most_itself (value_at (first_table g) v));
    }

-- what holds of each number of a list holds with one more
pub with_last : (P : ℕ → ℕ → Type 0) (xs : List ℕ) (x : ℕ) → ((v : ℕ) → v < length xs → P v (slice_index xs v)) → P (length xs) x → (v : ℕ)
    → v < length xs + 1 → P v (slice_index (xs ++ x ∷ []) v)
with_last P [] x h last zero l = last
with_last P [] x h last (suc v) l = absurd (omega (arith, l))
with_last P (y ∷ ys) x h last zero l = h 0 (omega arith)
with_last P (y ∷ ys) x h last (suc v) l = with_last (λ u n. P (suc u) n) ys x (λ u k. h (suc u) (omega arith)) last v (omega (arith, l))

pub read_some : (xs : List ℕ) (i x : ℕ) → get_elem? xs i ≡ some x → slice_index xs i ≡ x
read_some [] i x e = absurd (some-ne-none x (sym e))
read_some (y ∷ ys) zero x e = some-injective y x e
read_some (y ∷ ys) (suc i) x e = read_some ys i x e

-- a seat that has seen one measure more, which is below
pub seen_more : (g : Game) (was after : View) (v : ℕ) (m : Measure) (accesses : List Access) → was.of ≡ g → IsPlain (record { game = g; values = was.seen }) → v < length g.vertices
    → LiesBelow g v m
    → after ≡ view_after was.of (slice_set was.seen v m) accesses → (after.of ≡ g) × IsPlain (record { game = g; values = after.seen })
seen_more g was after v m accesses is plain lt below e = (
  ap (λ (w : View). w.of) e ∙ is,
  subst (λ (t : List Measure). IsPlain (record { game = g; values = t })) (sym (ap (λ (w : View). w.seen) e))
      (set_plain (record { game = g; values = was.seen }) v m plain lt below),
)

-- After a raise nothing that was seen is less, and what was brought is seen.
pub raised_seen : (g : Game) (was after : View) (v found number : ℕ) (accesses : List Access) → was.of ≡ g → IsPlain (record { game = g; values = was.seen }) → v < length g.vertices
    → after ≡ view_after was.of (slice_set was.seen v (of_rank was.of (max found number))) accesses → IsAtMost (value_at was.seen v) (of_rank was.of found)
    → LiesUnder was.seen after.seen × IsAtMost (of_rank g number) (value_at after.seen v)
raised_seen g was after v found number accesses is plain lt e later = (
  subst (λ (t : List Measure). LiesUnder was.seen t) (sym now)
      (set_under was.seen v (of_rank was.of (max found number)) (omega (arith, plain.long))
      (at_most_trans (value_at was.seen v) (of_rank was.of found) (of_rank was.of (max found number)) later
      (of_rank_up was.of found (max found number) (omega arith)))),
  subst (λ (t : List Measure). IsAtMost (of_rank g number) (value_at t v)) (sym now)
      (subst (λ (m : Measure). IsAtMost (of_rank g number) m) (sym (value_set_same was.seen v (of_rank was.of (max found number)) (omega (arith, plain.long))))
      (subst (λ (h : Game). IsAtMost (of_rank g number) (of_rank h (max found number))) (sym is) (of_rank_up g number (max found number) (omega arith)))),
)
  where
    now : after.seen ≡ slice_set was.seen v (of_rank was.of (max found number))
    now = ap (λ (w : View). w.seen) e

-- what the words of a closed board hold
pub closed_words : (key g : Game) (words : List ℕ) (s : State Nothing View) → key ≡ g → IsKept key s → s.words ≡ words → (v : ℕ) → v < length g.vertices
    → IsWord g v (slice_index words v)
closed_words key g words s same kept e v lt =
    subst (λ (ws : List ℕ). IsWord g v (slice_index ws v)) e ((subst (λ (h : Game). IsKept h s) same kept).words v lt)

-- a table that was raised to all of them is nowhere less than what a seat had seen
pub closed_over : (key g : Game) (words : List ℕ) (s : State Nothing View) (id : ℕ) (w : View) (values : List Measure) → key ≡ g → IsKept key s
    → get_elem? s.views id ≡ some w → s.words ≡ words
    → length values ≡ length g.vertices → ((v : ℕ) → v < length g.vertices → IsAtMost (of_rank g (slice_index words v)) (value_at values v))
    → LiesUnder w.seen values
closed_over key g words s id w values same kept at e long over v = elim (leb_tells (length g.vertices) v) [
  | inl past ↦ (let l = past.1 in subst (IsAtMost (value_at w.seen v)) (sym (get_or_past values v Top (omega (arith, l, long))))
      (at_most_top (value_at w.seen v)))
  | inr here ↦ (
      let was = (subst (λ (h : Game). IsKept h s) same kept).seen id w at in
      let there : IsAtMost (value_at w.seen v) (of_rank g (slice_index words v)) = subst
      (λ (ws : List ℕ). IsAtMost (value_at w.seen v) (of_rank g (slice_index ws v))) e (was.under v here.1) in
      at_most_trans (value_at w.seen v) (of_rank g (slice_index words v)) (value_at values v) there (over v here.1))
]

-- After a look at a word that is no less than a number nothing that was seen is less, and what has that rank is seen.
pub looked_high : (g : Game) (was now : List Measure) (v found number : ℕ) → now ≡ slice_set was v (of_rank g found) → v < length was
    → IsAtMost (value_at was v) (of_rank g found) → number ≤ found
    → LiesUnder was now × IsAtMost (of_rank g number) (value_at now v)
looked_high g was now v found number e lt later high = (
  subst (LiesUnder was) (sym e) (set_under was v (of_rank g found) lt later),
  subst (λ (t : List Measure). IsAtMost (of_rank g number) (value_at t v)) (sym e)
      (subst (IsAtMost (of_rank g number)) (sym (value_set_same was v (of_rank g found) lt)) (of_rank_up g number found high)),
)
