-- Lists of values and of numbers, as they are written.
use Rattle.std.proofs.Common.{◌≡◌, ℕ, suc, ◌+◌, ◌-◌, ◌<◌, ◌≤◌, Bool, true, false, List, [], ◌∷◌, ◌++◌, length, map, drop, filter, decimal, refl, sym, ap, ◌∙◌}
use Rattle.std.proofs.Common.{add-one, append-nil, arith, slice_index_or, cond}
use Rattle.std.specs.Prelude.{if◌then◌else◌}
use Rattle.std.specs.List.{flat_map, join_with_byte, range_with_len}
use Rattle.std.proofs.Math.Seq.{drop-cons}
use Rattle.std.proofs.Math.ListN.{drop_of_length-le}
use Rattle.measures.specs.Measure.{Measure, Top}
use Rattle.measures.specs.Progress.{value_at}
use Rattle.liftcore.specs.Marks.{members}
use Rattle.liftcore.specs.Replay.{listed, value_line, value_lines}

-- the lines from a vertex on
abbrev pub lines_from : List Measure → ℕ → List ℕ
lines_from values v = value_lines v (drop v values)

pub next_line : (values : List Measure) (v : ℕ) → v < length values → lines_from values v ≡ value_line v (value_at values v) ++ lines_from values (v + 1)
next_line values v h = rw (drop-cons values v Top h, add-one v) refl

pub no_lines : (values : List Measure) (v : ℕ) → length values ≤ v → lines_from values v ≡ []
no_lines values v past = ap (value_lines v) (drop_of_length-le values past)

-- a number behind a comma
abbrev pub more : ℕ → List ℕ
more k = 44 ∷ decimal k

joined : (k : ℕ) (ks : List ℕ) → join_with_byte 44 (map decimal (k ∷ ks)) ≡ decimal k ++ flat_map more ks
joined k [] = sym (append-nil (decimal k))
joined k (j ∷ ks) = ap (λ l. decimal k ++ 44 ∷ l) (joined j ks)

-- those from a vertex on that are marked, of so many
abbrev pub marked_from : List Bool → ℕ → List ℕ
marked_from marks v = filter (λ u. slice_index_or marks u false) (range_with_len v (length marks - v))

-- what is left to write of a list, its first number or further ones
abbrev pub left : Bool → List ℕ → List ℕ
left first vs = if first then listed vs else flat_map more vs

abbrev pub before : Bool → List ℕ
before first = if first then [] else (44 ∷ [])

range_next : (v n : ℕ) → v < n → range_with_len v (n - v) ≡ v ∷ range_with_len (v + 1) (n - (v + 1))
range_next v n h = let e : n - v ≡ suc (n - (v + 1)) = omega arith in ap (range_with_len v) e

pub next_marked : (marks : List Bool) (v : ℕ) (first : Bool) → v < length marks → slice_index_or marks v false ≡ true
    → left first (marked_from marks v) ≡ (before first ++ decimal v) ++ left false (marked_from marks (v + 1))
next_marked marks v first h e = ap (left first) (is_next) ∙ by first
  where
    is_next : marked_from marks v ≡ v ∷ marked_from marks (v + 1)
    is_next = ap (filter (λ u. slice_index_or marks u false)) (range_next v (length marks) h)
        ∙ ap (λ b. cond b (v ∷ marked_from marks (v + 1)) (marked_from marks (v + 1))) e

    by : (b : Bool) → left b (v ∷ marked_from marks (v + 1)) ≡ (before b ++ decimal v) ++ left false (marked_from marks (v + 1))
    by true = joined v (marked_from marks (v + 1))
    by false = refl

pub next_unmarked : (marks : List Bool) (v : ℕ) (first : Bool) → v < length marks → slice_index_or marks v false ≡ false
    → left first (marked_from marks v) ≡ left first (marked_from marks (v + 1))
next_unmarked marks v first h e = ap (left first)
    (ap (filter (λ u. slice_index_or marks u false)) (range_next v (length marks) h)
    ∙ ap (λ b. cond b (v ∷ marked_from marks (v + 1)) (marked_from marks (v + 1))) e)

pub all_marked : (marks : List Bool) → marked_from marks 0 ≡ members marks
all_marked marks = let e : length marks - 0 ≡ length marks = omega arith in ap (λ n. filter (λ u. slice_index_or marks u false) (range_with_len 0 n)) e
