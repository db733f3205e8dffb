-- Turns, one after another.
use Rattle.std.proofs.Common.{◌≡◌, ℕ, suc, ◌+◌, ◌<◌, ◌≤◌, List, [], ◌∷◌, ◌++◌, length, take, slice_index, slice_set, add-one, ap, append_assoc, arith, refl, subst, sym, ◌∙◌}
use Rattle.std.proofs.Common.{◌%◌, ◌==◌, eq-eqb, filter}
use Rattle.std.specs.List.{range_with_len}
use Rattle.std.proofs.lemmas.Bool.{ne_eqb}
use Rattle.std.proofs.lemmas.List.{append-nil, length-take-le}
use Rattle.std.proofs.lemmas.List.Elements.{filter-append}
use Rattle.std.proofs.Math.Seq.{take-suc, take-suc-set}
use Rattle.game.specs.Game.{Game}
use Rattle.measures.specs.Measure.{Measure}
use Rattle.tables.specs.Turns.{reads}
use Rattle.tables.specs.declared.access.Access.{Access}
use Rattle.tables.specs.declared.access.Access.TheVariants.{Read}
use Rattle.tables.proofs.Reading.{range_next, reads_next}
use Rattle.workers.specs.Turns.{AreTurns, IsWork, own_vertices}

-- one successor more is read, and its measure is noted
pub reads_noted : (ts : List ℕ) (values : List Measure) (place : ℕ) (m : Measure) → place < length ts → length ts ≤ length values
    → reads (take place ts) (take place values) ++ Read (slice_index ts place) m ∷ [] ≡ reads (take (place + 1) ts) (take (place + 1) (slice_set values place m))
reads_noted ts values place m lt long =
    let left : length (take place ts) ≡ place = length-take-le place ts (omega (arith, lt)) in
    let right : length (take place values) ≡ place = length-take-le place values (omega (arith, lt, long)) in
    let more : take (place + 1) ts ≡ take place ts ++ slice_index ts place ∷ [] = ap (λ (n : ℕ). take n ts) (add-one place) ∙ take-suc ts place 0 lt in
    let noted : take (place + 1) (slice_set values place m) ≡ take place values ++ m ∷ [] =
    ap (λ (n : ℕ). take n (slice_set values place m)) (add-one place) ∙ take-suc-set values place m (omega (arith, lt, long)) in
    sym (ap (λ (us : List ℕ). reads us (take (place + 1) (slice_set values place m))) more
    ∙ (ap (reads (take place ts ++ slice_index ts place ∷ [])) noted
    ∙ reads_next (take place ts) (take place values) (slice_index ts place) m (right ∙ sym left)))

-- one turn more
pub turns_next : (g : Game) (was_pending : ℕ → Type 0) (vs : List ℕ) (v : ℕ) (before mine : List Access) (given jobs : List ℕ)
    → AreTurns g was_pending vs before given → IsWork g was_pending v mine jobs → AreTurns g was_pending (vs ++ v ∷ []) (before ++ mine) (given ++ jobs)
turns_next g was_pending [] v before mine given jobs are is = (
  mine,
  [],
  jobs,
  [],
  ap (λ (xs : List Access). xs ++ mine) are.0 ∙ sym (append-nil mine),
  ap (λ (xs : List ℕ). xs ++ jobs) are.1 ∙ sym (append-nil jobs),
  is,
  (refl, refl),
)
turns_next g was_pending (u ∷ vs) v before mine given jobs (first, rest, own, others, cut, split, work, more) is = (
  first,
  rest ++ mine,
  own,
  others ++ jobs,
  ap (λ (xs : List Access). xs ++ mine) cut ∙ append_assoc first rest mine,
  ap (λ (xs : List ℕ). xs ++ jobs) split ∙ append_assoc own others jobs,
  work,
  turns_next g was_pending vs v rest mine others jobs more is,
)

-- some turns, and then others
pub turns_both : (g : Game) (was_pending : ℕ → Type 0) (vs us : List ℕ) (before after : List Access) (given jobs : List ℕ)
    → AreTurns g was_pending vs before given → AreTurns g was_pending us after jobs → AreTurns g was_pending (vs ++ us) (before ++ after) (given ++ jobs)
turns_both g was_pending [] us before after given jobs (none, no-jobs) are =
    subst (λ xs. AreTurns g was_pending us (xs ++ after) (given ++ jobs)) (sym none) (subst (λ js. AreTurns g was_pending us after (js ++ jobs)) (sym no-jobs) are)
turns_both g was_pending (v ∷ vs) us before after given jobs (first, rest, own, others, cut, split, work, more) are = (
  first,
  rest ++ after,
  own,
  others ++ jobs,
  ap (λ (xs : List Access). xs ++ after) cut ∙ append_assoc first rest after,
  ap (λ (xs : List ℕ). xs ++ jobs) split ∙ append_assoc own others jobs,
  work,
  turns_both g was_pending vs us rest after others jobs more are,
)

module _ (v workers number : ℕ) where
  parts : own_vertices (v + 1) workers number ≡ own_vertices v workers number ++ filter (λ u. u % workers == number) (v ∷ [])
  parts = ap (filter (λ u. u % workers == number)) (range_next 0 v v (omega arith))
      ∙ filter-append (λ u. u % workers == number) (range_with_len 0 v) (v ∷ [])

  -- one vertex more, which is the worker's own
  pub own_more : v % workers ≡ number → own_vertices (v + 1) workers number ≡ own_vertices v workers number ++ v ∷ []
  own_more e = parts ∙ rw (eq-eqb (v % workers) number e) refl

  -- one vertex more, which is another worker's
  pub own_same : (v % workers ≡ number → ⊥) → own_vertices (v + 1) workers number ≡ own_vertices v workers number
  own_same n = parts ∙ rw (ne_eqb (v % workers) number n) (append-nil (own_vertices v workers number))
