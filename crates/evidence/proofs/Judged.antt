-- What is wrong with a line of evidence, or the entry that it gives, by what was found on it.
use Rattle.std.proofs.Common.{◌≡◌, ℕ, ◌<◌, ◌≤◌, List, Option, Some, None, length, refl, sym, ap, ap₂, ◌∙◌, subst, inl, inr, arith, slice_index_or}
use Rattle.std.proofs.lemmas.Bool.Decides.{leb_tells}
use Rattle.text.specs.Tokens.{capped, ◌>>=◌}
use Rattle.game.specs.declared.limits.TheConstants.{MOST_VERTICES}
use Rattle.evidence.specs.Evidence.{Entry}
use Rattle.evidence.specs.Reading.{IsAdded, IsNoPlace, HasPlaceFor}
use Rattle.evidence.specs.Scan.{fields_of, rank_of, read_move}
use Rattle.evidence.specs.Spelling.{IsShaped, EntryRow}
use Rattle.evidence.specs.View.{NamedEvidence, rank_width, with_entry}
use Rattle.evidence.proofs.Scanned.{row_found, row_gives, row_of}

abbrev entry : Option ℕ → List ℕ → Entry
entry m ks = record { move = m; rank = ks }

abbrev row : ℕ → Option ℕ → List ℕ → EntryRow
row n m ks = record { vertex = n; entry = entry m ks }

abbrev with_rank : ℕ → Option ℕ → Option (List ℕ) → Option EntryRow
with_rank n m o = o >>= λ ks. Some (row n m ks)

abbrev with_fields : ℕ → Option (ℕ × Option ℕ × List ℕ) → Option EntryRow
with_fields width o = o >>= λ f. with_rank f.0 f.1 (rank_of width f.2)

module _ (width : ℕ) (line : List ℕ) where
  none_shaped : row_of width line ≡ None → (x : EntryRow) → IsShaped width line x → ⊥
  none_shaped none x h = let found = row_found width line x h in cc

  pub no_fields : fields_of line ≡ None → (x : EntryRow) → IsShaped width line x → ⊥
  no_fields none = none_shaped (ap (with_fields width) none)

  module _ (n : ℕ) (m : Option ℕ) (r : List ℕ) (found : fields_of line ≡ Some (n, m, r)) where
    pub no_rank : rank_of width r ≡ None → (x : EntryRow) → IsShaped width line x → ⊥
    no_rank none = none_shaped (ap (with_fields width) found ∙ ap (with_rank n m) none)

    pub shaped : (ks : List ℕ) → rank_of width r ≡ Some ks → IsShaped width line (row n m ks)
    shaped ks read = row_gives width line (row n m ks) (ap (with_fields width) found ∙ ap (with_rank n m) read)

move_same : (m : Option ℕ) (k : ℕ) → k ≤ MOST_VERTICES → ((t : ℕ) → read_move m ≡ Some t → t < k) → m ≡ read_move m
move_same None k few h = refl
move_same (Some t) k few h = let low = h (capped t) refl in let e : t ≡ capped t = omega arith in ap (λ x. Some x) e

far_move : (m : Option ℕ) (k t : ℕ) → read_move m ≡ Some t → k ≤ t → (u : ℕ) × (m ≡ Some u) × (k ≤ u)
far_move None k t e far = absurd cc
far_move (Some u) k t e far = let is : capped u ≡ t = cc in (u, refl, omega arith)

-- The numbers that were read decide as the numbers do that stand there.
module _ (old : NamedEvidence) (few : length old.evidence.entries ≤ MOST_VERTICES) (v n : ℕ) (next m : Option ℕ) (number : v ≡ capped n)
    (is : next ≡ read_move m) where
  abbrev entries : List (Option Entry)
  entries = old.evidence.entries

  pub no_place : IsNoPlace entries v next → IsNoPlace entries n m
  no_place (inl past) = inl (omega arith)
  no_place (inr (inl (t, e, far))) = inr (inl (far_move m (length entries) t (sym is ∙ e) far))
  no_place (inr (inr (x, e))) = elim (leb_tells (length entries) v) [
    | inl w ↦ inl (let past = w.1 in omega arith)
    | inr w ↦ (let below = w.1 in let same : v ≡ n = omega arith in inr (inr (x, subst (λ k. slice_index_or entries k None ≡ Some x) same e)))
  ]

  module _ (place : HasPlaceFor entries v next) where
    same_vertex : v ≡ n
    same_vertex = let below = place.vertex in omega arith

    same_move : m ≡ next
    same_move = move_same m (length entries) few (λ t e. place.move t (is ∙ e)) ∙ sym is

    pub placed : (line ks : List ℕ) → IsShaped (rank_width old) line (row n m ks) → (new : NamedEvidence) → new ≡ with_entry old v (entry next ks)
        → IsAdded line old new
    placed line ks h new e = record {
      row = row n m ks;
      shaped = h;
      inside = record { vertex = subst (λ k. k < length entries) same_vertex place.vertex; move = λ t q. place.move t (sym same_move ∙ q) };
      free = subst (λ k. slice_index_or entries k None ≡ None) same_vertex place.free;
      added = e ∙ ap₂ (λ k o. with_entry old k (entry o ks)) same_vertex (sym same_move);
    }
