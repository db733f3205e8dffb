-- Shifts that don't fall.
use Rattle.std.proofs.Common.{ℕ, ◌+◌, ◌<◌, ◌≤◌, List, length, inl, inr, arith}
use Rattle.std.specs.Prelude.{slice_index, slice_index_or}
use Rattle.std.proofs.lemmas.List.{get_or_default, get_or_past}
use Rattle.laws.proofs.Flags.{below_or_not}
use Rattle.rankings.specs.Cells.{AreShifts}

-- from each to the next ones
pub shifts_from : (xs : List ℕ) (n least : ℕ) → length xs ≤ n → least ≤ 63 → ((i : ℕ) → i < n → slice_index xs i ≤ least)
    → ((i j : ℕ) → i ≤ j → j < n → slice_index xs i ≤ slice_index xs j) → AreShifts xs
shifts_from xs n least long few low rising p q le = elim (below_or_not q (length xs)) [
  | inl lt ↦ (
      let a = get_or_default xs p 63 0 (omega arith) in
      let b = get_or_default xs q 63 0 lt in
      let r = rising p q le (omega arith) in
      omega arith)
  | inr past ↦ (
      let b = get_or_past xs q 63 past in
      elim (below_or_not p (length xs)) [
        | inl lt ↦ (let a = get_or_default xs p 63 0 lt in let l = low p (omega arith) in omega arith)
        | inr far ↦ (let a = get_or_past xs p 63 far in omega arith)
      ])
]

-- none is above 63
pub shift_few : (xs : List ℕ) (p : ℕ) → AreShifts xs → slice_index_or xs p 63 ≤ 63
shift_few xs p h = let e = get_or_past xs (p + length xs) 63 (omega arith) in let l = h p (p + length xs) (omega arith) in omega arith
