-- What a list contains, by its places.
use Rattle.measures.proofs.Common.{◌≡◌, ℕ, ◌<◌, ◌≤◌, List, length, subst, ◌∙◌, arith, Contains, slice_index}
use Rattle.measures.proofs.Common.{get_or_default}

-- what a list contains by place, and from all places
pub place_contained : (xs : List ℕ) (i x : ℕ) → i < length xs → slice_index xs i ≡ x → Contains xs x
place_contained xs i x h e = (i, h, get_or_default xs i x 0 h ∙ e)

pub contained_from : (P : ℕ → Type 0) (xs : List ℕ) (n : ℕ) → length xs ≤ n → ((i : ℕ) → i < n → P (slice_index xs i)) → (x : ℕ) → Contains xs x → P x
contained_from P xs n l f x (i, h, e) = subst P (get_or_default xs i 0 x h ∙ e) (f i (omega arith))
