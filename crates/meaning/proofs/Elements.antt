-- Indices up to one more, and what follows both ways.
use Rattle.std.proofs.Common.{◌≡◌, ℕ, suc, ◌<◌, ◌⊎◌, ◌↔◌, arith}

pub last_or_less : (i n : ℕ) → i < suc n → (i < n) ⊎ (i ≡ n)
last_or_less i n lt = grind arith

pub both : {A B C : Type 0} → A ↔ B → B ↔ C → A ↔ C
both f g = (λ a. g.0 (f.0 a), λ c. f.1 (g.1 c))
