-- That a rank descends is that one measure reaches another: in the game for Even, in its dual for Odd.
use Rattle.std.proofs.Common.{◌≡◌, ℕ, ◌+◌, ◌%◌, ◌<◌, Bool, true, false, List, length, refl, sym, subst, ◌∙◌, inl, inr, arith, count_by, nat_le, true≢false}
use Rattle.game.specs.declared.player.Player.{Player}
use Rattle.game.specs.declared.player.Player.TheVariants.{Even, Odd}
use Rattle.game.specs.Game.{Game, dual, opponent}
use Rattle.game.specs.Wins.{IsOf}
use Rattle.measures.specs.Measure.{Counts, Reaches, is_odd}
use Rattle.measures.proofs.Cycles.{odd_or_even}
use Rattle.measures.proofs.Order.{Over, over_fewer, over_from, over_to}
use Rattle.measures.proofs.Measures.{over_reaches, reaches_over}
use Rattle.evidence.specs.Evidence.{Descends, counted}
use Rattle.evidence.specs.Laws.{DescentIsReaching}
use Rattle.evidence.proofs.Shifted.{kept_dual}

module _ (player : Player) (g : Game) (p : ℕ) (rank next : List ℕ) where
  abbrev pub some : ℕ
  some = count_by (λ q. nat_le p q) (counted player g)

  pub to_over : (s : Bool) → (s ≡ true → IsOf (opponent player) p) → Descends player g p rank next → Over s some next rank
  to_over true of d = over_from true some next rank (d.1 (of refl))
  to_over false of d = over_from false some next rank d.0

  pub from_over : (s : Bool) → (IsOf (opponent player) p → s ≡ true) → Over s some next rank → Descends player g p rank next
  from_over s of o = (
    over_to false some next rank (over_fewer s some some next rank (omega arith) o),
    λ is. over_to true some next rank (subst (λ b. Over b some next rank) (of is) o),
  )

odd_of : (p : ℕ) → is_odd p ≡ true → p % 2 ≡ 1
odd_of p e = elim (odd_or_even p) [ inl w ↦ w.1 | inr w ↦ absurd (true≢false (sym e ∙ w.0)) ]

of_odd : (p : ℕ) → p % 2 ≡ 1 → is_odd p ≡ true
of_odd p e = elim (odd_or_even p) [ inl w ↦ w.0 | inr w ↦ (let even = w.1 in absurd (omega arith)) ]

turned_odd : (p : ℕ) → is_odd (p + 1) ≡ true → p % 2 ≡ 0
turned_odd p e = let o = odd_of (p + 1) e in omega arith

odd_turned : (p : ℕ) → p % 2 ≡ 0 → is_odd (p + 1) ≡ true
odd_turned p e = of_odd (p + 1) (omega arith)

pub even_reaches : (g : Game) (p : ℕ) (rank next : List ℕ) → Descends Even g p rank next → Reaches g p (Counts next) (Counts rank)
even_reaches g p rank next d = reaches_over g p next rank (to_over Even g p rank next (is_odd p) (odd_of p) d)

pub even_descends : (g : Game) (p : ℕ) (rank next : List ℕ) → Reaches g p (Counts next) (Counts rank) → Descends Even g p rank next
even_descends g p rank next r = from_over Even g p rank next (is_odd p) (of_odd p) (over_reaches g p next rank r)

-- in a game with a vertex
pub odd_reaches : (g : Game) (p : ℕ) (rank next : List ℕ) → 0 < length g.vertices → Descends Odd g p rank next
    → Reaches (dual g) (p + 1) (Counts next) (Counts rank)
odd_reaches g p rank next h d =
    reaches_over (dual g) (p + 1) next rank
    (subst (λ k. Over (is_odd (p + 1)) k next rank) (sym (kept_dual g p h)) (to_over Odd g p rank next (is_odd (p + 1)) (turned_odd p) d))

pub odd_descends : (g : Game) (p : ℕ) (rank next : List ℕ) → 0 < length g.vertices → Reaches (dual g) (p + 1) (Counts next) (Counts rank)
    → Descends Odd g p rank next
odd_descends g p rank next h r =
    from_over Odd g p rank next (is_odd (p + 1)) (odd_turned p)
    (subst (λ k. Over (is_odd (p + 1)) k next rank) (kept_dual g p h) (over_reaches (dual g) (p + 1) next rank r))

pub descent_is_reaching : DescentIsReaching
descent_is_reaching g p rank next = (
  ((λ d. even_reaches g p rank next d), (λ r. even_descends g p rank next r)),
  λ h. ((λ d. odd_reaches g p rank next h d), (λ r. odd_descends g p rank next h r)),
)
