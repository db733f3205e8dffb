-- Good evidence of Even and of Odd has no vertex in common, and the best of both has all.
use Rattle.std.proofs.Common.{◌≡◌, ◌≢◌, ℕ, ◌⊎◌, refl, sym, subst, ◌∙◌, inl, inr, IsTrue}
use Rattle.game.specs.declared.player.Player.{Player}
use Rattle.game.specs.declared.player.Player.TheVariants.{Even, Odd}
use Rattle.game.specs.Game.{Game}
use Rattle.game.specs.Wins.{WinsBy}
use Rattle.measures.proofs.NotBoth.{not_both_win}
use Rattle.laws.proofs.OneWins.{one_wins}
use Rattle.evidence.specs.Evidence.{Evidence, IsEvidence, IsGood, has}
use Rattle.evidence.specs.Laws.{AllInOne, BestIsYes, NoneInBoth, YesDecides}
use Rattle.evidence.proofs.BestGood.{even_is_good, odd_is_good}
use Rattle.evidence.proofs.GoodWins.{good_wins}

won : (g : Game) (e : Evidence) (p : Player) → IsEvidence g e → IsGood g e → e.player ≡ p → (v : ℕ) → IsTrue (has e v) → WinsBy p g v
won g e p is good q v h = subst (λ o. WinsBy o g v) q (good_wins g e is good v h)

pub none_in_both : NoneInBoth
none_in_both g e f is good even others well odd v h i = not_both_win g v (won g e Even is good even v h) (won g f Odd others well odd v i)

pub all_in_one : AllInOne
all_in_one g game few e f is others v l = elim (one_wins g game v l) [
  | inl w ↦ inl (((even_is_good g game e is).2 v).1 w)
  | inr o ↦ inr (((odd_is_good g game few f others).2 v).1 o)
]

not_even_odd : Even ≡ Odd → ⊥
not_even_odd e = cc

-- two players that differ
sides : (p q : Player) → p ≢ q → ((p ≡ Even) × (q ≡ Odd)) ⊎ ((p ≡ Odd) × (q ≡ Even))
sides Even Even n = absurd (n refl)
sides Even Odd n = inl (refl, refl)
sides Odd Even n = inr (refl, refl)
sides Odd Odd n = absurd (n refl)

two_wins : (g : Game) (p q : Player) (v : ℕ) → p ≢ q → WinsBy p g v → WinsBy q g v → ⊥
two_wins g Even Even v n w o = n refl
two_wins g Even Odd v n w o = not_both_win g v w o
two_wins g Odd Even v n w o = not_both_win g v o w
two_wins g Odd Odd v n w o = n refl

pub yes_decides : YesDecides
yes_decides g e f is others all v l = (
  (
    (λ h. good_wins g e is all.0.0 v h),
    (λ w. elim (all.1 v l) [
      | inl h ↦ h
      | inr i ↦ absurd (two_wins g e.player f.player v all.0.2 w (good_wins g f others all.0.1 v i))
    ]),
  ),
  (
    (λ h. good_wins g f others all.0.1 v h),
    (λ w. elim (all.1 v l) [
      | inl h ↦ absurd (two_wins g e.player f.player v all.0.2 (good_wins g e is all.0.0 v h) w)
      | inr i ↦ i
    ]),
  ),
  λ h i. two_wins g e.player f.player v all.0.2 (good_wins g e is all.0.0 v h) (good_wins g f others all.0.1 v i),
)

pub best_is_yes : BestIsYes
best_is_yes g game few e f is others =
    let a = even_is_good g game e is in
    let b = odd_is_good g game few f others in
    let n : e.player ≢ f.player = λ q. not_even_odd (sym is.player ∙ (q ∙ others.0)) in (
      ((a.1, b.1, n), all_in_one g game few e f is others),
      ((b.1, a.1, λ q. n (sym q)), λ v l. elim (all_in_one g game few e f is others v l) [ inl h ↦ inr h | inr h ↦ inl h ]),
    )
