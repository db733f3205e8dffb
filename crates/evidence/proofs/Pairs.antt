-- Evidence of both players that was accepted.
use Rattle.std.proofs.Common.{◌≡◌, ◌<◌, ◌≤◌, ℕ, suc, List, [], ◌∷◌, Some, None, inl, inr, length, slice_index, subst, arith}
use Rattle.std.proofs.lemmas.Bool.{cases_lt}
use Rattle.std.proofs.lemmas.List.{get_or_past}
use Rattle.std.specs.List.{AllByRecursion}
use Rattle.std.specs.Prelude.{◌↔◌, IsTrue, Option}
use Rattle.game.specs.Game.{Game, IsGame}
use Rattle.game.specs.Wins.{WinsBy}
use Rattle.game.specs.declared.player.Player.{Player}
use Rattle.evidence.specs.Checking.{Decides}
use Rattle.evidence.specs.Evidence.{Entry, Evidence, IsEvidence, IsGood, entry_at, has}
use Rattle.evidence.specs.declared.limits.TheConstants.{GREATEST_COUNT}
use Rattle.evidence.specs.Laws.{EvidenceTextSpells, IsSmall}
use Rattle.evidence.specs.Full.{IsFull}
use Rattle.evidence.specs.Pair.{AreFull, AreOf}
use Rattle.evidence.specs.declared.pair.EvidencePair.{EvidencePair}

-- What holds of each place holds of all.
pub all_small : (ks : List ℕ) → ((i : ℕ) → i < length ks → slice_index ks i ≤ GREATEST_COUNT) → AllByRecursion (λ k. k ≤ GREATEST_COUNT) ks
all_small [] h = tt
all_small (k ∷ ks) h = (h 0 (omega arith), all_small ks (λ i below. h (suc i) (omega (arith, below))))

none_some : (x : Entry) → ◌≡◌ {A = Option Entry} None (Some x) → ⊥
none_some x h = cc

-- What holds of the ranks of the game's vertices holds of all.
pub small_all : (e : Evidence) (n : ℕ) → length e.entries ≤ n
    → ((v : ℕ) → v < n → (x : Entry) → entry_at e v ≡ Some x → AllByRecursion (λ k. k ≤ GREATEST_COUNT) x.rank) → IsSmall e
small_all e n few h = λ v x at. elim (cases_lt v n) [
  | inl below ↦ h v below x at
  | inr beyond ↦ let past : entry_at e v ≡ None = get_or_past e.entries v None (omega (arith, few, beyond)) in
      absurd (none_some x (subst (λ o. o ≡ Some x) past at))
]

-- Good evidence of all that its player wins, with no count above the limit of the texts, is full.
full_of : (player : Player) (g : Game) (e : Evidence) → EvidenceTextSpells → IsGame g → IsEvidence g e → IsGood g e → IsSmall e → e.player ≡ player
    → ((v : ℕ) → v < length g.vertices → IsTrue (has e v) ↔ WinsBy e.player g v) → IsFull player g e
full_of player g e spells is evidence good small same exact = record {
  player = same;
  good = good;
  exact = λ v h. subst (λ p. IsTrue (has e v) ↔ WinsBy p g v) same (exact v h);
  readable = spells g e is.limit evidence small;
}

-- So are both pieces, where they decide who wins.
pub pair_full : (g : Game) (pair : EvidencePair) → EvidenceTextSpells → IsGame g → AreOf g pair → IsEvidence pair.even.game pair.even.evidence
    → IsEvidence pair.odd.game pair.odd.evidence → IsGood g pair.even.evidence → IsGood g pair.odd.evidence
    → Decides g pair.even.evidence pair.odd.evidence → IsSmall pair.even.evidence → IsSmall pair.odd.evidence → AreFull g pair
pair_full g pair spells is are even odd even_good odd_good decides even_small odd_small = record {
  even_game = are.even_game;
  even = full_of _ g pair.even.evidence spells is (subst (λ h. IsEvidence h pair.even.evidence) are.even_game even) even_good even_small are.even
      (λ v h. (decides v h).0);
  odd_game = are.odd_game;
  odd = full_of _ g pair.odd.evidence spells is (subst (λ h. IsEvidence h pair.odd.evidence) are.odd_game odd) odd_good odd_small are.odd
      (λ v h. (decides v h).1);
}
