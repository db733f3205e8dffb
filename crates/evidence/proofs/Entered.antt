-- What evidence keeps where an entry is put.
use Rattle.std.proofs.Common.{◌≡◌, ℕ, ◌<◌, List, Option, Some, None, length, sym, ap, ◌∙◌, subst, inl, inr, slice_index_or, slice_set}
use Rattle.std.specs.Prelude.{IfSome}
use Rattle.std.proofs.lemmas.Bool.Decides.{eqb_tells}
use Rattle.std.proofs.lemmas.List.{get_or-set_other, get_or-set_same, length-set}
use Rattle.game.specs.Game.{Game}
use Rattle.game.specs.declared.player.Player.{Player}
use Rattle.evidence.specs.Evidence.{Entry, Evidence, IsEntry, IsEvidence, counted, entry_at}

below_move : (n t : ℕ) (move : Option ℕ) → IfSome move (λ k. k < n) → move ≡ Some t → t < n
below_move n t None h e = absurd cc
below_move n t (Some k) h e = (let q : k ≡ t = cc in subst (λ j. j < n) q h)

-- It is still evidence with another entry.
pub put_is : (g : Game) (player : Player) (entries : List (Option Entry)) (v : ℕ) (move : Option ℕ) (rank : List ℕ)
    → IsEvidence g (record { player = player; entries = entries }) → v < length g.vertices → IfSome move (λ t. t < length g.vertices)
    → length rank ≡ length (counted player g)
    → IsEvidence g (record { player = player; entries = slice_set entries v (Some (record { move = move; rank = rank })) })
put_is g player entries v move rank was h inside long = record {
  long = length-set entries v (Some x) ∙ was.long;
  entries = each;
}
  where
    x : Entry
    x = record { move = move; rank = rank }

    new : Evidence
    new = record { player = player; entries = slice_set entries v (Some x) }

    is : IsEntry g player x
    is = record { move = λ t e. below_move (length g.vertices) t move inside e; rank = long }

    each : (u : ℕ) (y : Entry) → entry_at new u ≡ Some y → IsEntry g player y
    each u y e = elim (eqb_tells u v) [
      | inl w ↦ (
          let put = get_or-set_same entries v (Some x) None (subst (λ n. v < n) (sym was.long) h) in
          let both : Some x ≡ Some y = sym put ∙ (ap (λ k. slice_index_or (slice_set entries v (Some x)) k None) (sym w.1) ∙ e) in
          let same : x ≡ y = cc in
          subst (IsEntry g player) same is)
      | inr w ↦ was.entries u y (sym (get_or-set_other entries v u (Some x) None w.1) ∙ e)
    ]
