-- The text of a player's evidence is what least measures and moves are written as.
use Rattle.std.proofs.Common.{◌≡◌, ℕ, zero, suc, ◌+◌, ◌<◌, ◌≤◌, List, [], ◌++◌, length, refl, sym, ap, subst, ◌∙◌, inl, inr, arith, Some, Option, append_assoc}
use Rattle.std.specs.Prelude.{slice_index_or}
use Rattle.std.proofs.lemmas.Option.{slice_get_cases}
use Rattle.text.specs.Pieces.{line_end}
use Rattle.text.specs.Wrote.{lines_from}
use Rattle.game.specs.declared.player.Player.{Player}
use Rattle.game.specs.declared.player.Player.TheVariants.{Even, Odd}
use Rattle.game.specs.Game.{Game, Vertex, vertex}
use Rattle.measures.specs.Laws.{IsBestMove}
use Rattle.measures.specs.Measure.{Counts, Measure, Top}
use Rattle.measures.specs.Progress.{IsLeastTable, value_at}
use Rattle.measures.specs.StoredProposal.{game_for, move_said, values_of}
use Rattle.laws.proofs.LeastExists.{least_unique}
use Rattle.evidence.specs.Best.{IsBestOf, IsEvenOf}
use Rattle.evidence.specs.Canon.{entry_line, entry_line_at, entry_line_of, entry_lines, evidence_text, header}
use Rattle.evidence.specs.Evidence.{Entry, Evidence}
use Rattle.evidence.proofs.BestMade.{move_one}
use Rattle.evidence.proofs.Written.{all_lines}
use Rattle.verdicts.specs.declared.evidence_text.LeastMeasures.{LeastMeasures}
use Rattle.verdicts.specs.EvidenceText.{AreLeastMeasures, entry_by, measured_line}
use Rattle.verdicts.proofs.LeastEvidence.{long, move_there, wins_there}

-- read for Even, in the player's game
even_of : (p : Player) (g : Game) (e : Evidence) → IsBestOf p g e → IsEvenOf (game_for p g) (record { player = Even; entries = e.entries })
even_of Even g e is =
    record { player = refl; long = is.long; table = is.table; least = is.least; outside = is.outside; inside = is.inside }
even_of Odd g e is = is.1

player_of : (p : Player) (g : Game) (e : Evidence) → IsBestOf p g e → e.player ≡ p
player_of Even g e is = is.player
player_of Odd g e is = is.0

module _ (g : Game) (table : List Measure) (least : IsLeastTable g table) (entries : List (Option Entry))
    (is : IsEvenOf g (record { player = Even; entries = entries })) (v : ℕ) where
  same : table ≡ is.table
  same = least_unique g table is.table least is.least

  line_top : value_at table v ≡ Top → entry_line_at entries v ≡ []
  line_top top = ap (entry_line_of v) (is.outside v (subst (λ (t : List Measure). value_at t v ≡ Top) same top))

  line_counts : (c : List ℕ) → value_at table v ≡ Counts c → (w : Vertex) → vertex g v ≡ Some w → (move : Option ℕ) → IsBestMove g table w move
      → entry_line_at entries v ≡ entry_line v (record { move = move; rank = c })
  line_counts c counts w at move best =
      let a = is.inside v c (subst (λ (t : List Measure). value_at t v ≡ Counts c) same counts) in
      let best_there = subst (λ (t : List Measure). IsBestMove g t w move) same best in
      let move_is : a.0.move ≡ move = move_one g is.table is.least w a.0.move move (a.3 w at) best_there in
      let rank_is : a.0.rank ≡ c = a.2 in
      ap (entry_line_of v) a.1 ∙ (λ i. entry_line v (record { move = move_is i; rank = rank_is i }))

-- the same lines one after another
lines_same : (f h : ℕ → List ℕ) (a n : ℕ) → ((v : ℕ) → a ≤ v → v < a + n → f v ≡ h v) → lines_from f a n ≡ lines_from h a n
lines_same f h a zero each = refl
lines_same f h a (suc n) each =
    let first = each a (omega arith) (omega arith) in
    let rest = lines_same f h (a + 1) n (λ v low high. each v (omega (arith, low)) (omega (arith, high))) in
    λ i. first i ++ rest i

module _ (m : LeastMeasures) (g : Game) (least : AreLeastMeasures m g) (e : Evidence) (is_best : IsBestOf m.player g e) where
  module _ (v : ℕ) (inside : v < length m.moves.now) where
    there : v < m.proposals.now.vertices
    there = let c = least.moves.count in omega (arith, inside, c)

    here : (x : Vertex) × (vertex (game_for m.player g) v ≡ Some x)
    here = elim ((slice_get_cases (game_for m.player g).vertices v).1) [
      | inl w ↦ (w.0, w.2)
      | inr w ↦ (let past = w.0 in let l = long m g least in let t = there in absurd (omega (arith, past, l, t)))
    ]

    line_by : (value : Measure) → value_at (values_of m.player m.proposals.now) v ≡ value
        → entry_line_of v (entry_by value (move_said (slice_index_or m.moves.now v 0))) ≡ entry_line_at e.entries v
    line_by Top is = sym (line_top (game_for m.player g) (values_of m.player m.proposals.now) least.least e.entries (even_of m.player g e is_best) v is)
    line_by (Counts c) is =
        let x = here in
        sym (line_counts (game_for m.player g) (values_of m.player m.proposals.now) least.least e.entries (even_of m.player g e is_best) v c is x.0 x.1
        (move_said (slice_index_or m.moves.now v 0)) (move_there m g least v there (wins_there m g least v there c is) x.0 x.1))

    line_is : measured_line m v ≡ entry_line_at e.entries v
    line_is = line_by (value_at (values_of m.player m.proposals.now) v) refl

  -- the whole text
  pub text_is : (header m.player ++ line_end) ++ lines_from (measured_line m) 0 (length m.moves.now) ≡ evidence_text e
  text_is =
      let count : length m.moves.now ≡ length e.entries = let c = least.moves.count in let l = long m g least in let k = (even_of m.player g e is_best).long in
      omega (arith, c, l, k) in
      let lines : lines_from (measured_line m) 0 (length m.moves.now) ≡ entry_lines 0 e.entries =
      lines_same (measured_line m) (entry_line_at e.entries) 0 (length m.moves.now) (λ v low high. line_is v (omega (arith, high)))
      ∙ (ap (lines_from (entry_line_at e.entries) 0) count ∙ all_lines e.entries) in
      let player : m.player ≡ e.player = sym (player_of m.player g e is_best) in
      append_assoc (header m.player) line_end (lines_from (measured_line m) 0 (length m.moves.now))
      ∙ (λ i. header (player i) ++ (line_end ++ lines i))
