-- Good evidence wins: the moves are the choice, and along their edges the ranks, as measures, reach.
use Rattle.std.proofs.Common.{◌≡◌, ◌≢◌, ℕ, ◌<◌, List, length, refl, sym, ap, subst, ◌∙◌, inl, inr, arith, IsTrue, Contains, Some, None, Option, true≢false}
use Rattle.std.specs.Option.{is_some}
use Rattle.std.proofs.lemmas.List.{get_or_past}
use Rattle.std.proofs.lemmas.Bool.Decides.{leb_tells}
use Rattle.game.specs.declared.player.Player.{Player}
use Rattle.game.specs.declared.player.Player.TheVariants.{Even, Odd}
use Rattle.game.specs.Game.{Game, Vertex, dual, vertex}
use Rattle.game.specs.Wins.{Edge, Wins, WinsBy, greatest_met, priority_at}
use Rattle.measures.specs.Measure.{Counts, Measure, Reaches, Top}
use Rattle.measures.proofs.Cycles.{no_odd_cycle, odd_or_even, priority}
use Rattle.game.proofs.Duals.{long_dual}
use Rattle.measures.proofs.Dual.{dual_wins}
use Rattle.evidence.specs.Evidence.{Entry, Evidence, GoesTo, IsGood, entry_at, has}
use Rattle.evidence.specs.Laws.{GoodEvidenceWins}
use Rattle.evidence.specs.declared.verdict.Fault.TheVariants.{Leaves, Move, Rank}
use Rattle.evidence.proofs.Descent.{even_reaches}
use Rattle.evidence.proofs.Turned.{for_player, good_on}

-- an entry's rank as a measure
abbrev pub measure_of : Option Entry → Measure
measure_of None = Top
measure_of (Some x) = Counts x.rank

abbrev pub move_of : Option Entry → Option ℕ
move_of None = None
move_of (Some x) = x.move

abbrev pub or_zero : Option ℕ → ℕ
or_zero None = 0
or_zero (Some t) = t

pub entry_of : (o : Option Entry) → IsTrue (is_some o) → (x : Entry) × (o ≡ Some x)
entry_of None h = absurd (true≢false (sym h))
entry_of (Some x) h = (x, refl)

-- what has an entry is a vertex
pub has_within : (n : ℕ) (e : Evidence) → length e.entries ≡ n → (v : ℕ) → IsTrue (has e v) → v < n
has_within n e long v h = elim (leb_tells (length e.entries) v) [
  | inl w ↦ absurd (true≢false (sym h ∙ ap is_some (get_or_past e.entries v None w.1)))
  | inr w ↦ omega (arith, w.1, long)
]

module _ (g : Game) (entries : List (Option Entry)) (long : length entries ≡ length g.vertices)
    (good : IsGood g (record { player = Even; entries = entries })) where
  abbrev e : Evidence
  e = record { player = Even; entries = entries }

  abbrev choice : ℕ → ℕ
  choice u = or_zero (move_of (entry_at e u))

  abbrev value : ℕ → Measure
  value u = measure_of (entry_at e u)

  goes : (u t : ℕ) (x : Entry) (v : Vertex) → entry_at e u ≡ Some x → vertex g u ≡ Some v → Edge Even g choice u t → GoesTo Even v x t
  goes u t x v here at (w, is, inl o) =
      let same : w ≡ v = cc in
      let own : v.owner ≡ Even = ap (λ (z : Vertex). z.owner) (sym same) ∙ o.0 in
      let m = (good u Move x v here at).0 own in
      let c : choice u ≡ m.0 = ap (λ z. or_zero (move_of z)) here ∙ ap or_zero m.1 in
      inl (own, m.1 ∙ ap Some (sym (o.1 ∙ c)))
  goes u t x v here at (w, is, inr o) =
      let same : w ≡ v = cc in
      inr (subst (λ (z : Vertex). (z.owner ≢ Even) × Contains z.successors t) same o)

  step : (u t : ℕ) → Edge Even g choice u t → Reaches g (priority g u) (value t) (value u)
  step u t edge = by (entry_at e u) refl
    where
      next : (v : Vertex) (x : Entry) (o : Option Entry) → entry_at e t ≡ o → entry_at e u ≡ Some x → vertex g u ≡ Some v
          → Reaches g v.priority (measure_of o) (Counts x.rank)
      next v x None there here at = (let h : IsTrue (has e t) = good u Leaves x v here at t (goes u t x v here at edge)
          in absurd (true≢false (sym h ∙ ap is_some there)))
      next v x (Some y) there here at = even_reaches g v.priority x.rank y.rank (good u Rank x v here at t y (goes u t x v here at edge) there)

      by : (o : Option Entry) → entry_at e u ≡ o → Reaches g (priority g u) (value t) (value u)
      by None here = subst (λ z. Reaches g (priority g u) (value t) (measure_of z)) (sym here) tt
      by (Some x) here =
          subst (λ z. Reaches g (priority g u) (value t) (measure_of z)) (sym here)
          (subst (λ z. Reaches g (priority_at z) (value t) (Counts x.rank)) (sym edge.1) (next edge.0 x (entry_at e t) refl here edge.1))

  pub even_wins : (v : ℕ) → IsTrue (has e v) → Wins g v
  even_wins v h = record {
    set = has e;
    choice = choice;
    has = h;
    strategy = record {
      inside = has_within (length g.vertices) e long;
      own = λ u x i at own. (
          let w = entry_of (entry_at e u) i in
          let m = (good u Move w.0 x w.1 at).0 own in
          let c : m.0 ≡ choice u = sym (ap (λ z. or_zero (move_of z)) w.1 ∙ ap or_zero m.1) in
          subst (λ t. Contains x.successors t) c m.2);
      closed = λ u t i edge. (let w = entry_of (entry_at e u) i in good u Leaves w.0 edge.0 w.1 edge.1 t (goes u t w.0 edge.0 w.1 edge.1 edge));
      cycles = λ u others i m path. elim (odd_or_even (greatest_met g others)) [
        | inl w ↦ (
            let x = entry_of (entry_at e u) i in
            absurd (no_odd_cycle g (Edge Even g choice) value step u others x.0.rank (ap measure_of x.1) m path w.0))
        | inr w ↦ w.1
      ];
    };
  }

pub good_wins : GoodEvidenceWins
good_wins g e is good v h = by e.player refl
  where
    by : (p : Player) → e.player ≡ p → WinsBy e.player g v
    by Even q =
        subst (λ p. WinsBy p g v) (sym q)
        (even_wins g e.entries is.long (subst (λ p. IsGood g (for_player p e)) q good) v h)
    by Odd q =
        subst (λ p. WinsBy p g v) (sym q)
        (dual_wins g Odd v (even_wins (dual g) e.entries (is.long ∙ sym (long_dual g)) (good_on g e (subst (λ p. IsGood g (for_player p e)) q good)) v h))
