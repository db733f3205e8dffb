-- The evidence of the least tables has no fault, and all that the player wins.
use Rattle.std.proofs.Common.{◌≡◌, ◌≢◌, ◌↔◌, ℕ, ◌<◌, ◌≤◌, ◌⊎◌, List, length, refl, sym, ap, subst, ◌∙◌, inl, inr, arith, IsTrue, Contains, Some, None, Option}
use Rattle.std.specs.Option.{is_some}
use Rattle.std.proofs.lemmas.Slice.Zip.{AllZip-long}
use Rattle.game.specs.declared.player.Player.{Player}
use Rattle.game.specs.declared.player.Player.TheVariants.{Even, Odd}
use Rattle.game.specs.Game.{Game, IsGame, IsVertex, Vertex, count, dual, vertex}
use Rattle.game.specs.Wins.{Wins}
use Rattle.measures.specs.Measure.{Counts, IsMeasure, Measure, Reaches, Top, components}
use Rattle.measures.specs.Progress.{IsLeastTable, value_at}
use Rattle.measures.specs.Laws.{IsBestMove, IsLeastSuccessor}
use Rattle.measures.proofs.Dual.{dual_wins, wins_dual}
use Rattle.measures.proofs.Bests.{vertex_here}
use Rattle.game.proofs.Duals.{dual_game, long_dual}
use Rattle.measures.proofs.LeastDecides.{least_decides}
use Rattle.measures.proofs.Lists.{all_contained, all_got}
use Rattle.measures.proofs.Lifts.{even_reaches, odd_reaches, value_measure}
use Rattle.measures.proofs.Measures.{at_most_trans, prog, reaches_up}
use Rattle.measures.proofs.TableWins.{other_owner}
use Rattle.evidence.specs.Best.{IsEvenOf}
use Rattle.evidence.specs.Evidence.{Descends, Entry, Evidence, GoesTo, counted, IsEvidence, LacksFault, IsGood, entry_at, has}
use Rattle.evidence.specs.Laws.{EvenEvidenceIsGood, OddEvidenceIsGood}
use Rattle.evidence.specs.declared.verdict.Fault.{Fault}
use Rattle.evidence.specs.declared.verdict.Fault.TheVariants.{Leaves, Move, Rank}
use Rattle.evidence.proofs.Descent.{even_descends}
use Rattle.evidence.proofs.GoodWins.{entry_of, has_within}
use Rattle.evidence.proofs.Shifted.{counted_dual}
use Rattle.evidence.proofs.Turned.{for_player, good_back}

even_odd : {X : Type 0} (o : Player) → o ≡ Even → o ≡ Odd → X
even_odd Even e d = absurd cc
even_odd Odd e d = absurd cc

counts_same : (c d : List ℕ) → Counts c ≡ Counts d → c ≡ d
counts_same c d e = cc

counts_or : (m : Measure) → (m ≡ Top) ⊎ ((c : List ℕ) × (m ≡ Counts c))
counts_or Top = inl refl
counts_or (Counts c) = inr (c, refl)

pub top_no : (m : Measure) (c : List ℕ) → m ≡ Counts c → m ≢ Top
top_no m c e d = let q : Counts c ≡ Top = sym e ∙ d in cc

-- each of the successors with the least prog is reached
least_reaches : (g : Game) (table : List Measure) → IsGame g → IsLeastTable g table → (u : ℕ) (v : Vertex) → vertex g u ≡ Some v → v.owner ≡ Even
    → (t : ℕ) → IsLeastSuccessor g table v t → Reaches g v.priority (value_at table t) (value_at table u)
least_reaches g table game least u v at own t is =
    let r = even_reaches g table game least.progress u v at own in
    let m = prog g v.priority (value_at table t) (value_measure g table least.progress.0.1 t) in
    let n = prog g v.priority (value_at table r.0) (value_measure g table least.progress.0.1 r.0) in
    let low = is.least r.0 r.1.successor m.0 n.0 m.1 n.1 in
    let high = n.1.least (value_at table u) (value_measure g table least.progress.0.1 u) r.2 in
    reaches_up g v.priority (value_at table t) m.0 (value_at table u) m.1.reaches (at_most_trans m.0 n.0 (value_at table u) low high)

module _ (g : Game) (game : IsGame g) (e : Evidence) (is : IsEvenOf g e) where
  -- what an entry is
  pub told : (v : ℕ) (x : Entry) → entry_at e v ≡ Some x → (value_at is.table v ≡ Counts x.rank)
      × ((w : Vertex) → vertex g v ≡ Some w → IsBestMove g is.table w x.move)
  told v x here = elim (counts_or (value_at is.table v)) [
    | inl w ↦ (let q : None ≡ Some x = sym (is.outside v w) ∙ here in absurd cc)
    | inr w ↦ (
        let r = is.inside v w.0 w.1 in
        let same : r.0 ≡ x = some_same r.0 x (sym r.1 ∙ here) in (
          w.1 ∙ ap Counts (sym r.2 ∙ ap (λ (y : Entry). y.rank) same),
          subst (λ (y : Entry). (z : Vertex) → vertex g v ≡ Some z → IsBestMove g is.table z y.move) same r.3,
        ))
  ]
    where
      some_same : (a b : Entry) → Some a ≡ Some b → a ≡ b
      some_same a b q = cc

  moves : (v : Vertex) (x : Entry) (t : ℕ) → IsBestMove g is.table v x.move → x.move ≡ Some t → IsLeastSuccessor g is.table v t
  moves v x t best m = (subst (λ o. IsBestMove g is.table v o) m best).1

  inner : (v : ℕ) (w : Vertex) (t : ℕ) → vertex g v ≡ Some w → Contains w.successors t → t < length g.vertices
  inner v w t at c = all_contained (λ u. u < length g.vertices) w.successors t (all_got (IsVertex (length g.vertices)) g.vertices v w game.vertices at).within c

  measured : (v : ℕ) (c : List ℕ) → value_at is.table v ≡ Counts c → length c ≡ length (components g)
  measured v c q = sym (AllZip-long (λ k p. k ≤ count g p) c (components g) (subst (IsMeasure g) q (value_measure g is.table is.least.progress.0.1 v)))

  vertex_of : (v : ℕ) → IsTrue (has e v) → (w : Vertex) × (vertex g v ≡ Some w)
  vertex_of v h = vertex_here g v (has_within (length g.vertices) e is.long v h)

  pub even_evidence : IsEvidence g e
  even_evidence = record {
    long = is.long;
    entries = λ v x here. (
        let k = told v x here in
        record {
          move = λ t m. (let w = vertex_of v (ap is_some here) in inner v w.0 t w.1 (moves w.0 x t (k.1 w.0 w.1) m).successor);
          rank = measured v x.rank k.0 ∙ ap (λ p. length (counted p g)) (sym is.player);
        });
  }

  -- along an edge the least measures reach
  reached : (u t : ℕ) (x : Entry) (v : Vertex) → entry_at e u ≡ Some x → vertex g u ≡ Some v → GoesTo e.player v x t
      → Reaches g v.priority (value_at is.table t) (value_at is.table u)
  reached u t x v here at (inl w) =
      let own : v.owner ≡ Even = w.0 ∙ is.player in
      least_reaches g is.table game is.least u v at own t (moves v x t ((told u x here).1 v at) w.1)
  reached u t x v here at (inr w) =
      odd_reaches g is.table game is.least.progress u v at (other_owner v.owner (λ q. w.0 (q ∙ sym is.player))) t w.1

  stays : (p : ℕ) (m : Measure) (c : List ℕ) → Reaches g p m (Counts c) → (d : List ℕ) × (m ≡ Counts d)
  stays p Top c r = absurd r
  stays p (Counts d) c r = (d, refl)

  free : (u : ℕ) (fault : Fault) (x : Entry) (v : Vertex) → entry_at e u ≡ Some x → vertex g u ≡ Some v → LacksFault g e v x fault
  free u Move x v here at = by x.move refl ((told u x here).1 v at)
    where
      by : (o : Option ℕ) → x.move ≡ o → IsBestMove g is.table v o → LacksFault g e v x Move
      by None m best = ((λ own. even_odd v.owner (own ∙ is.player) best), (λ n. m))
      by (Some t) m best = ((λ own. (t, m, best.1.successor)), (λ n. absurd (n (best.0 ∙ sym is.player))))
  free u Leaves x v here at = λ t to. (
      let r = subst (λ m. Reaches g v.priority (value_at is.table t) m) (told u x here).0 (reached u t x v here at to) in
      let d = stays v.priority (value_at is.table t) x.rank r in
      ap is_some (is.inside t d.0 d.1).1)
  free u Rank x v here at = λ t y to there. (
      let r = subst (λ m. Reaches g v.priority (value_at is.table t) m) (told u x here).0 (reached u t x v here at to) in
      let s = subst (λ m. Reaches g v.priority m (Counts x.rank)) (told t y there).0 r in
      subst (λ p. Descends p g v.priority x.rank y.rank) (sym is.player) (even_descends g v.priority x.rank y.rank s))

  pub even_good : IsGood g e
  even_good = λ u fault x v here at. free u fault x v here at

  pub even_holds : (v : ℕ) → IsTrue (has e v) ↔ Wins g v
  even_holds v = (
    (λ h. (let w = entry_of (entry_at e v) h in (least_decides g game is.table is.least v).0 (top_no (value_at is.table v) w.0.rank (told v w.0 w.1).0))),
    (λ w. elim (counts_or (value_at is.table v)) [
      | inl t ↦ absurd ((least_decides g game is.table is.least v).1 w t)
      | inr c ↦ ap is_some (is.inside v c.0 c.1).1
    ]),
  )

pub even_is_good : EvenEvidenceIsGood
even_is_good g game e is = (even_evidence g game e is, even_good g game e is, even_holds g game e is)

pub odd_is_good : OddEvidenceIsGood
odd_is_good g game few e (odd, is) = (
  record {
    long = evidence.long ∙ long_dual g;
    entries = λ v x here. (
        let k = evidence.entries v x here in
        let l = has_within (length g.vertices) e (evidence.long ∙ long_dual g) v (ap is_some here) in
        record {
          move = λ t m. (let w = k.move t m in omega (arith, w, long_dual g));
          rank = k.rank ∙ (counted_dual g (omega arith) ∙ ap (λ p. length (counted p g)) (sym odd));
        });
  },
  subst (λ p. IsGood g (for_player p e)) (sym odd) (good_back g e (even_good (dual g) (dual_game g game few) (for_player Even e) is)),
  λ v. (
    (λ h. dual_wins g Odd v ((even_holds (dual g) (dual_game g game few) (for_player Even e) is v).0 h)),
    (λ w. (even_holds (dual g) (dual_game g game few) (for_player Even e) is v).1 (wins_dual g Odd v w)),
  ),
)
  where
    evidence : IsEvidence (dual g) (for_player Even e)
    evidence = even_evidence (dual g) (dual_game g game few) (for_player Even e) is
