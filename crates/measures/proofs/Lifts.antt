-- What a progress table says of a vertex and its successors.
use Rattle.measures.proofs.Common.{◌≡◌, ℕ, ◌≤◌, List, length, map, refl, subst, ◌∙◌, arith, Contains, Some, AllZip, AllByRecursion, AllZip-long, length-map}
use Rattle.measures.proofs.Common.{Player, Even, Odd, Vertex, Game, vertex, IsVertex, IsGame, Measure, Top, IsMeasure, IsAtMost, Reaches, IsProg, greater_of}
use Rattle.measures.proofs.Common.{IsBestFor, IsProgress, value_at, IsLeastSuccessor}
use Rattle.measures.proofs.Lists.{all_got, all_or, zip_back, zip_on, zip_made, best_of}
use Rattle.measures.proofs.Measures.{at_most_itself, at_most_trans, at_most_either, greater_own, reaches_up, prog, prog_more}

pub value_measure : (g : Game) (table : List Measure) → AllByRecursion (IsMeasure g) table → (v : ℕ) → IsMeasure g (value_at table v)
value_measure g table h v = all_or (IsMeasure g) table v Top h tt

pub best_for : (player : Player) (ms : List Measure) → 1 ≤ length ms → (b : Measure) × IsBestFor player ms b
best_for Even ms h = let r = best_of (λ a b. IsAtMost a b) at_most_itself at_most_trans at_most_either ms h in (r.0, (r.1, r.2))
best_for Odd ms h = let r = best_of (λ a b. IsAtMost b a) at_most_itself (λ a b c x y. at_most_trans c b a y x) (λ a b. at_most_either b a) ms h
    in (r.0, (r.1, r.2))

-- the vertex's progs, and the best of them, which is at most the vertex's value
pub record Settled (g : Game) (table : List Measure) (v : ℕ) (x : Vertex) : Type 0 where
  pub progs : List Measure
  pub best : Measure
  pub zipped : AllZip (IsProg g x.priority) (map (value_at table) x.successors) progs
  pub best_is : IsBestFor x.owner progs best
  pub under : IsAtMost best (value_at table v)

pub settled : (g : Game) (table : List Measure) → IsGame g → IsProgress g table → (v : ℕ) (x : Vertex) → vertex g v ≡ Some x → Settled g table v x
settled g table game is v x at =
    let some : 1 ≤ length x.successors = (all_got (IsVertex (length g.vertices)) g.vertices v x game.vertices at).some in
    let made = zip_made (IsProg g x.priority) (value_at table) x.successors (λ t. prog g x.priority (value_at table t) (value_measure g table is.0.1 t)) in
    let long : length made.0 ≡ length x.successors = AllZip-long (IsProg g x.priority) (map (value_at table) x.successors) made.0 made.1
    ∙ length-map x.successors (value_at table) in
    let best = best_for x.owner made.0 (omega (arith, some, long)) in
    record {
      progs = made.0;
      best = best.0;
      zipped = made.1;
      best_is = best.1;
      under = greater_own (value_at table v) best.0 (is.1 v (greater_of (value_at table v) best.0) (x, at, (made.0, best.0, made.1, best.1, refl)));
    }

-- Even has a successor with the least prog, which its vertex's value reaches
pub even_reaches : (g : Game) (table : List Measure) → IsGame g → IsProgress g table → (v : ℕ) (x : Vertex) → vertex g v ≡ Some x → x.owner ≡ Even
    → (t : ℕ) × IsLeastSuccessor g table x t × Reaches g x.priority (value_at table t) (value_at table v)
even_reaches g table game is v x at own =
    let s = settled g table game is v x at in
    let best = subst (λ o. IsBestFor o s.progs s.best) own s.best_is in
    let back = zip_back (IsProg g x.priority) (value_at table) x.successors s.progs s.best s.zipped best.0 in (
      back.0,
      record { successor = back.1; least = least back.0 s.progs s.best back.2 s.zipped best.1 },
      reaches_up g x.priority (value_at table back.0) s.best (value_at table v) back.2.reaches s.under,
    )
  where
    least : (t : ℕ) (progs : List Measure) (best : Measure) → IsProg g x.priority (value_at table t) best
        → AllZip (IsProg g x.priority) (map (value_at table) x.successors) progs
        → AllByRecursion (λ m. IsAtMost best m) progs → (u : ℕ) → Contains x.successors u → (m r : Measure) → IsProg g x.priority (value_at table t) m
        → IsProg g x.priority (value_at table u) r → IsAtMost m r
    least t progs best is zipped all u has m r i j =
        let on = zip_on (IsProg g x.priority) (λ k. IsAtMost best k) (value_at table) x.successors progs u zipped all has in
        let low = prog_more g x.priority (value_at table t) (value_at table t) m best (at_most_itself (value_at table t)) i is in
        let high = prog_more g x.priority (value_at table u) (value_at table u) on.0 r (at_most_itself (value_at table u)) on.1 j in
        at_most_trans m best r low (at_most_trans best on.0 r on.2 high)

-- a vertex of Odd reaches all its successors
pub odd_reaches : (g : Game) (table : List Measure) → IsGame g → IsProgress g table → (v : ℕ) (x : Vertex) → vertex g v ≡ Some x → x.owner ≡ Odd
    → (t : ℕ) → Contains x.successors t → Reaches g x.priority (value_at table t) (value_at table v)
odd_reaches g table game is v x at own t has =
    let s = settled g table game is v x at in
    let best = subst (λ o. IsBestFor o s.progs s.best) own s.best_is in
    let on = zip_on (IsProg g x.priority) (λ m. IsAtMost m s.best) (value_at table) x.successors s.progs t s.zipped best.1 has in
    reaches_up g x.priority (value_at table t) on.0 (value_at table v) on.1.reaches (at_most_trans on.0 s.best (value_at table v) on.2 s.under)
