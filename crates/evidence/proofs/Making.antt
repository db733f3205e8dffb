-- A player's evidence, as it is made of the least measures.
use Rattle.std.proofs.Common.{◌≡◌, ◌≢◌, ℕ, zero, suc, ◌+◌, ◌<◌, ◌≤◌, List, [], length, refl, sym, ap, ap₂, subst, ◌∙◌, inl, inr, arith, Some, None, Option}
use Rattle.std.proofs.Common.{replicate, slice_index_or}
use Rattle.std.specs.Prelude.{IfSome}
use Rattle.std.proofs.lemmas.Bool.Decides.{eqb_tells, leb_tells}
use Rattle.std.proofs.lemmas.List.{get_or-set_other, get_or-set_same, get_or_past, length-replicate, length-set}
use Rattle.std.proofs.lemmas.Slice.Zip.{AllZip-long}
use Rattle.game.specs.declared.player.Player.{Player}
use Rattle.game.specs.declared.player.Player.TheVariants.{Even, Odd}
use Rattle.game.specs.Game.{Game, IsGame, IsVertex, count, dual}
use Rattle.game.proofs.Duals.{long_dual}
use Rattle.measures.specs.Measure.{Counts, IsMeasure, Measure, Top, components}
use Rattle.measures.specs.Progress.{IsLeastTable, value_at}
use Rattle.measures.specs.StoredProposal.{game_for}
use Rattle.measures.proofs.Bests.{vertex_here}
use Rattle.measures.proofs.Lifts.{value_measure}
use Rattle.measures.proofs.Lists.{all_contained, all_got}
use Rattle.evidence.specs.Best.{IsBestOf, IsEvenOf}
use Rattle.evidence.specs.Checking.{IsMoveAt}
use Rattle.evidence.specs.Evidence.{Entry, Evidence, counted, entry_at}
use Rattle.evidence.specs.View.{NamedEvidence, empty, rank_width, with_entry}
use Rattle.evidence.proofs.Shifted.{counted_dual}

abbrev at : NamedEvidence → ℕ → Option Entry
at now v = entry_at now.evidence v

-- the vertices before n have their entries, and those whose value is top have none
pub record IsMade (player : Player) (g : Game) (table : List Measure) (n : ℕ) (now : NamedEvidence) : Type 0 where
  pub game : now.game ≡ g
  pub player_is : now.evidence.player ≡ player
  pub long : length now.evidence.entries ≡ length g.vertices
  pub outside : (v : ℕ) → value_at table v ≡ Top → at now v ≡ None
  pub inside : (v : ℕ) (counts : List ℕ) → v < n → value_at table v ≡ Counts counts → (x : Entry) × (at now v ≡ Some x) × (x.rank ≡ counts)
      × IsMoveAt (game_for player g) table v x.move

pub none_at : (n v : ℕ) → slice_index_or (replicate {A = Option Entry} n None) v None ≡ None
none_at zero v = get_or_past [] v None (omega arith)
none_at (suc n) zero = refl
none_at (suc n) (suc v) = none_at n v

pub made_none : (player : Player) (g : Game) (table : List Measure) (now : NamedEvidence) → now ≡ empty g player → IsMade player g table 0 now
made_none player g table now e = record {
  game = ap (λ (r : NamedEvidence). r.game) e;
  player_is = ap (λ (r : NamedEvidence). r.evidence.player) e;
  long = ap (λ (r : NamedEvidence). length r.evidence.entries) e ∙ length-replicate (length g.vertices) None;
  outside = λ v t. ap (λ (r : NamedEvidence). at r v) e ∙ none_at (length g.vertices) v;
  inside = λ v counts h t. absurd (omega arith);
}

-- how many counts the measures have that a player's ranks are made of
counts_for : (player : Player) (g : Game) → 0 < length g.vertices → length (components (game_for player g)) ≡ length (counted player g)
counts_for Even g h = refl
counts_for Odd g h = counted_dual g h

pub long_for : (player : Player) (g : Game) → length (game_for player g).vertices ≡ length g.vertices
long_for Even g = refl
long_for Odd g = long_dual g

module _ (player : Player) (g : Game) (table : List Measure) (n : ℕ) (now : NamedEvidence) (was : IsMade player g table n now) where
  -- nothing is put where the value is top
  pub made_left : value_at table n ≡ Top → IsMade player g table (n + 1) now
  made_left top = record {
    game = was.game;
    player_is = was.player_is;
    long = was.long;
    outside = was.outside;
    inside = λ v counts h e. elim (eqb_tells v n) [
      | inl w ↦ (let q : Top ≡ Counts counts = sym top ∙ (ap (value_at table) (sym w.1) ∙ e) in absurd cc)
      | inr w ↦ (let d = w.1 in was.inside v counts (omega arith) e)
    ];
  }

  module _ (rank : List ℕ) (counts : Counts rank ≡ value_at table n) (h : n < length g.vertices) where
    pub made_more : (move : Option ℕ) (new : NamedEvidence) → IsMoveAt (game_for player g) table n move
        → new ≡ with_entry now n (record { move = move; rank = rank }) → IsMade player g table (n + 1) new
    made_more move new best e =
        record {
          game = ap (λ (r : NamedEvidence). r.game) e ∙ was.game;
          player_is = ap (λ (r : NamedEvidence). r.evidence.player) e ∙ was.player_is;
          long = ap (λ (r : NamedEvidence). length r.evidence.entries) e ∙ (length-set now.evidence.entries n (Some x) ∙ was.long);
          outside = λ v top. elim (eqb_tells v n) [
            | inl w ↦ (let q : Counts rank ≡ Top = counts ∙ (ap (value_at table) (sym w.1) ∙ top) in absurd cc)
            | inr w ↦ left v w.1 ∙ was.outside v top
          ];
          inside = λ v cs below is. elim (eqb_tells v n) [
            | inl w ↦ (
              x,
              ap (at new) w.1 ∙ put,
              same rank cs (counts ∙ (ap (value_at table) (sym w.1) ∙ is)),
              subst (λ u. IsMoveAt (game_for player g) table u move) (sym w.1) best,
            )
            | inr w ↦ (let d = w.1 in let old = was.inside v cs (omega arith) is in (old.0, left v w.1 ∙ old.1, old.2, old.3))
          ];
        }
      where
        x : Entry
        x = record { move = move; rank = rank }

        put : at new n ≡ Some (record { move = move; rank = rank })
        put = ap (λ (r : NamedEvidence). at r n) e
            ∙ get_or-set_same now.evidence.entries n (Some (record { move = move; rank = rank })) None (let l = was.long in omega arith)

        left : (v : ℕ) → v ≢ n → at new v ≡ at now v
        left v d = ap (λ (r : NamedEvidence). at r v) e
            ∙ get_or-set_other now.evidence.entries n v (Some (record { move = move; rank = rank })) None d

        same : (a b : List ℕ) → Counts a ≡ Counts b → a ≡ b
        same a b q = cc

    -- a rank has as many counts as there are components
    pub rank_long : IsLeastTable (game_for player g) table → length rank ≡ rank_width now
    rank_long least =
        sym (AllZip-long (λ k p. k ≤ count (game_for player g) p) rank (components (game_for player g))
        (subst (λ (m : Measure). IsMeasure (game_for player g) m) (sym counts) (value_measure (game_for player g) table least.progress.0.1 n)))
        ∙ (counts_for player g (omega arith) ∙ sym (ap₂ (λ p h. length (counted p h)) was.player_is was.game))

-- a move leads to a vertex
pub move_inside : (g : Game) → IsGame g → (table : List Measure) (v : ℕ) → v < length g.vertices → (move : Option ℕ) → IsMoveAt g table v move
    → IfSome move (λ t. t < length g.vertices)
move_inside g game table v h None is = tt
move_inside g game table v h (Some t) is =
    let w = vertex_here g v h in
    all_contained (λ u. u < length g.vertices) w.0.successors t (all_got (IsVertex (length g.vertices)) g.vertices v w.0 game.vertices w.1).within
    (is w.0 w.1).1.successor

made_even : (g : Game) (table : List Measure) (n : ℕ) (e : Evidence) → IsLeastTable g table → length g.vertices ≤ n → e.player ≡ Even
    → length e.entries ≡ length g.vertices → ((v : ℕ) → value_at table v ≡ Top → entry_at e v ≡ None)
    → ((v : ℕ) (counts : List ℕ) → v < n → value_at table v ≡ Counts counts → (x : Entry) × (entry_at e v ≡ Some x) × (x.rank ≡ counts)
    × IsMoveAt g table v x.move)
    → IsEvenOf g e
made_even g table n e least whole even long outside inside = record {
  player = even;
  long = long;
  table = table;
  least = least;
  outside = outside;
  inside = λ v counts e. inside v counts (within v counts e) e;
}
  where
    within : (v : ℕ) (counts : List ℕ) → value_at table v ≡ Counts counts → v < n
    within v counts e = elim (leb_tells (length table) v) [
      | inl w ↦ (let q : Top ≡ Counts counts = sym (get_or_past table v Top w.1) ∙ e in absurd cc)
      | inr w ↦ (let l = w.1 in let k = least.progress.0.0 in omega arith)
    ]

pub made_best : (player : Player) (g : Game) (table : List Measure) (n : ℕ) (now : NamedEvidence) → IsLeastTable (game_for player g) table
    → length (game_for player g).vertices ≤ n → IsMade player g table n now → IsBestOf player g now.evidence
made_best Even g table n now least whole is = made_even g table n now.evidence least whole is.player_is is.long is.outside is.inside
made_best Odd g table n now least whole is = (
  is.player_is,
  made_even (dual g) table n (record { player = Even; entries = now.evidence.entries }) least whole refl (is.long ∙ sym (long_dual g)) is.outside is.inside,
)
