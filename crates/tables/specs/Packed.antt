-- What the words of a packed board hold, whatever is done meanwhile, and what each of its steps tells.
use Rattle.std.specs.Prelude.{ℕ, ◌≡◌, ◌<◌, ◌≤◌, ◌++◌, max, List, [], ◌∷◌, length, slice_index, slice_set}
use mathlib.Core.Option.{some}
use lib.ListN.{get_elem?}
use Rattle.atomic_table.specs.Table.{Me, State, Step}
use Rattle.game.specs.Game.{Game}
use Rattle.measures.specs.Lifting.{height, of_rank}
use Rattle.measures.specs.Measure.{IsAtMost, Measure}
use Rattle.measures.specs.Progress.{opening, value_at}
use Rattle.measures.specs.Tables.{LiesBelow}
use Rattle.tables.specs.declared.access.Access.{Access}
use Rattle.tables.specs.declared.access.Access.TheVariants.{Raise, Read}
use Rattle.tables.specs.declared.packed.View.{View}

-- the board has words alone
abbrev pub Nothing : Type 0
Nothing = Unit {0}

abbrev pub view_after : Game → List Measure → List Access → View
view_after g table accesses = record { of = g; seen = table; done = accesses }

-- a new seat has seen the opening table, and did nothing
abbrev pub newcomer : Game → View
newcomer g = view_after g (opening g) []

-- the rank of a measure that is below at the vertex, and at least the opening one
pub record IsWord (g : Game) (v n : ℕ) : Type 0 where
  pub rank : n ≤ height g
  pub below : LiesBelow g v (of_rank g n)
  pub opened : IsAtMost (value_at (opening g) v) (of_rank g n)

-- the rank of the opening value
pub record IsOpeningRank (g : Game) (v n : ℕ) : Type 0 where
  pub rank : n ≤ height g
  pub value : of_rank g n ≡ value_at (opening g) v

-- a measure for each vertex of the game, none above that of its word
pub record IsView (g : Game) (words : List ℕ) (w : View) : Type 0 where
  pub game : w.of ≡ g
  pub long : length w.seen ≡ length g.vertices
  pub under : (v : ℕ) → v < length g.vertices → IsAtMost (value_at w.seen v) (of_rank g (slice_index words v))

-- a word for each vertex, and no seat has seen more
pub record IsKept (g : Game) (s : State Nothing View) : Type 0 where
  pub whole : length s.words ≡ length g.vertices
  pub words : (v : ℕ) → v < length g.vertices → IsWord g v (slice_index s.words v)
  pub seen : (id : ℕ) (w : View) → get_elem? s.views id ≡ some w → IsView g s.words w

-- the word that was found is no less than what was seen there, and is then seen and was read
pub record Looked (s : Step Nothing) (me : Me Nothing View) (found : ℕ) (after : Me Nothing View) : Type 0 where
  pub view : after.0 ≡ view_after me.0.of (slice_set me.0.seen s.word (of_rank me.0.of found)) (me.0.done ++ Read s.word (of_rank me.0.of found) ∷ [])
  pub later : IsAtMost (value_at me.0.seen s.word) (of_rank me.0.of found)
  pub word : IsWord me.0.of s.word found

-- the greater of the word that was found and the one that was brought is then seen, and the first was raised to the second
pub record Raised (s : Step Nothing) (me : Me Nothing View) (found : ℕ) (after : Me Nothing View) : Type 0 where
  pub view : after.0 ≡ view_after me.0.of (slice_set me.0.seen s.word (of_rank me.0.of (max found s.first)))
      (me.0.done ++ Raise s.word (of_rank me.0.of found) (of_rank me.0.of s.first) ∷ [])
  pub later : IsAtMost (value_at me.0.seen s.word) (of_rank me.0.of found)
  pub word : IsWord me.0.of s.word found

abbrev pub Entered : Step Nothing → Me Nothing View → ℕ → Me Nothing View → Type 0
Entered s first found me = me.0 ≡ first.0
