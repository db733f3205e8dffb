-- Who wins each vertex of a game, and what is written of it.
use Rattle.std.specs.Prelude.{◌≡◌, ◌↔◌, ℕ, ◌+◌, ◌<◌, Bool, List, [], ◌∷◌, ◌++◌, Option, Some, None, length, count_by, codes, decimal, if◌then◌else◌, slice_get}
use Rattle.text.specs.Pieces.{line_end}
use Rattle.calculus.specs.Meaning.{marked}
use Rattle.game.specs.Game.{Game}
use Rattle.game.specs.Wins.{OddWins, Wins}

-- a mark for each vertex: yes where Even wins it, and no where Odd does
pub record AreWinners (g : Game) (marks : List Bool) : Type 0 where
  pub count : length marks ≡ length g.vertices
  pub even : (v : ℕ) → v < length g.vertices → marked marks v ↔ Wins g v
  pub odd : (v : ℕ) → v < length g.vertices → (marked marks v → ⊥) ↔ OddWins g v

-- `vertices N`, and `even C` where Even wins so many of them
abbrev pub sizes_text : ℕ → ℕ → List ℕ
sizes_text vertices even = codes "vertices " ++ (decimal vertices ++ (line_end ++ (codes "even " ++ (decimal even ++ line_end))))

-- the end of a line that tells who wins
abbrev pub even_or_odd : Bool → List ℕ
even_or_odd mark = (if mark then codes " even" else codes " odd") ++ line_end

-- the line of a vertex with this mark
abbrev pub winner_line : ℕ → Option Bool → List ℕ
winner_line v (Some mark) = decimal v ++ even_or_odd mark
winner_line v None = []

abbrev pub winner_line_at : List Bool → ℕ → List ℕ
winner_line_at marks v = winner_line v (slice_get marks v)

-- a line for each vertex from v on
abbrev pub winner_lines : ℕ → List Bool → List ℕ
winner_lines v [] = []
winner_lines v (mark ∷ marks) = decimal v ++ (even_or_odd mark ++ winner_lines (v + 1) marks)

-- the whole text
abbrev pub winners_text : List Bool → List ℕ
winners_text marks = sizes_text (length marks) (count_by (λ mark. mark) marks) ++ winner_lines 0 marks
