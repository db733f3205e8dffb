-- What holds of all texts of games.
use Rattle.std.specs.Prelude.{◌≡◌, ℕ, ◌≤◌, ◌⊎◌, List, length, None}
use Rattle.calculus.specs.declared.limits.TheConstants.{GREATEST_PRIORITY}
use Rattle.game.specs.Game.{Game, IsGame, greatest}
use Rattle.pgsolver.specs.Canon.{game_text}
use Rattle.pgsolver.specs.Spelling.{IsGameText}
use Rattle.pgsolver.specs.Fault.{HasPgFault}
use Rattle.pgsolver.specs.declared.error.PgFault.{PgFault}

-- A text spells at most one game.
abbrev pub OneGame : Type 0
OneGame = (text : List ℕ) (g h : Game) → IsGameText text g → IsGameText text h → g ≡ h

-- A text that spells a game has no deciding fault.
abbrev pub NoPgFault : Type 0
NoPgFault = (text : List ℕ) (g : Game) (fault : PgFault) (line : ℕ) → IsGameText text g → HasPgFault text fault line → ⊥

-- A text has at most one deciding fault, at one line.
abbrev pub OnePgFault : Type 0
OnePgFault = (text : List ℕ) (f g : PgFault) (i j : ℕ) → HasPgFault text f i → HasPgFault text g j → (f ≡ g) × (i ≡ j)

-- A text spells a game, or a fault decides.
abbrev pub GameTextIsDecided : Type 0
GameTextIsDecided = (text : List ℕ) → ((g : Game) × IsGameText text g) ⊎ ((fault : PgFault) × (line : ℕ) × HasPgFault text fault line)

-- The canonical text of a game with some vertex and without a priority above 31 spells that game without its names.
abbrev pub GameTextSpells : Type 0
GameTextSpells = (g : Game) → IsGame g → 1 ≤ length g.vertices → greatest g ≤ GREATEST_PRIORITY
    → IsGameText (game_text g) (record { vertices = g.vertices; named = None })
