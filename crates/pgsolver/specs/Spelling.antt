-- The game that a text spells.
use Rattle.std.specs.Prelude.{◌≡◌, ◌≢◌, ℕ, ◌+◌, ◌<◌, ◌≤◌, List, [], ◌∷◌, ◌++◌, length, IsTrue, Contains, AllPairs, Bool, Option, Some, None, MatchOption}
use Rattle.std.specs.Prelude.{nat_le, ◌&&◌, codes}
use Rattle.std.specs.List.{AllZip, AllByRecursion, list_all}
use Rattle.text.specs.Text.{lines, is_blank, IsNumeral, IsSpaced}
use Rattle.systems.specs.Label.{is_label_byte}
use Rattle.calculus.specs.declared.limits.TheConstants.{GREATEST_PRIORITY}
use Rattle.game.specs.declared.limits.TheConstants.{MOST_VERTICES}
use Rattle.game.specs.declared.player.Player.{Player}
use Rattle.game.specs.Game.{Vertex, Game, vertex}
use Rattle.game.specs.NumberSet.{number_set}
use Rattle.pgsolver.specs.declared.limits.TheConstants.{LONGEST_NAME}
use Rattle.pgsolver.specs.Canon.{owner_digit}

-- what a vertex line says, its successors as they stand
pub record VertexLine : Type 0 where
  pub id : ℕ
  pub priority : ℕ
  pub owner : Player
  pub successors : List ℕ

-- `parity n;`
abbrev pub IsPgHeader : List ℕ → ℕ → Type 0
IsPgHeader line n = (i : List ℕ) × IsNumeral i n × IsSpaced (codes "parity" ∷ i ∷ codes ";" ∷ []) line

-- these, with a comma before each
abbrev pub with_commas : List (List ℕ) → List (List ℕ)
with_commas [] = []
with_commas (t ∷ ts) = codes "," ∷ t ∷ with_commas ts

-- One blank, as a token: at least so much parts two numbers without a comma between them. More may stand there, as round each token.
abbrev pub IsOneBlank : List ℕ → Type 0
IsOneBlank gap = (b : ℕ) × IsTrue (is_blank b) × (gap ≡ b ∷ [])

-- what follows the owner: successors with a comma between two, if there are some
abbrev pub successor_tokens : List ℕ → List (List ℕ) → List (List ℕ)
successor_tokens gap [] = []
successor_tokens gap (t ∷ ts) = gap ∷ t ∷ with_commas ts

-- 0 to 4,096 bytes from 0x20 to 0x7E, none of them `"`
abbrev pub is_vertex_name : List ℕ → Bool
is_vertex_name bytes = nat_le (length bytes) LONGEST_NAME && list_all is_label_byte bytes

abbrev pub IsName : Option (List ℕ) → Type 0
IsName name = MatchOption name (Unit {0}) (λ bytes. IsTrue (is_vertex_name bytes))

-- the name in quotes, if there is one
abbrev pub name_tokens : Option (List ℕ) → List (List ℕ)
name_tokens None = []
name_tokens (Some bytes) = (34 ∷ bytes ++ 34 ∷ []) ∷ []

-- `id priority owner s1,s2,.. "name";`, where the name may be absent. A line that lacks all successors and nothing else has this shape too.
pub record IsLine (line : List ℕ) (x : VertexLine) : Type 0 where
  pub i : List ℕ
  pub p : List ℕ
  pub first_gap : List ℕ
  pub second_gap : List ℕ
  pub third_gap : List ℕ
  pub targets : List (List ℕ)
  pub name : Option (List ℕ)
  pub id : IsNumeral i x.id
  pub priority : IsNumeral p x.priority
  pub successors : AllZip IsNumeral targets x.successors
  pub gaps : IsOneBlank first_gap × IsOneBlank second_gap × IsOneBlank third_gap
  pub named : IsName name
  pub spaced : IsSpaced (i ∷ first_gap ∷ p ∷ second_gap ∷ owner_digit x.owner ∷ successor_tokens third_gap targets ++ (name_tokens name ++ codes ";" ∷ [])) line

-- in a game with the greatest identifier n
pub record IsLineWithin (n : ℕ) (x : VertexLine) : Type 0 where
  pub id : x.id ≤ n
  pub some : x.successors ≢ []
  pub successors : AllByRecursion (λ t. t ≤ n) x.successors
  pub priority : x.priority ≤ GREATEST_PRIORITY

-- The lines say these, each within the limits, and no identifier twice.
pub record AreGoodLines (n : ℕ) (rest : List (List ℕ)) (spelled : List VertexLine) : Type 0 where
  pub each : AllZip IsLine rest spelled
  pub within : AllByRecursion (IsLineWithin n) spelled
  pub once : AllPairs (λ x y. x.id ≢ y.id) spelled

abbrev pub vertex_said : VertexLine → Vertex
vertex_said x = record { owner = x.owner; priority = x.priority; successors = number_set x.successors }

-- The text spells the game: a header, and then a line for each vertex, in any order. A successor may stand twice. The names are not kept.
pub record IsGameText (text : List ℕ) (g : Game) : Type 0 where
  pub n : ℕ
  pub first : List ℕ
  pub rest : List (List ℕ)
  pub spelled : List VertexLine
  pub cut : lines text ≡ first ∷ rest
  pub header : IsPgHeader first n
  pub limit : n < MOST_VERTICES
  pub good : AreGoodLines n rest spelled
  pub complete : length rest ≡ n + 1
  pub size : length g.vertices ≡ n + 1
  pub placed : (x : VertexLine) → Contains spelled x → vertex g x.id ≡ Some (vertex_said x)
  pub unnamed : g.named ≡ None
