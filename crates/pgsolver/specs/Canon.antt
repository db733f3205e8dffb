-- The canonical text of a game.
use Rattle.std.specs.Prelude.{ℕ, zero, suc, ◌+◌, ◌-◌, ◌/◌, ◌%◌, List, [], ◌∷◌, ◌++◌, length, map, Option, Some, None, codes, decimal}
use Rattle.std.specs.List.{join_with_byte}
use Rattle.text.specs.Pieces.{line_end}
use Rattle.game.specs.declared.player.Player.{Player}
use Rattle.game.specs.declared.player.Player.TheVariants.{Even, Odd}
use Rattle.game.specs.Game.{Vertex, Game, vertex}

-- `parity N;`
abbrev pub game_header_line : ℕ → List ℕ
game_header_line n = codes "parity " ++ (decimal n ++ (codes ";" ++ line_end))

-- the owner's digit
abbrev pub owner_digit : Player → List ℕ
owner_digit Even = codes "0"
owner_digit Odd = codes "1"

-- `id priority owner `
abbrev pub front_text : ℕ → Vertex → List ℕ
front_text v x = decimal v ++ (codes " " ++ (decimal x.priority ++ (codes " " ++ (owner_digit x.owner ++ codes " "))))

-- `s1,s2,..`
abbrev pub successors_text : List ℕ → List ℕ
successors_text successors = join_with_byte 44 (map decimal successors)

-- The name of a vertex, where there are so many nodes: the sinks are `true` and `false`, and state s with node k is `s,k`.
abbrev pub vertex_name : ℕ → ℕ → List ℕ
vertex_name nodes zero = codes "true"
vertex_name nodes (suc zero) = codes "false"
vertex_name nodes (suc (suc i)) = decimal (i / nodes) ++ (codes "," ++ decimal (i % nodes))

-- a space and the name in quotes, in a game whose vertices have names
abbrev pub name_text : Option (ℕ × ℕ) → ℕ → List ℕ
name_text None v = []
name_text (Some named) v = 32 ∷ 34 ∷ vertex_name named.1 v ++ 34 ∷ []

-- `id priority owner s1,s2,.. "name";`
abbrev pub vertex_line : Option (ℕ × ℕ) → ℕ → Vertex → List ℕ
vertex_line named v x = front_text v x ++ (successors_text x.successors ++ (name_text named v ++ (codes ";" ++ line_end)))

-- the line of a vertex, and none past the last
abbrev pub vertex_line_of : Option (ℕ × ℕ) → ℕ → Option Vertex → List ℕ
vertex_line_of named v None = []
vertex_line_of named v (Some x) = vertex_line named v x

abbrev pub vertex_line_at : Game → ℕ → List ℕ
vertex_line_at g v = vertex_line_of g.named v (vertex g v)

-- a line for each vertex from v on
abbrev pub vertex_lines : Option (ℕ × ℕ) → ℕ → List Vertex → List ℕ
vertex_lines named v [] = []
vertex_lines named v (x ∷ xs) = vertex_line named v x ++ vertex_lines named (v + 1) xs

-- `parity N;` with N the greatest identifier, and then a line for each vertex
abbrev pub game_text : Game → List ℕ
game_text g = game_header_line (length g.vertices - 1) ++ vertex_lines g.named 0 g.vertices
