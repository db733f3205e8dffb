-- Vertices that are lent.
use Rattle.std.specs.Prelude.{◌+◌}
use Rattle.game.specs.Game.{Vertex, opponent}
use Rattle.game.specs.declared.view.VertexView.{VertexView}

abbrev pub lent_vertex : VertexView → Vertex
lent_vertex x = record { owner = x.owner; priority = x.priority; successors = x.successors.now }

-- the vertex in the dual game
abbrev pub turned : Vertex → Vertex
turned x = record { owner = opponent x.owner; priority = x.priority + 1; successors = x.successors }
