-- The canonical Aldebaran text of a system.
use Rattle.std.specs.Prelude.{ℕ, List, [], ◌∷◌, ◌++◌, length, codes, decimal, Option, Some, None, slice_get}
use Rattle.std.specs.List.{flat_map}
use Rattle.text.specs.Pieces.{line_end}
use Rattle.systems.specs.System.{Arrow, System}
use Rattle.systems.specs.Numbered.{arrow_of}
use Rattle.systems.specs.declared.system.Transition.{Transition}

-- `(source,"label",target)`
abbrev pub arrow_line : Arrow → List ℕ
arrow_line a = codes "(" ++ (decimal a.source ++ (codes "," ++ (34 ∷ a.label ++ (34 ∷ codes "," ++ (decimal a.target ++ (codes ")" ++ line_end))))))

-- `des (initial,transitions,states)`
abbrev pub header_line : (initial transitions states : ℕ) → List ℕ
header_line initial transitions states = codes "des (" ++ (decimal initial
    ++ (codes "," ++ (decimal transitions ++ (codes "," ++ (decimal states ++ (codes ")" ++ line_end))))))

-- the header, and then a line for each transition, which stand in order
abbrev pub aut_text : System → List ℕ
aut_text l = header_line l.initial (length l.arrows) l.states ++ flat_map arrow_line l.arrows

-- the line of a transition, if there is one
abbrev pub arrow_line_of : List (List ℕ) → Option Transition → List ℕ
arrow_line_of labels None = []
arrow_line_of labels (Some t) = arrow_line (arrow_of labels t)

-- the line of the transition of this number
abbrev pub arrow_line_at : List (List ℕ) → List Transition → ℕ → List ℕ
arrow_line_at labels transitions i = arrow_line_of labels (slice_get transitions i)
