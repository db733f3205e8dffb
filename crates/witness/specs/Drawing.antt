-- The text of a system for Graphviz.
use Rattle.std.specs.Prelude.{ℕ, ◌||◌, ◌==◌, List, [], ◌∷◌, ◌++◌, Option, Some, None, codes, decimal, slice_get, if◌then◌else◌}
use Rattle.std.specs.List.{flat_map}
use Rattle.systems.specs.System.{Arrow, System}
use Rattle.text.specs.Pieces.{line_end}
use Rattle.systems.specs.Numbered.{arrow_of}
use Rattle.systems.specs.declared.system.Transition.{Transition}

-- A `\` stands before `"` and before `\`.
abbrev pub escape : ℕ → List ℕ
escape b = if b == 34 || b == 92 then 92 ∷ b ∷ [] else b ∷ []

abbrev pub escaped : List ℕ → List ℕ
escaped bytes = flat_map escape bytes

-- `  source -> target [label="`
abbrev pub edge_front : (source target : ℕ) → List ℕ
edge_front source target = codes "  " ++ (decimal source ++ (codes " -> " ++ (decimal target ++ (codes " [label=" ++ 34 ∷ []))))

-- `"];`
abbrev pub edge_end : List ℕ
edge_end = 34 ∷ codes "];" ++ line_end

-- `  source -> target [label="label"];`
abbrev pub edge_line : Arrow → List ℕ
edge_line a = edge_front a.source a.target ++ (escaped a.label ++ edge_end)

-- what stands before the edges, with the initial state marked
abbrev pub head_text : ℕ → List ℕ
head_text initial =
    codes "digraph witness {" ++ (line_end ++ (codes "  rankdir=LR;" ++ (line_end ++ (codes "  node [shape=circle];" ++ (line_end
    ++ (codes "  " ++ (decimal initial ++ (codes " [shape=doublecircle];" ++ line_end))))))))

abbrev pub drawing_end : List ℕ
drawing_end = codes "}" ++ line_end

-- the initial state, and each arrow with its ends
abbrev pub drawing : System → List ℕ
drawing l = head_text l.initial ++ (flat_map edge_line l.arrows ++ drawing_end)

-- the line of a transition, if there is one
abbrev pub edge_line_of : List (List ℕ) → Option Transition → List ℕ
edge_line_of labels None = []
edge_line_of labels (Some t) = edge_line (arrow_of labels t)

-- the line of the transition of this number
abbrev pub edge_line_at : List (List ℕ) → List Transition → ℕ → List ℕ
edge_line_at labels transitions i = edge_line_of labels (slice_get transitions i)
