-- The lines of a drawing.
use Rattle.std.proofs.Common.{◌≡◌, ℕ, suc, ◌+◌, ◌<◌, ◌≤◌, List, [], ◌++◌, drop, get_or, length, map, ap, ◌∙◌, arith, add-one}
use Rattle.std.specs.List.{flat_map}
use Rattle.std.proofs.Math.Seq.{drop-cons}
use Rattle.std.proofs.Math.ListN.{drop_of_length-le}
use Rattle.std.proofs.lemmas.List.Concat.{flat_map-cons}
use Rattle.systems.specs.System.{Arrow}
use Rattle.systems.specs.Numbered.{Numbered, arrow_of, system_with}
use Rattle.systems.specs.declared.system.Transition.{Transition}
use Rattle.lts.proofs.Listed.{listed}
use Rattle.text.specs.Wrote.{lines_from}
use Rattle.witness.specs.Drawing.{drawing, drawing_end, edge_end, edge_front, edge_line, escape, escaped, head_text, edge_line_at, edge_line_of}

-- the lines by number are all of them
pub all_lines : (labels : List (List ℕ)) (ts : List Transition) → lines_from (edge_line_at labels ts) 0 (length ts) ≡ flat_map edge_line (map (arrow_of labels) ts)
all_lines labels ts = listed edge_line (arrow_of labels) (edge_line_at labels ts) 0 ts
    (λ i t h. (let same : 0 + i ≡ i = omega arith in ap (λ n. edge_line_at labels ts n) same ∙ ap (edge_line_of labels) h))

-- ------------------------------------------------------------------ the bytes of a label

-- the bytes from one on begin with it
pub next_byte : (bytes : List ℕ) (i b : ℕ) → i < length bytes → escaped (drop i bytes) ≡ escape (get_or bytes i b) ++ escaped (drop (i + 1) bytes)
next_byte bytes i b h = rw (drop-cons bytes i b h, add-one i) (flat_map-cons escape (get_or bytes i b) (drop (suc i) bytes))

-- past the last one nothing is left
pub no_bytes : (bytes : List ℕ) (i : ℕ) → length bytes ≤ i → escaped (drop i bytes) ≡ []
no_bytes bytes i past = ap escaped (drop_of_length-le bytes past)

-- ------------------------------------------------------------------ by what the program has at hand

pub edge_is : (s t : ℕ) (label : List ℕ) (a : Arrow) → s ≡ a.source → t ≡ a.target → label ≡ a.label
    → edge_front s t ++ (escaped label ++ edge_end) ≡ edge_line a
edge_is s t label a es et el = λ j. edge_front (es j) (et j) ++ (escaped (el j) ++ edge_end)

pub drawing_is : (l : Numbered) (initial : ℕ) (ts : List Transition) → initial ≡ l.system.initial
    → head_text initial ++ (flat_map edge_line (map (arrow_of l.labels) ts) ++ drawing_end) ≡ drawing (system_with l ts)
drawing_is l initial ts e = ap (λ n. head_text n ++ (flat_map edge_line (map (arrow_of l.labels) ts) ++ drawing_end)) e
