-- Pieces of a text, one after another.
use Rattle.std.specs.Prelude.{ℕ, List, [], ◌∷◌, ◌++◌, decimal}
use Rattle.text.specs.declared.write_loop.Piece.{Piece}
use Rattle.text.specs.declared.write_loop.Piece.TheVariants.{Bytes, Number}

-- the end of a line: LF
abbrev pub line_end : List ℕ
line_end = 10 ∷ []

-- the bytes of a piece
abbrev pub piece_text : Piece → List ℕ
piece_text (Bytes bytes) = bytes.now
piece_text (Number n) = decimal n

-- the bytes of all of them: of no pieces none, and past the last one nothing is appended
abbrev pub pieces_text : List Piece → List ℕ
pieces_text [] = []
pieces_text (piece ∷ []) = piece_text piece
pieces_text (piece ∷ next ∷ pieces) = piece_text piece ++ pieces_text (next ∷ pieces)
