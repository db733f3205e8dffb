-- What is left to write begins with the next piece.
use Rattle.std.proofs.Common.{◌≡◌, ℕ, suc, ◌+◌, ◌<◌, ◌≤◌, List, [], ◌∷◌, ◌++◌, length, get_or, drop, refl, sym, ap, ◌∙◌, append-nil, arith}
use Rattle.std.proofs.Math.Seq.{drop-cons}
use Rattle.std.proofs.Math.ListN.{drop_of_length-le}
use Rattle.text.specs.declared.write_loop.Piece.{Piece}
use Rattle.text.specs.Pieces.{piece_text, pieces_text}

piece_first : (piece : Piece) (pieces : List Piece) → pieces_text (piece ∷ pieces) ≡ piece_text piece ++ pieces_text pieces
piece_first piece [] = sym (append-nil (piece_text piece))
piece_first piece (next ∷ pieces) = refl

pub piece_next : (pieces : List Piece) (i : ℕ) (d : Piece) → i < length pieces
    → pieces_text (drop i pieces) ≡ piece_text (get_or pieces i d) ++ pieces_text (drop (i + 1) pieces)
piece_next pieces i d below =
    let next : i + 1 ≡ suc i = omega arith in
    rw next (ap pieces_text (drop-cons pieces i d below) ∙ piece_first (get_or pieces i d) (drop (suc i) pieces))

pub pieces_none : (pieces : List Piece) (i : ℕ) → length pieces ≤ i → pieces_text (drop i pieces) ≡ []
pieces_none pieces i past = ap pieces_text (drop_of_length-le pieces past)
