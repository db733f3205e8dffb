-- A worked example of what `solve` writes.
use Rattle.std.specs.Prelude.{◌≡◌, true, false, [], ◌∷◌, ◌++◌, codes, refl}
use Rattle.std.specs.Fmt.{digits}
use Rattle.text.specs.Pieces.{line_end}
use Rattle.commands.specs.Winners.{winners_text}

winners_of_two : winners_text (true ∷ false ∷ []) ≡ codes "vertices 2" ++ line_end ++ codes "even 1" ++ line_end ++ codes "0 even" ++ line_end
    ++ codes "1 odd" ++ line_end
unfolding digits
winners_of_two = refl
