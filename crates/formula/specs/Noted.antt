-- How the program notes words: one after the other.
use Rattle.std.specs.Prelude.{ℕ, Bool, not, ◌&&◌, List, [], ◌∷◌, ◌++◌, length, nat_lt, if◌then◌else◌}
use Rattle.std.specs.List.{list_any}
use Rattle.std.specs.Str.{bytes_eq}
use Rattle.formula.specs.declared.strange.Known.{Known}
use Rattle.formula.specs.declared.strange.TheConstants.{MOST_NOTES}
use Rattle.formula.specs.Strange.{NameOrAtom, Name, Atom, has_term, same_term}

-- some label has it
abbrev pub is_known : List (List ℕ) → NameOrAtom → Bool
is_known labels t = list_any (has_term t) labels

-- in the sets of labels and of names
abbrev pub knows : Known → NameOrAtom → Bool
knows known (Name bytes) = list_any (λ name. bytes_eq bytes name.now) known.names.keys
knows known (Atom bytes) = list_any (λ label. bytes_eq bytes label.now) known.labels.keys

-- one more at the end, where there is room, it isn't there yet, and it isn't known
abbrev pub with_term : (NameOrAtom → Bool) → List NameOrAtom → NameOrAtom → List NameOrAtom
with_term known found t = if nat_lt (length found) MOST_NOTES && not (list_any (same_term t) found) && not (known t) then found ++ t ∷ [] else found
