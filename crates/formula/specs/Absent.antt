-- Where in a formula's text the first name or quoted label stands that is on no transition of a system.
use Rattle.std.specs.Prelude.{◌≡◌, ℕ, Bool, true, false, not, ◌&&◌, List, [], ◌∷◌, Option, Some, None, IsTrue, if◌then◌else◌}
use Rattle.std.specs.List.{list_any}
use Rattle.systems.specs.System.{System}
use Rattle.grammar.specs.Token.{Token, Name, Atom, Less, Greater, OpenBox, CloseBox, Segment, Cuts, text_of, tokens_of, offsets_from, is_decided}
use Rattle.formula.specs.Strange.{NameOrAtom, Name as NameTerm, Atom as AtomTerm, has_term}

-- some transition has it
abbrev pub is_on_transition : System → NameOrAtom → Bool
is_on_transition l t = list_any (λ a. has_term t a.label) l.arrows

-- whether what comes after the token stands in a modality
abbrev pub is_inside_after : Token → Bool → Bool
is_inside_after Less inside = true
is_inside_after OpenBox inside = true
is_inside_after Greater inside = false
is_inside_after CloseBox inside = false
is_inside_after _ inside = inside

-- a name or a quoted label that isn't known
abbrev pub is_unknown : (NameOrAtom → Bool) → Token → Bool
is_unknown known (Name bytes) = not (known (NameTerm bytes))
is_unknown known (Atom bytes) = not (known (AtomTerm bytes))
is_unknown known _ = false

-- where the first one in a modality begins, of tokens that begin at these places
abbrev pub first_unknown : (NameOrAtom → Bool) → (inside : Bool) → List Token → (places : List ℕ) → Option ℕ
first_unknown known inside [] places = None
first_unknown known inside (token ∷ tokens) [] = None
first_unknown known inside (token ∷ tokens) (place ∷ places) =
    if inside && is_unknown known token then Some place else first_unknown known (is_inside_after token inside) tokens places

-- The text is cut into tokens, and there the first name or quoted label in a modality begins that is on no transition, if there is one.
pub record IsFirstAbsent (l : System) (text : List ℕ) (found : Option ℕ) : Type 0 where
  pub pieces : List Segment
  pub joined : text ≡ text_of pieces
  pub cut : Cuts pieces []
  pub decided : IsTrue (is_decided (tokens_of pieces))
  pub first : found ≡ first_unknown (is_on_transition l) false (tokens_of pieces) (offsets_from 0 pieces)
