-- Worked examples of systems and their texts.
use Rattle.std.specs.Prelude.{◌≡◌, ℕ, true, false, List, [], ◌∷◌, ◌++◌, length, Some, None, codes, refl, IsTrue, IsFalse, ◌==◌}
use Rattle.std.specs.List.{concat, list_any, AllByRecursion}
use Rattle.std.proofs.Common.{arith}
use Rattle.text.specs.Text.{lines, is_blank, is_name, IsNumeral, IsSpaced, is_numeral, value_of}
use Rattle.systems.specs.Label.{is_label, multi_action_of}
use Rattle.systems.specs.System.{Arrow, System, IsArrow, IsSystem, set_of}
use Rattle.std.specs.Fmt.{digits}
use Rattle.lts.specs.Canon.{aut_text}
use Rattle.lts.specs.Aut.{IsAut, IsAutHeader, IsTransition}

-- a proof of the first and one of the rest
infixr 10 ◌&◌
abbrev pub ◌&◌ : {A B : Type 0} → A → B → A × B
a & b = (a, b)

abbrev pub arrow : ℕ → List ℕ → ℕ → Arrow
arrow s l t = record { source = s; label = l; target = t }

v_lines : lines (codes "a" ++ (13 ∷ 10 ∷ 10 ∷ codes "b" ++ 13 ∷ [])) ≡ codes "a" ∷ [] ∷ codes "b" ∷ []
v_lines = refl

blanks : (is_blank 32 ≡ true) × (is_blank 9 ≡ true) × (is_blank 10 ≡ false) × (is_blank 13 ≡ false)
blanks = (refl, refl, refl, refl)

names : (is_name (codes "_a1") ≡ true) × (is_name (codes "1a") ≡ false) × (is_name (codes "a-b") ≡ false) × (is_name [] ≡ false)
names = (refl, refl, refl, refl)

-- no `"` and no TAB stands in a label
labels : (is_label (codes "r(1)") ≡ true) × (is_label [] ≡ false) × (is_label (34 ∷ []) ≡ false) × (is_label (9 ∷ []) ≡ false)
labels = (refl, refl, refl, refl)

readings : (multi_action_of (codes "b|a") ≡ Some (codes "a" ∷ codes "b" ∷ [])) × (multi_action_of (codes "r(1)") ≡ None)
    × (multi_action_of (codes "tau") ≡ Some []) × (multi_action_of (codes "a|tau") ≡ None)
    × (multi_action_of (codes "a|a") ≡ Some (codes "a" ∷ codes "a" ∷ []))
readings = (refl, refl, refl, refl, refl)

-- the two-state system: des (0,2,2), (0,"a",1), (1,"b",0)
abbrev pub two_states_text : List ℕ
two_states_text = codes "des (0,2,2)\n(0,\"a\",1)\n(1,\"b\",0)\n"

abbrev pub two_states : System
two_states = record { states = 2; initial = 0; arrows = arrow 0 (codes "a") 1 ∷ arrow 1 (codes "b") 0 ∷ [] }

arrows_two_states : AllByRecursion (IsArrow 2) two_states.arrows
arrows_two_states =
    (record { source = omega arith; target = omega arith; label = refl }, (record { source = omega arith; target = omega arith; label = refl }, tt))

is_system_two_states : IsSystem two_states
is_system_two_states = record { some = omega arith; limit = omega arith; initial = omega arith; arrows = arrows_two_states; set = refl }

-- each arrow once, by source, then by label
set_of_three : set_of (arrow 1 (codes "b") 0 ∷ arrow 0 (codes "a") 1 ∷ arrow 1 (codes "b") 0 ∷ []) ≡ arrow 0 (codes "a") 1 ∷ arrow 1 (codes "b") 0 ∷ []
set_of_three = refl

v_two_states_lines : length (lines two_states_text) ≡ 3
v_two_states_lines = refl

-- a line that is its tokens alone
pub without_blanks : (tokens : List (List ℕ)) → IsSpaced tokens (concat tokens)
without_blanks [] = refl
without_blanks (token ∷ tokens) = ([], concat tokens, refl, refl, without_blanks tokens)

-- a header's line with one blank
pub header : (i m n : List ℕ) → IsTrue (is_numeral i) → IsTrue (is_numeral m) → IsTrue (is_numeral n)
    → IsAutHeader (codes "des " ++ concat (codes "(" ∷ i ∷ codes "," ∷ m ∷ codes "," ∷ n ∷ codes ")" ∷ [])) (value_of i) (value_of m) (value_of n)
header i m n initial count states =
    let counts = i ∷ codes "," ∷ m ∷ codes "," ∷ n ∷ codes ")" ∷ [] in
    let spaced = codes " (" ++ concat counts in
    (i, m, n, (initial, refl), (count, refl), (states, refl), ([], spaced, refl, refl, (codes " ", concat counts, refl, refl, without_blanks counts)))

-- a transition's line without blanks
pub transition : (s label t : List ℕ) → IsTrue (is_numeral s) → IsTrue (is_numeral t) → IsFalse (list_any (λ b. b == 34) label)
    → IsTransition (concat (codes "(" ∷ s ∷ codes "," ∷ (34 ∷ label ++ 34 ∷ []) ∷ codes "," ∷ t ∷ codes ")" ∷ [])) (arrow (value_of s) label (value_of t))
transition s label t source target plain =
    (s, t, (source, refl), (target, refl), plain, without_blanks (codes "(" ∷ s ∷ codes "," ∷ (34 ∷ label ++ 34 ∷ []) ∷ codes "," ∷ t ∷ codes ")" ∷ []))

pub two_states_header : IsAutHeader (codes "des (0,2,2)") 0 2 2
two_states_header = header (codes "0") (codes "2") (codes "2") refl refl refl

pub line_a : IsTransition (codes "(0,\"a\",1)") (arrow 0 (codes "a") 1)
line_a = transition (codes "0") (codes "a") (codes "1") refl refl refl

line_b : IsTransition (codes "(1,\"b\",0)") (arrow 1 (codes "b") 0)
line_b = transition (codes "1") (codes "b") (codes "0") refl refl refl

pub aut_p : IsAut two_states_text two_states
aut_p =
    record {
      first = codes "des (0,2,2)";
      rest = codes "(0,\"a\",1)" ∷ codes "(1,\"b\",0)" ∷ [];
      spelled = arrow 0 (codes "a") 1 ∷ arrow 1 (codes "b") 0 ∷ [];
      cut = refl;
      header = two_states_header;
      each = (line_a, (line_b, tt));
      set = refl;
      count = omega arith;
      some = omega arith;
      limit = omega arith;
      initial = omega arith;
      within = arrows_two_states;
    }

-- the text is the canonical one
canonical_two_states : aut_text two_states ≡ two_states_text
unfolding digits
canonical_two_states = refl

-- a number of any length is a numeral, but not with a 0 in front
numerals : IsNumeral (codes "99999999999999999999999") 99999999999999999999999 × (is_numeral (codes "00") ≡ false)
numerals = ((refl, refl), refl)
