-- The canonical text of a system, line by line, and that it spells the system.
use Rattle.std.proofs.Common.{◌≡◌, ℕ, ◌+◌, ◌^◌, ◌<◌, ◌≤◌, Bool, true, false, not, ◌&&◌, ◌==◌, List, [], ◌∷◌, ◌++◌, length, map, codes, decimal, refl, sym, ap}
use Rattle.std.proofs.Common.{◌∙◌, subst, arith, append_assoc}
use Rattle.std.specs.Prelude.{nat_le}
use Rattle.std.specs.List.{flat_map, list_all, list_any, AllZip, AllByRecursion}
use Rattle.std.proofs.lemmas.List.{length-map}
use Rattle.std.proofs.lemmas.List.Concat.{flat_map-cons}
use Rattle.std.proofs.lemmas.List.Folds.{list_all-append}
use Rattle.text.specs.Text.{lines}
use Rattle.text.specs.Wrote.{lines_from}
use Rattle.systems.specs.declared.limits.TheConstants.{MOST_TRANSITIONS, MOST_STATES, LONGEST_LABEL}
use Rattle.systems.specs.Label.{is_label, is_label_byte}
use Rattle.systems.specs.System.{Arrow, System, IsArrow, IsSystem}
use Rattle.systems.specs.Numbered.{Numbered, arrow_of, system_with}
use Rattle.lts.specs.Aut.{IsAut, IsAutHeader, IsTransition}
use Rattle.lts.specs.Canon.{arrow_line, header_line, aut_text, arrow_line_at, arrow_line_of}
use Rattle.systems.specs.declared.system.Transition.{Transition}
use Rattle.std.proofs.lemmas.Bool.{and_parts}
use Rattle.lts.proofs.Listed.{listed}
use Rattle.text.proofs.Plain.{plain, first_line, numeral, over, over_rest, spaced, over_plain, number_plain}

-- ---- the lines as they are written

-- the lines of these transitions
abbrev pub lines_of : List (List ℕ) → List Transition → List ℕ
lines_of labels ts = flat_map arrow_line (map (arrow_of labels) ts)

-- the lines by number are all of them
pub all_lines : (labels : List (List ℕ)) (ts : List Transition) → lines_from (arrow_line_at labels ts) 0 (length ts) ≡ lines_of labels ts
all_lines labels ts = listed arrow_line (arrow_of labels) (arrow_line_at labels ts) 0 ts
    (λ i t h. (let same : 0 + i ≡ i = omega arith in ap (λ n. arrow_line_at labels ts n) same ∙ ap (arrow_line_of labels) h))

-- ---- the header

-- what stands behind `des` and its space
abbrev header_tokens : (initial count states : ℕ) → List (List ℕ)
header_tokens i m n = codes "(" ∷ decimal i ∷ codes "," ∷ decimal m ∷ codes "," ∷ decimal n ∷ codes ")" ∷ []

abbrev header_body : (initial count states : ℕ) → List ℕ
header_body i m n = codes "des " ++ over (header_tokens i m n) []

header_body_is : (i m n : ℕ) (rest : List ℕ) → header_line i m n ++ rest ≡ header_body i m n ++ 10 ∷ rest
header_body_is i m n rest = ap (λ l. (codes "des " ++ l) ++ rest) (over_rest (header_tokens i m n) (10 ∷ [])) ∙ append_assoc (header_body i m n) (10 ∷ []) rest

header_plain : (i m n : ℕ) → i < 2 ^ 64 → m < 2 ^ 64 → n < 2 ^ 64 → list_all plain (header_body i m n) ≡ true
header_plain i m n hi hm hn = over_plain (header_tokens i m n) (refl, (number_plain i hi, (refl, (number_plain m hm, (refl, (number_plain n hn, (refl, tt)))))))

header_is : (i m n : ℕ) → i < 2 ^ 64 → m < 2 ^ 64 → n < 2 ^ 64 → IsAutHeader (header_body i m n) i m n
header_is i m n hi hm hn = (
  decimal i,
  decimal m,
  decimal n,
  numeral i hi,
  numeral m hm,
  numeral n hn,
  (
    [],
    32 ∷ over (header_tokens i m n) [],
    refl,
    refl,
    (
      32 ∷ [],
      over (decimal i ∷ codes "," ∷ decimal m ∷ codes "," ∷ decimal n ∷ codes ")" ∷ []) [],
      refl,
      refl,
      spaced (decimal i ∷ codes "," ∷ decimal m ∷ codes "," ∷ decimal n ∷ codes ")" ∷ []),
    ),
  ),
)

-- ---- a transition

abbrev arrow_tokens : Arrow → List (List ℕ)
arrow_tokens a = codes "(" ∷ decimal a.source ∷ codes "," ∷ (34 ∷ a.label ++ 34 ∷ []) ∷ codes "," ∷ decimal a.target ∷ codes ")" ∷ []

abbrev arrow_body : Arrow → List ℕ
arrow_body a = over (arrow_tokens a) []

arrow_tokens_are : (a : Arrow) → arrow_line a ≡ over (arrow_tokens a) (10 ∷ [])
arrow_tokens_are a =
    let rest = 44 ∷ (decimal a.target ++ 41 ∷ 10 ∷ []) in
    ap (λ l. 40 ∷ (decimal a.source ++ 44 ∷ 34 ∷ l)) (sym (append_assoc a.label (34 ∷ []) rest))

arrow_body_is : (a : Arrow) (rest : List ℕ) → arrow_line a ++ rest ≡ arrow_body a ++ 10 ∷ rest
arrow_body_is a rest = ap (λ l. l ++ rest) (arrow_tokens_are a ∙ over_rest (arrow_tokens a) (10 ∷ [])) ∙ append_assoc (arrow_body a) (10 ∷ []) rest

all_of_label : (a b c : Bool) → (a && b && c) ≡ true → c ≡ true
all_of_label true true c e = e
all_of_label true false c e = cc
all_of_label false b c e = cc

byte_tests : (a b c : Bool) → (a && b && not c) ≡ true → (a ≡ true) × (c ≡ false)
byte_tests true true true e = cc
byte_tests true true false e = (refl, refl)
byte_tests true false c e = cc
byte_tests false b c e = cc

pub label_bytes : (label : List ℕ) → list_all is_label_byte label ≡ true → (list_all plain label ≡ true) × (list_any (λ b. b == 34) label ≡ false)
label_bytes [] h = (refl, refl)
label_bytes (b ∷ label) h =
    let both = and_parts (is_label_byte b) (list_all is_label_byte label) h in
    let one = byte_tests (nat_le 32 b) (nat_le b 126) (b == 34) both.0 in
    let more = label_bytes label both.1 in
    (rw (one.0, more.0) refl, rw (one.1, more.1) refl)

label_is : (label : List ℕ) → is_label label ≡ true → (list_all plain label ≡ true) × (list_any (λ b. b == 34) label ≡ false)
label_is label h = label_bytes label (all_of_label (nat_le 1 (length label)) (nat_le (length label) LONGEST_LABEL) (list_all is_label_byte label) h)

module _ (n : ℕ) (limit : n ≤ MOST_STATES) where
  arrow_plain : (a : Arrow) → IsArrow n a → list_all plain (arrow_body a) ≡ true
  arrow_plain a h =
      let label : list_all plain (34 ∷ a.label ++ 34 ∷ []) ≡ true = list_all-append plain a.label (34 ∷ []) ∙ rw (label_is a.label h.label).0 refl in
      over_plain (arrow_tokens a) (
        refl,
        (
          number_plain a.source (omega (arith, h.source)),
          (refl, (label, (refl, (number_plain a.target (omega (arith, h.target)), (refl, tt))))),
        ),
      )

  arrow_is : (a : Arrow) → IsArrow n a → IsTransition (arrow_body a) a
  arrow_is a h = (
    decimal a.source,
    decimal a.target,
    numeral a.source (omega (arith, h.source)),
    numeral a.target (omega (arith, h.target)),
    (label_is a.label h.label).1,
    spaced (arrow_tokens a),
  )

  bodies_are : (arrows : List Arrow) → AllByRecursion (IsArrow n) arrows → (lines (flat_map arrow_line arrows) ≡ map arrow_body arrows)
      × AllZip IsTransition (map arrow_body arrows) arrows
  bodies_are [] h = (refl, tt)
  bodies_are (a ∷ arrows) h =
      let rest = bodies_are arrows h.1 in
      let text : flat_map arrow_line (a ∷ arrows) ≡ arrow_body a ++ 10 ∷ flat_map arrow_line arrows = flat_map-cons arrow_line a arrows
      ∙ arrow_body_is a (flat_map arrow_line arrows) in
      (ap lines text ∙ first_line (arrow_body a) (flat_map arrow_line arrows) (arrow_plain a h.0) ∙ ap (λ l. arrow_body a ∷ l) rest.0, (arrow_is a h.0, rest.1))

-- ---- the whole

-- The canonical text of a system spells it.
pub canon_spells : (l : System) → IsSystem l → length l.arrows ≤ MOST_TRANSITIONS → IsAut (aut_text l) l
canon_spells l h few =
    let count = length l.arrows in
    let body = header_body l.initial count l.states in
    let rest = flat_map arrow_line l.arrows in
    let bodies = bodies_are l.states h.limit l.arrows h.arrows in
    let same : length (map arrow_body l.arrows) ≡ count = length-map l.arrows arrow_body in
    record {
      first = body;
      rest = map arrow_body l.arrows;
      spelled = l.arrows;
      cut = ap lines (header_body_is l.initial count l.states rest)
          ∙ first_line body rest (header_plain l.initial count l.states (omega (arith, h.initial, h.limit)) (omega arith) (omega (arith, h.limit)))
          ∙ ap (λ x. body ∷ x) bodies.0;
      header = subst (λ m. IsAutHeader body l.initial m l.states) (sym same)
          (header_is l.initial count l.states (omega (arith, h.initial, h.limit)) (omega arith) (omega (arith, h.limit)));
      each = bodies.1;
      set = h.set;
      count = omega (arith, same);
      some = h.some;
      limit = h.limit;
      initial = h.initial;
      within = h.arrows;
    }

-- with all its transitions it is the whole system
pub system_is : (l : Numbered) (ts : List Transition) → map (arrow_of l.labels) ts ≡ l.system.arrows → system_with l ts ≡ l.system
system_is l ts is = λ j. record { states = l.system.states; initial = l.system.initial; arrows = is j }

-- the same by the transitions that are at hand
pub part_spells : (l : Numbered) (ts : List Transition) → IsSystem (system_with l ts) → length ts ≤ MOST_TRANSITIONS
    → IsAut (aut_text (system_with l ts)) (system_with l ts)
part_spells l ts is few = canon_spells (system_with l ts) is (omega (arith, few, length-map ts (arrow_of l.labels)))

-- the text by what the program has at hand
pub text_is : (l : Numbered) (i m n : ℕ) (ts : List Transition) → i ≡ l.system.initial → m ≡ length ts → n ≡ l.system.states
    → header_line i m n ++ lines_of l.labels ts ≡ aut_text (system_with l ts)
text_is l i m n ts ei em en = let count = em ∙ sym (length-map ts (arrow_of l.labels)) in λ j. header_line (ei j) (count j) (en j) ++ lines_of l.labels ts
