-- A text spells a system, or a fault decides.
use Rattle.std.proofs.Common.{◌≡◌, ℕ, ◌+◌, ◌<◌, ◌≤◌, ◌⊎◌, inl, inr, List, [], ◌∷◌, ◌++◌, length, Option, Some, None, Bool, true, false, append-nil, refl, sym}
use Rattle.std.proofs.Common.{ap, ◌∙◌, subst, append_assoc, arith}
use Rattle.std.specs.List.{AllByRecursion, AllZip}
use Rattle.std.proofs.lemmas.Bool.Decides.{leb_tells}
use Rattle.std.proofs.lemmas.List.{length-append}
use Rattle.text.specs.Text.{lines}
use Rattle.systems.specs.declared.limits.TheConstants.{MOST_TRANSITIONS, MOST_STATES}
use Rattle.lts.specs.declared.error.AutFault.{AutFault}
use Rattle.lts.specs.declared.error.AutFault.TheVariants.{BadHeader, BadLine, OverLimit, NoSuchState, WrongCount, BadStates, BadLabel}
use Rattle.lts.specs.declared.scan.Announced.{Announced}
use Rattle.systems.specs.Label.{is_label}
use Rattle.systems.specs.System.{Arrow, System, IsArrow, set_of}
use Rattle.lts.specs.Aut.{IsAut, IsAutHeader, IsTransition, IsGoodAutLine, AutLineFault, AutBodyFault, HasAutFault}
use Rattle.lts.specs.Scan.{header_at, transition_at}
use Rattle.lts.proofs.Gathering.{all_append}
use Rattle.lts.proofs.Judging.{bad_line}
use Rattle.lts.proofs.Scanning.{header_gives, header_finds, transition_gives}

-- ---- a line

-- a line that is no good one has one of these faults
data Judged (n : ℕ) (line : List ℕ) : Type 0 where
  fine : IsGoodAutLine n line → Judged n line
  no_line : AutLineFault n line BadLine → Judged n line
  no_label : AutLineFault n line BadLabel → Judged n line
  no_state : AutLineFault n line NoSuchState → Judged n line

by_states : (n : ℕ) (line : List ℕ) (a : Arrow) → IsTransition line a → is_label a.label ≡ true → Judged n line
by_states n line a is right = elim (leb_tells n a.source) [
  | inl w ↦ no_state (a, is, right, inl w.1)
  | inr w ↦ elim (leb_tells n a.target) [
    | inl k ↦ no_state (a, is, right, inr k.1)
    | inr k ↦ fine (a, is, record { source = w.1; target = k.1; label = right })
  ]
]

by_label : (n : ℕ) (line : List ℕ) (a : Arrow) → IsTransition line a → (b : Bool) → is_label a.label ≡ b → Judged n line
by_label n line a is true right = by_states n line a is right
by_label n line a is false wrong = no_label (a, is, wrong)

by_scan : (n : ℕ) (line : List ℕ) (found : Option Arrow) → transition_at line ≡ found → Judged n line
by_scan n line None none = no_line (bad_line line none)
by_scan n line (Some a) found = let (b, is, s, l, t) = transition_gives line a found in by_label n line b is (is_label b.label) refl

judged : (n : ℕ) (line : List ℕ) → Judged n line
judged n line = by_scan n line (transition_at line) refl

-- ---- the lines below a header

-- as many good lines as were announced, or a fault
abbrev Body : (m n : ℕ) → List (List ℕ) → Type 0
Body m n rest = ((length rest ≡ m) × AllByRecursion (IsGoodAutLine n) rest) ⊎ ((fault : AutFault) × (good : ℕ) × AutBodyFault m n rest fault good)

longer : (front : List (List ℕ)) (line : List ℕ) (m : ℕ) → length front < m → length (front ++ line ∷ []) ≤ m
longer front line m h = omega (arith, length-append front (line ∷ []), h)

-- a line where one is due
at_line : (m n : ℕ) (rest front : List (List ℕ)) (line : List ℕ) (back : List (List ℕ)) → rest ≡ front ++ line ∷ back → AllByRecursion (IsGoodAutLine n) front
    → length front < m
    → (IsGoodAutLine n line → Body m n rest) → Judged n line → Body m n rest
at_line m n rest front line back split goods few go (fine good) = go good
at_line m n rest front line back split goods few go (no_line bad) = inr (BadLine, length front, (front, back, line, split, goods, refl, few, bad))
at_line m n rest front line back split goods few go (no_label bad) = inr (BadLabel, length front, (front, back, line, split, goods, refl, few, bad))
at_line m n rest front line back split goods few go (no_state bad) = inr (NoSuchState, length front, (front, back, line, split, goods, refl, few, bad))

-- after these good lines, no more than were announced
body : (m n : ℕ) (rest front back : List (List ℕ)) → rest ≡ front ++ back → AllByRecursion (IsGoodAutLine n) front → length front ≤ m → Body m n rest
body m n rest front [] split goods few = elim (leb_tells m (length front)) [
  | inl w ↦ inl (omega (arith, ap length (split ∙ append-nil front), few, w.1), subst (AllByRecursion (IsGoodAutLine n)) (sym (split ∙ append-nil front)) goods)
  | inr w ↦ inr (WrongCount, length front, (front, [], split, goods, refl, inl (refl, w.1)))
]
body m n rest front (line ∷ back) split goods few = elim (leb_tells m (length front)) [
  | inl w ↦ inr (WrongCount, length front, (front, line ∷ back, split, goods, refl, inr (λ e. absurd cc, omega (arith, few, w.1))))
  | inr w ↦ at_line m n rest front line back split goods w.1
      (λ good. body m n rest (front ++ line ∷ []) back (split ∙ sym (append_assoc front (line ∷ []) back))
      (all_append (IsGoodAutLine n) front (line ∷ []) goods (good, tt)) (longer front line m w.1))
      (judged n line)
]

-- what good lines spell
spelled_by : (n : ℕ) (rest : List (List ℕ)) → AllByRecursion (IsGoodAutLine n) rest → (arrows : List Arrow) × AllZip IsTransition rest arrows
    × AllByRecursion (IsArrow n) arrows
spelled_by n [] goods = ([], tt, tt)
spelled_by n (line ∷ rest) goods =
    let (a, is, inside) = goods.0 in
    let (arrows, each, within) = spelled_by n rest goods.1 in
    (a ∷ arrows, (is, each), (inside, within))

-- ---- the whole text

abbrev Decided : List ℕ → Type 0
Decided text = ((l : System) × IsAut text l) ⊎ ((fault : AutFault) × (line : ℕ) × HasAutFault text fault line)

-- a header within the limits
by_body : (text first : List ℕ) (rest : List (List ℕ)) (i m n : ℕ) → lines text ≡ first ∷ rest → IsAutHeader first i m n → m ≤ MOST_TRANSITIONS
    → n ≤ MOST_STATES → i < n → Body m n rest → Decided text
by_body text first rest i m n cut header few limit initial (inl (count, goods)) =
    let (arrows, each, within) = spelled_by n rest goods in
    inl (
      record { states = n; initial = i; arrows = set_of arrows },
      record {
        first = first;
        rest = rest;
        spelled = arrows;
        cut = cut;
        header = subst (λ k. IsAutHeader first i k n) (sym count) header;
        each = each;
        set = refl;
        count = omega (arith, count, few);
        some = omega (arith, initial);
        limit = limit;
        initial = initial;
        within = within;
      },
    )
by_body text first rest i m n cut header few limit initial (inr (fault, good, wrong)) =
    inr (fault, good + 2, inr (first, rest, i, m, n, good, cut, header, few, limit, initial, wrong, refl))

-- a right header
by_limits : (text first : List ℕ) (rest : List (List ℕ)) (i m n : ℕ) → lines text ≡ first ∷ rest → IsAutHeader first i m n → Decided text
by_limits text first rest i m n cut header = elim (leb_tells m MOST_TRANSITIONS) [
  | inr w ↦ inr (OverLimit, 1, inl ((first, rest, i, m, n, cut, header, inl w.1), refl))
  | inl few ↦ elim (leb_tells n MOST_STATES) [
    | inr w ↦ inr (OverLimit, 1, inl ((first, rest, i, m, n, cut, header, inr w.1), refl))
    | inl limit ↦ elim (leb_tells n i) [
      | inl w ↦ inr (BadStates, 1, inl ((first, rest, i, m, n, cut, header, few.1, limit.1, w.1), refl))
      | inr initial ↦ by_body text first rest i m n cut header few.1 limit.1 initial.1 (body m n rest [] rest refl tt (omega arith))
    ]
  ]
]

-- the first line
by_header : (text first : List ℕ) (rest : List (List ℕ)) → lines text ≡ first ∷ rest → (found : Option Announced) → header_at first ≡ found → Decided text
by_header text first rest cut None none =
    inr (
      BadHeader,
      1,
      inl (
        λ line others i m n e header.
            let same : line ≡ first = cc in
            let some = header_finds first i m n (subst (λ l. IsAutHeader l i m n) same header) in cc,
        refl,
      ),
    )
by_header text first rest cut (Some h) found =
    let (i, m, n, header, hi, hm, hn) = header_gives first h found in
    by_limits text first rest i m n cut header

by_lines : (text : List ℕ) (all : List (List ℕ)) → lines text ≡ all → Decided text
by_lines text [] none = inr (BadHeader, 1, inl (λ first rest i m n e header. absurd cc, refl))
by_lines text (first ∷ rest) cut = by_header text first rest cut (header_at first) refl

pub decided : (text : List ℕ) → Decided text
decided text = by_lines text (lines text) refl
