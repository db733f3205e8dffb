-- What is wrong with a line, by what was found on it.
use Rattle.std.proofs.Common.{◌≡◌, ℕ, ◌+◌, ◌^◌, ◌<◌, ◌≤◌, ◌⊎◌, inl, inr, true, false, ◌&&◌, nat_le, List, [], ◌∷◌, length, take, Option, Some, None, refl}
use Rattle.std.proofs.Common.{sym, ap, ◌∙◌, subst, arith, true≢false}
use Rattle.std.specs.List.{list_all}
use Rattle.std.proofs.lemmas.Bool.{cases_lt, leb-true, and_parts}
use Rattle.std.proofs.lemmas.List.{take_all, length-take-le}
use Rattle.std.specs.Prelude.{IfSome}
use Rattle.systems.specs.declared.limits.TheConstants.{MOST_TRANSITIONS, LONGEST_LABEL}
use Rattle.lts.specs.declared.error.AutFault.{AutFault}
use Rattle.lts.specs.declared.error.AutFault.TheVariants.{BadHeader, BadLine, OverLimit, NoSuchState, BadStates, BadLabel}
use Rattle.lts.specs.declared.scan.Announced.{Announced}
use Rattle.text.specs.Text.{lines}
use Rattle.systems.specs.Label.{is_label, is_label_byte}
use Rattle.systems.specs.System.{Arrow, IsArrow}
use Rattle.lts.specs.Aut.{IsAutHeader, IsTransition, AutLineFault, HasAutFault}
use Rattle.text.specs.Tokens.{capped, sign_at}
use Rattle.lts.specs.Scan.{header_at, transition_at, PassesTransition}
use Rattle.lts.specs.declared.scan.Ends.{Ends}
use Rattle.text.specs.Lines.{IfKnown}
use Rattle.text.specs.Stream.{line_of, after_line, HasLine, PassesLine}
use Rattle.text.proofs.Streaming.{lines_cons}
use Rattle.lts.specs.Left.{IsWithinLimits, BeginsSystem, IsAnnouncedFault, IsRowFault, HasNoLine}
use Rattle.lts.proofs.Unique.{lines_same}
use Rattle.lts.proofs.Scanning.{header_gives, header_finds, transition_gives, transition_finds}

-- no transition was found
pub bad_line : (line : List ℕ) → transition_at line ≡ None → (a : Arrow) → IsTransition line a → ⊥
bad_line line none a h = let some = transition_finds line a h in cc

pub bad_label : (n : ℕ) (line : List ℕ) (a : Arrow) → transition_at line ≡ Some a → is_label a.label ≡ false → AutLineFault n line BadLabel
bad_label n line a found bad = let (b, is, s, l, t) = transition_gives line a found in (b, is, subst (λ x. is_label x ≡ false) l bad)

pub no_state : (n : ℕ) (line : List ℕ) (a : Arrow) → transition_at line ≡ Some a → is_label a.label ≡ true → (n ≤ a.source) ⊎ (n ≤ a.target)
    → AutLineFault n line NoSuchState
no_state n line a found good past =
    let (b, is, s, l, t) = transition_gives line a found in
    (b, is, subst (λ x. is_label x ≡ true) l good, elim past [ inl p ↦ inl (omega arith) | inr p ↦ inr (omega arith) ])

pub good : (n : ℕ) (line : List ℕ) (a : Arrow) → n < 2 ^ 32 → transition_at line ≡ Some a → is_label a.label ≡ true → a.source < n → a.target < n
    → IsTransition line a × IsArrow n a
good n line a fits found right source target =
    let (b, is, s, l, t) = transition_gives line a found in
    let same_source : b.source ≡ a.source = omega arith in
    let same_target : b.target ≡ a.target = omega arith in
    let same : b ≡ a = λ i. record { source = same_source i; label = sym l i; target = same_target i } in
    (subst (IsTransition line) same is, record { source = source; target = target; label = right })

-- ---- the label as it was kept

label_short : (label : List ℕ) → is_label label ≡ true → length label ≤ LONGEST_LABEL
label_short label right =
    let h = and_parts (nat_le 1 (length label) && nat_le (length label) LONGEST_LABEL) (list_all is_label_byte label) right in
    leb-true (length label) LONGEST_LABEL (and_parts (nat_le 1 (length label)) (nat_le (length label) LONGEST_LABEL) h.0).1

kept_is : (label : List ℕ) → is_label (take (LONGEST_LABEL + 1) label) ≡ true → take (LONGEST_LABEL + 1) label ≡ label
kept_is label right =
    let short : length (take (LONGEST_LABEL + 1) label) ≤ LONGEST_LABEL = label_short (take (LONGEST_LABEL + 1) label) right in
    elim (cases_lt (length label) (LONGEST_LABEL + 1)) [
      | inl few ↦ take_all (LONGEST_LABEL + 1) label (omega (arith, few))
      | inr many ↦ absurd (omega (arith, short, length-take-le (LONGEST_LABEL + 1) label many))
    ]

-- a label that is wrong as it was kept is wrong
kept_wrong : (label : List ℕ) → is_label (take (LONGEST_LABEL + 1) label) ≡ false → is_label label ≡ false
kept_wrong label wrong =
    elim (is_label label) as (λ b. is_label label ≡ b → b ≡ false) [
      | true ↦ λ e. absurd (true≢false (sym e ∙ ap is_label (sym (take_all (LONGEST_LABEL + 1) label (omega (arith, label_short label e)))) ∙ wrong))
      | false ↦ λ e. refl
    ] refl

-- the transition as it was kept
abbrev pub as_kept : Ends → List ℕ → Arrow
as_kept e kept = record { source = e.source; label = kept; target = e.target }

-- a good line is first, and the others are left
pub record GoodRow (n : ℕ) (a : Arrow) (text left : List ℕ) : Type 0 where
  pub line : List ℕ
  pub cut : lines text ≡ line ∷ lines left
  pub is : IsTransition line a
  pub inside : IsArrow n a

-- a line with this fault is first
pub record BadRow (n : ℕ) (fault : AutFault) (text : List ℕ) : Type 0 where
  pub line : List ℕ
  pub rest : List (List ℕ)
  pub cut : lines text ≡ line ∷ rest
  pub wrong : AutLineFault n line fault

good_row : (n : ℕ) (e : Ends) (kept text left : List ℕ) → n < 2 ^ 32 → lines text ≡ line_of text ∷ lines (after_line text)
    → PassesTransition kept (Some e) text left → IsArrow n (as_kept e kept) → GoodRow n (as_kept e kept) text left
good_row n e kept text left fits has (label, found, below, short) is =
    let same : label ≡ kept = sym (short ∙ kept_is label (ap is_label (sym short) ∙ is.label)) in
    let whole : transition_at (line_of text) ≡ Some (as_kept e kept) = found ∙ λ i. Some (as_kept e (same i)) in
    let row = good n (line_of text) (as_kept e kept) fits whole is.label is.source is.target in
    record { line = line_of text; cut = has ∙ ap (λ t. line_of text ∷ lines t) (sym below); is = row.0; inside = is }

row_fault : (n : ℕ) (e : Ends) (kept text left : List ℕ) (fault : AutFault) → PassesTransition kept (Some e) text left → IsRowFault n (as_kept e kept) fault
    → AutLineFault n (line_of text) fault
row_fault n e kept text left BadLabel (label, found, below, short) wrong = bad_label n (line_of text) (as_kept e label) found
    (kept_wrong label (ap is_label (sym short) ∙ wrong))
row_fault n e kept text left NoSuchState (label, found, below, short) (right, past) =
    let same : label ≡ kept = sym (short ∙ kept_is label (ap is_label (sym short) ∙ right)) in
    no_state n (line_of text) (as_kept e label) found (ap is_label same ∙ right) past
row_fault n e kept text left _ passes wrong = absurd wrong

-- what was read is a good row
pub row_read : (n : ℕ) (e : Ends) (kept : List ℕ) (old mid new : Option (List ℕ)) → n < 2 ^ 32 → HasLine old mid true
    → IfKnown mid new (PassesTransition kept (Some e)) → IsArrow n (as_kept e kept) → IfKnown old new (GoodRow n (as_kept e kept))
row_read n e kept None mid new fits has passes is = tt
row_read n e kept (Some text) None new fits has passes is = absurd has
row_read n e kept (Some text) (Some left) None fits has passes is = absurd passes
row_read n e kept (Some text) (Some left) (Some rest) fits (same, has) passes is = good_row n e kept text rest fits has
    (subst (λ t. PassesTransition kept (Some e) t rest) same passes) is

-- it is none
pub row_wrong : (n : ℕ) (e : Ends) (kept : List ℕ) (fault : AutFault) (old mid new : Option (List ℕ)) → HasLine old mid true
    → IfKnown mid new (PassesTransition kept (Some e)) → IsRowFault n (as_kept e kept) fault → IfSome old (BadRow n fault)
row_wrong n e kept fault None mid new has passes wrong = tt
row_wrong n e kept fault (Some text) None new has passes wrong = absurd has
row_wrong n e kept fault (Some text) (Some left) None has passes wrong = absurd passes
row_wrong n e kept fault (Some text) (Some left) (Some rest) (same, has) passes wrong =
    record {
      line = line_of text;
      rest = lines (after_line text);
      cut = has;
      wrong = row_fault n e kept text rest fault (subst (λ t. PassesTransition kept (Some e) t rest) same passes) wrong;
    }

-- it has no such shape
pub row_none : (n : ℕ) (kept : List ℕ) (old mid new : Option (List ℕ)) → HasLine old mid true → IfKnown mid new (PassesTransition kept None)
    → IfSome old (BadRow n BadLine)
row_none n kept None mid new has passes = tt
row_none n kept (Some text) None new has passes = absurd has
row_none n kept (Some text) (Some left) None has passes = absurd passes
row_none n kept (Some text) (Some left) (Some rest) (same, has) passes =
    record {
      line = line_of text;
      rest = lines (after_line text);
      cut = has;
      wrong = bad_line (line_of text) (ap (λ t. transition_at (line_of t)) (sym same) ∙ passes);
    }

-- no line is left
pub no_row : (old new : Option (List ℕ)) → HasLine old new false → IfKnown old new HasNoLine
no_row None new has = tt
no_row (Some text) None has = absurd has
no_row (Some text) (Some left) has = has.1

-- a line is
pub a_row : (old new : Option (List ℕ)) → HasLine old new true → IfSome old (λ text. (line : List ℕ) × (rest : List (List ℕ)) × (lines text ≡ line ∷ rest))
a_row None new has = tt
a_row (Some text) None has = absurd has
a_row (Some text) (Some left) has = (line_of text, lines (after_line text), has.1)

-- ---- the header

-- the first line is no header
pub bad_first : (old new : Option (List ℕ)) → IfKnown old new (PassesLine header_at None) → IfSome old (λ text. HasAutFault text BadHeader 1)
bad_first None new none = tt
bad_first (Some text) None none = absurd none
bad_first (Some []) (Some left) none = inl (λ first rest i m n e header. absurd cc, refl)
bad_first (Some (b ∷ text)) (Some left) none =
    inl (
      λ first rest i m n e header.
          let cut = lines_cons b text in
          let same : first ≡ line_of (b ∷ text) = (lines_same first (line_of (b ∷ text)) rest (lines (after_line (b ∷ text))) (sym e ∙ cut)).0 in
          let some = header_finds (line_of (b ∷ text)) i m n (subst (λ l. IsAutHeader l i m n) same header) in cc,
      refl,
    )

-- the limits decide alike on the numbers and on what was read of them
same_number : (a n : ℕ) → a ≡ capped n → a ≤ MOST_TRANSITIONS → n ≡ a
same_number a n e h = omega arith

no_header : (h : Announced) → header_at [] ≡ Some h → ⊥
unfolding header_at sign_at
no_header h e = cc

-- the first line is this one
first_line : (text : List ℕ) (h : Announced) → header_at (line_of text) ≡ Some h → lines text ≡ line_of text ∷ lines (after_line text)
first_line [] h e = absurd (no_header h e)
first_line (b ∷ text) h e = lines_cons b text

-- the header announces what no system has
pub over_first : (old new : Option (List ℕ)) (h : Announced) (fault : AutFault) → IfKnown old new (PassesLine header_at (Some h)) → IsAnnouncedFault h fault
    → IfSome old (λ text. HasAutFault text fault 1)
over_first None new h fault found wrong = tt
over_first (Some text) None h fault found wrong = absurd found
over_first (Some text) (Some left) h OverLimit (found, after) wrong =
    let (i, m, n, header, hi, hm, hn) = header_gives (line_of text) h found in
    inl (
      (line_of text, lines (after_line text), i, m, n, first_line text h found, header, elim wrong [ inl p ↦ inl (omega arith) | inr p ↦ inr (omega arith) ]),
      refl,
    )
over_first (Some text) (Some left) h BadStates (found, after) (few, small, past) =
    let (i, m, n, header, hi, hm, hn) = header_gives (line_of text) h found in
    inl ((line_of text, lines (after_line text), i, m, n, first_line text h found, header, omega arith, omega arith, omega arith), refl)
over_first (Some text) (Some left) h _ found wrong = absurd wrong

-- the header announces what a system may have
pub right_first : (old new : Option (List ℕ)) (h : Announced) → IfKnown old new (PassesLine header_at (Some h)) → IsWithinLimits h → IfKnown old new (BeginsSystem h)
right_first None new h found admitted = tt
right_first (Some text) None h found admitted = absurd found
right_first (Some text) (Some left) h (found, after) admitted =
    let (i, m, n, header, hi, hm, hn) = header_gives (line_of text) h found in
    let same_i : i ≡ h.initial = omega (arith, admitted.initial, admitted.states) in
    let same_m : m ≡ h.transitions = omega (arith, admitted.transitions) in
    let same_n : n ≡ h.states = omega (arith, admitted.states) in
    record {
      first = line_of text;
      cut = first_line text h found ∙ ap (λ t. line_of text ∷ lines t) (sym after);
      header = subst (λ n. IsAutHeader (line_of text) h.initial h.transitions n) same_n
          (subst (λ m. IsAutHeader (line_of text) h.initial m n) same_m (subst (λ i. IsAutHeader (line_of text) i m n) same_i header));
    }
