-- Where no token stands at the front of a text, or a reserved word does.
use Rattle.std.specs.Prelude.{◌≡◌, ◌≢◌, ℕ, ◌<◌, ◌≤◌, Bool, true, false, not, ◌&&◌, ◌||◌, cond, List, [], ◌∷◌, ◌++◌, length, take, drop, refl, slice_get}
use Rattle.std.specs.Prelude.{nat_le, Option, Some, None, ◌⊎◌, ◌==◌}
use Rattle.std.specs.List.{list_all, list_any, take_while}
use Rattle.std.specs.Str.{bytes_eq}
use Rattle.std.proofs.Common.{arith, sym, ◌∙◌, ap, subst, append_assoc, true≢false, get_or, inl, inr}
use Rattle.std.proofs.lemmas.Bool.{and_parts, leb-true}
use Rattle.std.proofs.Math.Seq.{get_or-append_seam}
use Rattle.std.proofs.lemmas.List.{length-append, length-drop, take-append-drop}
use Rattle.std.proofs.lemmas.List.Sums.{take_while-cons}
use Rattle.text.specs.Text.{is_name, is_name_byte, is_letter}
use Rattle.systems.specs.declared.limits.TheConstants.{LONGEST_LABEL}
use Rattle.systems.specs.Label.{is_label_byte}
use Rattle.grammar.specs.Token.{Token, Name, Reserved, Atom, TrueWord, FalseWord, MuWord, NuWord, TauWord, ImpliesSign, OrSign, AndSign, spelling}
use Rattle.grammar.specs.Token.{reserved_words, IsToken, Blank, Comment, Word, begins, text_of, Cuts, tokens_of, is_reserved}
use Rattle.grammar.specs.Written.{bare_tokens}
use Rattle.formula.specs.Fault.{NothingBegins, TokenFault}
use Rattle.formula.specs.Cutting.{IsCut, Stands, IsAtomless, IsSignless, BeginsReserved, IsTokenless, begins_gap, is_single, is_double}
use Rattle.grammar.specs.declared.token.Placed.{Placed}
use Rattle.formula.specs.declared.error.FormulaFault.{FormulaFault}
use Rattle.formula.specs.declared.error.FormulaFault.TheVariants as fault
use Rattle.formula.proofs.Cuts.{Run}
use Rattle.formula.proofs.Lexed.{not_reserved, front-length}
use Rattle.formula.proofs.Pieces.{free_name, reserved_word}

-- of bytes that all pass, before one that does not
passing : (p : ℕ → Bool) (xs ys : List ℕ) → list_all p xs ≡ true → begins p ys ≡ false → length (take_while p (xs ++ ys)) ≡ length xs
passing p [] [] h k = refl
passing p [] (y ∷ ys) h k = ap length (take_while-cons p y ys ∙ ap (λ b. cond b (y ∷ take_while p ys) []) k)
passing p (x ∷ xs) ys h k =
    let w = and_parts (p x) (list_all p xs) h in
    let l = passing p xs ys w.1 k in
    ap length (take_while-cons p x (xs ++ ys) ∙ ap (λ b. cond b (x ∷ take_while p (xs ++ ys)) []) w.0) ∙ omega arith

-- so many bytes of a quoted atom stand between its quotes
pub record IsQuoted (n : ℕ) (inside : List ℕ) : Type 0 where
  pub some : 0 < n
  pub few : n ≤ LONGEST_LABEL
  pub within : n < length inside
  pub closed : get_or inside n 0 ≡ 34

quoted : (bytes rest : List ℕ) → IsToken (Atom bytes) → IsQuoted (length (take_while is_label_byte (bytes ++ 34 ∷ rest))) (bytes ++ 34 ∷ rest)
quoted bytes rest valid =
    let p = and_parts (nat_le 1 (length bytes) && nat_le (length bytes) LONGEST_LABEL) (list_all is_label_byte bytes) valid in
    let q = and_parts (nat_le 1 (length bytes)) (nat_le (length bytes) LONGEST_LABEL) p.0 in
    let l = length-append bytes (34 ∷ rest) in
    subst (λ (n : ℕ). IsQuoted n (bytes ++ 34 ∷ rest)) (sym (passing is_label_byte bytes (34 ∷ rest) p.1 refl)) (record {
      some = leb-true 1 (length bytes) q.0;
      few = leb-true (length bytes) LONGEST_LABEL q.1;
      within = omega arith;
      closed = get_or-append_seam bytes 34 rest 0;
    })

-- A quoted atom that stands at the front is found again.
pub atom-stands : (text bytes : List ℕ) → Stands (Atom bytes) text → IsQuoted (length (take_while is_label_byte (drop 1 text))) (drop 1 text)
atom-stands text bytes s =
    let inside : drop 1 text ≡ bytes ++ 34 ∷ s.rest = ap (drop 1) s.joined ∙ append_assoc bytes (34 ∷ []) s.rest in
    subst (λ (t : List ℕ). IsQuoted (length (take_while is_label_byte t)) t) (sym inside) (quoted bytes s.rest s.valid)

-- The whole name is a reserved word.
pub reserved-stands : (text : List ℕ) (n : ℕ) → Run is_name_byte text n → list_any (bytes_eq (take n text)) reserved_words ≡ true
    → BeginsReserved text fault.ReservedWord
reserved-stands text n run reserved =
    (refl, take n text, record { rest = drop n text; joined = sym (take-append-drop n text); valid = reserved; ends = ap not run.ends })

letter_first : (bytes rest more : List ℕ) (b : ℕ) → is_name bytes ≡ true → bytes ++ rest ≡ b ∷ more → is_letter b ≡ true
letter_first [] rest more b h e = absurd (true≢false (sym h))
letter_first (c ∷ bytes) rest more b h e =
    let same : c ≡ b = cc in
    subst (λ (x : ℕ). is_letter x ≡ true) same (and_parts (is_letter c) (list_all is_name_byte bytes) h).0

pub reserved-tokenless : (text : List ℕ) (f : FormulaFault) → BeginsReserved text f → IsTokenless text f
reserved-tokenless text f found = subst (λ (g : FormulaFault). IsTokenless text g) (sym found.0) (found.1, found.2)

-- how a text begins where a token stands
abbrev Start : Token → ℕ → List ℕ → Type 0
Start t b text = (is_letter b ≡ true) ⊎ (((b ≡ 34) × (bytes : List ℕ) × (t ≡ Atom bytes)) ⊎ ((is_single b ≡ true) ⊎ (is_double b (slice_get text 0) ≡ true)))

letter_start : (t : Token) (c b : ℕ) (rest text : List ℕ) → is_letter c ≡ true → c ∷ rest ≡ b ∷ text → Start t b text
letter_start t c b rest text h e = let same : c ≡ b = cc in inl (ap is_letter (sym same) ∙ h)

single_start : (t : Token) (c b : ℕ) (rest text : List ℕ) → is_single c ≡ true → c ∷ rest ≡ b ∷ text → Start t b text
single_start t c b rest text h e = let same : c ≡ b = cc in inr (inr (inl (ap is_single (sym same) ∙ h)))

double_start : (t : Token) (c d b : ℕ) (rest text : List ℕ) → is_double c (Some d) ≡ true → c ∷ d ∷ rest ≡ b ∷ text → Start t b text
double_start t c d b rest text h e =
    let same : c ≡ b = cc in
    let tail : d ∷ rest ≡ text = cc in
    inr (inr (inr ((λ i. is_double (sym same i) (slice_get (sym tail i) 0)) ∙ h)))

starts : (t : Token) (b : ℕ) (rest text : List ℕ) → IsToken t → spelling t ++ rest ≡ b ∷ text → Start t b text
starts (Name bytes) b rest text valid e = inl (letter_first bytes rest text b (free_name bytes valid).0 e)
starts (Reserved bytes) b rest text valid e = inl (letter_first bytes rest text b (reserved_word bytes valid).0 e)
starts (Atom bytes) b rest text valid e = let quote : b ≡ 34 = cc in inr (inl (quote, bytes, refl))
starts TrueWord b rest text valid e = letter_start TrueWord 116 b _ text refl e
starts FalseWord b rest text valid e = letter_start FalseWord 102 b _ text refl e
starts MuWord b rest text valid e = letter_start MuWord 109 b _ text refl e
starts NuWord b rest text valid e = letter_start NuWord 110 b _ text refl e
starts TauWord b rest text valid e = letter_start TauWord 116 b _ text refl e
starts ImpliesSign b rest text valid e = double_start ImpliesSign 61 62 b rest text refl e
starts OrSign b rest text valid e = double_start OrSign 124 124 b rest text refl e
starts AndSign b rest text valid e = double_start AndSign 38 38 b rest text refl e
starts t b rest text valid e = single_start t _ b rest text refl e

no_double : (b : ℕ) (next : Option ℕ) → b ≡ 34 → is_double b next ≡ false
no_double b None e = refl
no_double b (Some c) e = ap (λ x. is_double x (Some c)) e

-- Where the text begins with a quote and no quoted atom stands, no token does.
pub quote-tokenless : (text : List ℕ) (f : FormulaFault) → 0 < length text → get_or text 0 0 ≡ 34 → IsAtomless text f → IsTokenless text f
quote-tokenless [] f some quote none = absurd (omega arith)
quote-tokenless (b ∷ text) f some quote none =
    subst (λ (g : FormulaFault). IsTokenless (b ∷ text) g) (sym none.0) (λ t s.
    elim (starts t b s.rest text s.valid (sym s.joined)) [
      | inl a ↦ true≢false (sym a ∙ ap is_letter quote)
      | inr (inl w) ↦ none.1 w.1 (subst (λ (u : Token). Stands u (b ∷ text)) w.2 s)
      | inr (inr (inl a)) ↦ true≢false (sym a ∙ ap is_single quote)
      | inr (inr (inr a)) ↦ true≢false (sym a ∙ no_double b (slice_get text 0) quote)
    ])

-- Where the text begins with no letter, no quote and no sign, no token stands.
pub sign-tokenless : (text : List ℕ) (f : FormulaFault) → 0 < length text → get_or text 0 0 ≢ 34 → is_letter (get_or text 0 0) ≡ false → IsSignless text f
    → IsTokenless text f
sign-tokenless [] f some quote letter none = absurd (omega arith)
sign-tokenless (b ∷ text) f some quote letter none =
    subst (λ (g : FormulaFault). IsTokenless (b ∷ text) g) (sym none.0) (λ t s.
    elim (starts t b s.rest text s.valid (sym s.joined)) [
      | inl a ↦ true≢false (sym a ∙ letter)
      | inr (inl w) ↦ quote w.0
      | inr (inr (inl a)) ↦ true≢false (sym a ∙ none.1)
      | inr (inr (inr a)) ↦ true≢false (sym a ∙ none.2)
    ])

pub free_words : (placed : List Placed) → list_any is_reserved (bare_tokens placed) ≡ false
free_words [] = refl
free_words (p ∷ placed) = ap (λ b. b || list_any is_reserved (bare_tokens placed)) (not_reserved p.token) ∙ free_words placed

gap_first : (b : ℕ) (rest text : List ℕ) → begins_gap b ≡ true → text ≡ b ∷ rest → begins begins_gap text ≡ false → ⊥
gap_first b rest text h e over = true≢false (sym h ∙ sym (ap (begins begins_gap) e) ∙ over)

nothing : (text : List ℕ) → begins begins_gap text ≡ false → ((t : Token) → Stands t text → ⊥) → NothingBegins text
nothing text over none (Blank byte) rest valid ends e = gap_first byte rest text (ap (λ b. b || byte == 37) valid) e over
nothing text over none (Comment bytes) rest valid ends e = gap_first 37 (bytes ++ rest) text refl e over
nothing text over none (Word t) rest valid ends e = none t (record { rest = rest; joined = e; valid = valid; ends = ends })

some_left : (text : List ℕ) (at : ℕ) → at < length text → drop at text ≢ []
some_left text at lt e = let l = length-drop at text in let z : length (drop at text) ≡ 0 = ap length e in absurd (omega arith)

-- The text is cut up to here, and no token goes on.
pub token-fault : (text : List ℕ) (at : ℕ) (placed : List Placed) (f : FormulaFault) → IsCut text at placed → at < length text → IsTokenless (drop at text) f
    → TokenFault text f at
token-fault text at placed fault.NoToken c lt none =
    let joined : text ≡ text_of c.pieces ++ drop at text = sym (take-append-drop at text) ∙ ap (λ t. t ++ drop at text) c.front.joined in
    let free : list_any is_reserved (tokens_of c.pieces) ≡ false = ap (list_any is_reserved) c.spelled ∙ free_words placed in
    (c.pieces, drop at text, joined, c.front.cut, free, some_left text at lt, nothing (drop at text) c.over none, sym (front-length c.pieces at text c.front))
token-fault text at placed fault.ReservedWord c lt (word, s) =
    let joined : text ≡ text_of c.pieces ++ (word ++ s.rest) = sym (take-append-drop at text) ∙ ap (λ t. t ++ drop at text) c.front.joined
    ∙ ap (λ t. text_of c.pieces ++ t) s.joined in
    let free : list_any is_reserved (tokens_of c.pieces) ≡ false = ap (list_any is_reserved) c.spelled ∙ free_words placed in
    let cut : Cuts c.pieces (word ++ s.rest) = subst (λ (t : List ℕ). Cuts c.pieces t) s.joined c.front.cut in
    (c.pieces, word, s.rest, joined, cut, free, s.valid, s.ends, sym (front-length c.pieces at text c.front))
token-fault text at placed _ c lt none = absurd none
