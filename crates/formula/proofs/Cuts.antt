-- How fronts of a text join, and how blanks and comments do.
use Rattle.std.specs.Prelude.{◌≡◌, ℕ, ◌+◌, ◌<◌, ◌≤◌, suc, zero, Bool, true, false, not, cond, List, [], ◌∷◌, ◌++◌, length, take, drop, IsTrue, refl, ◌||◌, ◌==◌}
use Rattle.std.specs.List.{list_all, list_any, take_while}
use Rattle.std.specs.Str.{bytes_eq}
use Rattle.std.proofs.Common.{arith, sym, ◌∙◌, ap, subst, append_assoc, true≢false, get_or, add-zero}
use Rattle.std.proofs.Math.Seq.{take-add}
use Rattle.std.proofs.lemmas.Bool.{and_parts}
use Rattle.std.proofs.lemmas.List.{append-nil, length-drop, drop-drop, take-append-drop, length-take-le, take_more, length-append, drop_more}
use Rattle.std.proofs.lemmas.List.Sums.{take_while-cons}
use Rattle.text.specs.Text.{is_name_byte, is_letter}
use Rattle.systems.specs.declared.limits.TheConstants.{LONGEST_LABEL}
use Rattle.systems.specs.Label.{is_label_byte}
use Rattle.grammar.specs.Token.{Token, Atom, spelling, reserved_words, IsToken, Segment, Blank, Comment, Word, written_piece, piece_ends, begins, token_ends}
use Rattle.grammar.specs.Token.{text_of, Cuts, tokens_of, offsets_from}
use Rattle.formula.specs.Cutting.{IsFront, IsFirst, IsNameToken, IsGap}
use Rattle.grammar.proofs.Regulars.{all_true, le_true}

pub text_of-append : (ps qs : List Segment) → text_of (ps ++ qs) ≡ text_of ps ++ text_of qs
text_of-append [] qs = refl
text_of-append (p ∷ ps) qs = ap (λ t. written_piece p ++ t) (text_of-append ps qs) ∙ sym (append_assoc (written_piece p) (text_of ps) (text_of qs))

pub tokens_of-append : (ps qs : List Segment) → tokens_of (ps ++ qs) ≡ tokens_of ps ++ tokens_of qs
tokens_of-append [] qs = refl
tokens_of-append (Blank b ∷ ps) qs = tokens_of-append ps qs
tokens_of-append (Comment bs ∷ ps) qs = tokens_of-append ps qs
tokens_of-append (Word t ∷ ps) qs = ap (λ ts. t ∷ ts) (tokens_of-append ps qs)

pub offsets-append : (at : ℕ) (ps qs : List Segment) → offsets_from at (ps ++ qs) ≡ offsets_from at ps ++ offsets_from (at + length (text_of ps)) qs
offsets-append at [] qs = ap (λ k. offsets_from k qs) (sym (add-zero at))
offsets-append at (Blank b ∷ ps) qs =
    let k : at + 1 + length (text_of ps) ≡ at + length (b ∷ text_of ps) = omega arith in
    offsets-append (at + 1) ps qs ∙ ap (λ k. offsets_from (at + 1) ps ++ offsets_from k qs) k
offsets-append at (Comment bs ∷ ps) qs =
    let l = length-append bs (text_of ps) in
    let k : at + (1 + length bs) + length (text_of ps) ≡ at + length (37 ∷ (bs ++ text_of ps)) = omega arith in
    offsets-append (at + (1 + length bs)) ps qs ∙ ap (λ k. offsets_from (at + (1 + length bs)) ps ++ offsets_from k qs) k
offsets-append at (Word t ∷ ps) qs =
    let l = length-append (spelling t) (text_of ps) in
    let k : at + length (spelling t) + length (text_of ps) ≡ at + length (spelling t ++ text_of ps) = omega arith in
    ap (λ os. at ∷ os) (offsets-append (at + length (spelling t)) ps qs ∙ ap (λ k. offsets_from (at + length (spelling t)) ps ++ offsets_from k qs) k)

pub offsets-none : (at : ℕ) (ps : List Segment) → tokens_of ps ≡ [] → offsets_from at ps ≡ []
offsets-none at [] e = refl
offsets-none at (Blank b ∷ ps) e = offsets-none (at + 1) ps e
offsets-none at (Comment bs ∷ ps) e = offsets-none (at + (1 + length bs)) ps e
offsets-none at (Word t ∷ ps) e = cc

pub cuts-append : (ps qs : List Segment) (rest : List ℕ) → Cuts ps (text_of qs ++ rest) → Cuts qs rest → Cuts (ps ++ qs) rest
cuts-append [] qs rest c d = d
cuts-append (p ∷ ps) qs rest c d =
    let e : text_of ps ++ (text_of qs ++ rest) ≡ text_of (ps ++ qs)
    ++ rest = sym (ap (λ t. t ++ rest) (text_of-append ps qs) ∙ append_assoc (text_of ps) (text_of qs) rest) in
    (c.0, subst (λ (t : List ℕ). IsTrue (piece_ends p t)) e c.1, cuts-append ps qs rest c.2 d)

pub front-append : (ps qs : List Segment) (n m : ℕ) (text : List ℕ) → IsFront ps n text → IsFront qs m (drop n text) → IsFront (ps ++ qs) (n + m) text
front-append ps qs n m text a b =
    let l = length-drop n text in
    let inside : m ≤ length (drop n text) = b.within in
    let cut : drop n text ≡ text_of qs ++ drop (n + m) text = sym (take-append-drop m (drop n text)) ∙ ap (λ t. t ++ drop m (drop n text)) b.joined
    ∙ ap (λ t. text_of qs ++ t) (drop-drop m n text) in
    let tail : Cuts qs (drop (n + m) text) = subst (λ (t : List ℕ). Cuts qs t) (drop-drop m n text) b.cut in
    record {
      joined = take-add n m text ∙ ap (λ t. t ++ take m (drop n text)) a.joined ∙ ap (λ t. text_of ps ++ t) b.joined ∙ sym (text_of-append ps qs);
      within = let w : n ≤ length text = a.within in omega arith;
      cut = cuts-append ps qs (drop (n + m) text) (subst (λ (t : List ℕ). Cuts ps t) cut a.cut) tail;
    }

-- the longest front of bytes that pass
pub record Run (p : ℕ → Bool) (xs : List ℕ) (n : ℕ) : Type 0 where
  pub within : n ≤ length xs
  pub passes : IsTrue (list_all p (take n xs))
  pub ends : begins p (drop n xs) ≡ false

run-step : (p : ℕ → Bool) (x : ℕ) (xs : List ℕ) (b : Bool) → p x ≡ b → Run p xs (length (take_while p xs))
    → Run p (x ∷ xs) (length (cond b (x ∷ take_while p xs) []))
run-step p x xs true e r = record {
  within = let w : length (take_while p xs) ≤ length xs = r.within in omega arith;
  passes = all_true _ _ e r.passes;
  ends = r.ends;
}
run-step p x xs false e r = record { within = omega arith; passes = refl; ends = e }

pub run-of : (p : ℕ → Bool) (xs : List ℕ) → Run p xs (length (take_while p xs))
run-of p [] = record { within = omega arith; passes = refl; ends = refl }
run-of p (x ∷ xs) = subst (λ (n : ℕ). Run p (x ∷ xs) n) (ap length (sym (take_while-cons p x xs))) (run-step p x xs (p x) refl (run-of p xs))

pub word-front : (t : Token) (n : ℕ) (text : List ℕ) → take n text ≡ spelling t → n ≤ length text → IsToken t → IsTrue (token_ends t (drop n text))
    → IsFront (Word t ∷ []) n text
word-front t n text e within valid ends = record { joined = e ∙ sym (append-nil (spelling t)); within = within; cut = (valid, ends, tt) }

letter_named : (b : ℕ) → IsTrue (is_letter b) → is_name_byte b ≡ true
letter_named b h = grind (arith)

pub named-front : (text : List ℕ) (n : ℕ) (t : Token) → 0 < length text → IsTrue (is_letter (get_or text 0 0)) → Run is_name_byte text n
    → IsNameToken (take n text) t
    → list_any (bytes_eq (take n text)) reserved_words ≡ false → IsFirst t n text
named-front [] n t some letter run named free = absurd (omega arith)
named-front (x ∷ xs) zero t some letter run named free = absurd (true≢false (sym (letter_named x letter) ∙ run.ends))
named-front (x ∷ xs) (suc n) t some letter run named free = record {
  front = word-front t (suc n) (x ∷ xs) (sym named.spelled) run.within (named.valid (all_true _ _ letter (and_parts _ _ run.passes).1) free)
      (let e : token_ends t (drop n xs) ≡ true = named.ends (drop n xs) ∙ ap not run.ends in e);
  some = omega arith;
}

pub atom-front : (text : List ℕ) (n : ℕ) → 0 < length text → get_or text 0 0 ≡ 34 → Run is_label_byte (drop 1 text) n → 0 < n → n ≤ LONGEST_LABEL
    → n < length (drop 1 text) → get_or (drop 1 text) n 0 ≡ 34 → IsFirst (Atom (take n (drop 1 text))) (n + 2) text
atom-front [] n some quote run few many inside closed = absurd (omega arith)
atom-front (x ∷ xs) n some quote run few many inside closed =
    let two : n + 2 ≡ suc (n + 1) = omega arith in
    let l : length (take n xs) ≡ n = length-take-le n xs run.within in
    let bytes : take (n + 2) (x ∷ xs) ≡ spelling (Atom (take n xs))
    = ap (λ k. take k (x ∷ xs)) two ∙ ap (λ t. x ∷ t) (take_more xs n 0 inside ∙ ap (λ b. take n xs ++ b ∷ []) closed)
    ∙ ap (λ b. b ∷ (take n xs ++ 34 ∷ [])) quote in
    record {
      front = word-front (Atom (take n xs)) (n + 2) (x ∷ xs) bytes (omega arith)
          (all_true _ _ (all_true _ _ (le_true 1 (length (take n xs)) (omega arith))
          (le_true (length (take n xs)) LONGEST_LABEL (omega arith))) run.passes) refl;
      some = omega arith;
    }

gap-more : (n m : ℕ) (text : List ℕ) (p : Segment) → IsGap n text → IsFront (p ∷ []) m (drop n text) → tokens_of (p ∷ []) ≡ [] → IsGap (n + m) text
gap-more n m text p g f e = record {
  pieces = g.pieces ++ p ∷ [];
  front = front-append g.pieces (p ∷ []) n m text g.front f;
  wordless = tokens_of-append g.pieces (p ∷ []) ∙ ap (λ ts. ts ++ tokens_of (p ∷ [])) g.wordless ∙ e;
}

blank-front : (x : ℕ) (xs : List ℕ) → IsTrue (x == 32 || x == 9 || x == 13 || x == 10) → IsFront (Blank x ∷ []) 1 (x ∷ xs)
blank-front x xs h = record { joined = refl; within = omega arith; cut = (h, refl, tt) }

pub gap-blank : (n : ℕ) (text : List ℕ) → IsGap n text → n < length text
    → IsTrue (get_or text n 0 == 32 || get_or text n 0 == 9 || get_or text n 0 == 13 || get_or text n 0 == 10) → IsGap (n + 1) text
gap-blank n text g lt h =
    let x = get_or text n 0 in
    gap-more n 1 text (Blank x) g (subst (λ (t : List ℕ). IsFront (Blank x ∷ []) 1 t) (sym (drop_more text n 0 lt)) (blank-front x (drop (n + 1) text) h)) refl

comment-front : (m : ℕ) (xs : List ℕ) → Run (λ b. not (b == 10)) (37 ∷ xs) m → (bytes : List ℕ) × IsFront (Comment bytes ∷ []) m (37 ∷ xs)
comment-front zero xs r = absurd (true≢false r.ends)
comment-front (suc m) xs r = (take m xs, record { joined = sym (append-nil (37 ∷ take m xs)); within = r.within; cut = (r.passes, ap not r.ends, tt) })

pub gap-comment : (n : ℕ) (text : List ℕ) → IsGap n text → n < length text → get_or text n 0 ≡ 37
    → IsGap (n + length (take_while (λ b. not (b == 10)) (drop n text))) text
gap-comment n text g lt e =
    let p : ℕ → Bool = λ b. not (b == 10) in
    let m = length (take_while p (drop n text)) in
    let here : drop n text ≡ 37 ∷ drop (n + 1) text = drop_more text n 0 lt ∙ ap (λ b. b ∷ drop (n + 1) text) e in
    let c = comment-front m (drop (n + 1) text) (subst (λ (t : List ℕ). Run p t m) here (run-of p (drop n text))) in
    gap-more n m text (Comment c.0) g (subst (λ (t : List ℕ). IsFront (Comment c.0 ∷ []) m t) (sym here) c.1) refl
