-- How a text is cut into decided tokens, one after another.
use Rattle.std.specs.Prelude.{◌≡◌, ℕ, ◌+◌, ◌<◌, ◌≤◌, suc, zero, Bool, true, false, not, List, [], ◌∷◌, ◌++◌, map, length, take, drop, IsTrue, IsFalse, refl}
use Rattle.std.specs.Prelude.{Option, Some, slice_get, if◌then◌else◌}
use Rattle.std.proofs.Common.{arith, sym, ◌∙◌, ap, subst, append_assoc, true≢false, zero-add}
use Rattle.std.proofs.lemmas.List.{append-nil, map-append, drop_all, drop-drop, length-take-le, take-append-drop}
use Rattle.std.proofs.lemmas.Bool.{and_parts}
use Rattle.std.proofs.lemmas.Bool.Decides.{nat_tests}
use Rattle.text.specs.Text.{is_letter}
use Rattle.grammar.specs.Token.{Token, Name, Reserved, ChoiceSign, PlusSign, spelling, IsToken, is_free_name, Segment, Word, text_of, Cuts, tokens_of}
use Rattle.grammar.specs.Token.{offsets_from, is_decided, is_after_postfix, sign_is_decided, is_reserved, begins, token_ends}
use Rattle.grammar.specs.Written.{token_of, bare_tokens}
use Rattle.formula.specs.Cutting.{IsFront, IsGap, IsFirst, IsDecidedBy, is_postfix_before, begins_gap, Heads, IsCut, IsLexed}
use Rattle.grammar.specs.declared.token.Token.{Token as Lexeme}
use Rattle.grammar.specs.declared.token.Token.TheVariants as lexeme
use Rattle.grammar.specs.declared.token.Placed.{Placed}
use Rattle.grammar.proofs.Regulars.{all_true}
use Rattle.formula.proofs.Cuts.{tokens_of-append, offsets-append, offsets-none, front-append, word-front}

pub not_reserved : (l : Lexeme) → is_reserved (token_of l) ≡ false
not_reserved (lexeme.Name bytes) = refl
not_reserved _ = refl

-- a token and what it is decided to be are spelled alike
record Alike (t u : Token) : Type 0 where
  spelled : spelling u ≡ spelling t
  valid : IsToken t → IsToken u
  ends : (rest : List ℕ) → token_ends u rest ≡ token_ends t rest

alike-same : (t u : Token) → u ≡ t → Alike t u
alike-same t u e = subst (λ (v : Token). Alike t v) (sym e) (record { spelled = refl; valid = λ v. v; ends = λ rest. refl })

alike-choice : (t : Token) → spelling ChoiceSign ≡ spelling t → (IsToken t → IsToken ChoiceSign) → ((rest : List ℕ) → true ≡ token_ends t rest)
    → (b : Bool) (u : Token) → u ≡ (if b then PlusSign else ChoiceSign) → Alike t u
alike-choice t spelled valid ends true u e = subst (λ (v : Token). Alike t v) (sym e) (record { spelled = spelled; valid = valid; ends = ends })
alike-choice t spelled valid ends false u e = subst (λ (v : Token). Alike t v) (sym e) (record { spelled = spelled; valid = valid; ends = ends })

alike : (t u : Token) (next : Option ℕ) → IsDecidedBy t next u → Alike t u
alike ChoiceSign u next e = alike-choice ChoiceSign refl (λ v. v) (λ rest. refl) (is_postfix_before next) u e
alike PlusSign u next e = alike-choice PlusSign refl (λ v. v) (λ rest. refl) (is_postfix_before next) u e
alike t u next e = alike-same _ u e

letter_no_postfix : (b : ℕ) → IsTrue (is_letter b) → is_postfix_before (Some b) ≡ false
letter_no_postfix b h = grind (arith, nat_tests)

same_byte : (b c : ℕ) (bytes more : List ℕ) → c ∷ more ≡ b ∷ bytes → b ≡ c
same_byte b c bytes more e = cc

name_first : (bytes more : List ℕ) (b : ℕ) → IsTrue (is_free_name bytes) → bytes ≡ b ∷ more → false ≡ is_postfix_before (Some b)
name_first [] more b h e = cc
name_first (c ∷ cs) more b h e = sym (letter_no_postfix b (subst (λ (x : ℕ). IsTrue (is_letter x)) (sym (same_byte b c more cs e))
    (and_parts _ _ (and_parts _ _ (and_parts _ _ h).0).0).0))

fixed_first : (r : Bool) (b c : ℕ) (bytes more : List ℕ) → c ∷ more ≡ b ∷ bytes → r ≡ is_postfix_before (Some c) → r ≡ is_postfix_before (Some b)
fixed_first r b c bytes more e p = p ∙ ap (λ x. is_postfix_before (Some x)) (sym (same_byte b c bytes more e))

-- the first byte of a token tells whether a `+` before it is the postfix sign
first_tells : (t : Token) (ts : List Token) (b : ℕ) (bytes : List ℕ) → spelling t ≡ b ∷ bytes → IsToken t → is_reserved t ≡ false
    → is_after_postfix (t ∷ ts) ≡ is_postfix_before (Some b)
first_tells (Name name) ts b bytes e valid free = name_first name bytes b valid e
first_tells (Reserved name) ts b bytes e valid free = absurd (true≢false free)
first_tells t ts b bytes e valid free = fixed_first _ b _ bytes _ e refl

heads_tell : (ts : List Token) (rest : List ℕ) → Heads ts rest → is_after_postfix ts ≡ is_postfix_before (slice_get rest 0)
heads_tell [] rest e = ap (λ r. is_postfix_before (slice_get r 0)) (sym e)
heads_tell (t ∷ ts) rest h = first_tells t ts h.0 h.1 h.4 h.5 h.6 ∙ ap (λ r. is_postfix_before (slice_get r 0)) (sym h.3)

choice_decided : (b : Bool) (u : Token) (ts : List Token) → u ≡ (if b then PlusSign else ChoiceSign) → is_after_postfix ts ≡ b → IsTrue (sign_is_decided u ts)
choice_decided true u ts e h = subst (λ (v : Token). IsTrue (sign_is_decided v ts)) (sym e) h
choice_decided false u ts e h = subst (λ (v : Token). IsTrue (sign_is_decided v ts)) (sym e) (ap not h)

same_decided : (t u : Token) (ts : List Token) → u ≡ t → IsTrue (sign_is_decided t ts) → IsTrue (sign_is_decided u ts)
same_decided t u ts e h = subst (λ (v : Token). IsTrue (sign_is_decided v ts)) (sym e) h

decided-is : (t u : Token) (next : Option ℕ) (ts : List Token) → IsDecidedBy t next u → is_after_postfix ts ≡ is_postfix_before next
    → IsTrue (sign_is_decided u ts)
decided-is ChoiceSign u next ts d e = choice_decided (is_postfix_before next) u ts d e
decided-is PlusSign u next ts d e = choice_decided (is_postfix_before next) u ts d e
decided-is t u next ts d e = same_decided _ u ts d refl

get-drop : (n : ℕ) (xs : List ℕ) → slice_get (drop n xs) 0 ≡ slice_get xs n
get-drop zero xs = refl
get-drop (suc n) [] = refl
get-drop (suc n) (x ∷ xs) = get-drop n xs

pub front-length : (ps : List Segment) (n : ℕ) (text : List ℕ) → IsFront ps n text → length (text_of ps) ≡ n
front-length ps n text f = ap length (sym f.joined) ∙ length-take-le n text f.within

-- the first byte of what a text begins with
first_byte : (n : ℕ) (text bytes : List ℕ) → 0 < n → n ≤ length text → take n text ≡ bytes → (b : ℕ) × (more rest : List ℕ) × (text ≡ b ∷ rest)
    × (bytes ≡ b ∷ more)
first_byte zero text bytes some within e = absurd (omega arith)
first_byte (suc n) [] bytes some within e = absurd (omega arith)
first_byte (suc n) (b ∷ text) bytes some within e = (b, take n text, text, refl, sym e)

heads_first : (t u : Token) (ts : List Token) (n : ℕ) (text : List ℕ) → IsFirst t n text → Alike t u → is_reserved u ≡ false → Heads (u ∷ ts) text
heads_first t u ts n text f a free =
    let w = first_byte n text (spelling t ++ []) f.some f.front.within f.front.joined in
    (w.0, w.1, w.2, w.3, a.spelled ∙ sym (append-nil (spelling t)) ∙ w.4, a.valid f.front.cut.0, free)

pub cut-none : (text : List ℕ) (n : ℕ) (placed : List Placed) → placed ≡ [] → IsGap n text → IsFalse (begins begins_gap (drop n text)) → IsCut text n placed
cut-none text n placed none g over = record {
  pieces = g.pieces;
  front = g.front;
  over = over;
  spelled = g.wordless ∙ ap bare_tokens (sym none);
  places = offsets-none 0 g.pieces g.wordless ∙ ap (λ ps. map (λ p. p.offset) ps) (sym none);
  decided = λ ts decided heads. subst (λ (us : List Token). IsTrue (is_decided (us ++ ts))) (sym g.wordless) decided;
}

-- one more token, and the blanks and comments after it
pub cut-more : (text : List ℕ) (at : ℕ) (placed placed' : List Placed) (t : Token) (p : Placed) (n gap : ℕ) → IsCut text at placed
    → IsFirst t n (drop at text) → IsGap gap (drop (at + n) text)
    → IsFalse (begins begins_gap (drop gap (drop (at + n) text))) → IsDecidedBy t (slice_get text (at + n + gap)) (token_of p.token) → p.offset ≡ at
    → placed' ≡ placed ++ p ∷ [] → IsCut text (at + n + gap) placed'
cut-more text at placed placed' t p n gap c f g over d place e =
    let u = token_of p.token in
    let next = at + n + gap in
    let a = alike t u (slice_get text next) d in
    let free = not_reserved p.token in
    let spelled : take n (drop at text) ≡ spelling u = f.front.joined ∙ append-nil (spelling t) ∙ sym a.spelled in
    let word : IsFront (Word u ∷ []) n (drop at text) = word-front u n (drop at text) spelled f.front.within (a.valid f.front.cut.0)
    (a.ends (drop n (drop at text)) ∙ f.front.cut.1) in
    let pieces = c.pieces ++ Word u ∷ [] in
    let front = front-append c.pieces (Word u ∷ []) at n text c.front word in
    let words_so : tokens_of pieces ≡ bare_tokens placed ++ u ∷ [] = tokens_of-append c.pieces (Word u ∷ []) ∙ ap (λ ts. ts ++ u ∷ []) c.spelled in
    let all_words : tokens_of (pieces ++ g.pieces) ≡ bare_tokens placed ++ u ∷ [] = tokens_of-append pieces g.pieces ∙ ap (λ ts. tokens_of pieces ++ ts) g.wordless
    ∙ append-nil (tokens_of pieces) ∙ words_so in
    let f_offset : Placed → ℕ = λ q. q.offset in
    let f_token : Placed → Token = λ q. token_of q.token in
    let here : 0 + length (text_of c.pieces) ≡ p.offset = zero-add _ ∙ front-length c.pieces at text c.front ∙ sym place in
    let offsets_so : offsets_from 0 pieces ≡ map f_offset placed ++ p.offset ∷ [] = offsets-append 0 c.pieces (Word u ∷ [])
    ∙ ap (λ os. os ++ (0 + length (text_of c.pieces)) ∷ []) c.places ∙ ap (λ o. map f_offset placed ++ o ∷ []) here in
    record {
      pieces = pieces ++ g.pieces;
      front = front-append pieces g.pieces (at + n) gap text front g.front;
      over = subst (λ (ts : List ℕ). IsFalse (begins begins_gap ts)) (drop-drop gap (at + n) text) over;
      spelled = all_words ∙ sym (ap bare_tokens e ∙ map-append f_token placed (p ∷ []));
      places = offsets-append 0 pieces g.pieces ∙ ap (λ os. offsets_from 0 pieces ++ os) (offsets-none (0 + length (text_of pieces)) g.pieces g.wordless)
          ∙ append-nil (offsets_from 0 pieces) ∙ offsets_so
          ∙ sym (ap (λ ps. map f_offset ps) e ∙ map-append f_offset placed (p ∷ []));
      decided = λ ts decided heads.
          let after : is_after_postfix ts ≡ is_postfix_before (slice_get text next) = heads_tell ts (drop next text) heads
          ∙ ap is_postfix_before (get-drop next text) in
          let mine : IsTrue (is_decided (u ∷ ts)) = all_true _ _ (decided-is t u (slice_get text next) ts d after) decided in
          let theirs : IsTrue (is_decided (tokens_of c.pieces ++ (u ∷ ts))) = c.decided (u ∷ ts) mine (heads_first t u ts n (drop at text) f a free) in
          let same : tokens_of c.pieces ++ (u ∷ ts) ≡ tokens_of (pieces ++ g.pieces) ++ ts
          = ap (λ us. us ++ (u ∷ ts)) c.spelled ∙ sym (append_assoc (bare_tokens placed) (u ∷ []) ts) ∙ ap (λ us. us ++ ts) (sym all_words) in
          subst (λ (us : List Token). IsTrue (is_decided us)) same theirs;
    }

pub cut-all : (text : List ℕ) (at : ℕ) (placed : List Placed) → IsCut text at placed → length text ≤ at → IsLexed text placed
cut-all text at placed c end =
    let none : drop at text ≡ [] = drop_all at text end in
    record {
      pieces = c.pieces;
      joined = sym (take-append-drop at text) ∙ ap (λ t. take at text ++ t) none ∙ append-nil (take at text) ∙ c.front.joined;
      cut = subst (λ (t : List ℕ). Cuts c.pieces t) none c.front.cut;
      decided = subst (λ (ts : List Token). IsTrue (is_decided ts)) (append-nil (tokens_of c.pieces)) (c.decided [] refl none);
      spelled = c.spelled;
      places = c.places;
    }
