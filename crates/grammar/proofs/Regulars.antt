-- What a regular formula is that was put together from parts.
use Rattle.std.specs.Prelude.{◌≡◌, ℕ, ◌+◌, ◌-◌, ◌<◌, ◌≤◌, Bool, true, ◌&&◌, nat_le, List, [], ◌∷◌, ◌++◌, max, length, IsTrue, refl, drop, suc}
use Rattle.std.proofs.Common.{arith, sym, ◌∙◌, ap, subst, append_assoc, true≢false, inl}
use Rattle.std.proofs.lemmas.List.{drop-drop, drop-map, length-append, length-drop, length-map}
use Rattle.grammar.specs.Token.{Token, Name, Bar}
use Rattle.grammar.specs.Syntax.{RegSyntax, reg_tokens, reg_fits, reg_form, reg_nesting, reg_parens, more_names}
use Rattle.grammar.specs.Written.{bare_tokens, token_of, reg_syntax, infixed, infix_token, infix_row, repeated, repeat_token}
use Rattle.grammar.specs.declared.written.WrittenRegular.{WrittenRegular}
use Rattle.grammar.specs.Read.{reg_row, IsRegular, IsRegularOf, MatchBar}
use Rattle.grammar.specs.Misread.{ReadsRegular, LongerRegular}
use Rattle.grammar.specs.declared.token.Placed.{Placed}
use Rattle.grammar.specs.declared.written.Infix.{Infix}
use Rattle.grammar.specs.declared.written.Infix.TheVariants as sign
use Rattle.grammar.specs.declared.written.Repeat.{Repeat}
use Rattle.grammar.specs.declared.written.Repeat.TheVariants as repeat
use Rattle.grammar.specs.declared.regular.ReadRegular.{ReadRegular}

pub infixed-tokens : (mark : Infix) (r s : RegSyntax) → reg_tokens (infixed mark r s) ≡ reg_tokens r ++ infix_token mark ∷ reg_tokens s
infixed-tokens sign.And r s = refl
infixed-tokens sign.Or r s = refl
infixed-tokens sign.Implies r s = refl
infixed-tokens sign.Then r s = refl
infixed-tokens sign.Either r s = refl

-- what a formula with a sign between two is, whatever the sign
pub record Infixed (mark : Infix) (r s : RegSyntax) : Type 0 where
  pub form : reg_form (infixed mark r s) ≡ infix_row mark
  pub nesting : reg_nesting (infixed mark r s) ≡ 1 + max (reg_nesting r) (reg_nesting s)
  pub parens : reg_parens (infixed mark r s) ≡ max (reg_parens r) (reg_parens s)

pub infixed-is : (mark : Infix) (r s : RegSyntax) → Infixed mark r s
infixed-is sign.And r s = record { form = refl; nesting = refl; parens = refl }
infixed-is sign.Or r s = record { form = refl; nesting = refl; parens = refl }
infixed-is sign.Implies r s = record { form = refl; nesting = refl; parens = refl }
infixed-is sign.Then r s = record { form = refl; nesting = refl; parens = refl }
infixed-is sign.Either r s = record { form = refl; nesting = refl; parens = refl }

pub all_true : (a b : Bool) → IsTrue a → IsTrue b → IsTrue (a && b)
all_true a b p q = grind (arith)

pub le_true : (m n : ℕ) → m ≤ n → IsTrue (nat_le m n)
le_true m n h = search (arith)

both_fit : (m k n l : ℕ) (a b : Bool) → m ≤ k → n ≤ l → IsTrue a → IsTrue b → IsTrue (nat_le m k && nat_le n l && a && b)
both_fit m k n l a b p q x y = all_true _ _ (all_true _ _ (all_true _ _ (le_true m k p) (le_true n l q)) x) y

pub infixed-fits : (mark : Infix) (r s : RegSyntax) → IsTrue (reg_fits r) → IsTrue (reg_fits s) → reg_form r < infix_row mark → reg_form s ≤ infix_row mark
    → IsTrue (reg_fits (infixed mark r s))
infixed-fits sign.And r s p q m n = both_fit (reg_form r) 1 (reg_form s) 2 _ _ (omega arith) n p q
infixed-fits sign.Or r s p q m n = both_fit (reg_form r) 2 (reg_form s) 3 _ _ (omega arith) n p q
infixed-fits sign.Implies r s p q m n = both_fit (reg_form r) 3 (reg_form s) 4 _ _ (omega arith) n p q
infixed-fits sign.Then r s p q m n = both_fit (reg_form r) 5 (reg_form s) 6 _ _ (omega arith) n p q
infixed-fits sign.Either r s p q m n = both_fit (reg_form r) 6 (reg_form s) 7 _ _ (omega arith) n p q

pub repeated-tokens : (mark : Repeat) (r : RegSyntax) → reg_tokens (repeated mark r) ≡ reg_tokens r ++ repeat_token mark ∷ []
repeated-tokens repeat.Star r = refl
repeated-tokens repeat.Plus r = refl

-- there are as many words as tokens
pub words-length : (tokens : List Placed) → length (bare_tokens tokens) ≡ length tokens
words-length tokens = length-map tokens (λ p. token_of p.token)

-- what is left is no longer than what it was read from
pub no-longer : (front : List Token) (rest : List Placed) (us : List Token) → front ++ bare_tokens rest ≡ us → length rest ≤ length us
no-longer front rest us e = omega (arith, ap (λ ts. length ts) e, length-append front (bare_tokens rest), words-length rest)

pub kept-length : (front : List Token) (rest tokens : List Placed) → front ++ bare_tokens rest ≡ bare_tokens tokens → length rest ≤ length tokens
kept-length front rest tokens e = omega (arith, no-longer front rest (bare_tokens tokens) e, words-length tokens)

-- an atom or a negation that was read
pub low-read : (depth inside : ℕ) (ts : List Token) (w : WrittenRegular) (x : RegSyntax) (height : ℕ) (rest : List Placed) (r : ReadRegular)
    → IsRegularOf w height rest r → reg_syntax w ≡ x → IsTrue (reg_fits x) → reg_form x ≤ 1
    → height ≡ reg_nesting x → reg_nesting x ≤ depth → reg_parens x ≤ inside → 1 < reg_row (bare_tokens rest) → reg_tokens x ++ bare_tokens rest ≡ ts
    → ReadsRegular 1 depth inside ts r
low-read depth inside ts w x height rest r b is fit low high deep wide stops eaten =
    let e : reg_syntax r.syntax.value ≡ x = ap reg_syntax b.is ∙ is in
    record {
      eaten = ap (λ y. reg_tokens y ++ bare_tokens r.rest.now) e ∙ (ap (λ ps. reg_tokens x ++ bare_tokens ps) b.after ∙ eaten);
      sound = record {
        grammatical = subst (λ y. IsTrue (reg_fits y)) (sym e) fit;
        row = omega (arith, ap reg_form e);
        height = b.high ∙ (high ∙ ap reg_nesting (sym e));
        low = omega (arith, b.high);
        narrow = omega (arith, ap reg_parens e);
      };
      stops = subst (λ ps. 1 < reg_row (bare_tokens ps)) (sym b.after) stops;
    }

-- two formulas and the sign between them
pub joined-read : (mark : Infix) (level depth inside : ℕ) (us : List Token) (left right : ReadRegular) (w : WrittenRegular) (r : ReadRegular)
    → IsRegular level depth inside left → reg_form (reg_syntax left.syntax.value) < infix_row mark
    → bare_tokens left.rest.now ≡ infix_token mark ∷ us → infix_row mark ≤ level → left.height < depth → ReadsRegular (infix_row mark) (depth - 1) inside us right
    → IsRegularOf w (max left.height right.height + 1) right.rest.now r
    → reg_syntax w ≡ infixed mark (reg_syntax left.syntax.value) (reg_syntax right.syntax.value) → LongerRegular level depth inside left r
joined-read mark level depth inside us left right w r l below front above low h b is =
    let f = reg_syntax left.syntax.value in
    let g = reg_syntax right.syntax.value in
    let e : reg_syntax r.syntax.value ≡ infixed mark f g = ap reg_syntax b.is ∙ is in
    let own : reg_form (reg_syntax r.syntax.value) ≡ infix_row mark = ap reg_form e ∙ (infixed-is mark f g).form in
    let deep : reg_nesting (reg_syntax r.syntax.value) ≡ 1 + max (reg_nesting f) (reg_nesting g) = ap reg_nesting e ∙ (infixed-is mark f g).nesting in
    let wide : reg_parens (reg_syntax r.syntax.value) ≡ max (reg_parens f) (reg_parens g) = ap reg_parens e ∙ (infixed-is mark f g).parens in
    record {
      eaten =
          ap (λ ts. ts ++ bare_tokens r.rest.now) (ap reg_tokens e ∙ infixed-tokens mark f g)
          ∙ append_assoc (reg_tokens f) (infix_token mark ∷ reg_tokens g) (bare_tokens r.rest.now)
          ∙ ap (λ ts. reg_tokens f ++ (infix_token mark ∷ ts)) (ap (λ ps. reg_tokens g ++ bare_tokens ps) b.after ∙ h.eaten)
          ∙ ap (λ ts. reg_tokens f ++ ts) (sym front);
      sound = record {
        grammatical = subst (λ x. IsTrue (reg_fits x)) (sym e) (infixed-fits mark f g l.grammatical h.sound.grammatical below h.sound.row);
        row = omega arith;
        height = omega (arith, b.high, l.height, h.sound.height);
        low = omega (arith, b.high, h.sound.low);
        narrow = omega (arith, l.narrow, h.sound.narrow);
      };
      onward = inl (omega (arith, ap (λ ps. reg_row (bare_tokens ps)) b.after, h.stops));
      shorter = omega (
        arith,
        ap (λ ps. length ps) b.after,
        no-longer (reg_tokens g) right.rest.now us h.eaten,
        words-length left.rest.now,
        ap (λ ts. length ts) front,
      );
    }

-- one more name at the end
pub more_names-push : (names : List (List ℕ)) (name : List ℕ) (more : List Token)
    → more_names names ++ Bar ∷ Name name ∷ more ≡ more_names (names ++ name ∷ []) ++ more
more_names-push [] name more = refl
more_names-push (other ∷ names) name more = ap (λ ts. Bar ∷ Name other ∷ ts) (more_names-push names name more)

-- the tokens after one that stands at a place
pub words-next : (ts : List Placed) (n : ℕ) (t : Token) (more : List Token) → bare_tokens (drop n ts) ≡ t ∷ more → (n < length ts) × (bare_tokens (drop (n + 1) ts) ≡ more)
words-next ts n t more e =
    let f : Placed → Token = λ p. token_of p.token in
    let l : length ts - n ≡ suc (length more) = sym (length-drop n ts) ∙ sym (length-map (drop n ts) f) ∙ ap length e in (
      omega arith,
      ap bare_tokens (sym (drop-drop 1 n ts)) ∙ sym (drop-map f 1 (drop n ts)) ∙ ap (drop 1) e,
    )

pub bar_first : (ts : List Token) → MatchBar ts true → ts ≡ Bar ∷ drop 1 ts
bar_first (Bar ∷ more) e = refl
bar_first (token ∷ more) e = absurd (true≢false e.0)
bar_first [] e = absurd (true≢false e.0)

-- a bar and a name at a place, after these names
pub names-more : (ts : List Placed) (n : ℕ) (names : List (List ℕ)) (name : List ℕ) (after : List Placed) → bare_tokens ts ≡ more_names names ++ bare_tokens (drop n ts)
    → MatchBar (bare_tokens (drop n ts)) true
    → bare_tokens (drop (n + 1) ts) ≡ Name name ∷ bare_tokens after → (n + 2 ≤ length ts) × (bare_tokens ts ≡ more_names (names ++ name ∷ []) ++ bare_tokens (drop (n + 2) ts))
names-more ts n names name after whole bar named =
    let b = bar_first _ bar in
    let p = words-next ts n _ _ b in
    let q = words-next ts (n + 1) _ _ named in
    let two : n + 1 + 1 ≡ n + 2 = omega arith in
    let here : bare_tokens (drop n ts) ≡ Bar ∷ Name name ∷ bare_tokens (drop (n + 2) ts) = b
    ∙ ap (λ w. Bar ∷ w) (sym p.1 ∙ named ∙ ap (λ w. Name name ∷ w) (sym q.1 ∙ ap (λ k. bare_tokens (drop k ts)) two)) in
    (omega arith, whole ∙ ap (λ w. more_names names ++ w) here ∙ more_names-push names name (bare_tokens (drop (n + 2) ts)))
