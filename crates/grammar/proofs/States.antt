-- What a state formula is that was put together from parts.
use Rattle.std.specs.Prelude.{◌≡◌, ℕ, ◌+◌, ◌-◌, ◌<◌, ◌≤◌, Bool, true, false, not, ◌&&◌, nat_le, List, [], ◌∷◌, ◌++◌, length, max, Some, IsTrue, refl}
use Rattle.std.proofs.Common.{arith, sym, ◌∙◌, ap, subst, append_assoc, true≢false}
use Rattle.grammar.specs.Token.{Token, Name, AndSign, OrSign, ImpliesSign, NotSign, Open, Close, Dot}
use Rattle.grammar.specs.Syntax.{RegSyntax, reg_tokens, reg_fits, reg_nesting, reg_parens, Syntax, Group', Neg', tokens, fits, form, nesting, parens}
use Rattle.grammar.specs.Syntax.{ends_in_binder}
use Rattle.grammar.specs.Written.{bare_tokens, reg_syntax, state_syntax, joined, connective_token, connective_row, written_modal, opening_bracket, closing, bound, binder_token}
use Rattle.grammar.specs.Read.{IsReadState, IsStateOf, IsOneToken, state_row}
use Rattle.grammar.specs.Misread.{ReadsRegular, ReadsState, LongerState}
use Rattle.grammar.specs.declared.token.Placed.{Placed}
use Rattle.grammar.specs.declared.written.Connective.{Connective}
use Rattle.grammar.specs.declared.written.Connective.TheVariants as connective
use Rattle.grammar.specs.declared.written.Brackets.{Brackets}
use Rattle.grammar.specs.declared.written.Brackets.TheVariants as brackets
use Rattle.grammar.specs.declared.written.Binder.{Binder}
use Rattle.grammar.specs.declared.written.Binder.TheVariants as binder
use Rattle.grammar.specs.declared.written.WrittenState.{WrittenState}
use Rattle.grammar.specs.declared.regular.ReadRegular.{ReadRegular}
use Rattle.grammar.specs.declared.state.ReadState.{ReadState}
use Rattle.grammar.proofs.Regulars.{all_true, le_true, words-length, no-longer}

pub joined-tokens : (mark : Connective) (f g : Syntax) → tokens (joined mark f g) ≡ tokens f ++ connective_token mark ∷ tokens g
joined-tokens connective.And f g = refl
joined-tokens connective.Or f g = refl
joined-tokens connective.Implies f g = refl

-- what a formula with a sign between two is, whatever the sign
pub record IsJoined (mark : Connective) (f g : Syntax) : Type 0 where
  pub form : form (joined mark f g) ≡ connective_row mark
  pub nesting : nesting (joined mark f g) ≡ 1 + max (nesting f) (nesting g)
  pub parens : parens (joined mark f g) ≡ max (parens f) (parens g)
  pub ends : ends_in_binder (joined mark f g) ≡ ends_in_binder g

pub joined-is : (mark : Connective) (f g : Syntax) → IsJoined mark f g
joined-is connective.And f g = record { form = refl; nesting = refl; parens = refl; ends = refl }
joined-is connective.Or f g = record { form = refl; nesting = refl; parens = refl; ends = refl }
joined-is connective.Implies f g = record { form = refl; nesting = refl; parens = refl; ends = refl }

pub connective-row : (mark : Connective) (more : List Token) → state_row (connective_token mark ∷ more) ≡ connective_row mark
connective-row connective.And more = refl
connective-row connective.Or more = refl
connective-row connective.Implies more = refl

pub row-most : (mark : Connective) → connective_row mark ≤ 3
row-most connective.And = omega arith
row-most connective.Or = omega arith
row-most connective.Implies = omega arith

not_true : (b : Bool) → (b ≡ true → ⊥) → IsTrue (not b)
not_true true h = absurd (h refl)
not_true false h = refl

both_fit : (m k n l : ℕ) (a b e : Bool) → m ≤ k → n ≤ l → IsTrue a → IsTrue b → IsTrue (not e) → IsTrue ((nat_le m k && not e) && nat_le n l && a && b)
both_fit m k n l a b e p q x y z = all_true _ _ (all_true _ _ (all_true _ _ (all_true _ _ (le_true m k p) z) (le_true n l q)) x) y

pub joined-fits : (mark : Connective) (f g : Syntax) → IsTrue (fits f) → IsTrue (fits g) → form f < connective_row mark → form g ≤ connective_row mark
    → IsTrue (not (ends_in_binder f)) → IsTrue (fits (joined mark f g))
joined-fits connective.And f g p q m n e = both_fit (form f) 0 (form g) 1 _ _ _ (omega arith) n p q e
joined-fits connective.Or f g p q m n e = both_fit (form f) 1 (form g) 2 _ _ _ (omega arith) n p q e
joined-fits connective.Implies f g p q m n e = both_fit (form f) 2 (form g) 3 _ _ _ (omega arith) n p q e

pub modal-tokens : (mark : Brackets) (r : RegSyntax) (f : Syntax) → tokens (written_modal mark r f) ≡ opening_bracket mark ∷ (reg_tokens r ++ closing mark ∷ tokens f)
modal-tokens brackets.Diamond r f = refl
modal-tokens brackets.Box r f = refl

pub record IsModal (mark : Brackets) (r : RegSyntax) (f : Syntax) : Type 0 where
  pub form : form (written_modal mark r f) ≡ 0
  pub nesting : nesting (written_modal mark r f) ≡ 1 + max (reg_nesting r) (nesting f)
  pub parens : parens (written_modal mark r f) ≡ max (reg_parens r) (parens f)
  pub ends : ends_in_binder (written_modal mark r f) ≡ ends_in_binder f

pub modal-is : (mark : Brackets) (r : RegSyntax) (f : Syntax) → IsModal mark r f
modal-is brackets.Diamond r f = record { form = refl; nesting = refl; parens = refl; ends = refl }
modal-is brackets.Box r f = record { form = refl; nesting = refl; parens = refl; ends = refl }

pub modal-fits : (mark : Brackets) (r : RegSyntax) (f : Syntax) → IsTrue (reg_fits r) → form f ≤ 0 → IsTrue (fits f) → IsTrue (fits (written_modal mark r f))
modal-fits brackets.Diamond r f p q h = all_true _ _ (all_true _ _ (le_true _ _ q) p) h
modal-fits brackets.Box r f p q h = all_true _ _ (all_true _ _ (le_true _ _ q) p) h

pub bound-tokens : (b : Binder) (x : List ℕ) (f : Syntax) → tokens (bound b x f) ≡ binder_token b ∷ Name x ∷ Dot ∷ tokens f
bound-tokens binder.Mu x f = refl
bound-tokens binder.Nu x f = refl

pub record IsBound (b : Binder) (x : List ℕ) (f : Syntax) : Type 0 where
  pub form : form (bound b x f) ≡ 0
  pub nesting : nesting (bound b x f) ≡ 1 + nesting f
  pub parens : parens (bound b x f) ≡ parens f
  pub fits : fits (bound b x f) ≡ fits f
  pub ends : ends_in_binder (bound b x f) ≡ true

pub bound-is : (b : Binder) (x : List ℕ) (f : Syntax) → IsBound b x f
bound-is binder.Mu x f = record { form = refl; nesting = refl; parens = refl; fits = refl; ends = refl }
bound-is binder.Nu x f = record { form = refl; nesting = refl; parens = refl; fits = refl; ends = refl }

-- each token that goes on makes some row
some-row : (ts : List Token) → 0 < state_row ts
some-row [] = omega arith
some-row (AndSign ∷ ts) = omega arith
some-row (OrSign ∷ ts) = omega arith
some-row (ImpliesSign ∷ ts) = omega arith
some-row (_ ∷ ts) = omega arith

-- a unary formula that was read
pub unary-read : (depth inside : ℕ) (ts : List Token) (w : WrittenState) (x : Syntax) (height : ℕ) (rest : List Placed) (s : ReadState)
    → IsStateOf w height rest s → state_syntax w ≡ x → IsTrue (fits x) → form x ≤ 0
    → height ≡ nesting x → nesting x ≤ depth → parens x ≤ inside → (ends_in_binder x ≡ true → 3 < state_row (bare_tokens rest)) → tokens x ++ bare_tokens rest ≡ ts
    → ReadsState 0 depth inside ts s
unary-read depth inside ts w x height rest s b is fit low high deep wide reaches eaten =
    let e : state_syntax s.syntax.value ≡ x = ap state_syntax b.is ∙ is in
    let own : form (state_syntax s.syntax.value) ≡ form x = ap form e in
    let some = some-row (bare_tokens s.rest.now) in
    record {
      eaten = ap (λ y. tokens y ++ bare_tokens s.rest.now) e ∙ (ap (λ ps. tokens x ++ bare_tokens ps) b.after ∙ eaten);
      sound = record {
        grammatical = subst (λ y. IsTrue (fits y)) (sym e) fit;
        row = omega arith;
        height = b.high ∙ (high ∙ ap nesting (sym e));
        low = omega (arith, b.high);
        narrow = omega (arith, ap parens e);
        reaches = λ h. subst (λ ps. 3 < state_row (bare_tokens ps)) (sym b.after) (reaches (ap ends_in_binder (sym e) ∙ h));
        ended = omega arith;
      };
      stops = some;
    }

pub group-read : (depth inside : ℕ) (us : List Token) (inner : ReadState) (w : WrittenState) (rest : List Placed) (s : ReadState)
    → IsStateOf w inner.height rest s → state_syntax w ≡ Group' (state_syntax inner.syntax.value)
    → ReadsState 3 depth inside us inner → bare_tokens inner.rest.now ≡ Close ∷ bare_tokens rest → ReadsState 0 depth (inside + 1) (Open ∷ us) s
group-read depth inside us inner w rest s b is i close =
    let f = state_syntax inner.syntax.value in
    unary-read _ _ _ w _ _ rest s b is i.sound.grammatical (omega arith) i.sound.height (omega (arith, i.sound.height, i.sound.low))
    (omega (arith, i.sound.narrow)) (λ h. absurd (true≢false (sym h)))
    (ap (λ ts. Open ∷ ts) (append_assoc (tokens f) (Close ∷ []) (bare_tokens rest) ∙ (ap (λ ts. tokens f ++ ts) (sym close) ∙ i.eaten)))

pub not-read : (depth inside : ℕ) (us : List Token) (inner : ReadState) (w : WrittenState) (s : ReadState) → IsStateOf w (inner.height + 1) inner.rest.now s
    → state_syntax w ≡ Neg' (state_syntax inner.syntax.value)
    → ReadsState 0 depth inside us inner → ReadsState 0 (depth + 1) inside (NotSign ∷ us) s
not-read depth inside us inner w s b is i =
    unary-read _ _ _ w _ _ inner.rest.now s b is (all_true _ _ (le_true _ _ i.sound.row) i.sound.grammatical) (omega arith) (omega (arith, i.sound.height))
    (omega (arith, i.sound.height, i.sound.low)) i.sound.narrow
    i.sound.reaches (ap (λ ts. NotSign ∷ ts) i.eaten)

pub modal-read : (mark : Brackets) (depth inside : ℕ) (us : List Token) (r : ReadRegular) (after : List Token) (inner : ReadState) (w : WrittenState)
    (s : ReadState)
    → IsStateOf w (max r.height inner.height + 1) inner.rest.now s → state_syntax w ≡ written_modal mark (reg_syntax r.syntax.value) (state_syntax inner.syntax.value)
    → ReadsRegular 7 depth inside us r → bare_tokens r.rest.now ≡ closing mark ∷ after → ReadsState 0 depth inside after inner
    → ReadsState 0 (depth + 1) inside (opening_bracket mark ∷ us) s
modal-read mark depth inside us r after inner w s b is l closed i =
    let x = reg_syntax r.syntax.value in
    let f = state_syntax inner.syntax.value in
    let deep = (modal-is mark x f).nesting in
    unary-read _ _ _ w _ _ inner.rest.now s b is (modal-fits mark x f l.sound.grammatical i.sound.row i.sound.grammatical)
    (omega (arith, (modal-is mark x f).form)) (omega (arith, deep, l.sound.height, i.sound.height))
    (omega (arith, deep, l.sound.height, l.sound.low, i.sound.height, i.sound.low))
    (omega (arith, (modal-is mark x f).parens, l.sound.narrow, i.sound.narrow)) (λ h. i.sound.reaches (sym ((modal-is mark x f).ends) ∙ h))
    (ap (λ ts. ts ++ bare_tokens inner.rest.now) (modal-tokens mark x f)
    ∙ ap (λ ts. opening_bracket mark ∷ ts) (append_assoc (reg_tokens x) (closing mark ∷ tokens f) (bare_tokens inner.rest.now)
    ∙ ap (λ ts. reg_tokens x ++ (closing mark ∷ ts)) i.eaten ∙ ap (λ ts. reg_tokens x ++ ts) (sym closed) ∙ l.eaten))

pub bound-read : (word : Binder) (name : List ℕ) (depth inside : ℕ) (us after : List Token) (body : ReadState) (w : WrittenState) (s : ReadState)
    → IsStateOf w (body.height + 1) body.rest.now s → state_syntax w ≡ bound word name (state_syntax body.syntax.value) → us ≡ Name name ∷ Dot ∷ after
    → ReadsState 3 depth inside after body → ReadsState 0 (depth + 1) inside (binder_token word ∷ us) s
bound-read word name depth inside us after body w s b is front i =
    let f = state_syntax body.syntax.value in
    let deep = (bound-is word name f).nesting in
    unary-read _ _ _ w _ _ body.rest.now s b is ((bound-is word name f).fits ∙ i.sound.grammatical) (omega (arith, (bound-is word name f).form))
    (omega (arith, deep, i.sound.height)) (omega (arith, deep, i.sound.height, i.sound.low))
    (omega (arith, (bound-is word name f).parens, i.sound.narrow)) (λ h. i.stops)
    (ap (λ ts. ts ++ bare_tokens body.rest.now) (bound-tokens word name f) ∙ ap (λ ts. binder_token word ∷ ts) (ap (λ ts. Name name ∷ Dot ∷ ts) i.eaten ∙ sym front))

-- a formula of one token
pub word-read : (depth inside : ℕ) (token : Token) (w : WrittenState) (rest : List Placed) (s : ReadState) → IsStateOf w 0 rest s
    → IsOneToken token (Some w) → ReadsState 0 depth inside (token ∷ bare_tokens rest) s
word-read depth inside token w rest s b h =
    unary-read _ _ _ w _ _ rest s b refl h.4 (omega (arith, h.1)) (sym h.2) (omega (arith, h.2)) (omega (arith, h.3))
    (λ ends. absurd (true≢false (sym ends ∙ h.5))) (ap (λ ts. ts ++ bare_tokens rest) h.0)

-- two formulas and the sign between them
pub joined-read : (mark : Connective) (level depth inside : ℕ) (us : List Token) (left right : ReadState) (w : WrittenState) (s : ReadState)
    → IsReadState level depth inside left
    → bare_tokens left.rest.now ≡ connective_token mark ∷ us → connective_row mark ≤ level → left.height < depth
    → ReadsState (connective_row mark) (depth - 1) inside us right
    → IsStateOf w (max left.height right.height + 1) right.rest.now s
    → state_syntax w ≡ joined mark (state_syntax left.syntax.value) (state_syntax right.syntax.value) → LongerState level depth inside left s
joined-read mark level depth inside us left right w s l front above low h b is =
    let f = state_syntax left.syntax.value in
    let g = state_syntax right.syntax.value in
    let e : state_syntax s.syntax.value ≡ joined mark f g = ap state_syntax b.is ∙ is in
    let left_row : state_row (bare_tokens left.rest.now) ≡ connective_row mark = ap state_row front ∙ connective-row mark us in
    let most = row-most mark in
    let open_end : IsTrue (not (ends_in_binder f)) = not_true _ (λ h. let far : 3 < state_row (bare_tokens left.rest.now) = l.reaches h in absurd (omega arith)) in
    let below : form f < connective_row mark = omega (arith, l.ended) in
    let rows : state_row (bare_tokens s.rest.now) ≡ state_row (bare_tokens right.rest.now) = ap (λ ps. state_row (bare_tokens ps)) b.after in
    let own : form (state_syntax s.syntax.value) ≡ connective_row mark = ap form e ∙ (joined-is mark f g).form in
    let deep : nesting (state_syntax s.syntax.value) ≡ 1 + max (nesting f) (nesting g) = ap nesting e ∙ (joined-is mark f g).nesting in
    let wide : parens (state_syntax s.syntax.value) ≡ max (parens f) (parens g) = ap parens e ∙ (joined-is mark f g).parens in
    record {
      eaten =
          ap (λ ts. ts ++ bare_tokens s.rest.now) (ap tokens e ∙ joined-tokens mark f g)
          ∙ append_assoc (tokens f) (connective_token mark ∷ tokens g) (bare_tokens s.rest.now)
          ∙ ap (λ ts. tokens f ++ (connective_token mark ∷ ts)) (ap (λ ps. tokens g ++ bare_tokens ps) b.after ∙ h.eaten) ∙ ap (λ ts. tokens f ++ ts) (sym front);
      sound = record {
        grammatical = subst (λ x. IsTrue (fits x)) (sym e) (joined-fits mark f g l.grammatical h.sound.grammatical below h.sound.row open_end);
        row = omega arith;
        height = omega (arith, b.high, l.height, h.sound.height);
        low = omega (arith, b.high, h.sound.low);
        narrow = omega (arith, l.narrow, h.sound.narrow);
        reaches = λ k. let far : 3 < state_row (bare_tokens right.rest.now) = h.sound.reaches (sym (ap ends_in_binder e ∙ (joined-is mark f g).ends) ∙ k)
            in omega arith;
        ended = omega (arith, h.stops);
      };
      shorter = omega (
        arith,
        ap (λ ps. length ps) b.after,
        no-longer (tokens g) right.rest.now us h.eaten,
        words-length left.rest.now,
        ap (λ ts. length ts) front,
      );
    }
