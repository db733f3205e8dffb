-- A formula that begins another one nests no deeper, and opens no more parentheses.
use Rattle.std.proofs.Common.{◌≡◌, ℕ, ◌<◌, ◌≤◌, List, [], ◌∷◌, ◌++◌, refl, sym, ap, ◌∙◌, subst, arith, append_assoc, append-nil}
use Rattle.std.specs.Prelude.{IsTrue, nat_le, drop}
use Rattle.std.proofs.lemmas.Bool.{leb-true, and_parts}
use Rattle.grammar.specs.declared.limits.TheConstants.{DEEPEST, MOST_PARENS}
use Rattle.grammar.specs.Token.{Token, Name, NotSign, Open, Close, Dot}
use Rattle.grammar.specs.Syntax.{RegSyntax, reg_tokens, reg_fits, reg_nesting, reg_parens, Syntax, True', False', Var', Group', Neg', Both', OneOf', If'}
use Rattle.grammar.specs.Syntax.{Dia', Box', Mu', Nu', form, ends_in_binder, fits, tokens, nesting, parens, is_within_limits}
use Rattle.grammar.specs.Written.{joined, connective_token, connective_row, written_modal, opening_bracket, closing, bound}
use Rattle.grammar.specs.Read.{state_row}
use Rattle.grammar.specs.declared.written.Connective.{Connective}
use Rattle.grammar.specs.declared.written.Connective.TheVariants as connective
use Rattle.grammar.specs.declared.written.Brackets.{Brackets}
use Rattle.grammar.specs.declared.written.Brackets.TheVariants as brackets
use Rattle.grammar.specs.declared.written.Binder.{Binder}
use Rattle.grammar.specs.declared.written.Binder.TheVariants as binder
use Rattle.grammar.proofs.Regulars.{all_true, le_true}
use Rattle.grammar.proofs.RegularUnique.{any_form}
use Rattle.grammar.proofs.RegularSpine.{one_at}
use Rattle.grammar.proofs.Unambiguous.{any_formula}
use Rattle.grammar.proofs.States.{joined-is, modal-tokens, modal-is, bound-tokens, bound-is}
use Rattle.grammar.proofs.StateSpine.{Standing, one-state, joined-operands, own_left, joined-split, spine, first-unary}
use Rattle.grammar.proofs.StatePlaces.{unary-as, modal-as, bound-as, modal-inside, closing-row}

pub record NoLarger (s g : Syntax) : Type 0 where
  pub nests : nesting s ≤ nesting g
  pub opens : parens s ≤ parens g

-- no larger than each formula that stands here and goes on beyond it
abbrev Least : Syntax → Type 0
Least s = (g : Syntax) (n m : List Token) → Standing g n → form s < state_row n → tokens g ++ n ≡ tokens s ++ m → NoLarger s g

leaf : (s : Syntax) → nesting s ≡ 0 → parens s ≡ 0 → Least s
leaf s deep wide g n m st far e = record { nests = omega (arith, deep); opens = omega (arith, wide) }

-- in parentheses the formula is the same
in_group : (f : Syntax) → IsTrue (fits f) → Least (Group' f)
in_group f fit g n m st far e =
    let u = first-unary g n st in
    let on : List Token = Close ∷ u.rest in
    let w = unary-as u.operand u.rest ((tokens f ++ Close ∷ []) ++ m) Open u.row (u.spelled ∙ e) in
    let inner : Standing w.0 on = record {
      grammatical = subst (λ s. IsTrue (fits s)) w.1 u.standing.grammatical;
      ended = omega (arith, any_formula w.0);
      reaches = λ b. omega arith;
    } in
    let outer : Standing f (Close ∷ m) = record { grammatical = fit; ended = omega (arith, any_formula f); reaches = λ b. omega arith } in
    let p = one-state 3 w.0 f on (Close ∷ m) inner outer (any_formula w.0) (any_formula f) (omega arith) (omega arith)
    (w.2 ∙ append_assoc (tokens f) (Close ∷ []) m) in
    record { nests = omega (arith, ap nesting p.0, ap nesting w.1, u.nests); opens = omega (arith, ap parens p.0, ap parens w.1, u.opens) }

after_not : (f : Syntax) → form f ≤ 0 → Least f → Least (Neg' f)
after_not f low least g n m st far e =
    let u = first-unary g n st in
    let w = unary-as u.operand u.rest (tokens f ++ m) NotSign u.row (u.spelled ∙ e) in
    let o = and_parts (nat_le (form w.0) 0) (fits w.0) (subst (λ s. IsTrue (fits s)) w.1 u.standing.grammatical) in
    let some : 0 < state_row u.rest = omega (arith, u.standing.ended) in
    let inner : Standing w.0 u.rest = record {
      grammatical = o.1;
      ended = omega (arith, leb-true (form w.0) 0 o.0);
      reaches = λ b. u.standing.reaches (ap ends_in_binder w.1 ∙ b);
    } in
    let h = least w.0 u.rest m inner (omega arith) w.2 in
    record { nests = omega (arith, h.nests, ap nesting w.1, u.nests); opens = omega (arith, h.opens, ap parens w.1, u.opens) }

-- in the brackets of a modality the regular formula is the same
after_brackets : (mark : Brackets) (r : RegSyntax) (f : Syntax) → IsTrue (reg_fits r) → form f ≤ 0 → Least f → Least (written_modal mark r f)
after_brackets mark r f fit low least g n m st far e =
    let u = first-unary g n st in
    let split : tokens (written_modal mark r f) ++ m ≡ opening_bracket mark ∷ (reg_tokens r ++ closing mark ∷ (tokens f ++ m))
    = ap (λ ts. ts ++ m) (modal-tokens mark r f) ∙ ap (λ ts. opening_bracket mark ∷ ts) (append_assoc (reg_tokens r) (closing mark ∷ tokens f) m) in
    let w = modal-as mark u.operand u.rest (reg_tokens r ++ closing mark ∷ (tokens f ++ m)) u.row (u.spelled ∙ e ∙ split) in
    let o = modal-inside mark w.0 w.1 (subst (λ s. IsTrue (fits s)) w.2 u.standing.grammatical) in
    let p = one_at 7 w.0 r (closing mark ∷ (tokens w.1 ++ u.rest)) (closing mark ∷ (tokens f ++ m)) o.1 fit (any_form w.0) (any_form r)
    (omega (arith, closing-row mark (tokens w.1 ++ u.rest))) (omega (arith, closing-row mark (tokens f ++ m))) w.3 in
    let some : 0 < state_row u.rest = omega (arith, u.standing.ended) in
    let his = modal-is mark w.0 w.1 in
    let own = modal-is mark r f in
    let inner : Standing w.1 u.rest = record {
      grammatical = o.2;
      ended = omega (arith, o.0);
      reaches = λ b. u.standing.reaches (ap ends_in_binder w.2 ∙ his.ends ∙ b);
    } in
    let h = least w.1 u.rest m inner (omega arith) (ap (drop 1) p.1) in
    record {
      nests = omega (arith, own.nesting, his.nesting, h.nests, ap reg_nesting p.0, ap nesting w.2, u.nests);
      opens = omega (arith, own.parens, his.parens, h.opens, ap reg_parens p.0, ap parens w.2, u.opens);
    }

after_dot : (word : Binder) (x : List ℕ) (f : Syntax) → Least f → Least (bound word x f)
after_dot word x f least g n m st far e =
    let u = first-unary g n st in
    let w = bound-as word u.operand u.rest (Name x ∷ Dot ∷ (tokens f ++ m)) u.row (u.spelled ∙ e ∙ ap (λ ts. ts ++ m) (bound-tokens word x f)) in
    let his = bound-is word w.0 w.1 in
    let own = bound-is word x f in
    let last : 3 < state_row u.rest = u.standing.reaches (ap ends_in_binder w.2 ∙ his.ends) in
    let inner : Standing w.1 u.rest = record {
      grammatical = sym his.fits
          ∙ subst (λ s. IsTrue (fits s)) w.2 u.standing.grammatical;
      ended = omega (arith, any_formula w.1);
      reaches = λ b. last;
    } in
    let h = least w.1 u.rest m inner (omega (arith, any_formula f)) (ap (drop 2) w.3) in
    record {
      nests = omega (arith, own.nesting, his.nesting, h.nests, ap nesting w.2, u.nests);
      opens = omega (arith, own.parens, his.parens, h.opens, ap parens w.2, u.opens);
    }

-- the left operand begins the other formula too, and the right one the operand after the sign there
after_sign : (mark : Connective) (a b : Syntax) → IsTrue (fits (joined mark a b)) → Least a → Least b → Least (joined mark a b)
after_sign mark a b fit left right g n m st far e =
    let o = joined-operands mark a b fit in
    let own = joined-is mark a b in
    let row : connective_row mark < state_row n = omega (arith, own.form, far) in
    let split = e ∙ joined-split mark a b m in
    let h = spine mark a (tokens b ++ m) g (own_left mark a b fit) n st row split in
    let l = left g n (connective_token mark ∷ (tokens b ++ m)) st (omega (arith, o.below, row)) split in
    let r = right h.operand h.rest m h.standing (omega (arith, o.row, h.stops)) h.spelled in
    record { nests = omega (arith, own.nesting, h.beside, h.nests, r.nests); opens = omega (arith, own.parens, l.opens, h.opens, r.opens) }

least : (s : Syntax) → IsTrue (fits s) → Least s
least True' fit = leaf True' refl refl
least False' fit = leaf False' refl refl
least (Var' x) fit = leaf (Var' x) refl refl
least (Group' f) fit = in_group f fit
least (Neg' f) fit = let o = and_parts (nat_le (form f) 0) (fits f) fit in after_not f (leb-true (form f) 0 o.0) (least f o.1)
least (Both' f g) fit = let o = joined-operands connective.And f g fit in after_sign connective.And f g fit (least f o.left) (least g o.right)
least (OneOf' f g) fit = let o = joined-operands connective.Or f g fit in after_sign connective.Or f g fit (least f o.left) (least g o.right)
least (If' f g) fit = let o = joined-operands connective.Implies f g fit in after_sign connective.Implies f g fit (least f o.left) (least g o.right)
least (Dia' r f) fit = let o = modal-inside brackets.Diamond r f fit in after_brackets brackets.Diamond r f o.1 o.0 (least f o.2)
least (Box' r f) fit = let o = modal-inside brackets.Box r f fit in after_brackets brackets.Box r f o.1 o.0 (least f o.2)
least (Mu' x f) fit = after_dot binder.Mu x f (least f fit)
least (Nu' x f) fit = after_dot binder.Nu x f (least f fit)

pub no-larger : (s g : Syntax) (more : List Token) → IsTrue (fits s) → IsTrue (fits g) → tokens g ≡ tokens s ++ more → NoLarger s g
no-larger s g more fs fg e =
    let whole : Standing g [] = record { grammatical = fg; ended = omega (arith, any_formula g); reaches = λ b. omega arith } in
    least s fs g [] more whole (omega (arith, any_formula s)) (append-nil (tokens g) ∙ e)

-- A formula that begins another one within the limits is within them.
pub begins-within : (s g : Syntax) (more : List Token) → IsTrue (fits s) → IsTrue (fits g) → tokens g ≡ tokens s ++ more → IsTrue (is_within_limits g)
    → IsTrue (is_within_limits s)
begins-within s g more fs fg e small =
    let w = no-larger s g more fs fg e in
    let o = and_parts (nat_le (nesting g) DEEPEST) (nat_le (parens g) MOST_PARENS) small in
    let low : nesting s ≤ DEEPEST = omega (arith, w.nests, leb-true (nesting g) DEEPEST o.0) in
    let narrow : parens s ≤ MOST_PARENS = omega (arith, w.opens, leb-true (parens g) MOST_PARENS o.1) in
    all_true _ _ (le_true _ _ low) (le_true _ _ narrow)
