-- Worked examples of refused formulas.
use Rattle.std.specs.Prelude.{◌≡◌, ℕ, zero, suc, ◌≤◌, IsTrue, List, [], ◌∷◌, ◌++◌, codes, refl}
use Rattle.std.proofs.Common.{arith, inl, inr, sym, subst, ◌∙◌, append-nil, append_assoc, true≢false}
use Rattle.std.proofs.lemmas.Bool.Decides.{nat_tests}
use Rattle.grammar.specs.Token.{Token, Name, Dot, Less, Greater, Open, Close, AndSign, OrSign, ImpliesSign, ChoiceSign, PlusSign, StarSign, NotSign, TrueWord}
use Rattle.grammar.specs.Token.{MuWord, Segment, Blank, Comment, Word, IsPiece, Cuts}
use Rattle.grammar.specs.Syntax.{Syntax, RegSyntax, Names', Parens', And', Or', Implies', Star', Plus', Then', Either', reg_tokens, Dia', True', Var', Mu'}
use Rattle.grammar.specs.Syntax.{Neg', Both', OneOf', If', tokens, nesting, is_within_limits}
use Rattle.formula.specs.Fault.{BeginsFormula, BeginsWithin, HasFormulaFault, IsTokens, NothingBegins}
use Rattle.formula.specs.declared.error.FormulaFault.TheVariants.{NoToken, Unexpected, Unfinished, ReservedWord, Unbound, OddNegations, NotAnAction, TooLarge}
use Rattle.formula.proofs.Tokenless.{sign-tokenless}
use Rattle.vectors.specs.Formulas.{written}

-- mu X. !X: the variable at offset 7 stands under one negation
odd : HasFormulaFault (codes "mu X. !X") OddNegations 7
odd =
    let pieces : List Segment = Word MuWord ∷ Blank 32 ∷ Word (Name (codes "X")) ∷ Word Dot ∷ Blank 32 ∷ Word NotSign ∷ Word (Name (codes "X")) ∷ [] in
    let s = Mu' (codes "X") (Neg' (Var' (codes "X"))) in
    let text = written pieces s (tt, refl, (refl, refl, (refl, refl, (tt, refl, (refl, refl, (tt, refl, (refl, refl, tt))))))) refl refl refl in
    inr (omega arith, inr (inr (pieces, s, 4, [], text, refl, refl, refl, refl)))

-- mu X. Y: no binder
unbound : HasFormulaFault (codes "mu X. Y") Unbound 6
unbound =
    let pieces : List Segment = Word MuWord ∷ Blank 32 ∷ Word (Name (codes "X")) ∷ Word Dot ∷ Blank 32 ∷ Word (Name (codes "Y")) ∷ [] in
    let s = Mu' (codes "X") (Var' (codes "Y")) in
    let text = written pieces s (tt, refl, (refl, refl, (refl, refl, (tt, refl, (refl, refl, (refl, refl, tt)))))) refl refl refl in
    inr (omega arith, inr (inr (pieces, s, 3, [], text, refl, refl, refl, refl)))

-- <(a.b) && c>true: the operand at offset 1 is no action formula
no_action : HasFormulaFault (codes "<(a.b) && c>true") NotAnAction 1
no_action =
    let pieces : List Segment = Word Less ∷ Word Open ∷ Word (Name (codes "a")) ∷ Word Dot ∷ Word (Name (codes "b")) ∷ Word Close ∷ Blank 32
    ∷ Word AndSign ∷ Blank 32 ∷ Word (Name (codes "c")) ∷ Word Greater ∷ Word TrueWord ∷ [] in
    let s = Dia' (And' (Parens' (Then' (Names' (codes "a") []) (Names' (codes "b") []))) (Names' (codes "c") [])) True' in
    let text = written pieces s
    (tt, refl, (tt, refl, (refl, refl, (tt, refl, (refl, refl, (tt, refl, (refl, refl, (tt, refl, (refl, refl, (refl, refl, (tt, refl, (tt, refl, tt))))))))))))
    refl refl refl in
    inr (omega arith, inr (inr (pieces, s, 1, [], text, refl, refl, refl)))

-- forall: a reserved word
reserved : HasFormulaFault (codes "forall") ReservedWord 0
reserved = inr (omega arith, inl ([], codes "forall", [], refl, tt, refl, refl, refl, refl))

not_nothing : {A : Type 0} (xs : List A) (y : A) (ys : List A) → xs ++ (y ∷ ys) ≡ [] → ⊥
not_nothing [] y ys e = cc
not_nothing (x ∷ xs) y ys e = cc

-- each formula has a token
some_token : (s : Syntax) → tokens s ≡ [] → ⊥
some_token (Both' f g) e = not_nothing (tokens f) _ _ e
some_token (OneOf' f g) e = not_nothing (tokens f) _ _ e
some_token (If' f g) e = not_nothing (tokens f) _ _ e
some_token _ e = cc

-- the empty text
empty : HasFormulaFault [] Unfinished 0
empty =
    let text : IsTokens [] [] = record { joined = refl; cut = tt; decided = refl; free = refl } in
    inr (omega arith, inr (inl ([], text, (True', TrueWord ∷ [], refl, refl, refl), λ s h e. some_token s e, refl)))

-- no regular formula begins with a postfix sign
no_plus : (r : RegSyntax) (ts more : List Token) → reg_tokens r ++ ts ≡ PlusSign ∷ more → ⊥
no_plus (And' r s) ts more e = no_plus r (AndSign ∷ (reg_tokens s ++ ts)) more (sym (append_assoc (reg_tokens r) (AndSign ∷ reg_tokens s) ts) ∙ e)
no_plus (Or' r s) ts more e = no_plus r (OrSign ∷ (reg_tokens s ++ ts)) more (sym (append_assoc (reg_tokens r) (OrSign ∷ reg_tokens s) ts) ∙ e)
no_plus (Implies' r s) ts more e = no_plus r (ImpliesSign ∷ (reg_tokens s ++ ts)) more (sym (append_assoc (reg_tokens r) (ImpliesSign ∷ reg_tokens s) ts) ∙ e)
no_plus (Star' r) ts more e = no_plus r (StarSign ∷ ts) more (sym (append_assoc (reg_tokens r) (StarSign ∷ []) ts) ∙ e)
no_plus (Plus' r) ts more e = no_plus r (PlusSign ∷ ts) more (sym (append_assoc (reg_tokens r) (PlusSign ∷ []) ts) ∙ e)
no_plus (Then' r s) ts more e = no_plus r (Dot ∷ (reg_tokens s ++ ts)) more (sym (append_assoc (reg_tokens r) (Dot ∷ reg_tokens s) ts) ∙ e)
no_plus (Either' r s) ts more e = no_plus r (ChoiceSign ∷ (reg_tokens s ++ ts)) more (sym (append_assoc (reg_tokens r) (ChoiceSign ∷ reg_tokens s) ts) ∙ e)
no_plus _ ts more e = cc

no_less_plus : (s : Syntax) (ts more : List Token) → tokens s ++ ts ≡ Less ∷ PlusSign ∷ more → ⊥
no_less_plus (Both' f g) ts more e = no_less_plus f (AndSign ∷ (tokens g ++ ts)) more (sym (append_assoc (tokens f) (AndSign ∷ tokens g) ts) ∙ e)
no_less_plus (OneOf' f g) ts more e = no_less_plus f (OrSign ∷ (tokens g ++ ts)) more (sym (append_assoc (tokens f) (OrSign ∷ tokens g) ts) ∙ e)
no_less_plus (If' f g) ts more e = no_less_plus f (ImpliesSign ∷ (tokens g ++ ts)) more (sym (append_assoc (tokens f) (ImpliesSign ∷ tokens g) ts) ∙ e)
no_less_plus (Dia' r f) ts more e = let q : (reg_tokens r ++ Greater ∷ tokens f) ++ ts ≡ PlusSign ∷ more = cc
    in no_plus r (Greater ∷ (tokens f ++ ts)) more (sym (append_assoc (reg_tokens r) (Greater ∷ tokens f) ts) ∙ q)
no_less_plus _ ts more e = cc

-- <+>true: the `+` is the postfix sign, and no formula begins so
unexpected : HasFormulaFault (codes "<+>true") Unexpected 1
unexpected =
    let pieces : List Segment = Word Less ∷ Word PlusSign ∷ Word Greater ∷ Word TrueWord ∷ [] in
    let cut : Cuts pieces [] = (tt, refl, (tt, refl, (tt, refl, (tt, refl, tt)))) in
    let text : IsTokens (codes "<+>true") pieces = record { joined = refl; cut = cut; decided = refl; free = refl } in
    let begins : BeginsWithin (Less ∷ []) = (Dia' (Names' (codes "a") []) True', Name (codes "a") ∷ Greater ∷ TrueWord ∷ [], refl, refl, refl) in
    let never : BeginsFormula (Less ∷ PlusSign ∷ []) → ⊥ = λ w. no_less_plus w.0 [] w.1 (append-nil (tokens w.0) ∙ w.3) in
    inr (omega arith, inr (inl (pieces, Less ∷ [], Greater ∷ TrueWord ∷ [], PlusSign, text, refl, begins, never, refl)))

-- n negation signs, and then these tokens
abbrev nots : ℕ → List Token → List Token
nots zero ts = ts
nots (suc n) ts = NotSign ∷ nots n ts

abbrev not_pieces : ℕ → List Segment → List Segment
not_pieces zero ps = ps
not_pieces (suc n) ps = Word NotSign ∷ not_pieces n ps

abbrev negations : ℕ → Syntax → Syntax
negations zero f = f
negations (suc n) f = Neg' (negations n f)

-- n times `!`, and then `true`
abbrev not_true : ℕ → List ℕ
not_true zero = codes "true"
not_true (suc n) = 33 ∷ not_true n

not_true_cut : (n : ℕ) → Cuts (not_pieces n (Word TrueWord ∷ [])) []
not_true_cut zero = (tt, refl, tt)
not_true_cut (suc n) = (tt, refl, not_true_cut n)

-- each sign nests once more
nested : (n : ℕ) (s : Syntax) (ts more : List Token) → tokens s ++ ts ≡ nots n more → n ≤ nesting s
nested zero s ts more e = omega arith
nested (suc n) (Neg' f) ts more e = let q : tokens f ++ ts ≡ nots n more = cc in omega (arith, nested n f ts more q)
nested (suc n) (Both' f g) ts more e =
    let q = nested (suc n) f (AndSign ∷ (tokens g ++ ts)) more (sym (append_assoc (tokens f) (AndSign ∷ tokens g) ts) ∙ e) in omega (arith, q)
nested (suc n) (OneOf' f g) ts more e =
    let q = nested (suc n) f (OrSign ∷ (tokens g ++ ts)) more (sym (append_assoc (tokens f) (OrSign ∷ tokens g) ts) ∙ e) in omega (arith, q)
nested (suc n) (If' f g) ts more e =
    let q = nested (suc n) f (ImpliesSign ∷ (tokens g ++ ts)) more (sym (append_assoc (tokens f) (ImpliesSign ∷ tokens g) ts) ∙ e) in omega (arith, q)
nested (suc n) _ ts more e = cc

-- a formula that begins with 257 signs isn't within the limits
too_deep : (s : Syntax) (more : List Token) → tokens s ≡ nots 257 more → IsTrue (is_within_limits s) → ⊥
too_deep s more e h = let q = nested 257 s [] more (append-nil (tokens s) ∙ e) in grind (arith, nat_tests, q, h)

-- 257 times `!`, and then true: the last `!` is one too many
too_nested : HasFormulaFault (not_true 257) TooLarge 256
too_nested =
    let pieces = not_pieces 257 (Word TrueWord ∷ []) in
    let text : IsTokens (not_true 257) pieces = record { joined = refl; cut = not_true_cut 257; decided = refl; free = refl } in
    let within : BeginsWithin (nots 256 []) = (negations 256 True', TrueWord ∷ [], refl, refl, refl) in
    let begins : BeginsFormula (nots 257 []) = (negations 257 True', TrueWord ∷ [], refl, refl) in
    inr (omega arith, inr (inl (pieces, nots 256 [], TrueWord ∷ [], NotSign, text, refl, within, begins, λ w. too_deep w.0 w.1 w.4 w.3, refl)))

-- a lone `&` begins nothing
lone_and : (more : List ℕ) → NothingBegins (38 ∷ 32 ∷ more)
lone_and more (Blank byte) rest h k e = let q : ◌≡◌ {A = ℕ} 38 byte = cc in absurd (true≢false (sym (subst (λ c. IsPiece (Blank c)) (sym q) h)))
lone_and more (Comment bytes) rest h k e = let q : ◌≡◌ {A = ℕ} 38 37 = cc in absurd (omega (arith, q))
lone_and more (Word token) rest h k e =
    sign-tokenless (38 ∷ 32 ∷ more) NoToken (omega arith) (λ q. omega (arith, q)) refl (refl, refl, refl) token
    (record { rest = rest; joined = e; valid = h; ends = k })

-- true & true: at the `&` no token begins
no_token : HasFormulaFault (codes "true & true") NoToken 5
no_token = inr (omega arith, inl (Word TrueWord ∷ Blank 32 ∷ [], codes "& true", refl, (tt, refl, (refl, refl, tt)), refl, (λ e. cc), lone_and (codes "true"), refl))
