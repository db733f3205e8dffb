-- A regular formula's tree is found again from its tokens, so tokens have one tree at most.
use Rattle.std.proofs.Common.{◌≡◌, ℕ, zero, suc, ◌+◌, ◌<◌, ◌≤◌, Bool, true, false, ◌&&◌, List, [], ◌∷◌, ◌++◌, Option, Some, None, option_map, refl, sym, ap}
use Rattle.std.proofs.Common.{◌∙◌, subst, arith, append_assoc, inl, inr}
use Rattle.std.specs.Prelude.{nat_le, nat_lt, ◌==◌, if◌then◌else◌}
use Rattle.std.proofs.lemmas.Bool.{leb-true, ltb-true, lt-ltb, ne_eqb, eq-eqb, and_parts, cases_eq}
use Rattle.grammar.specs.Token.{Token, Name, Atom, TrueWord, FalseWord, TauWord, ImpliesSign, OrSign, AndSign, Bar, NotSign, Open, Close, Dot, ChoiceSign}
use Rattle.grammar.specs.Token.{PlusSign, StarSign}
use Rattle.grammar.specs.Syntax.{RegSyntax, Anything', Nothing', Tau', Names', Quoted', Parens', Not', And', Or', Implies', Star', Plus', Then', Either'}
use Rattle.grammar.specs.Syntax.{reg_form, reg_fits, reg_tokens, reg_nesting, more_names}

-- the least form that can go on with this token
abbrev pub reg_level : Token → ℕ
reg_level Bar = 0
reg_level AndSign = 2
reg_level OrSign = 3
reg_level ImpliesSign = 4
reg_level StarSign = 5
reg_level PlusSign = 5
reg_level Dot = 6
reg_level ChoiceSign = 7
reg_level _ = 8

-- no regular formula of this form goes on with these tokens
abbrev pub reg_stops : ℕ → List Token → Bool
reg_stops k [] = true
reg_stops k (t ∷ ts) = nat_lt k (reg_level t)

abbrev pub Found : Type 0 → Type 0
Found A = Option (A × List Token)

abbrev pub RegReader : Type 0
RegReader = ℕ → List Token → Found RegSyntax

-- names, each after a bar
abbrev names_read : List Token → List (List ℕ) × List Token
names_read (Bar ∷ Name x ∷ ts) = (x ∷ (names_read ts).0, (names_read ts).1)
names_read ts = ([], ts)

-- a found tree within one more operator
abbrev pub within : {A B : Type 0} → (A → B) → Found A → Found B
within f found = option_map (λ p. (f p.0, p.1)) found

abbrev closed : Found RegSyntax → Found RegSyntax
closed (Some (r, Close ∷ ts)) = Some (Parens' r, ts)
closed _ = None

-- an atom or a negation
abbrev unary : RegReader → List Token → Found RegSyntax
unary read (TrueWord ∷ ts) = Some (Anything', ts)
unary read (FalseWord ∷ ts) = Some (Nothing', ts)
unary read (TauWord ∷ ts) = Some (Tau', ts)
unary read (Name x ∷ ts) = Some (Names' x (names_read ts).0, (names_read ts).1)
unary read (Atom bytes ∷ ts) = Some (Quoted' bytes, ts)
unary read (NotSign ∷ ts) = within Not' (read 1 ts)
unary read (Open ∷ ts) = closed (read 7 ts)
unary read _ = None

abbrev joined : Token → RegSyntax → RegSyntax → RegSyntax
joined AndSign r s = And' r s
joined OrSign r s = Or' r s
joined ImpliesSign r s = Implies' r s
joined Dot r s = Then' r s
joined ChoiceSign r s = Either' r s
joined StarSign r s = Star' r
joined PlusSign r s = Plus' r
joined _ r s = r

abbrev chosen : {A : Type 0} → Token → A → A → A
chosen StarSign a b = a
chosen PlusSign a b = a
chosen _ a b = b

-- what goes on after an operand of a form
abbrev pub more : ℕ → RegReader → RegSyntax → List Token → Found RegSyntax
more k read r [] = Some (r, [])
more k read r (t ∷ ts) = if reg_level t == k then chosen t (more k read (joined t r r) ts) (within (joined t r) (read k ts)) else Some (r, t ∷ ts)

abbrev after : ℕ → RegReader → Found RegSyntax → Found RegSyntax
after k read None = None
after k read (Some (r, ts)) = more k read r ts

-- a tree of a form, where `read` finds what stands deeper
abbrev levels : RegReader → ℕ → List Token → Found RegSyntax
levels read zero ts = unary read ts
levels read (suc zero) ts = unary read ts
levels read (suc (suc k)) ts = after (suc (suc k)) read (levels read (suc k) ts)

-- the tree of a form at the front of tokens, if it is no larger than this
abbrev pub reg_read : ℕ → RegReader
reg_read zero k ts = None
reg_read (suc n) k ts = levels (reg_read n) k ts

abbrev pub reg_size : RegSyntax → ℕ
reg_size (Parens' r) = suc (reg_size r)
reg_size (Not' r) = suc (reg_size r)
reg_size (And' r s) = suc (reg_size r + reg_size s)
reg_size (Or' r s) = suc (reg_size r + reg_size s)
reg_size (Implies' r s) = suc (reg_size r + reg_size s)
reg_size (Star' r) = suc (reg_size r)
reg_size (Plus' r) = suc (reg_size r)
reg_size (Then' r s) = suc (reg_size r + reg_size s)
reg_size (Either' r s) = suc (reg_size r + reg_size s)
reg_size _ = 0

-- the operand is whole where the next token cannot go on
settled : (k : ℕ) (read : RegReader) (r : RegSyntax) (m : List Token) → reg_stops k m ≡ true → more k read r m ≡ Some (r, m)
settled k read r [] h = refl
settled k read r (t ∷ ts) h =
    let other : (reg_level t == k) ≡ false = ne_eqb (reg_level t) k (λ e. absurd (omega (arith, ltb-true k (reg_level t) h))) in
    ap (λ b. if b then chosen t (more k read (joined t r r) ts) (within (joined t r) (read k ts)) else Some (r, t ∷ ts)) other

stops_below : (j k : ℕ) (m : List Token) → j ≤ k → reg_stops k m ≡ true → reg_stops j m ≡ true
stops_below j k [] le h = refl
stops_below j k (t ∷ ts) le h = lt-ltb j (reg_level t) (omega (arith, ltb-true k (reg_level t) h))

-- a tree that was found is found as any weaker form
lifted : (read : RegReader) (ts m : List Token) (r : RegSyntax) (j k : ℕ) → suc j ≤ k → levels read (suc j) ts ≡ Some (r, m) → reg_stops k m ≡ true
    → levels read k ts ≡ Some (r, m)
lifted read ts m r j zero le e h = absurd (omega arith)
lifted read ts m r j (suc zero) le e h =
    let same : suc j ≡ suc zero = omega arith in
    subst (λ i. levels read i ts ≡ Some (r, m)) same e
lifted read ts m r j (suc (suc k)) le e h =
    elim (cases_eq (suc j) (suc (suc k))) [
      | inl same ↦ subst (λ i. levels read i ts ≡ Some (r, m)) same e
      | inr other ↦
          let below : levels read (suc k) ts ≡ Some (r, m) = lifted read ts m r j (suc k) (omega arith) e
          (stops_below (suc k) (suc (suc k)) m (omega arith) h) in
          ap (after (suc (suc k)) read) below ∙ settled (suc (suc k)) read r m h
    ]

-- the same of an atom or a negation
lifted_unary : (read : RegReader) (ts m : List Token) (r : RegSyntax) (k : ℕ) → unary read ts ≡ Some (r, m) → reg_stops k m ≡ true
    → levels read k ts ≡ Some (r, m)
lifted_unary read ts m r zero e h = e
lifted_unary read ts m r (suc k) e h = lifted read ts m r 0 (suc k) (omega arith) e h

-- the tree is found, as each form that it has
abbrev Reads : RegSyntax → Type 0
Reads r = (k n : ℕ) (m : List Token) → reg_form r ≤ k → reg_size r ≤ n → reg_stops k m ≡ true → levels (reg_read n) k (reg_tokens r ++ m) ≡ Some (r, m)

-- as an operand of postfix signs, whatever signs follow
abbrev ReadsOn : RegSyntax → Type 0
ReadsOn r = (n : ℕ) (m : List Token) → reg_form r ≤ 5 → reg_size r ≤ n → reg_stops 4 m ≡ true
    → levels (reg_read n) 5 (reg_tokens r ++ m) ≡ more 5 (reg_read n) r m

inner : (r : RegSyntax) → Reads r → (k n : ℕ) (m : List Token) → reg_form r ≤ k → reg_size r < n → reg_stops k m ≡ true
    → reg_read n k (reg_tokens r ++ m) ≡ Some (r, m)
inner r f k zero m a b c = absurd (omega arith)
inner r f k (suc n) m a b c = f k n m a (omega arith) c

names_found : (names : List (List ℕ)) (m : List Token) → reg_stops 0 m ≡ true → names_read (more_names names ++ m) ≡ (names, m)
names_found [] m h = none m h
  where
    none : (m : List Token) → reg_stops 0 m ≡ true → names_read m ≡ ([], m)
    none [] h = refl
    none (Bar ∷ ts) h = cc
    none (t ∷ ts) h = refl
names_found (x ∷ names) m h = ap (λ p. (x ∷ p.0, p.1)) (names_found names m h)

and_three : (a b c : Bool) → (a && b && c) ≡ true → (a ≡ true) × (b ≡ true) × (c ≡ true)
and_three a b c h = let x = and_parts (a && b) c h in let y = and_parts a b x.0 in (y.0, y.1, x.1)

-- of an operator with two operands of these forms
abbrev pub Operands : (i j : ℕ) → RegSyntax → RegSyntax → Type 0
Operands i j r s = (reg_form r ≤ i) × (reg_form s ≤ j) × (reg_fits r ≡ true) × (reg_fits s ≡ true)

pub operands : (i j : ℕ) (r s : RegSyntax) → (nat_le (reg_form r) i && nat_le (reg_form s) j && reg_fits r && reg_fits s) ≡ true → Operands i j r s
operands i j r s h =
    let x = and_parts (nat_le (reg_form r) i && nat_le (reg_form s) j && reg_fits r) (reg_fits s) h in
    let y = and_three (nat_le (reg_form r) i) (nat_le (reg_form s) j) (reg_fits r) x.0 in
    (leb-true (reg_form r) i y.0, leb-true (reg_form s) j y.1, y.2, x.1)

-- a tree of two operands that an operator joins
join_finds : (t : Token) (a b : RegSyntax) (j : ℕ) → reg_level t ≡ suc (suc j) → ((x y : Found RegSyntax) → chosen t x y ≡ y)
    → Operands (suc j) (suc (suc j)) a b → Reads a → Reads b
    → (k n : ℕ) (m : List Token) → suc (suc j) ≤ k → suc (reg_size a + reg_size b) ≤ n → reg_stops k m ≡ true
    → levels (reg_read n) k ((reg_tokens a ++ t ∷ reg_tokens b) ++ m) ≡ Some (joined t a b, m)
join_finds t a b j level infix' o ra rb k n m above size h =
    let rest : List Token = reg_tokens b ++ m in
    let stop : reg_stops (suc j) (t ∷ rest) ≡ true = lt-ltb (suc j) (reg_level t) (omega (arith, level)) in
    let left : levels (reg_read n) (suc j) (reg_tokens a ++ (t ∷ rest)) ≡ Some (a, t ∷ rest) = ra (suc j) n (t ∷ rest) o.0 (omega arith) stop in
    let right : reg_read n (suc (suc j)) rest ≡ Some (b, m) = inner b rb (suc (suc j)) n m o.1 (omega arith) (stops_below (suc (suc j)) k m above h) in
    let here : (reg_level t == suc (suc j)) ≡ true = eq-eqb (reg_level t) (suc (suc j)) level in
    let both : levels (reg_read n) (suc (suc j)) (reg_tokens a ++ (t ∷ rest)) ≡ Some (joined t a b, m) =
    ap (after (suc (suc j)) (reg_read n)) left
    ∙ ap (λ (c : Bool). if c then chosen t (more (suc (suc j)) (reg_read n) (joined t a a) rest)
    (within (joined t a) (reg_read n (suc (suc j)) rest)) else Some (a, t ∷ rest)) here
    ∙ infix' (more (suc (suc j)) (reg_read n) (joined t a a) rest) (within (joined t a) (reg_read n (suc (suc j)) rest))
    ∙ ap (within (joined t a)) right in
    ap (levels (reg_read n) k) (append_assoc (reg_tokens a) (t ∷ reg_tokens b) m)
    ∙ lifted (reg_read n) (reg_tokens a ++ (t ∷ rest)) m (joined t a b) (suc j) k above both h

-- a tree under a postfix sign
mark_finds : (t : Token) (a : RegSyntax) → reg_level t ≡ 5 → ((x y : Found RegSyntax) → chosen t x y ≡ x) → reg_form a ≤ 5 → ReadsOn a
    → (n : ℕ) (m : List Token) → suc (reg_size a) ≤ n → levels (reg_read n) 5 ((reg_tokens a ++ t ∷ []) ++ m) ≡ more 5 (reg_read n) (joined t a a) m
mark_finds t a level postfix fa ra n m size =
    let stop : reg_stops 4 (t ∷ m) ≡ true = lt-ltb 4 (reg_level t) (omega (arith, level)) in
    let here : (reg_level t == 5) ≡ true = eq-eqb (reg_level t) 5 level in
    ap (levels (reg_read n) 5) (append_assoc (reg_tokens a) (t ∷ []) m)
    ∙ ra n (t ∷ m) fa (omega arith) stop
    ∙ ap (λ (c : Bool). if c then chosen t (more 5 (reg_read n) (joined t a a) m) (within (joined t a) (reg_read n 5 m)) else Some (a, t ∷ m)) here
    ∙ postfix (more 5 (reg_read n) (joined t a a) m) (within (joined t a) (reg_read n 5 m))

-- what is found as an operand is found before signs
reads_on : (r : RegSyntax) → reg_form r ≤ 4 → Reads r → ReadsOn r
reads_on r low f n m low' size h = ap (after 5 (reg_read n)) (f 4 n m low size h)

-- a leaf or a negation, which is found as a unary form
from_unary : (r : RegSyntax) → ((n : ℕ) (m : List Token) → reg_size r ≤ n → reg_stops (reg_form r) m ≡ true
    → unary (reg_read n) (reg_tokens r ++ m) ≡ Some (r, m)) → Reads r
from_unary r f k n m low size h = lifted_unary (reg_read n) (reg_tokens r ++ m) m r k (f n m size (stops_below (reg_form r) k m low h)) h

abbrev Finds : RegSyntax → Type 0
Finds r = Reads r × ReadsOn r

operand : (r : RegSyntax) → reg_form r ≤ 4 → Reads r → Finds r
operand r low f = (f, reads_on r low f)

whole : (r : RegSyntax) → 5 < reg_form r → Reads r → Finds r
whole r high f = (f, λ n m low size h. absurd (omega arith))

settle : (n k : ℕ) (r : RegSyntax) (ts m : List Token) → 5 ≤ k → reg_stops k m ≡ true → levels (reg_read n) 5 ts ≡ more 5 (reg_read n) r m
    → levels (reg_read n) k ts ≡ Some (r, m)
settle n k r ts m low h e = lifted (reg_read n) ts m r 4 k low (e ∙ settled 5 (reg_read n) r m (stops_below 5 k m low h)) h

pub any_form : (r : RegSyntax) → reg_form r ≤ 7
any_form (Not' r) = omega arith
any_form (And' r s) = omega arith
any_form (Or' r s) = omega arith
any_form (Implies' r s) = omega arith
any_form (Star' r) = omega arith
any_form (Plus' r) = omega arith
any_form (Then' r s) = omega arith
any_form (Either' r s) = omega arith
any_form _ = omega arith

pub finds : (r : RegSyntax) → reg_fits r ≡ true → Finds r
finds Anything' h = operand Anything' (omega arith) (from_unary Anything' (λ n m size stop. refl))
finds Nothing' h = operand Nothing' (omega arith) (from_unary Nothing' (λ n m size stop. refl))
finds Tau' h = operand Tau' (omega arith) (from_unary Tau' (λ n m size stop. refl))
finds (Names' x names) h = operand (Names' x names) (omega arith)
    (from_unary (Names' x names) (λ n m size stop. ap (λ p. Some (Names' x p.0, p.1)) (names_found names m stop)))
finds (Quoted' bytes) h = operand (Quoted' bytes) (omega arith) (from_unary (Quoted' bytes) (λ n m size stop. refl))
finds (Parens' r) h =
    let f = (finds r h).0 in
    operand (Parens' r) (omega arith) (from_unary (Parens' r) (λ n m size stop.
    ap (λ ts. closed (reg_read n 7 ts)) (append_assoc (reg_tokens r) (Close ∷ []) m) ∙ ap closed (inner r f 7 n (Close ∷ m) (any_form r) (omega arith) refl)))
finds (Not' r) h =
    let o = and_parts (nat_le (reg_form r) 1) (reg_fits r) h in
    let f = (finds r o.1).0 in
    operand (Not' r) (omega arith) (from_unary (Not' r) (λ n m size stop. ap (within Not') (inner r f 1 n m (leb-true (reg_form r) 1 o.0) (omega arith) stop)))
finds (And' r s) h =
    let o = operands 1 2 r s h in
    operand (And' r s) (omega arith) (join_finds AndSign r s 0 refl (λ x y. refl) o (finds r o.2).0 (finds s o.3).0)
finds (Or' r s) h =
    let o = operands 2 3 r s h in
    operand (Or' r s) (omega arith) (join_finds OrSign r s 1 refl (λ x y. refl) o (finds r o.2).0 (finds s o.3).0)
finds (Implies' r s) h =
    let o = operands 3 4 r s h in
    operand (Implies' r s) (omega arith) (join_finds ImpliesSign r s 2 refl (λ x y. refl) o (finds r o.2).0 (finds s o.3).0)
finds (Star' r) h =
    let o = and_parts (nat_le (reg_form r) 5) (reg_fits r) h in
    let on = mark_finds StarSign r refl (λ x y. refl) (leb-true (reg_form r) 5 o.0) (finds r o.1).1 in
    (λ k n m low size stop. settle n k (Star' r) ((reg_tokens r ++ StarSign ∷ []) ++ m) m low stop (on n m size), λ n m low size stop. on n m size)
finds (Plus' r) h =
    let o = and_parts (nat_le (reg_form r) 5) (reg_fits r) h in
    let on = mark_finds PlusSign r refl (λ x y. refl) (leb-true (reg_form r) 5 o.0) (finds r o.1).1 in
    (λ k n m low size stop. settle n k (Plus' r) ((reg_tokens r ++ PlusSign ∷ []) ++ m) m low stop (on n m size), λ n m low size stop. on n m size)
finds (Then' r s) h =
    let o = operands 5 6 r s h in
    whole (Then' r s) (omega arith) (join_finds Dot r s 4 refl (λ x y. refl) o (finds r o.2).0 (finds s o.3).0)
finds (Either' r s) h =
    let o = operands 6 7 r s h in
    whole (Either' r s) (omega arith) (join_finds ChoiceSign r s 5 refl (λ x y. refl) o (finds r o.2).0 (finds s o.3).0)

-- The tree of a regular formula is found again at the front of its tokens, where the next token cannot go on.
pub reg_found : (r : RegSyntax) (k n : ℕ) (m : List Token) → reg_fits r ≡ true → reg_form r ≤ k → reg_size r < n → reg_stops k m ≡ true
    → reg_read n k (reg_tokens r ++ m) ≡ Some (r, m)
reg_found r k n m fit low size stop = inner r (finds r fit).0 k n m low size stop

pub some_once : {A : Type 0} (x y : A) → Some x ≡ Some y → x ≡ y
some_once x y e = cc

pub found_once : {A : Type 0} (x y : A × List Token) → Some x ≡ Some y → (x.0 ≡ y.0) × (x.1 ≡ y.1)
found_once x y e = let p = some_once x y e in (ap (λ q. q.0) p, ap (λ q. q.1) p)

-- Two regular formulas of one form at the front of the same tokens, each followed by a token that cannot go on, are one.
pub one_regular : (k : ℕ) (r s : RegSyntax) (m n : List Token) → reg_fits r ≡ true → reg_fits s ≡ true → reg_form r ≤ k → reg_form s ≤ k
    → reg_stops k m ≡ true → reg_stops k n ≡ true
    → reg_tokens r ++ m ≡ reg_tokens s ++ n → (r ≡ s) × (m ≡ n)
one_regular k r s m n fr fs lr ls sm sn e =
    let size : ℕ = suc (reg_size r + reg_size s) in
    found_once (r, m) (s, n) (sym (reg_found r k size m fr lr (omega arith) sm) ∙ (ap (reg_read size k) e ∙ reg_found s k size n fs ls (omega arith) sn))

-- after postfix signs a formula is at least as deep, and what's left may stand after such a sign
pub more_grows : (read : RegReader) (r s : RegSyntax) (ts m : List Token) → reg_stops 5 m ≡ true → more 5 read r ts ≡ Some (s, m)
    → (reg_nesting r ≤ reg_nesting s) × (reg_stops 4 ts ≡ true)
more_grows read r s [] m stop e = let d : reg_nesting r ≡ reg_nesting s = ap reg_nesting (found_once (r, []) (s, m) e).0 in (omega arith, refl)
more_grows read r s (StarSign ∷ ts) m stop e = let p = more_grows read (Star' r) s ts m stop e in (omega (arith, p.0), refl)
more_grows read r s (PlusSign ∷ ts) m stop e = let p = more_grows read (Plus' r) s ts m stop e in (omega (arith, p.0), refl)
more_grows read r s (t ∷ ts) m stop e =
    let f = found_once (r, t ∷ ts) (s, m) e in
    let d : reg_nesting r ≡ reg_nesting s = ap reg_nesting f.0 in
    (omega arith, stops_below 4 5 (t ∷ ts) (omega arith) (subst (λ n. reg_stops 5 n ≡ true) (sym f.1) stop))

-- A postfixed formula at the front of tokens is found from any formula there that postfix signs follow.
pub postfix_found : (left s : RegSyntax) (ts m : List Token) → reg_fits left ≡ true → reg_fits s ≡ true → reg_form left ≤ 5 → reg_form s ≤ 5
    → reg_stops 4 ts ≡ true → reg_stops 5 m ≡ true
    → reg_tokens s ++ m ≡ reg_tokens left ++ ts → more 5 (reg_read (reg_size left + reg_size s)) left ts ≡ Some (s, m)
postfix_found left s ts m fl fs ll ls st sm e =
    let n : ℕ = reg_size left + reg_size s in
    sym ((finds left fl).1 n ts ll (omega arith) st) ∙ (ap (levels (reg_read n) 5) (sym e) ∙ (finds s fs).0 5 n m ls (omega arith) sm)
