-- A formula's tree is found again from its tokens, so tokens have one tree at most.
use Rattle.std.proofs.Common.{◌≡◌, ℕ, zero, suc, ◌+◌, ◌<◌, ◌≤◌, Bool, true, false, not, ◌&&◌, List, [], ◌∷◌, ◌++◌, Some, None, refl, sym, ap, ◌∙◌, subst}
use Rattle.std.proofs.Common.{arith, append_assoc, append-nil, inl, inr}
use Rattle.std.specs.Prelude.{nat_le, nat_lt, ◌==◌, if◌then◌else◌}
use Rattle.std.proofs.lemmas.Bool.{leb-true, ltb-true, lt-ltb, ne_eqb, eq-eqb, and_parts, not-true, cases_eq}
use Rattle.grammar.specs.Token.{Token, Name, TrueWord, FalseWord, MuWord, NuWord, ImpliesSign, OrSign, AndSign, NotSign, Less, Greater, OpenBox, CloseBox}
use Rattle.grammar.specs.Token.{Open, Close, Dot}
use Rattle.grammar.specs.Syntax.{RegSyntax, reg_fits, reg_tokens, Syntax, True', False', Var', Group', Neg', Both', OneOf', If', Dia', Box', Mu', Nu', form}
use Rattle.grammar.specs.Syntax.{ends_in_binder, left_fits, fits, tokens}
use Rattle.grammar.proofs.RegularUnique.{Found, RegReader, within, reg_level, reg_size, reg_read, reg_found, any_form, found_once}

-- the least form that can go on with this token
abbrev pub level : Token → ℕ
level AndSign = 1
level OrSign = 2
level ImpliesSign = 3
level _ = 4

-- no formula of this form goes on with these tokens
abbrev pub stops : ℕ → List Token → Bool
stops k [] = true
stops k (t ∷ ts) = nat_lt k (level t)

-- nor does a formula that ends in a binder
abbrev pub binder_stops : Bool → List Token → Bool
binder_stops true m = stops 3 m
binder_stops false m = true

abbrev Reader : Type 0
Reader = ℕ → List Token → Found Syntax

abbrev grouped : Found Syntax → Found Syntax
grouped (Some (f, Close ∷ ts)) = Some (Group' f, ts)
grouped _ = None

abbrev diamond : Reader → Found RegSyntax → Found Syntax
diamond read (Some (r, Greater ∷ ts)) = within (Dia' r) (read 0 ts)
diamond read _ = None

abbrev box : Reader → Found RegSyntax → Found Syntax
box read (Some (r, CloseBox ∷ ts)) = within (Box' r) (read 0 ts)
box read _ = None

abbrev unary : RegReader → Reader → List Token → Found Syntax
unary regular read (TrueWord ∷ ts) = Some (True', ts)
unary regular read (FalseWord ∷ ts) = Some (False', ts)
unary regular read (Name x ∷ ts) = Some (Var' x, ts)
unary regular read (Open ∷ ts) = grouped (read 3 ts)
unary regular read (NotSign ∷ ts) = within Neg' (read 0 ts)
unary regular read (Less ∷ ts) = diamond read (regular 7 ts)
unary regular read (OpenBox ∷ ts) = box read (regular 7 ts)
unary regular read (MuWord ∷ Name x ∷ Dot ∷ ts) = within (Mu' x) (read 3 ts)
unary regular read (NuWord ∷ Name x ∷ Dot ∷ ts) = within (Nu' x) (read 3 ts)
unary regular read _ = None

abbrev joined : Token → Syntax → Syntax → Syntax
joined AndSign f g = Both' f g
joined OrSign f g = OneOf' f g
joined _ f g = If' f g

-- what goes on after an operand of a form
abbrev more : ℕ → Reader → Syntax → List Token → Found Syntax
more k read f [] = Some (f, [])
more k read f (t ∷ ts) = if level t == k then within (joined t f) (read k ts) else Some (f, t ∷ ts)

abbrev after : ℕ → Reader → Found Syntax → Found Syntax
after k read None = None
after k read (Some (f, ts)) = more k read f ts

-- a tree of a form, where the readers find what stands deeper
abbrev levels : RegReader → Reader → ℕ → List Token → Found Syntax
levels regular read zero ts = unary regular read ts
levels regular read (suc k) ts = after (suc k) read (levels regular read k ts)

-- the tree of a form at the front of tokens, if it is no larger than this
abbrev pub read : ℕ → Reader
read zero k ts = None
read (suc n) k ts = levels (reg_read n) (read n) k ts

abbrev pub size : Syntax → ℕ
size (Group' f) = suc (size f)
size (Neg' f) = suc (size f)
size (Both' f g) = suc (size f + size g)
size (OneOf' f g) = suc (size f + size g)
size (If' f g) = suc (size f + size g)
size (Dia' r f) = suc (reg_size r + size f)
size (Box' r f) = suc (reg_size r + size f)
size (Mu' name f) = suc (size f)
size (Nu' name f) = suc (size f)
size _ = 0

pub any_formula : (f : Syntax) → form f ≤ 3
any_formula (Both' f g) = omega arith
any_formula (OneOf' f g) = omega arith
any_formula (If' f g) = omega arith
any_formula _ = omega arith

-- the operand is whole where the next token cannot go on
settled : (k : ℕ) (read : Reader) (f : Syntax) (m : List Token) → stops k m ≡ true → more k read f m ≡ Some (f, m)
settled k read f [] h = refl
settled k read f (t ∷ ts) h =
    let other : (level t == k) ≡ false = ne_eqb (level t) k (λ e. absurd (omega (arith, ltb-true k (level t) h))) in
    ap (λ b. if b then within (joined t f) (read k ts) else Some (f, t ∷ ts)) other

stops_below : (j k : ℕ) (m : List Token) → j ≤ k → stops k m ≡ true → stops j m ≡ true
stops_below j k [] le h = refl
stops_below j k (t ∷ ts) le h = lt-ltb j (level t) (omega (arith, ltb-true k (level t) h))

-- a tree that was found is found as any weaker form
lifted : (regular : RegReader) (read : Reader) (ts m : List Token) (f : Syntax) (j k : ℕ) → j ≤ k → levels regular read j ts ≡ Some (f, m) → stops k m ≡ true
    → levels regular read k ts ≡ Some (f, m)
lifted regular read ts m f j zero le e h =
    let same : j ≡ zero = omega arith in
    subst (λ i. levels regular read i ts ≡ Some (f, m)) same e
lifted regular read ts m f j (suc k) le e h =
    elim (cases_eq j (suc k)) [
      | inl same ↦ subst (λ i. levels regular read i ts ≡ Some (f, m)) same e
      | inr other ↦
          let below : levels regular read k ts ≡ Some (f, m) = lifted regular read ts m f j k (omega arith) e (stops_below k (suc k) m (omega arith) h) in
          ap (after (suc k) read) below ∙ settled (suc k) read f m h
    ]

-- the tree is found, as each form that it has
abbrev Reads : Syntax → Type 0
Reads f = (k n : ℕ) (m : List Token) → form f ≤ k → size f ≤ n → stops k m ≡ true → binder_stops (ends_in_binder f) m ≡ true
    → levels (reg_read n) (read n) k (tokens f ++ m) ≡ Some (f, m)

inner : (f : Syntax) → Reads f → (k n : ℕ) (m : List Token) → form f ≤ k → size f < n → stops k m ≡ true → binder_stops (ends_in_binder f) m ≡ true
    → read n k (tokens f ++ m) ≡ Some (f, m)
inner f reads k zero m a b c d = absurd (omega arith)
inner f reads k (suc n) m a b c d = reads k n m a (omega arith) c d

-- a tree of two operands that an operator joins
joins : (t : Token) (a b : Syntax) (j : ℕ) → level t ≡ suc j → left_fits j a ≡ true → form b ≤ suc j → Reads a → Reads b
    → (k n : ℕ) (m : List Token) → suc j ≤ k → suc (size a + size b) ≤ n → stops k m ≡ true → binder_stops (ends_in_binder b) m ≡ true
    → levels (reg_read n) (read n) k ((tokens a ++ t ∷ tokens b) ++ m) ≡ Some (joined t a b, m)
joins t a b j at left fb ra rb k n m above small h d =
    let rest : List Token = tokens b ++ m in
    let l = and_parts (nat_le (form a) j) (not (ends_in_binder a)) left in
    let stop : stops j (t ∷ rest) ≡ true = lt-ltb j (level t) (omega (arith, at)) in
    let free : binder_stops (ends_in_binder a) (t ∷ rest) ≡ true = ap (λ e. binder_stops e (t ∷ rest)) (not-true (ends_in_binder a) l.1) in
    let first : levels (reg_read n) (read n) j (tokens a ++ (t ∷ rest))
    ≡ Some (a, t ∷ rest) = ra j n (t ∷ rest) (leb-true (form a) j l.0) (omega arith) stop free in
    let second : read n (suc j) rest ≡ Some (b, m) = inner b rb (suc j) n m fb (omega arith) (stops_below (suc j) k m above h) d in
    let here : (level t == suc j) ≡ true = eq-eqb (level t) (suc j) at in
    let both : levels (reg_read n) (read n) (suc j) (tokens a ++ (t ∷ rest)) ≡ Some (joined t a b, m) =
    ap (after (suc j) (read n)) first
    ∙ ap (λ (c : Bool). if c then within (joined t a) (read n (suc j) rest) else Some (a, t ∷ rest)) here
    ∙ ap (within (joined t a)) second in
    ap (levels (reg_read n) (read n) k) (append_assoc (tokens a) (t ∷ tokens b) m)
    ∙ lifted (reg_read n) (read n) (tokens a ++ (t ∷ rest)) m (joined t a b) (suc j) k above both h

-- a tree that is found as a unary form
from_unary : (f : Syntax)
    → ((n : ℕ) (m : List Token) → size f ≤ n → stops 0 m ≡ true → binder_stops (ends_in_binder f) m ≡ true
    → unary (reg_read n) (read n) (tokens f ++ m) ≡ Some (f, m)) → Reads f
from_unary f found k n m low small h d = lifted (reg_read n) (read n) (tokens f ++ m) m f 0 k (omega arith)
    (found n m small (stops_below 0 k m (omega arith) h) d) h

-- of an operator with two operands of these forms
abbrev pub Operands : (i j : ℕ) → Syntax → Syntax → Type 0
Operands i j f g = (left_fits i f ≡ true) × (form g ≤ j) × (fits f ≡ true) × (fits g ≡ true)

pub operands : (i j : ℕ) (f g : Syntax) → (left_fits i f && nat_le (form g) j && fits f && fits g) ≡ true → Operands i j f g
operands i j f g h =
    let x = and_parts (left_fits i f && nat_le (form g) j && fits f) (fits g) h in
    let y = and_parts (left_fits i f && nat_le (form g) j) (fits f) x.0 in
    let z = and_parts (left_fits i f) (nat_le (form g) j) y.0 in
    (z.0, leb-true (form g) j z.1, y.1, x.1)

-- after a modality, whose regular formula is found
modal : (close : Token) (r : RegSyntax) (f : Syntax) (n : ℕ) (m : List Token) → nat_lt 7 (reg_level close) ≡ true → reg_fits r ≡ true → reg_size r < n
    → reg_read n 7 ((reg_tokens r ++ close ∷ tokens f) ++ m) ≡ Some (r, close ∷ (tokens f ++ m))
modal close r f n m h fit small = ap (reg_read n 7) (append_assoc (reg_tokens r) (close ∷ tokens f) m)
    ∙ reg_found r 7 n (close ∷ (tokens f ++ m)) fit (any_form r) small h

pub modal_parts : (r : RegSyntax) (f : Syntax) → (nat_le (form f) 0 && reg_fits r && fits f) ≡ true → (form f ≤ 0) × (reg_fits r ≡ true) × (fits f ≡ true)
modal_parts r f h =
    let x = and_parts (nat_le (form f) 0 && reg_fits r) (fits f) h in
    let y = and_parts (nat_le (form f) 0) (reg_fits r) x.0 in
    (leb-true (form f) 0 y.0, y.1, x.1)

closes : (b : Bool) (m : List Token) → binder_stops b (Close ∷ m) ≡ true
closes true m = refl
closes false m = refl

either_stops : (b : Bool) (m : List Token) → stops 3 m ≡ true → binder_stops b m ≡ true
either_stops true m h = h
either_stops false m h = refl

reads : (f : Syntax) → fits f ≡ true → Reads f
reads True' h = from_unary True' (λ n m small stop d. refl)
reads False' h = from_unary False' (λ n m small stop d. refl)
reads (Var' x) h = from_unary (Var' x) (λ n m small stop d. refl)
reads (Group' f) h =
    let found = reads f h in
    from_unary (Group' f) (λ n m small stop d.
    ap (λ ts. grouped (read n 3 ts)) (append_assoc (tokens f) (Close ∷ []) m)
    ∙ ap grouped (inner f found 3 n (Close ∷ m) (any_formula f) (omega arith) refl (closes (ends_in_binder f) m)))
reads (Neg' f) h =
    let o = and_parts (nat_le (form f) 0) (fits f) h in
    let found = reads f o.1 in
    from_unary (Neg' f) (λ n m small stop d. ap (within Neg') (inner f found 0 n m (leb-true (form f) 0 o.0) (omega arith) stop d))
reads (Both' f g) h =
    let o = operands 0 1 f g h in
    joins AndSign f g 0 refl o.0 o.1 (reads f o.2) (reads g o.3)
reads (OneOf' f g) h =
    let o = operands 1 2 f g h in
    joins OrSign f g 1 refl o.0 o.1 (reads f o.2) (reads g o.3)
reads (If' f g) h =
    let o = operands 2 3 f g h in
    joins ImpliesSign f g 2 refl o.0 o.1 (reads f o.2) (reads g o.3)
reads (Dia' r f) h =
    let o = modal_parts r f h in
    let found = reads f o.2 in
    from_unary (Dia' r f) (λ n m small stop d.
    ap (diamond (read n)) (modal Greater r f n m refl o.1 (omega arith)) ∙ ap (within (Dia' r)) (inner f found 0 n m o.0 (omega arith) stop d))
reads (Box' r f) h =
    let o = modal_parts r f h in
    let found = reads f o.2 in
    from_unary (Box' r f) (λ n m small stop d.
    ap (box (read n)) (modal CloseBox r f n m refl o.1 (omega arith)) ∙ ap (within (Box' r)) (inner f found 0 n m o.0 (omega arith) stop d))
reads (Mu' x f) h =
    let found = reads f h in
    from_unary (Mu' x f) (λ n m small stop d. ap (within (Mu' x)) (inner f found 3 n m (any_formula f) (omega arith) d (either_stops (ends_in_binder f) m d)))
reads (Nu' x f) h =
    let found = reads f h in
    from_unary (Nu' x f) (λ n m small stop d. ap (within (Nu' x)) (inner f found 3 n m (any_formula f) (omega arith) d (either_stops (ends_in_binder f) m d)))

-- Two formulas of one form at the front of the same tokens, each followed by a token that cannot go on, are one.
pub one_tree : (k : ℕ) (f g : Syntax) (m n : List Token) → fits f ≡ true → fits g ≡ true → form f ≤ k → form g ≤ k → stops k m ≡ true → stops k n ≡ true
    → binder_stops (ends_in_binder f) m ≡ true → binder_stops (ends_in_binder g) n ≡ true → tokens f ++ m ≡ tokens g ++ n → (f ≡ g) × (m ≡ n)
one_tree k f g m n ff fg lf lg sm sn bm bn e =
    let both : ℕ = suc (size f + size g) in
    found_once (f, m) (g, n) (sym (inner f (reads f ff) k both m lf (omega arith) sm bm)
    ∙ (ap (read both k) e ∙ inner g (reads g fg) k both n lg (omega arith) sn bn))

-- Tokens have one tree at most.
pub one_syntax : (f g : Syntax) → fits f ≡ true → fits g ≡ true → tokens f ≡ tokens g → f ≡ g
one_syntax f g ff fg e =
    (one_tree 3 f g [] [] ff fg (any_formula f) (any_formula g) refl refl (either_stops (ends_in_binder f) [] refl) (either_stops (ends_in_binder g) [] refl)
    (append-nil (tokens f) ∙ (e ∙ sym (append-nil (tokens g))))).0
