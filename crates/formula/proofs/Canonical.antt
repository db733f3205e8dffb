-- The canonical text, as pieces and as a tree with parentheses.
use Rattle.std.proofs.Common.{◌≡◌, ℕ, true, false, not, ◌&&◌, List, [], ◌∷◌, ◌++◌, refl, sym, ap, ◌∙◌, append_assoc}
use Rattle.std.specs.List.{list_all, list_any, AllByRecursion, join_with_byte}
use Rattle.std.specs.Str.{bytes_eq}
use Rattle.std.proofs.lemmas.Bool.{ne_eqb, and_parts, true≢false}
use Rattle.text.specs.Text.{is_name, is_name_byte, is_letter}
use Rattle.systems.specs.Label.{is_label, multiset}
use Rattle.calculus.specs.Tree.{Action, Anything, Nothing, Names, Quoted, NotAct, AndAct, OrAct, ImpliesAct, Regular, Step, Then, Either, Star, Plus, Formula}
use Rattle.calculus.specs.Tree.{True, False, Var, Not, And, Or, Implies, Dia, Box, Mu, Nu}
use Rattle.calculus.specs.Canon.{infix_text, binder_text, action_text, regular_text, canon}
use Rattle.grammar.specs.Token.{Token, Name, Atom, TrueWord, FalseWord, MuWord, NuWord, TauWord, ImpliesSign, OrSign, AndSign, Bar, NotSign, Less, Greater}
use Rattle.grammar.specs.Token.{OpenBox, CloseBox, Open, Close, Dot, ChoiceSign, PlusSign, StarSign, spelling, is_free_name, IsToken, Segment, Blank, Word}
use Rattle.grammar.specs.Token.{begins, token_ends, text_of, Cuts, tokens_of, words, reserved_words}
use Rattle.grammar.specs.Syntax.{RegSyntax, Anything', Nothing', Tau', Names', Quoted', Parens', Not', And', Or', Implies', Star', Plus', Then', Either'}
use Rattle.grammar.specs.Syntax.{reg_tokens, more_names, Syntax, True', False', Var', Group', Neg', Both', OneOf', If', Dia', Box', Mu', Nu', tokens}

-- Pieces that a text is made of, whatever pieces follow, if no byte of a name comes next.
pub record Writes (text : List ℕ) (ts : List Token) : Type 0 where
  pub pieces : List Segment → List Segment
  pub joined : (ps : List Segment) → text_of (pieces ps) ≡ text ++ text_of ps
  pub spelled : (ps : List Segment) → tokens_of (pieces ps) ≡ ts ++ tokens_of ps
  pub cut : (ps : List Segment) (m : List ℕ) → Cuts ps m → begins is_name_byte (text_of ps ++ m) ≡ false → Cuts (pieces ps) m

-- a token that stands before anything but a byte of a name
abbrev IsWord : Token → Type 0
IsWord t = IsToken t × ((m : List ℕ) → begins is_name_byte m ≡ false → token_ends t m ≡ true)

-- a token that stands before anything
abbrev IsSign : Token → Type 0
IsSign t = IsToken t × ((m : List ℕ) → token_ends t m ≡ true)

word : (t : Token) → IsWord t → Writes (spelling t) (t ∷ [])
word t is = record {
  pieces = λ ps. Word t ∷ ps;
  joined = λ ps. refl;
  spelled = λ ps. refl;
  cut = λ ps m c h. (is.0, is.1 (text_of ps ++ m) h, c);
}

-- a sign before a text
prefixed : (t : Token) (text : List ℕ) (ts : List Token) → IsSign t → Writes text ts → Writes (spelling t ++ text) (t ∷ ts)
prefixed t text ts is w = record {
  pieces = λ ps. Word t ∷ w.pieces ps;
  joined = λ ps. ap (λ l. spelling t ++ l) (w.joined ps) ∙ sym (append_assoc (spelling t) text (text_of ps));
  spelled = λ ps. ap (λ l. t ∷ l) (w.spelled ps);
  cut = λ ps m c h. (is.0, is.1 (text_of (w.pieces ps) ++ m), w.cut ps m c h);
}

-- a sign that begins with no byte of a name
abbrev IsApart : Token → Type 0
IsApart t = (m : List ℕ) → begins is_name_byte (spelling t ++ m) ≡ false

-- a text and a sign
postfixed : (t : Token) (text : List ℕ) (ts : List Token) → IsSign t → IsApart t → Writes text ts → Writes (text ++ spelling t) (ts ++ t ∷ [])
postfixed t text ts is apart w = record {
  pieces = λ ps. w.pieces (Word t ∷ ps);
  joined = λ ps. w.joined (Word t ∷ ps) ∙ sym (append_assoc text (spelling t) (text_of ps));
  spelled = λ ps. w.spelled (Word t ∷ ps) ∙ sym (append_assoc ts (t ∷ []) (tokens_of ps));
  cut = λ ps m c h. w.cut (Word t ∷ ps) m (is.0, is.1 (text_of ps ++ m), c)
      (ap (begins is_name_byte) (append_assoc (spelling t) (text_of ps) m) ∙ apart (text_of ps ++ m));
}

-- `(left sign right)`
infix' : (t : Token) (left right : List ℕ) (ts us : List Token) → IsSign t → Writes left ts → Writes right us
    → Writes (infix_text left (spelling t) right) (Open ∷ ((ts ++ t ∷ us) ++ Close ∷ []))
infix' t left right ts us is l r = record {
  pieces = λ ps. Word Open ∷ l.pieces (Blank 32 ∷ Word t ∷ Blank 32 ∷ r.pieces (Word Close ∷ ps));
  joined = λ ps. ap (λ x. 40 ∷ x) (l.joined (Blank 32 ∷ Word t ∷ Blank 32 ∷ r.pieces (Word Close ∷ ps)))
      ∙ (ap (λ x. 40 ∷ (left ++ (32 ∷ (spelling t ++ (32 ∷ x))))) (r.joined (Word Close ∷ ps)) ∙ regroup left (spelling t) right (text_of ps));
  spelled = λ ps. ap (λ x. Open ∷ x) (l.spelled (Blank 32 ∷ Word t ∷ Blank 32 ∷ r.pieces (Word Close ∷ ps)))
      ∙ (ap (λ x. Open ∷ (ts ++ (t ∷ x))) (r.spelled (Word Close ∷ ps)) ∙ retoken ts us (tokens_of ps));
  cut = λ ps m c h.
      let right_cut = r.cut (Word Close ∷ ps) m (tt, refl, c) refl in (
        tt,
        refl,
        l.cut (Blank 32 ∷ Word t ∷ Blank 32 ∷ r.pieces (Word Close ∷ ps)) m
            (refl, refl, (is.0, is.1 (32 ∷ (text_of (r.pieces (Word Close ∷ ps)) ++ m)), (refl, refl, right_cut))) refl,
      );
}
  where
    regroup : (l s r m : List ℕ) → 40 ∷ (l ++ (32 ∷ (s ++ (32 ∷ (r ++ (41 ∷ m)))))) ≡ infix_text l s r ++ m
    regroup l s r m = simp append_assoc

    retoken : (ts us more : List Token) → Open ∷ (ts ++ (t ∷ (us ++ (Close ∷ more)))) ≡ (Open ∷ ((ts ++ t ∷ us) ++ Close ∷ [])) ++ more
    retoken ts us more = simp append_assoc

-- a regular formula in the brackets of a modality, and a formula
modal : (left right : Token) (inside after : List ℕ) (ts us : List Token) → IsSign left → IsSign right → IsApart right → Writes inside ts → Writes after us
    → Writes (spelling left ++ inside ++ spelling right ++ after) (left ∷ (ts ++ right ∷ us))
modal left right inside after ts us il ir apart r f = record {
  pieces = λ ps. Word left ∷ r.pieces (Word right ∷ f.pieces ps);
  joined = λ ps. ap (λ x. spelling left ++ x) (r.joined (Word right ∷ f.pieces ps))
      ∙ (ap (λ x. spelling left ++ (inside ++ (spelling right ++ x))) (f.joined ps) ∙ regroup (spelling left) inside (spelling right) after (text_of ps));
  spelled = λ ps. ap (λ x. left ∷ x) (r.spelled (Word right ∷ f.pieces ps))
      ∙ (ap (λ x. left ∷ (ts ++ (right ∷ x))) (f.spelled ps) ∙ ap (λ x. left ∷ x) (sym (append_assoc ts (right ∷ us) (tokens_of ps))));
  cut = λ ps m c h. (
    il.0,
    il.1 (text_of (r.pieces (Word right ∷ f.pieces ps)) ++ m),
    r.cut (Word right ∷ f.pieces ps) m (ir.0, ir.1 (text_of (f.pieces ps) ++ m), f.cut ps m c h)
        (ap (begins is_name_byte) (append_assoc (spelling right) (text_of (f.pieces ps)) m) ∙ apart (text_of (f.pieces ps) ++ m)),
  );
}
  where
    regroup : (a b c d m : List ℕ) → a ++ (b ++ (c ++ (d ++ m))) ≡ (a ++ b ++ c ++ d) ++ m
    regroup a b c d m = simp append_assoc

-- `(mu X. f)`
binder : (t : Token) (name body : List ℕ) (ts : List Token) → IsWord t → is_free_name name ≡ true → Writes body ts
    → Writes (binder_text (spelling t) name body) (Open ∷ ((t ∷ Name name ∷ Dot ∷ ts) ++ Close ∷ []))
binder t name body ts is free f = record {
  pieces = λ ps. Word Open ∷ Word t ∷ Blank 32 ∷ Word (Name name) ∷ Word Dot ∷ Blank 32 ∷ f.pieces (Word Close ∷ ps);
  joined = λ ps. ap (λ x. 40 ∷ (spelling t ++ (32 ∷ (name ++ (46 ∷ 32 ∷ x))))) (f.joined (Word Close ∷ ps)) ∙ regroup (spelling t) name body (text_of ps);
  spelled = λ ps. ap (λ x. Open ∷ t ∷ Name name ∷ Dot ∷ x) (f.spelled (Word Close ∷ ps))
      ∙ ap (λ x. Open ∷ t ∷ Name name ∷ Dot ∷ x) (sym (append_assoc ts (Close ∷ []) (tokens_of ps)));
  cut = λ ps m c h.
      let body_cut = f.cut (Word Close ∷ ps) m (tt, refl, c) refl in
      (tt, refl, (is.0, is.1 _ refl, (refl, refl, (free, refl, (tt, refl, (refl, refl, body_cut))))));
}
  where
    regroup : (t x f m : List ℕ) → 40 ∷ (t ++ (32 ∷ (x ++ (46 ∷ 32 ∷ (f ++ (41 ∷ m)))))) ≡ binder_text t x f ++ m
    regroup t x f m = simp append_assoc

-- a letter after a bar
bar_ends : (name m : List ℕ) → is_name name ≡ true → token_ends Bar (name ++ m) ≡ true
bar_ends [] m h = cc
bar_ends (b ∷ name) m h = ap not (ne_eqb b 124 (λ e. absurd (true≢false (sym (and_parts (is_letter b) (list_all is_name_byte name) h).0 ∙ ap is_letter e))))

is_name_of : (name : List ℕ) → is_free_name name ≡ true → is_name name ≡ true
is_name_of name h = (and_parts (is_name name) (not (list_any (bytes_eq name) words))
    (and_parts (is_name name && not (list_any (bytes_eq name) words)) (not (list_any (bytes_eq name) reserved_words)) h).0).0

-- names with bars between them
names_written : (x : List ℕ) (names : List (List ℕ)) → is_free_name x ≡ true → AllByRecursion (λ x. is_free_name x ≡ true) names
    → Writes (join_with_byte 124 (x ∷ names)) (Name x ∷ more_names names)
names_written x [] h all = word (Name x) (h, λ m k. ap not k)
names_written x (y ∷ names) h all =
    let w = names_written y names all.0 all.1 in
    record {
      pieces = λ ps. Word (Name x) ∷ Word Bar ∷ w.pieces ps;
      joined = λ ps. ap (λ l. x ++ (124 ∷ l)) (w.joined ps) ∙ sym (append_assoc x (124 ∷ join_with_byte 124 (y ∷ names)) (text_of ps));
      spelled = λ ps. ap (λ l. Name x ∷ Bar ∷ l) (w.spelled ps);
      cut = λ ps m c k. (h, refl, (tt, ap (λ l. token_ends Bar (l ++ m)) (w.joined ps) ∙ begins_name y names (text_of ps) m all.0, w.cut ps m c k));
    }
  where
    begins_name : (y : List ℕ) (names : List (List ℕ)) (t m : List ℕ) → is_free_name y ≡ true
        → token_ends Bar ((join_with_byte 124 (y ∷ names) ++ t) ++ m) ≡ true
    begins_name y [] t m h = ap (token_ends Bar) (append_assoc y t m) ∙ bar_ends y (t ++ m) (is_name_of y h)
    begins_name y (z ∷ names) t m h =
        ap (λ l. token_ends Bar (l ++ m)) (append_assoc y (124 ∷ join_with_byte 124 (z ∷ names)) t)
        ∙ (ap (token_ends Bar) (append_assoc y ((124 ∷ join_with_byte 124 (z ∷ names)) ++ t) m)
        ∙ bar_ends y (((124 ∷ join_with_byte 124 (z ∷ names)) ++ t) ++ m) (is_name_of y h))

-- what an action formula must be for a text to spell it
abbrev pub IsSpellableAction : Action → Type 0
IsSpellableAction (Names names) = AllByRecursion (λ x. is_free_name x ≡ true) names × (multiset names ≡ names)
IsSpellableAction (Quoted bytes) = is_label bytes ≡ true
IsSpellableAction (NotAct a) = IsSpellableAction a
IsSpellableAction (AndAct a b) = IsSpellableAction a × IsSpellableAction b
IsSpellableAction (OrAct a b) = IsSpellableAction a × IsSpellableAction b
IsSpellableAction (ImpliesAct a b) = IsSpellableAction a × IsSpellableAction b
IsSpellableAction _ = Unit {0}

abbrev pub IsSpellableRegular : Regular → Type 0
IsSpellableRegular (Step a) = IsSpellableAction a
IsSpellableRegular (Then r s) = IsSpellableRegular r × IsSpellableRegular s
IsSpellableRegular (Either r s) = IsSpellableRegular r × IsSpellableRegular s
IsSpellableRegular (Star r) = IsSpellableRegular r
IsSpellableRegular (Plus r) = IsSpellableRegular r

abbrev pub IsSpellable : Formula → Type 0
IsSpellable True = Unit {0}
IsSpellable False = Unit {0}
IsSpellable (Var name) = is_free_name name ≡ true
IsSpellable (Not f) = IsSpellable f
IsSpellable (And f g) = IsSpellable f × IsSpellable g
IsSpellable (Or f g) = IsSpellable f × IsSpellable g
IsSpellable (Implies f g) = IsSpellable f × IsSpellable g
IsSpellable (Dia r f) = IsSpellableRegular r × IsSpellable f
IsSpellable (Box r f) = IsSpellableRegular r × IsSpellable f
IsSpellable (Mu name f) = (is_free_name name ≡ true) × IsSpellable f
IsSpellable (Nu name f) = (is_free_name name ≡ true) × IsSpellable f

-- the tree of the canonical text
abbrev pub canon_action : Action → RegSyntax
canon_action Anything = Anything'
canon_action Nothing = Nothing'
canon_action (Names []) = Tau'
canon_action (Names (x ∷ names)) = Names' x names
canon_action (Quoted bytes) = Quoted' bytes
canon_action (NotAct a) = Not' (canon_action a)
canon_action (AndAct a b) = Parens' (And' (canon_action a) (canon_action b))
canon_action (OrAct a b) = Parens' (Or' (canon_action a) (canon_action b))
canon_action (ImpliesAct a b) = Parens' (Implies' (canon_action a) (canon_action b))

abbrev pub canon_regular : Regular → RegSyntax
canon_regular (Step a) = canon_action a
canon_regular (Then r s) = Parens' (Then' (canon_regular r) (canon_regular s))
canon_regular (Either r s) = Parens' (Either' (canon_regular r) (canon_regular s))
canon_regular (Star r) = Star' (canon_regular r)
canon_regular (Plus r) = Plus' (canon_regular r)

abbrev pub canon_syntax : Formula → Syntax
canon_syntax True = True'
canon_syntax False = False'
canon_syntax (Var name) = Var' name
canon_syntax (Not f) = Neg' (canon_syntax f)
canon_syntax (And f g) = Group' (Both' (canon_syntax f) (canon_syntax g))
canon_syntax (Or f g) = Group' (OneOf' (canon_syntax f) (canon_syntax g))
canon_syntax (Implies f g) = Group' (If' (canon_syntax f) (canon_syntax g))
canon_syntax (Dia r f) = Dia' (canon_regular r) (canon_syntax f)
canon_syntax (Box r f) = Box' (canon_regular r) (canon_syntax f)
canon_syntax (Mu name f) = Group' (Mu' name (canon_syntax f))
canon_syntax (Nu name f) = Group' (Nu' name (canon_syntax f))

action_written : (a : Action) → IsSpellableAction a → Writes (action_text a) (reg_tokens (canon_action a))
action_written Anything s = word TrueWord (tt, λ m k. ap not k)
action_written Nothing s = word FalseWord (tt, λ m k. ap not k)
action_written (Names []) s = word TauWord (tt, λ m k. ap not k)
action_written (Names (x ∷ names)) s = names_written x names s.0.0 s.0.1
action_written (Quoted bytes) s = word (Atom bytes) (s, λ m k. refl)
action_written (NotAct a) s = prefixed NotSign (action_text a) (reg_tokens (canon_action a)) (tt, λ m. refl) (action_written a s)
action_written (AndAct a b) s = infix' AndSign _ _ _ _ (tt, λ m. refl) (action_written a s.0) (action_written b s.1)
action_written (OrAct a b) s = infix' OrSign _ _ _ _ (tt, λ m. refl) (action_written a s.0) (action_written b s.1)
action_written (ImpliesAct a b) s = infix' ImpliesSign _ _ _ _ (tt, λ m. refl) (action_written a s.0) (action_written b s.1)

regular_written : (r : Regular) → IsSpellableRegular r → Writes (regular_text r) (reg_tokens (canon_regular r))
regular_written (Step a) s = action_written a s
regular_written (Then r q) s = infix' Dot _ _ _ _ (tt, λ m. refl) (regular_written r s.0) (regular_written q s.1)
regular_written (Either r q) s = infix' ChoiceSign _ _ _ _ (tt, λ m. refl) (regular_written r s.0) (regular_written q s.1)
regular_written (Star r) s = postfixed StarSign (regular_text r) (reg_tokens (canon_regular r)) (tt, λ m. refl) (λ m. refl) (regular_written r s)
regular_written (Plus r) s = postfixed PlusSign (regular_text r) (reg_tokens (canon_regular r)) (tt, λ m. refl) (λ m. refl) (regular_written r s)

pub formula_written : (f : Formula) → IsSpellable f → Writes (canon f) (tokens (canon_syntax f))
formula_written True s = word TrueWord (tt, λ m k. ap not k)
formula_written False s = word FalseWord (tt, λ m k. ap not k)
formula_written (Var name) s = word (Name name) (s, λ m k. ap not k)
formula_written (Not f) s = prefixed NotSign (canon f) (tokens (canon_syntax f)) (tt, λ m. refl) (formula_written f s)
formula_written (And f g) s = infix' AndSign (canon f) (canon g) (tokens (canon_syntax f)) (tokens (canon_syntax g)) (tt, λ m. refl) (formula_written f s.0)
    (formula_written g s.1)
formula_written (Or f g) s = infix' OrSign (canon f) (canon g) (tokens (canon_syntax f)) (tokens (canon_syntax g)) (tt, λ m. refl) (formula_written f s.0)
    (formula_written g s.1)
formula_written (Implies f g) s = infix' ImpliesSign (canon f) (canon g) (tokens (canon_syntax f)) (tokens (canon_syntax g)) (tt, λ m. refl)
    (formula_written f s.0) (formula_written g s.1)
formula_written (Dia r f) s = modal Less Greater _ _ _ _ (tt, λ m. refl) (tt, λ m. refl) (λ m. refl) (regular_written r s.0) (formula_written f s.1)
formula_written (Box r f) s = modal OpenBox CloseBox _ _ _ _ (tt, λ m. refl) (tt, λ m. refl) (λ m. refl) (regular_written r s.0) (formula_written f s.1)
formula_written (Mu name f) s = binder MuWord name (canon f) (tokens (canon_syntax f)) (tt, λ m k. ap not k) s.0 (formula_written f s.1)
formula_written (Nu name f) s = binder NuWord name (canon f) (tokens (canon_syntax f)) (tt, λ m k. ap not k) s.0 (formula_written f s.1)
