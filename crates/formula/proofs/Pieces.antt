-- A text is cut into tokens in one way: the first piece and what follows it are found again from the text.
use Rattle.std.proofs.Common.{◌≡◌, ℕ, Bool, true, false, not, ◌&&◌, ◌||◌, List, [], ◌∷◌, ◌++◌, map, length, refl, sym, ap, ◌∙◌, subst, append_assoc}
use Rattle.std.proofs.Common.{append-nil, inl, inr}
use Rattle.std.specs.Prelude.{nat_le, ◌==◌, if◌then◌else◌, codes}
use Rattle.std.specs.List.{list_all, list_any, AllByRecursion}
use Rattle.std.specs.Str.{bytes_eq}
use Rattle.std.proofs.lemmas.Bool.{eqb-true, and_parts, or_cases, not-true, and_from}
use Rattle.std.proofs.lemmas.Slice.Eq.{bytes_eq-Decides}
use Rattle.text.specs.Text.{is_name, is_name_byte, is_letter, is_digit}
use Rattle.systems.specs.declared.limits.TheConstants.{LONGEST_LABEL}
use Rattle.systems.specs.Label.{is_label_byte}
use Rattle.grammar.specs.Token.{Token, Name, Reserved, Atom, TrueWord, FalseWord, MuWord, NuWord, TauWord, ImpliesSign, OrSign, AndSign, Bar, NotSign, Less}
use Rattle.grammar.specs.Token.{Greater, OpenBox, CloseBox, Open, Close, Dot, ChoiceSign, PlusSign, StarSign, spelling, words, reserved_words, is_free_name}
use Rattle.grammar.specs.Token.{IsToken, Segment, Blank, Comment, Word, written_piece, IsPiece, begins, token_ends, piece_ends, text_of, Cuts, tokens_of}
use Rattle.grammar.specs.Token.{is_after_postfix, sign_is_decided, is_decided}

-- the longest front whose bytes pass, and the rest
abbrev front : (ℕ → Bool) → List ℕ → List ℕ
front test [] = []
front test (b ∷ bytes) = if test b then b ∷ front test bytes else []

abbrev rest : (ℕ → Bool) → List ℕ → List ℕ
rest test [] = []
rest test (b ∷ bytes) = if test b then rest test bytes else b ∷ bytes

front_is : (test : ℕ → Bool) (xs ys : List ℕ) → list_all test xs ≡ true → begins test ys ≡ false → front test (xs ++ ys) ≡ xs
front_is test [] [] h k = refl
front_is test [] (y ∷ ys) h k = ap (λ b. if b then y ∷ front test ys else []) k
front_is test (x ∷ xs) ys h k =
    let p = and_parts (test x) (list_all test xs) h in
    ap (λ b. if b then x ∷ front test (xs ++ ys) else []) p.0 ∙ ap (λ zs. x ∷ zs) (front_is test xs ys p.1 k)

rest_is : (test : ℕ → Bool) (xs ys : List ℕ) → list_all test xs ≡ true → begins test ys ≡ false → rest test (xs ++ ys) ≡ ys
rest_is test [] [] h k = refl
rest_is test [] (y ∷ ys) h k = ap (λ b. if b then rest test ys else y ∷ ys) k
rest_is test (x ∷ xs) ys h k =
    let p = and_parts (test x) (list_all test xs) h in
    ap (λ b. if b then rest test (xs ++ ys) else x ∷ (xs ++ ys)) p.0 ∙ rest_is test xs ys p.1 k

-- the word that these bytes are, among those that are no names
abbrev word_of : List ℕ → Token
word_of bytes =
    if bytes_eq bytes (codes "true") then TrueWord
    else if bytes_eq bytes (codes "false") then FalseWord
    else if bytes_eq bytes (codes "mu") then MuWord
    else if bytes_eq bytes (codes "nu") then NuWord
    else if bytes_eq bytes (codes "tau") then TauWord
    else if list_any (bytes_eq bytes) reserved_words then Reserved bytes
    else Name bytes

-- a sign of one byte
abbrev sign_of : ℕ → Token
sign_of b =
    if b == 33 then NotSign
    else if b == 60 then Less
    else if b == 62 then Greater
    else if b == 91 then OpenBox
    else if b == 93 then CloseBox
    else if b == 40 then Open
    else if b == 41 then Close
    else if b == 46 then Dot
    else if b == 43 then ChoiceSign
    else StarSign

abbrev after_one : List ℕ → List ℕ
after_one [] = []
after_one (b ∷ bytes) = bytes

abbrev unquoted : ℕ → Bool
unquoted b = not (b == 34)

abbrev on_line : ℕ → Bool
on_line b = not (b == 10)

abbrev sign_cut : ℕ → List ℕ → Segment × List ℕ
sign_cut b text =
    if b == 124 then (if begins (λ b. b == 124) text then (Word OrSign, after_one text) else (Word Bar, text))
    else if b == 61 then (Word ImpliesSign, after_one text)
    else if b == 38 then (Word AndSign, after_one text)
    else (Word (sign_of b), text)

-- the first piece of a text, where each `+` is a sign of choice, and what follows it
abbrev cut_at : List ℕ → Segment × List ℕ
cut_at [] = (Blank 0, [])
cut_at (b ∷ text) =
    if is_letter b then (Word (word_of (front is_name_byte (b ∷ text))), rest is_name_byte (b ∷ text))
    else if b == 34 then (Word (Atom (front unquoted text)), after_one (rest unquoted text))
    else if b == 37 then (Comment (front on_line text), rest on_line text)
    else if b == 32 || b == 9 || b == 13 || b == 10 then (Blank b, text)
    else sign_cut b text

-- without what the next token says of a `+`
abbrev pub plain_token : Token → Token
plain_token PlusSign = ChoiceSign
plain_token t = t

abbrev pub plain : Segment → Segment
plain (Word t) = Word (plain_token t)
plain p = p

letter_goes_on : (b : ℕ) → is_letter b ≡ true → is_name_byte b ≡ true
letter_goes_on b h = ap (λ c. c || is_digit b) h

name_found : (bytes m : List ℕ) → is_name bytes ≡ true → begins is_name_byte m ≡ false → cut_at (bytes ++ m) ≡ (Word (word_of bytes), m)
name_found [] m h k = cc
name_found (b ∷ bytes) m h k =
    let p = and_parts (is_letter b) (list_all is_name_byte bytes) h in
    let all : list_all is_name_byte (b ∷ bytes) ≡ true = and_from (is_name_byte b) (list_all is_name_byte bytes) (letter_goes_on b p.0) p.1 in
    let text : List ℕ = bytes ++ m in
    ap (λ c. if c then (Word (word_of (front is_name_byte (b ∷ text))), rest is_name_byte (b ∷ text))
    else if b == 34 then (Word (Atom (front unquoted text)), after_one (rest unquoted text))
    else if b == 37 then (Comment (front on_line text), rest on_line text)
    else if b == 32 || b == 9 || b == 13 || b == 10 then (Blank b, text)
    else sign_cut b text) p.0
    ∙ (λ i. (Word (word_of (front_is is_name_byte (b ∷ bytes) m all k i)), rest_is is_name_byte (b ∷ bytes) m all k i))

either_true : (a b : Bool) (P : Type 0) → (a || b) ≡ true → (a ≡ true → P) → (b ≡ true → P) → P
either_true a b P h f g = elim (or_cases a b h) [ inl x ↦ f x | inr y ↦ g y ]

bytes_same : (xs ys : List ℕ) → bytes_eq xs ys ≡ true → xs ≡ ys
bytes_same xs ys h = (bytes_eq-Decides xs ys).0 h

-- a word that is reserved is one of these
one_of : (bytes : List ℕ) (names : List (List ℕ)) (P : List ℕ → Type 0) → list_any (bytes_eq bytes) names ≡ true → AllByRecursion P names → P bytes
one_of bytes [] P h each = cc
one_of bytes (name ∷ names) P h each =
    either_true (bytes_eq bytes name) (list_any (bytes_eq bytes) names) (P bytes) h (λ e. subst P (sym (bytes_same bytes name e)) each.0)
    (λ e. one_of bytes names P e each.1)

pub reserved_word : (bytes : List ℕ) → list_any (bytes_eq bytes) reserved_words ≡ true → (is_name bytes ≡ true) × (word_of bytes ≡ Reserved bytes)
reserved_word bytes h =
    one_of bytes reserved_words (λ bytes. (is_name bytes ≡ true) × (word_of bytes ≡ Reserved bytes)) h
    ((refl, refl), ((refl, refl), ((refl, refl), ((refl, refl), ((refl, refl), ((refl, refl), tt))))))

or_false : (a b : Bool) → (a || b) ≡ false → (a ≡ false) × (b ≡ false)
or_false true b h = cc
or_false false b h = (refl, h)

pub free_name : (bytes : List ℕ) → is_free_name bytes ≡ true → (is_name bytes ≡ true) × (word_of bytes ≡ Name bytes)
free_name bytes h =
    let x = and_parts (is_name bytes && not (list_any (bytes_eq bytes) words)) (not (list_any (bytes_eq bytes) reserved_words)) h in
    let y = and_parts (is_name bytes) (not (list_any (bytes_eq bytes) words)) x.0 in
    let none : list_any (bytes_eq bytes) words ≡ false = not-true _ y.1 in
    let a = or_false (bytes_eq bytes (codes "true")) _ none in
    let b = or_false (bytes_eq bytes (codes "false")) _ a.1 in
    let c = or_false (bytes_eq bytes (codes "mu")) _ b.1 in
    let d = or_false (bytes_eq bytes (codes "nu")) _ c.1 in
    let e = or_false (bytes_eq bytes (codes "tau")) _ d.1 in
    (y.0, rw (a.0, b.0, c.0, d.0, e.0, not-true _ x.1) refl)

labels_unquoted : (bytes : List ℕ) → list_all is_label_byte bytes ≡ true → list_all unquoted bytes ≡ true
labels_unquoted [] h = refl
labels_unquoted (b ∷ bytes) h =
    let p = and_parts (is_label_byte b) (list_all is_label_byte bytes) h in
    let q = and_parts (nat_le 32 b && nat_le b 126) (unquoted b) p.0 in
    and_from (unquoted b) (list_all unquoted bytes) q.1 (labels_unquoted bytes p.1)

token_found : (t : Token) (m : List ℕ) → IsToken t → token_ends t m ≡ true → cut_at (spelling t ++ m) ≡ (Word (plain_token t), m)
token_found (Name bytes) m h k =
    let p = free_name bytes h in
    name_found bytes m p.0 (not-true _ k) ∙ ap (λ t. (Word t, m)) p.1
token_found (Reserved bytes) m h k =
    let p = reserved_word bytes h in
    name_found bytes m p.0 (not-true _ k) ∙ ap (λ t. (Word t, m)) p.1
token_found (Atom bytes) m h k =
    let p = and_parts (nat_le 1 (length bytes) && nat_le (length bytes) LONGEST_LABEL) (list_all is_label_byte bytes) h in
    let free = labels_unquoted bytes p.1 in
    ap (λ text. cut_at (34 ∷ text)) (append_assoc bytes (34 ∷ []) m)
    ∙ (λ i. (Word (Atom (front_is unquoted bytes (34 ∷ m) free refl i)), after_one (rest_is unquoted bytes (34 ∷ m) free refl i)))
token_found TrueWord m h k = name_found (codes "true") m refl (not-true _ k)
token_found FalseWord m h k = name_found (codes "false") m refl (not-true _ k)
token_found MuWord m h k = name_found (codes "mu") m refl (not-true _ k)
token_found NuWord m h k = name_found (codes "nu") m refl (not-true _ k)
token_found TauWord m h k = name_found (codes "tau") m refl (not-true _ k)
token_found Bar m h k = ap (λ b. if b then (Word OrSign, after_one m) else (Word Bar, m)) (not-true _ k)
token_found _ m h k = refl

-- The first piece and what follows it are found again.
cut_found : (p : Segment) (m : List ℕ) → IsPiece p → piece_ends p m ≡ true → cut_at (written_piece p ++ m) ≡ (plain p, m)
cut_found (Blank byte) m h k =
    let P : Type 0 = cut_at (byte ∷ m) ≡ (Blank byte, m) in
    let at : (b : ℕ) → cut_at (b ∷ m) ≡ (Blank b, m) → (byte == b) ≡ true
    → P = λ b e s. subst (λ c. cut_at (c ∷ m) ≡ (Blank c, m)) (sym (eqb-true byte b s)) e in
    either_true (byte == 32 || byte == 9 || byte == 13) (byte == 10) P h
    (λ x. either_true (byte == 32 || byte == 9) (byte == 13) P x
    (λ y. either_true (byte == 32) (byte == 9) P y (at 32 refl) (at 9 refl)) (at 13 refl)) (at 10 refl)
cut_found (Comment bytes) m h k =
    let end = not-true (begins on_line m) k in
    λ i. (Comment (front_is on_line bytes m h end i), rest_is on_line bytes m h end i)
cut_found (Word t) m h k = token_found t m h k

-- The pieces at the front of one text are one, apart from the kind of a `+`, and the same follows.
pub one_piece : (p q : Segment) (m n : List ℕ) → IsPiece p → IsPiece q → piece_ends p m ≡ true → piece_ends q n ≡ true → written_piece p ++ m ≡ written_piece q ++ n
    → (plain p ≡ plain q) × (m ≡ n)
one_piece p q m n hp hq ep eq e =
    let both = sym (cut_found p m hp ep) ∙ (ap cut_at e ∙ cut_found q n hq eq) in
    (ap (λ (c : Segment × List ℕ). c.0) both, ap (λ (c : Segment × List ℕ). c.1) both)

-- a piece has some bytes
pub some_bytes : (p : Segment) (m : List ℕ) → IsPiece p → written_piece p ++ m ≡ [] → ⊥
some_bytes (Word (Name [])) m h e = cc
some_bytes (Word (Name (b ∷ bytes))) m h e = cc
some_bytes (Word (Reserved [])) m h e = cc
some_bytes (Word (Reserved (b ∷ bytes))) m h e = cc
some_bytes (Word t) m h e = cc
some_bytes _ m h e = cc

-- A text is cut into pieces in one way, apart from the kind of each `+`.
pub same_pieces : (ps qs : List Segment) → Cuts ps [] → Cuts qs [] → text_of ps ≡ text_of qs → map plain ps ≡ map plain qs
same_pieces [] [] cp cq e = refl
same_pieces [] (q ∷ qs) cp cq e = absurd (some_bytes q (text_of qs) cq.0 (sym e))
same_pieces (p ∷ ps) [] cp cq e = absurd (some_bytes p (text_of ps) cp.0 e)
same_pieces (p ∷ ps) (q ∷ qs) cp cq e =
    let ends : (r : Segment) (rs : List Segment) → piece_ends r (text_of rs ++ []) ≡ true
    → piece_ends r (text_of rs) ≡ true = λ r rs h. ap (piece_ends r) (sym (append-nil (text_of rs))) ∙ h in
    let first = one_piece p q (text_of ps) (text_of qs) cp.0 cq.0 (ends p ps cp.1) (ends q qs cq.1) e in
    λ i. first.0 i ∷ same_pieces ps qs cp.2 cq.2 first.1 i

plain_tokens : (ps : List Segment) → map plain_token (tokens_of ps) ≡ tokens_of (map plain ps)
plain_tokens [] = refl
plain_tokens (Blank byte ∷ ps) = plain_tokens ps
plain_tokens (Comment bytes ∷ ps) = plain_tokens ps
plain_tokens (Word t ∷ ps) = ap (λ ts. plain_token t ∷ ts) (plain_tokens ps)

-- the token that the next ones make of a plain one
abbrev pub decided : Token → List Token → Token
decided ChoiceSign ts = if is_after_postfix ts then PlusSign else ChoiceSign
decided t ts = t

decided_again : (t : Token) (ts : List Token) → sign_is_decided t ts ≡ true → decided (plain_token t) ts ≡ t
decided_again PlusSign ts h = ap (λ b. if b then PlusSign else ChoiceSign) h
decided_again ChoiceSign ts h = ap (λ b. if b then PlusSign else ChoiceSign) (not-true (is_after_postfix ts) h)
decided_again t ts h = refl

pub heads_same : (t u : Token) (ts us : List Token) → t ∷ ts ≡ u ∷ us → (t ≡ u) × (ts ≡ us)
heads_same t u ts us e = (cc, cc)

-- Each `+` is what the next token makes it.
pub same_signs : (ts us : List Token) → is_decided ts ≡ true → is_decided us ≡ true → map plain_token ts ≡ map plain_token us → ts ≡ us
same_signs [] [] h k e = refl
same_signs [] (u ∷ us) h k e = cc
same_signs (t ∷ ts) [] h k e = cc
same_signs (t ∷ ts) (u ∷ us) h k e =
    let x = and_parts (sign_is_decided t ts) (is_decided ts) h in
    let y = and_parts (sign_is_decided u us) (is_decided us) k in
    let z = heads_same (plain_token t) (plain_token u) (map plain_token ts) (map plain_token us) e in
    let tail = same_signs ts us x.1 y.1 z.1 in
    let head = sym (decided_again t ts x.0) ∙ ((λ i. decided (z.0 i) (tail i)) ∙ decided_again u us y.0) in
    λ i. head i ∷ tail i

-- A text has its tokens in one way.
pub same_tokens : (ps qs : List Segment) → Cuts ps [] → Cuts qs [] → is_decided (tokens_of ps) ≡ true → is_decided (tokens_of qs) ≡ true
    → text_of ps ≡ text_of qs → tokens_of ps ≡ tokens_of qs
same_tokens ps qs cp cq dp dq e = same_signs (tokens_of ps) (tokens_of qs) dp dq
    (plain_tokens ps ∙ (ap tokens_of (same_pieces ps qs cp cq e) ∙ sym (plain_tokens qs)))
