-- The pieces of a text up to where no token goes on, or a reserved word does, are found again from the text.
use Rattle.std.specs.Prelude.{◌≡◌, ◌≢◌, ◌⊎◌, ℕ, ◌+◌, Bool, true, false, ◌||◌, List, [], ◌∷◌, ◌++◌, map, length, IsTrue, IsFalse, refl}
use Rattle.std.specs.List.{list_any}
use Rattle.std.proofs.Common.{sym, ◌∙◌, ap, subst, append_assoc, append-nil, true≢false, inl, inr}
use Rattle.std.proofs.lemmas.List.{length-append}
use Rattle.grammar.specs.Token.{Reserved, PlusSign, spelling, Segment, Blank, Comment, Word, written_piece, IsPiece, piece_ends, text_of, Cuts, tokens_of}
use Rattle.grammar.specs.Token.{offsets_from, is_reserved}
use Rattle.formula.specs.Fault.{NothingBegins, TokenFault, IsTokens}
use Rattle.formula.specs.declared.error.FormulaFault.{FormulaFault}
use Rattle.formula.specs.declared.error.FormulaFault.TheVariants as fault
use Rattle.formula.proofs.Pieces.{plain, one_piece, some_bytes, same_pieces}

-- the piece is a reserved word
abbrev Reserves : Segment → Type 0
Reserves p = list_any is_reserved (tokens_of (p ∷ [])) ≡ true

-- no piece stands at the front, apart from a reserved word
abbrev Blocks : List ℕ → Type 0
Blocks text = (p : Segment) (rest : List ℕ) → IsPiece p → IsTrue (piece_ends p rest) → text ≡ written_piece p ++ rest → Reserves p

or_none : (b : Bool) → (b || false) ≡ b
or_none true = refl
or_none false = refl

right_false : (a b : Bool) → IsFalse (a || b) → IsFalse b
right_false true b h = absurd (true≢false h)
right_false false b h = h

not_first : (p : Segment) (ps : List Segment) → IsFalse (list_any is_reserved (tokens_of (p ∷ ps))) → Reserves p → ⊥
not_first (Blank byte) ps free h = true≢false (sym h)
not_first (Comment bytes) ps free h = true≢false (sym h)
not_first (Word t) ps free h =
    let reserved : is_reserved t ≡ true = sym (or_none (is_reserved t)) ∙ h in
    true≢false (sym (ap (λ b. b || list_any is_reserved (tokens_of ps)) reserved) ∙ free)

not_others : (p : Segment) (ps : List Segment) → IsFalse (list_any is_reserved (tokens_of (p ∷ ps))) → IsFalse (list_any is_reserved (tokens_of ps))
not_others (Blank byte) ps free = free
not_others (Comment bytes) ps free = free
not_others (Word t) ps free = right_false (is_reserved t) _ free

plain_text : (p : Segment) → written_piece (plain p) ≡ written_piece p
plain_text (Word PlusSign) = refl
plain_text (Word t) = refl
plain_text _ = refl

plain_reserves : (p : Segment) → Reserves (plain p) → Reserves p
plain_reserves (Word PlusSign) h = h
plain_reserves (Word t) h = h
plain_reserves _ h = h

-- Two fronts of pieces, none reserved, each before a text where no more stand, are of one length.
same_front : (ps qs : List Segment) (m n : List ℕ) → Cuts ps m → Cuts qs n → IsFalse (list_any is_reserved (tokens_of ps))
    → IsFalse (list_any is_reserved (tokens_of qs)) → Blocks m → Blocks n
    → text_of ps ++ m ≡ text_of qs ++ n → (length (text_of ps) ≡ length (text_of qs)) × (m ≡ n)
same_front [] [] m n cp cq fp fq bm bn e = (refl, e)
same_front [] (q ∷ qs) m n cp cq fp fq bm bn e = absurd (not_first q qs fq (bm q (text_of qs ++ n) cq.0 cq.1 (e ∙ append_assoc (written_piece q) (text_of qs) n)))
same_front (p ∷ ps) [] m n cp cq fp fq bm bn e = absurd (not_first p ps fp
    (bn p (text_of ps ++ m) cp.0 cp.1 (sym e ∙ append_assoc (written_piece p) (text_of ps) m)))
same_front (p ∷ ps) (q ∷ qs) m n cp cq fp fq bm bn e =
    let apart = sym (append_assoc (written_piece p) (text_of ps) m) ∙ e ∙ append_assoc (written_piece q) (text_of qs) n in
    let first = one_piece p q (text_of ps ++ m) (text_of qs ++ n) cp.0 cq.0 cp.1 cq.1 apart in
    let others = same_front ps qs m n cp.2 cq.2 (not_others p ps fp) (not_others q qs fq) bm bn first.1 in
    let here : written_piece p ≡ written_piece q = sym (plain_text p) ∙ ap written_piece first.0 ∙ plain_text q in
    (length-append (written_piece p) (text_of ps) ∙ (λ i. length (here i) + others.0 i) ∙ sym (length-append (written_piece q) (text_of qs)), others.1)

nothing_blocks : (text : List ℕ) → NothingBegins text → Blocks text
nothing_blocks text none p rest valid ends e = absurd (none p rest valid ends e)

reserved_blocks : (word more : List ℕ) → IsPiece (Word (Reserved word)) → IsTrue (piece_ends (Word (Reserved word)) more) → Blocks (word ++ more)
reserved_blocks word more here stops p rest valid ends e =
    let same = one_piece (Word (Reserved word)) p more rest here valid stops ends e in
    plain_reserves p (subst Reserves same.0 refl)

end_blocks : Blocks []
end_blocks p rest valid ends e = absurd (some_bytes p rest valid (sym e))

-- why the tokens stop before this text
abbrev Stops : List ℕ → FormulaFault → Type 0
Stops rest f =
    ((f ≡ fault.NoToken) × (rest ≢ []) × NothingBegins rest)
    ⊎ ((f ≡ fault.ReservedWord) × (word more : List ℕ) × IsPiece (Word (Reserved word)) × IsTrue (piece_ends (Word (Reserved word)) more)
    × (rest ≡ word ++ more))

-- the text is cut up to here, where the tokens stop
record Stop (text : List ℕ) (f : FormulaFault) (place : ℕ) : Type 0 where
  pieces : List Segment
  rest : List ℕ
  joined : text ≡ text_of pieces ++ rest
  cut : Cuts pieces rest
  free : IsFalse (list_any is_reserved (tokens_of pieces))
  blocked : Blocks rest
  here : place ≡ length (text_of pieces)
  why : Stops rest f

stop : (text : List ℕ) (f : FormulaFault) (place : ℕ) → TokenFault text f place → Stop text f place
stop text fault.NoToken place (pieces, rest, joined, cut, free, some, none, here) =
    record {
      pieces = pieces;
      rest = rest;
      joined = joined;
      cut = cut;
      free = free;
      blocked = nothing_blocks rest none;
      here = here;
      why = inl (refl, some, none);
    }
stop text fault.ReservedWord place (pieces, word, more, joined, cut, free, valid, ends, here) =
    record {
      pieces = pieces;
      rest = word ++ more;
      joined = joined;
      cut = cut;
      free = free;
      blocked = reserved_blocks word more valid ends;
      here = here;
      why = inr (refl, word, more, valid, ends, refl);
    }
stop text _ place h = absurd h

one_reason : (m n : List ℕ) (f g : FormulaFault) → m ≡ n → Stops m f → Stops n g → f ≡ g
one_reason m n f g e (inl a) (inl b) = a.0 ∙ sym b.0
one_reason m n f g e (inr a) (inr b) = a.0 ∙ sym b.0
one_reason m n f g e (inl a) (inr b) = absurd (a.2 (Word (Reserved b.1)) b.2 b.3 b.4 (e ∙ b.5))
one_reason m n f g e (inr a) (inl b) = absurd (b.2 (Word (Reserved a.1)) a.2 a.3 a.4 (sym e ∙ a.5))

-- A text has one token fault at most.
pub one_token_fault : (text : List ℕ) (f g : FormulaFault) (p q : ℕ) → TokenFault text f p → TokenFault text g q → (f ≡ g) × (p ≡ q)
one_token_fault text f g p q a b =
    let x = stop text f p a in
    let y = stop text g q b in
    let same = same_front x.pieces y.pieces x.rest y.rest x.cut y.cut x.free y.free x.blocked y.blocked (sym x.joined ∙ y.joined) in
    (one_reason x.rest y.rest f g same.1 x.why y.why, x.here ∙ same.0 ∙ sym y.here)

ends_stop : (rest : List ℕ) (f : FormulaFault) → rest ≡ [] → Stops rest f → ⊥
ends_stop rest f e (inl a) = a.1 e
ends_stop rest f e (inr a) = some_bytes (Word (Reserved a.1)) a.2 a.3 (sym a.5 ∙ e)

-- A text that is all tokens, none reserved, has no token fault.
pub no_token_fault : (text : List ℕ) (pieces : List Segment) (f : FormulaFault) (place : ℕ) → IsTokens text pieces → TokenFault text f place → ⊥
no_token_fault text pieces f place t h =
    let x = stop text f place h in
    let same = same_front x.pieces pieces x.rest [] x.cut t.cut x.free t.free x.blocked end_blocks
    (sym x.joined ∙ t.joined ∙ sym (append-nil (text_of pieces))) in
    ends_stop x.rest f same.1 x.why

plain_offsets : (ps : List Segment) (at : ℕ) → offsets_from at (map plain ps) ≡ offsets_from at ps
plain_offsets [] at = refl
plain_offsets (Blank byte ∷ ps) at = plain_offsets ps (at + 1)
plain_offsets (Comment bytes ∷ ps) at = plain_offsets ps (at + (1 + length bytes))
plain_offsets (Word t ∷ ps) at =
    (λ i. at ∷ offsets_from (at + length (plain_text (Word t) i)) (map plain ps)) ∙ ap (λ os. at ∷ os) (plain_offsets ps (at + length (spelling t)))

-- A text has the places of its tokens in one way.
pub same_offsets : (ps qs : List Segment) → Cuts ps [] → Cuts qs [] → text_of ps ≡ text_of qs → offsets_from 0 ps ≡ offsets_from 0 qs
same_offsets ps qs cp cq e = sym (plain_offsets ps 0) ∙ ap (offsets_from 0) (same_pieces ps qs cp cq e) ∙ plain_offsets qs 0
