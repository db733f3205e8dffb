-- Pieces whose `+` signs are made what the next tokens make them.
use Rattle.std.specs.Prelude.{◌≡◌, ℕ, Bool, true, false, not, ◌||◌, List, [], ◌∷◌, ◌++◌, IsTrue, IsFalse, refl, if◌then◌else◌}
use Rattle.std.specs.List.{list_any}
use Rattle.std.proofs.Common.{sym, ◌∙◌, ap, subst}
use Rattle.grammar.specs.Token.{Token, ChoiceSign, PlusSign, spelling, IsToken, Segment, Blank, Comment, Word, piece_ends, token_ends, text_of, Cuts, tokens_of}
use Rattle.grammar.specs.Token.{is_after_postfix, sign_is_decided, is_decided, is_reserved}
use Rattle.formula.specs.Fault.{IsTokens}
use Rattle.grammar.proofs.Regulars.{all_true}
use Rattle.formula.proofs.Pieces.{plain_token, decided}

-- the token that the next ones make of this one
abbrev made : Token → List Token → Token
made t ts = decided (plain_token t) ts

abbrev settled : List Segment → List Segment
settled [] = []
settled (Word t ∷ ps) = Word (made t (tokens_of (settled ps))) ∷ settled ps
settled (p ∷ ps) = p ∷ settled ps

-- the one token before these may stand for the other
record Settles (t u : Token) (ts : List Token) : Type 0 where
  spelled : spelling u ≡ spelling t
  valid : IsToken t → IsToken u
  ends : (rest : List ℕ) → token_ends u rest ≡ token_ends t rest
  free : is_reserved u ≡ is_reserved t
  fits : IsTrue (sign_is_decided u ts)

plus_settles : (ts : List Token) (b : Bool) → is_after_postfix ts ≡ b → Settles PlusSign (if b then PlusSign else ChoiceSign) ts
plus_settles ts true e = record { spelled = refl; valid = λ v. v; ends = λ rest. refl; free = refl; fits = e }
plus_settles ts false e = record { spelled = refl; valid = λ v. v; ends = λ rest. refl; free = refl; fits = ap not e }

choice_settles : (ts : List Token) (b : Bool) → is_after_postfix ts ≡ b → Settles ChoiceSign (if b then PlusSign else ChoiceSign) ts
choice_settles ts true e = record { spelled = refl; valid = λ v. v; ends = λ rest. refl; free = refl; fits = e }
choice_settles ts false e = record { spelled = refl; valid = λ v. v; ends = λ rest. refl; free = refl; fits = ap not e }

settles : (t : Token) (ts : List Token) → Settles t (made t ts) ts
settles PlusSign ts = plus_settles ts (is_after_postfix ts) refl
settles ChoiceSign ts = choice_settles ts (is_after_postfix ts) refl
settles t ts = record { spelled = refl; valid = λ v. v; ends = λ rest. refl; free = refl; fits = refl }

same_text : (ps : List Segment) → text_of (settled ps) ≡ text_of ps
same_text [] = refl
same_text (Blank byte ∷ ps) = ap (λ text. byte ∷ text) (same_text ps)
same_text (Comment bytes ∷ ps) = ap (λ text. (37 ∷ bytes) ++ text) (same_text ps)
same_text (Word t ∷ ps) = λ i. (settles t (tokens_of (settled ps))).spelled i ++ same_text ps i

same_cut : (ps : List Segment) (rest : List ℕ) → Cuts ps rest → Cuts (settled ps) rest
same_cut [] rest c = tt
same_cut (Blank byte ∷ ps) rest c = (c.0, refl, same_cut ps rest c.2)
same_cut (Comment bytes ∷ ps) rest c = (c.0, subst (λ text. IsTrue (piece_ends (Comment bytes) (text ++ rest))) (sym (same_text ps)) c.1, same_cut ps rest c.2)
same_cut (Word t ∷ ps) rest c =
    let s = settles t (tokens_of (settled ps)) in
    let ends : IsTrue (token_ends t (text_of (settled ps) ++ rest)) = subst (λ text. IsTrue (token_ends t (text ++ rest))) (sym (same_text ps)) c.1 in
    (s.valid c.0, s.ends (text_of (settled ps) ++ rest) ∙ ends, same_cut ps rest c.2)

all_decided : (ps : List Segment) → IsTrue (is_decided (tokens_of (settled ps)))
all_decided [] = refl
all_decided (Blank byte ∷ ps) = all_decided ps
all_decided (Comment bytes ∷ ps) = all_decided ps
all_decided (Word t ∷ ps) = all_true _ _ (settles t (tokens_of (settled ps))).fits (all_decided ps)

same_reserved : (ps : List Segment) → list_any is_reserved (tokens_of (settled ps)) ≡ list_any is_reserved (tokens_of ps)
same_reserved [] = refl
same_reserved (Blank byte ∷ ps) = same_reserved ps
same_reserved (Comment bytes ∷ ps) = same_reserved ps
same_reserved (Word t ∷ ps) = λ i. (settles t (tokens_of (settled ps))).free i || same_reserved ps i

-- A text that is cut into tokens, none reserved, is so with each `+` what the next token makes it.
pub settled_tokens : (text : List ℕ) (ps : List Segment) → text ≡ text_of ps → Cuts ps [] → IsFalse (list_any is_reserved (tokens_of ps))
    → IsTokens text (settled ps)
settled_tokens text ps e cut free = record {
  joined = e ∙ sym (same_text ps);
  cut = same_cut ps [] cut;
  decided = all_decided ps;
  free = same_reserved ps
      ∙ free;
}
