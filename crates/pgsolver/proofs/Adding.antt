-- The numbers behind commas, as they are added one after another.
use Rattle.std.proofs.Common.{◌≡◌, ℕ, zero, suc, ◌+◌, ◌<◌, ◌≤◌, List, [], ◌∷◌, ◌++◌, length, take, drop, Option, Some, None, refl, sym, ap, ◌∙◌, append_assoc}
use Rattle.std.proofs.Common.{append-nil, arith}
use Rattle.std.specs.Prelude.{codes}
use Rattle.std.specs.List.{prefix_len}
use Rattle.std.proofs.lemmas.List.{length-append, length-drop}
use Rattle.text.specs.Text.{is_digit, is_blank, is_numeral, value_of}
use Rattle.text.specs.Tokens.{capped, past_blanks, sign_at, number_at, ◌>>=◌}
use Rattle.text.proofs.Scanning.{sign_cuts, if_some}
use Rattle.pgsolver.specs.Scan.{first_at, more_at, more_behind, targets_at, targets_behind, FindsMore}

-- a sign is not empty
pub sign_shorter : (c : ℕ) (cs line rest : List ℕ) → sign_at (c ∷ cs) line ≡ Some rest → length rest < length line
sign_shorter c cs line rest e =
    let (gap, blank, cut) = sign_cuts (c ∷ cs) line rest e in
    omega (arith, ap length cut, length-append gap ((c ∷ cs) ++ rest), length-append (c ∷ cs) rest)

pub number_shorter : (line : List ℕ) (v : ℕ) (rest : List ℕ) → number_at line ≡ Some (v, rest) → length rest ≤ length line
unfolding number_at
number_shorter line v rest e =
    let start = past_blanks line in
    let n = prefix_len is_digit start in
    let h = if_some (is_numeral (take n start)) (capped (value_of (take n start)), drop n start) (v, rest) e in
    let rest-is : drop n start ≡ rest = ap (λ (p : ℕ × List ℕ). p.1) h.1 in
    omega (arith, ap length rest-is, length-drop n start, length-drop (prefix_len is_blank line) line)

-- these numbers before those that were found
abbrev pub before : List ℕ → Option (List ℕ × List ℕ) → Option (List ℕ × List ℕ)
before numbers found = found >>= λ m. Some (numbers ++ m.0, m.1)

-- These numbers were added to the list, and those behind commas from `rest` on are still to come.
pub record HasAdded (line old now rest : List ℕ) : Type 0 where
  pub most : ℕ
  pub room : length rest < most
  pub numbers : List ℕ
  pub added : now ≡ old ++ numbers
  pub is : more_at (length line + 1) line ≡ before numbers (more_at most rest)

before_nothing : (found : Option (List ℕ × List ℕ)) → found ≡ before [] found
before_nothing None = refl
before_nothing (Some m) = refl

pub added_none : (line old : List ℕ) → HasAdded line old old line
added_none line old = record {
  most = length line + 1;
  room = omega arith;
  numbers = [];
  added = sym (append-nil old);
  is = before_nothing (more_at (length line + 1) line);
}

before_more : (numbers : List ℕ) (v : ℕ) (found : Option (List ℕ × List ℕ))
    → before numbers (found >>= λ m. Some (v ∷ m.0, m.1)) ≡ before (numbers ++ v ∷ []) found
before_more numbers v None = refl
before_more numbers v (Some m) = ap (λ l. Some (l, m.1)) (sym (append_assoc numbers (v ∷ []) m.0))

one_less : (n k : ℕ) → n < k → (m : ℕ) × (k ≡ suc m)
one_less n zero h = absurd (omega arith)
one_less n (suc m) h = (m, refl)

-- one more number
pub added_more : (line old now new rest after left : List ℕ) (v : ℕ) → HasAdded line old now rest → sign_at (codes ",") rest ≡ Some after
    → number_at after ≡ Some (v, left) → new ≡ now ++ v ∷ [] → HasAdded line old new left
unfolding more_at
added_more line old now new rest after left v so sign number pushed =
    let (m, k) = one_less (length rest) so.most so.room in
    let shorter = sign_shorter 44 [] rest after sign in
    let less = number_shorter after v left number in
    let opened : more_at (suc m) rest ≡ (more_at m left >>= λ more. Some (v ∷ more.0, more.1)) = ap (more_behind (more_at m) rest) sign
    ∙ ap (λ o. o >>= λ n. more_at m n.1 >>= λ more. Some (n.0 ∷ more.0, more.1)) number in
    record {
      most = m;
      room = omega (arith, so.room, k, shorter, less);
      numbers = so.numbers ++ v ∷ [];
      added = pushed ∙ ap (λ l. l ++ v ∷ []) so.added ∙ append_assoc old so.numbers (v ∷ []);
      is = so.is ∙ ap (λ m. before so.numbers (more_at m rest)) k ∙ ap (before so.numbers) opened ∙ before_more so.numbers v (more_at m left);
    }

-- no number stands behind a comma
pub added_wrong : (line old now rest after : List ℕ) → HasAdded line old now rest → sign_at (codes ",") rest ≡ Some after → number_at after ≡ None
    → more_at (length line + 1) line ≡ None
unfolding more_at
added_wrong line old now rest after so sign none =
    let (m, k) = one_less (length rest) so.most so.room in
    so.is ∙ ap (λ m. before so.numbers (more_at m rest)) k ∙ ap (before so.numbers)
    (ap (more_behind (more_at m) rest) sign ∙ ap (λ o. o >>= λ n. more_at m n.1 >>= λ more. Some (n.0 ∷ more.0, more.1)) none)

-- no comma follows
pub added_all : (line old now rest : List ℕ) → HasAdded line old now rest → sign_at (codes ",") rest ≡ None
    → FindsMore old now (Some rest) (more_at (length line + 1) line)
unfolding more_at
added_all line old now rest so none =
    let (m, k) = one_less (length rest) so.most so.room in (
      so.numbers,
      so.added,
      so.is ∙ ap (λ m. before so.numbers (more_at m rest)) k ∙ ap (before so.numbers) (ap (more_behind (more_at m) rest) none)
          ∙ ap (λ l. Some (l, rest)) (append-nil so.numbers),
    )

-- ---- the first one

-- no successor was found
pub none_found : (line old : List ℕ) → first_at line ≡ None → FindsMore old old (Some line) (targets_at line)
unfolding targets_at
none_found line old none = ([], sym (append-nil old), ap (targets_behind line) none)

-- the first successor was added, and then those behind commas
pub first_found : (line : List ℕ) (v : ℕ) (rest old mid now : List ℕ) (found : Option (List ℕ)) → first_at line ≡ Some (v, rest) → mid ≡ old ++ v ∷ []
    → FindsMore mid now found (more_at (length rest + 1) rest)
    → FindsMore old now found (targets_at line)
unfolding targets_at
first_found line v rest old mid now None first pushed none = ap (targets_behind line) first ∙ ap (λ o. o >>= λ more. Some (v ∷ more.0, more.1)) none
first_found line v rest old mid now (Some left) first pushed (numbers, added, is) = (
  v ∷ numbers,
  added ∙ ap (λ l. l ++ numbers) pushed ∙ append_assoc old (v ∷ []) numbers,
  ap (targets_behind line) first
      ∙ ap (λ o. o >>= λ more. Some (v ∷ more.0, more.1)) is,
)
