-- The token at the front of a line, as a test: the token and what follows it.
use Rattle.std.specs.Prelude.{◌≡◌, ℕ, ◌+◌, ◌-◌, ◌^◌, Bool, not, nat_eq, nat_lt, ◌==◌, List, [], ◌∷◌, length, take, drop, min, Option, Some, None, if◌then◌else◌}
use Rattle.std.specs.List.{prefix_len, list_all}
use Rattle.std.specs.Cmp.Lexicographic.{pointwise}
use Rattle.text.specs.Text.{is_blank, is_digit, is_numeral, value_of}

infixl 10 ◌>>=◌
abbrev pub ◌>>=◌ : {A B : Type 0} → Option A → (A → Option B) → Option B
(Some x) >>= f = f x
None >>= f = None

-- a function found what a test on lists finds, seen by view
abbrev pub Finds : {X Y : Type 0} → (X → Y) → Option X → Option Y → Type 0
Finds view (Some x) found = found ≡ Some (view x)
Finds view None found = found ≡ None

-- the number, or the greatest of its type
abbrev pub capped : ℕ → ℕ
capped n = min n (2 ^ 32 - 1)

abbrev pub past_blanks : List ℕ → List ℕ
past_blanks line = drop (prefix_len is_blank line) line

-- what follows the token
unfoldable pub sign_at : List ℕ → List ℕ → Option (List ℕ)
sign_at token line = let start = past_blanks line in if pointwise nat_eq (take (length token) start) token then Some (drop (length token) start) else None

-- the number whose numeral this is
unfoldable pub whole_number : List ℕ → Option ℕ
whole_number bytes = if is_numeral bytes then Some (capped (value_of bytes)) else None

-- the number right in front, and what follows it
unfoldable pub number_here : List ℕ → Option (ℕ × List ℕ)
number_here line =
    let count = prefix_len is_digit line in
    if is_numeral (take count line) then Some (capped (value_of (take count line)), drop count line) else None

-- the number past the blanks, and what follows it
unfoldable pub number_at : List ℕ → Option (ℕ × List ℕ)
number_at line =
    let start = past_blanks line in
    let count = prefix_len is_digit start in
    if is_numeral (take count start) then Some (capped (value_of (take count start)), drop count start) else None

-- any byte but this
abbrev pub is_other : ℕ → ℕ → Bool
is_other byte b = not (b == byte)

-- the bytes before the next of these, and what follows it
unfoldable pub cut_at : ℕ → List ℕ → Option (List ℕ × List ℕ)
cut_at byte line =
    let count = prefix_len (is_other byte) line in
    if nat_lt count (length line) then Some (take count line, drop (count + 1) line) else None

unfoldable pub quoted_at : List ℕ → Option (List ℕ × List ℕ)
quoted_at line = do
  rest ← sign_at (34 ∷ []) line
  cut_at 34 rest

-- nothing but blanks follows
unfoldable pub end_at : {A : Type 0} → A → List ℕ → Option A
end_at a line = if list_all is_blank line then Some a else None

-- the number before the token, and what follows both
unfoldable pub number_before : List ℕ → List ℕ → Option (ℕ × List ℕ)
number_before token line = do
  n ← number_at line
  rest ← sign_at token n.1
  Some (n.0, rest)
