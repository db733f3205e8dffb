-- The lines of a game's text, piece by piece.
use Rattle.std.proofs.Common.{◌≡◌, ℕ, suc, ◌+◌, ◌<◌, ◌≤◌, List, [], ◌∷◌, ◌++◌, length, drop, get_or, codes, decimal, Option, Some, refl, sym, ap, ap₂}
use Rattle.std.proofs.Common.{subst, ◌∙◌, append-nil, add-one, arith}
use Rattle.std.specs.Prelude.{option_map, slice_get}
use Rattle.game.specs.declared.player.Player.{Player}
use Rattle.game.specs.Game.{Vertex}
use Rattle.text.specs.Pieces.{line_end}
use Rattle.std.proofs.Math.Seq.{drop-cons}
use Rattle.std.proofs.Math.ListN.{drop_of_length-le}
use Rattle.game.specs.declared.player.Player.TheVariants.{Even}
use Rattle.game.specs.Game.{Game}
use Rattle.text.specs.Wrote.{lines_from}
use Rattle.pgsolver.specs.Canon.{front_text, successors_text, name_text, vertex_line, vertex_lines, vertex_line_at, vertex_line_of}

-- the numbers, with a comma before each but the first, before which this stands
abbrev pub numbers_from : List ℕ → List ℕ → List ℕ
numbers_from before [] = []
numbers_from before (t ∷ ts) = (before ++ decimal t) ++ numbers_from (44 ∷ []) ts

pub numbers_are : (ts : List ℕ) → successors_text ts ≡ numbers_from [] ts
numbers_are [] = refl
numbers_are (t ∷ []) = sym (append-nil (decimal t))
numbers_are (t ∷ u ∷ ts) = ap (λ l. decimal t ++ (44 ∷ l)) (numbers_are (u ∷ ts))

-- the numbers from one on begin with it
pub next_number : (before ts : List ℕ) (i d : ℕ) → i < length ts
    → numbers_from before (drop i ts) ≡ (before ++ decimal (get_or ts i d)) ++ numbers_from (44 ∷ []) (drop (i + 1) ts)
next_number before ts i d h = rw (drop-cons ts i d h, add-one i) refl

pub no_numbers : (before ts : List ℕ) (i : ℕ) → length ts ≤ i → numbers_from before (drop i ts) ≡ []
no_numbers before ts i past = ap (numbers_from before) (drop_of_length-le ts past)

-- ---- a vertex

-- what the vertex has is what was read of it
had : {A : Type 0} (o : Option Vertex) (f : Vertex → A) (x : Vertex) (r : A) → o ≡ Some x → option_map f o ≡ Some r → r ≡ f x
had o f x r there read = let same : Some (f x) ≡ Some r = sym (ap (option_map f) there) ∙ read in cc

-- the end of a line, where the name is told so
abbrev pub end_text : Option (ℕ × ℕ) → ℕ → List ℕ
end_text named v = name_text named v ++ (codes ";" ++ line_end)

-- the line by what was read of the vertex
pub line_read : (named told : Option (ℕ × ℕ)) (v : ℕ) (o : Option Vertex) (x : Vertex) (owner : Player) (priority : ℕ) (successors : List ℕ) → o ≡ Some x
    → told ≡ named
    → option_map (λ x. x.owner) o ≡ Some owner → option_map (λ x. x.priority) o ≡ Some priority → option_map (λ x. x.successors) o ≡ Some successors
    → front_text v (record { owner = owner; priority = priority; successors = [] }) ++ (successors_text successors ++ end_text told v) ≡ vertex_line named v x
line_read named told v o x owner priority successors there same owned prior led =
    let a = had o (λ x. x.owner) x owner there owned in
    let b = had o (λ x. x.priority) x priority there prior in
    let c = had o (λ x. x.successors) x successors there led in
    λ i. front_text v (record { owner = a i; priority = b i; successors = [] }) ++ (successors_text (c i) ++ end_text (same i) v)

other : Vertex
other = record { owner = Even; priority = 0; successors = [] }

-- ---- lines by number

more_lines : (line : ℕ → List ℕ) (named : Option (ℕ × ℕ)) (v : ℕ) (xs : List Vertex)
    → ((i : ℕ) → i < length xs → line (v + i) ≡ vertex_line_of named (v + i) (slice_get xs i)) → lines_from line v (length xs) ≡ vertex_lines named v xs
more_lines line named v [] each = refl
more_lines line named v (x ∷ xs) each =
    let none_more : v + 0 ≡ v = omega arith in
    let one_more : (i : ℕ) → v + suc i ≡ (v + 1) + i = λ i. omega arith in
    let first : line v ≡ vertex_line named v x = subst (λ n. line n ≡ vertex_line_of named n (Some x)) none_more (each 0 (omega arith)) in
    let rest = more_lines line named (v + 1) xs (λ i h. subst (λ n. line n ≡ vertex_line_of named n (slice_get xs i)) (one_more i)
    (each (suc i) (omega (arith, h)))) in
    ap₂ (λ a b. a ++ b) first rest

-- the lines of all vertices are the text's
pub all_lines : (g : Game) → lines_from (vertex_line_at g) 0 (length g.vertices) ≡ vertex_lines g.named 0 g.vertices
all_lines g = more_lines (vertex_line_at g) g.named 0 g.vertices here
  where
    here : (i : ℕ) → i < length g.vertices → vertex_line_at g (0 + i) ≡ vertex_line_of g.named (0 + i) (slice_get g.vertices i)
    here i h = let same : 0 + i ≡ i = omega arith in rw same refl
