-- What the test of a finished game says.
use Rattle.game.proofs.Common.{◌≡◌, ◌==◌, ◌&&◌, ◌+◌, ◌≤◌, ◌<◌, ℕ, Bool, true, false, List, [], ◌∷◌, length, ap, sym, ◌∙◌, refl, arith, nat_le, nat_lt}
use Rattle.game.proofs.Common.{not, AllByRecursion, list_all, ltb-true, leb-true, lt-ltb, le-leb, and_parts, and_from, ne_eqb, eqb-false, length-map, Vertex}
use Rattle.game.proofs.Common.{IsVertex, IsAscending, rises, vertex_of_row, vertices_of, VertexRow}
use Rattle.std.proofs.lemmas.List.Folds.{list_all-map}

-- what the test of one vertex says
abbrev pub is_vertex : ℕ → Vertex → Bool
is_vertex limit v = nat_lt v.priority 33 && not (length v.successors == 0) && rises limit 0 v.successors

abbrev pub is_fit : ℕ → List ℕ → VertexRow → Bool
is_fit limit successors row = is_vertex limit (vertex_of_row successors row)

-- the first is at least this
abbrev BeginsFrom : ℕ → List ℕ → Type 0
BeginsFrom least [] = Unit {0}
BeginsFrom least (x ∷ xs) = least ≤ x

ascending_cons : (x : ℕ) (xs : List ℕ) → BeginsFrom (x + 1) xs → IsAscending xs → IsAscending (x ∷ xs)
ascending_cons x [] h k = tt
ascending_cons x (y ∷ xs) h k = (omega (arith, h), k)

ascending_from : (n least : ℕ) (xs : List ℕ) → rises n least xs ≡ true → BeginsFrom least xs × IsAscending xs × AllByRecursion (λ t. t < n) xs
ascending_from n least [] h = (tt, tt, tt)
ascending_from n least (x ∷ xs) h =
    let parts = and_parts (nat_le least x && nat_lt x n) (rises n (x + 1) xs) h in
    let first = and_parts (nat_le least x) (nat_lt x n) parts.0 in
    let rest = ascending_from n (x + 1) xs parts.1 in
    (leb-true least x first.0, ascending_cons x xs rest.0 rest.1, (ltb-true x n first.1, rest.2))

rest_from : (x : ℕ) (xs : List ℕ) → IsAscending (x ∷ xs) → BeginsFrom (x + 1) xs × IsAscending xs
rest_from x [] h = (tt, tt)
rest_from x (y ∷ xs) h = (omega (arith, h.0), h.1)

ascending_to : (n least : ℕ) (xs : List ℕ) → BeginsFrom least xs → IsAscending xs → AllByRecursion (λ t. t < n) xs → rises n least xs ≡ true
ascending_to n least [] b h k = refl
ascending_to n least (x ∷ xs) b h k =
    let rest = rest_from x xs h in
    and_from (nat_le least x && nat_lt x n) (rises n (x + 1) xs) (and_from (nat_le least x) (nat_lt x n) (le-leb least x b) (lt-ltb x n k.0))
    (ascending_to n (x + 1) xs rest.0 rest.1 k.1)

begins_from_none : (xs : List ℕ) → BeginsFrom 0 xs
begins_from_none [] = tt
begins_from_none (x ∷ xs) = omega arith

not_true : (b : Bool) → not b ≡ true → b ≡ false
not_true true h = sym h
not_true false h = refl

some_from : (n : ℕ) → (n == 0) ≡ false → 1 ≤ n
some_from n h = let ne = eqb-false n 0 h in omega (arith, ne)

vertex_from : (n : ℕ) (v : Vertex) → is_vertex n v ≡ true → IsVertex n v
vertex_from n v h =
    let parts = and_parts (nat_lt v.priority 33 && not (length v.successors == 0)) (rises n 0 v.successors) h in
    let first = and_parts (nat_lt v.priority 33) (not (length v.successors == 0)) parts.0 in
    let rise = ascending_from n 0 v.successors parts.1 in
    record {
      priority = omega (arith, ltb-true v.priority 33 first.0);
      some = some_from (length v.successors) (not_true (length v.successors == 0) first.1);
      ascending = rise.1;
      within = rise.2;
    }

vertex_to : (n : ℕ) (v : Vertex) → IsVertex n v → is_vertex n v ≡ true
vertex_to n v h =
    and_from (nat_lt v.priority 33 && not (length v.successors == 0)) (rises n 0 v.successors)
    (and_from (nat_lt v.priority 33) (not (length v.successors == 0)) (lt-ltb v.priority 33 (omega (arith, h.priority)))
    (ap not (ne_eqb (length v.successors) 0 (λ e. omega (arith, h.some, e)))))
    (ascending_to n 0 v.successors (begins_from_none v.successors) h.ascending h.within)

pub vertices_from : (n : ℕ) (vs : List Vertex) → list_all (is_vertex n) vs ≡ true → AllByRecursion (IsVertex n) vs
vertices_from n [] h = tt
vertices_from n (v ∷ vs) h = let parts = and_parts (is_vertex n v) (list_all (is_vertex n) vs) h in (vertex_from n v parts.0, vertices_from n vs parts.1)

pub vertices_to : (n : ℕ) (vs : List Vertex) → AllByRecursion (IsVertex n) vs → list_all (is_vertex n) vs ≡ true
vertices_to n [] h = refl
vertices_to n (v ∷ vs) h = and_from (is_vertex n v) (list_all (is_vertex n) vs) (vertex_to n v h.0) (vertices_to n vs h.1)

-- The test of the rows is that of their vertices.
pub rows_test : (n : ℕ) (successors : List ℕ) (rows : List VertexRow) → list_all (is_fit n successors) rows ≡ list_all (is_vertex n) (vertices_of rows successors)
rows_test n successors rows = sym (list_all-map (is_vertex n) (vertex_of_row successors) rows)

-- The test of the rows, where the vertices are told by their value.
pub tested : (n : ℕ) (successors : List ℕ) (rows : List VertexRow) (vs : List Vertex) (b : Bool) → n ≡ length rows → vertices_of rows successors ≡ vs
    → list_all (is_fit n successors) rows ≡ b → list_all (is_vertex (length vs)) vs ≡ b
tested n successors rows vs b count same h =
    let size : length vs ≡ n = ap length (sym same) ∙ (length-map rows (vertex_of_row successors) ∙ sym count) in
    ap (λ k. list_all (is_vertex k) vs) size ∙ (ap (list_all (is_vertex n)) (sym same)
    ∙ (sym (rows_test n successors rows) ∙ h))
