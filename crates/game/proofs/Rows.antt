-- The vertices of stored rows.
use Rattle.game.proofs.Common.{◌≡◌, ◌==◌, ◌+◌, ◌≤◌, ◌<◌, ℕ, false, List, [], ◌∷◌, ◌++◌, length, take, drop, slice_index, cond, ap, sym, ◌∙◌, refl, arith, map}
use Rattle.game.proofs.Common.{get_or, Some, subst, length-drop, length-append, count_by, if◌then◌else◌, option_map, slice_get, AllByRecursion, sum_by}
use Rattle.game.proofs.Common.{take-append-le, drop-append-le, length-map, map-append, slice_get-map, slice_get_read, drop-append_seam, drop-append-add}
use Rattle.game.proofs.Common.{ne_eqb, moved, All-from_recursion, Game, Vertex, IsVertex, vertex, game_of, vertex_of_row, vertices_of, AreStored, VertexRow}
use Rattle.std.proofs.lemmas.List.Sums.{sum_by-append, sum_by-cons}
use Rattle.game.specs.declared.graph.Game.TheInside.{Inside}

-- what holds of each of the first and of one more holds of each
pub all_more : {X : Type 0} (P : X → Type 0) (xs : List X) (x : X) → AllByRecursion P xs → P x → AllByRecursion P (xs ++ x ∷ [])
all_more P [] x h k = (k, tt)
all_more P (y ∷ xs) x h k = (h.0, all_more P xs x h.1 k)

-- what holds of each of two lists holds of each of both
pub all_append : {X : Type 0} (P : X → Type 0) (xs ys : List X) → AllByRecursion P xs → AllByRecursion P ys → AllByRecursion P (xs ++ ys)
all_append P [] ys h k = k
all_append P (x ∷ xs) ys h k = (h.0, all_append P xs ys h.1 k)

-- what follows from the one follows of each from the other
pub all_from : {X : Type 0} (P Q : X → Type 0) → ((x : X) → P x → Q x) → (xs : List X) → AllByRecursion P xs → AllByRecursion Q xs
all_from P Q f [] h = tt
all_from P Q f (x ∷ xs) h = (f x h.0, all_from P Q f xs h.1)

-- A row's vertex stays as it is where the list of successors grows.
row_same : (xs ys : List ℕ) (r : VertexRow) → r.start + r.count ≤ length xs → vertex_of_row (xs ++ ys) r ≡ vertex_of_row xs r
row_same xs ys r h =
    let e : take r.count (drop r.start (xs ++ ys)) ≡ take r.count (drop r.start xs) =
    ap (take r.count) (drop-append-le r.start xs ys (omega arith)) ∙ take-append-le r.count (drop r.start xs) ys (omega (arith, length-drop r.start xs)) in
    λ i. record { owner = r.owner; priority = r.priority; successors = e i }

-- The list of successors may grow.
pub rows_same : (rows : List VertexRow) (xs ys : List ℕ) → AllByRecursion (λ r. r.start + r.count ≤ length xs) rows
    → vertices_of rows (xs ++ ys) ≡ vertices_of rows xs
rows_same [] xs ys h = refl
rows_same (r ∷ rows) xs ys h = λ i. row_same xs ys r h.0 i ∷ rows_same rows xs ys h.1 i

-- Growing the list of successors alone changes no vertex.
pub stored_longer : (rows : List VertexRow) (xs ys counts : List ℕ) → AreStored rows xs counts → AreStored rows (xs ++ ys) counts
stored_longer rows xs ys counts h =
    record {
      within = all_from _ _ (λ r k. omega (arith, k, length-append xs ys)) rows h.within;
      counted = λ p k. h.counted p k ∙ sym (ap (count_by (λ v. v.priority == p)) (rows_same rows xs ys h.within));
    }

-- One row more, whose successors come last, is one vertex more.
pub vertices_more : (rows : List VertexRow) (r : VertexRow) (xs ys : List ℕ) → AllByRecursion (λ r. r.start + r.count ≤ length xs) rows → r.start ≡ length xs
    → r.count ≡ length ys
    → vertices_of (rows ++ r ∷ []) (xs ++ ys) ≡ vertices_of rows xs ++ record { owner = r.owner; priority = r.priority; successors = ys } ∷ []
vertices_more rows r xs ys h start count =
    let e : take r.count (drop r.start (xs ++ ys)) ≡ ys =
    (λ i. take (count i) (drop (start i) (xs ++ ys))) ∙ (ap (take (length ys)) (drop-append_seam xs ys) ∙ all_of ys) in
    map-append (vertex_of_row (xs ++ ys)) rows (r ∷ [])
    ∙ (λ i. rows_same rows xs ys h i ++ record { owner = r.owner; priority = r.priority; successors = e i } ∷ [])
  where
    all_of : (ys : List ℕ) → take (length ys) ys ≡ ys
    all_of [] = refl
    all_of (y ∷ ys) = ap (λ zs. y ∷ zs) (all_of ys)

-- .. and the counts are right where this priority's is one more.
pub stored_more : (rows : List VertexRow) (r : VertexRow) (xs ys counts after : List ℕ) → AreStored rows xs counts → r.start ≡ length xs → r.count ≡ length ys
    → ((p : ℕ) → p ≤ 32 → slice_index after p ≡ slice_index counts p + (if r.priority == p then 1 else 0)) → AreStored (rows ++ r ∷ []) (xs ++ ys) after
stored_more rows r xs ys counts after h start count counted =
    record {
      within = all_more _ rows r (stored_longer rows xs ys counts h).within (omega (arith, length-append xs ys));
      counted = λ p k. counted p k ∙ (ap (λ n. n + cond (r.priority == p) 1 0) (h.counted p k) ∙ sym (more p));
    }
  where
    one : (p : ℕ) → sum_by (λ (v : Vertex). cond (v.priority == p) 1 0) (record { owner = r.owner; priority = r.priority; successors = ys } ∷ [])
        ≡ cond (r.priority == p) 1 0
    one p = omega arith

    more : (p : ℕ) → count_by (λ v. v.priority == p) (vertices_of (rows ++ r ∷ []) (xs ++ ys)) ≡ count_by (λ v. v.priority == p) (vertices_of rows xs)
        + cond (r.priority == p) 1 0
    more p =
        ap (count_by (λ v. v.priority == p)) (vertices_more rows r xs ys h.within start count)
        ∙ (sum_by-append (λ (v : Vertex). cond (v.priority == p) 1 0) (vertices_of rows xs)
        (record { owner = r.owner; priority = r.priority; successors = ys } ∷ []) ∙ ap (λ n. count_by (λ v. v.priority == p) (vertices_of rows xs) + n) (one p))

-- The rows of other vertices keep theirs where their successors come after those of these.
moved_same : (more : List VertexRow) (xs ys : List ℕ) → vertices_of (map (moved (length xs)) more) (xs ++ ys) ≡ vertices_of more ys
moved_same [] xs ys = refl
moved_same (r ∷ more) xs ys = λ i. record { owner = r.owner; priority = r.priority; successors = same i } ∷ moved_same more xs ys i
  where
    places : r.start + length xs ≡ length xs + r.start
    places = omega arith

    same : take r.count (drop (r.start + length xs) (xs ++ ys)) ≡ take r.count (drop r.start ys)
    same = ap (λ n. take r.count (drop n (xs ++ ys))) places ∙ ap (take r.count) (drop-append-add xs ys r.start)

-- The vertices of two builders, one after the other.
pub vertices_joined : (rows more : List VertexRow) (xs ys : List ℕ) → AllByRecursion (λ r. r.start + r.count ≤ length xs) rows
    → vertices_of (rows ++ map (moved (length xs)) more) (xs ++ ys) ≡ vertices_of rows xs ++ vertices_of more ys
vertices_joined rows more xs ys h = map-append (vertex_of_row (xs ++ ys)) rows (map (moved (length xs)) more)
    ∙ (λ i. rows_same rows xs ys h i ++ moved_same more xs ys i)

all_moved : (more : List VertexRow) (xs ys : List ℕ) → AllByRecursion (λ r. r.start + r.count ≤ length ys) more
    → AllByRecursion (λ r. r.start + r.count ≤ length (xs ++ ys)) (map (moved (length xs)) more)
all_moved [] xs ys h = tt
all_moved (r ∷ more) xs ys h = (omega (arith, h.0, length-append xs ys), all_moved more xs ys h.1)

-- .. and the counts are right where those of both are added.
pub stored_joined : (rows more : List VertexRow) (xs ys counts others after : List ℕ) → AreStored rows xs counts → AreStored more ys others
    → ((p : ℕ) → p ≤ 32 → slice_index after p ≡ slice_index counts p + slice_index others p) → AreStored (rows ++ map (moved (length xs)) more) (xs ++ ys) after
stored_joined rows more xs ys counts others after h k added =
    record {
      within = all_append _ rows (map (moved (length xs)) more) (stored_longer rows xs ys counts h).within (all_moved more xs ys k.within);
      counted = λ p le. added p le ∙ ((λ i. h.counted p le i + k.counted p le i) ∙ sym (both p));
    }
  where
    both : (p : ℕ) → count_by (λ v. v.priority == p) (vertices_of (rows ++ map (moved (length xs)) more) (xs ++ ys))
        ≡ count_by (λ v. v.priority == p) (vertices_of rows xs) + count_by (λ v. v.priority == p) (vertices_of more ys)
    both p = ap (count_by (λ v. v.priority == p)) (vertices_joined rows more xs ys h.within)
        ∙ sum_by-append (λ (v : Vertex). cond (v.priority == p) 1 0) (vertices_of rows xs) (vertices_of more ys)

-- No vertex has a priority above the greatest.
pub count_past : (n p : ℕ) (vs : List Vertex) → 32 < p → AllByRecursion (IsVertex n) vs → count_by (λ v. v.priority == p) vs ≡ 0
count_past n p [] h k = refl
count_past n p (v ∷ vs) h k =
    let other : (v.priority == p) ≡ false = ne_eqb v.priority p (λ e. omega (arith, k.0.priority, e)) in
    sum_by-cons (λ (x : Vertex). cond (x.priority == p) 1 0) v vs ∙ rw (other, count_past n p vs h k.1)

row_there : (i : Inside) (g : Game) (v : ℕ) → game_of i ≡ g → v < length g.vertices → v < length i.rows.items
row_there i g v is h = omega (arith, h, length-map i.rows.items (vertex_of_row i.successors.items), ap (λ (h : Game). length h.vertices) is)

-- A row's successors stand in the list.
pub row_within : (i : Inside) (g : Game) (v : ℕ) (row : VertexRow) → game_of i ≡ g → v < length g.vertices → row ≡ get_or i.rows.items v row
    → AllByRecursion (λ row. row.start + row.count ≤ length i.successors.items) i.rows.items
    → row.start + row.count ≤ length i.successors.items
row_within i g v row is h read within =
    let Within = λ (r : VertexRow). r.start + r.count ≤ length i.successors.items in
    subst Within (sym read) (All-from_recursion Within i.rows.items within v row (row_there i g v is h))

-- What is told of a vertex is told of its row.
pub told : {X : Type 0} (f : Vertex → X) (i : Inside) (g : Game) (v : ℕ) (row : VertexRow) → game_of i ≡ g → v < length g.vertices
    → row ≡ get_or i.rows.items v row → option_map f (vertex g v) ≡ Some (f (vertex_of_row i.successors.items row))
told f i g v row is h read =
    let rows = i.rows.items in
    let of = vertex_of_row i.successors.items in
    let same : map of rows ≡ g.vertices = ap (λ (h : Game). h.vertices) is in
    let there = slice_get_read rows (length rows) v row refl (row_there i g v is h) read in
    ap (λ xs. option_map f (slice_get xs v)) (sym same) ∙ ap (option_map f) (slice_get-map of rows v ∙ ap (option_map of) there)
