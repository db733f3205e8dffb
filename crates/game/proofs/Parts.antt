-- The parts of an arena, joined.
use Rattle.game.proofs.Common.{◌≡◌, ◌+◌, ◌-◌, ◌*◌, ◌≤◌, ◌<◌, ℕ, zero, suc, List, [], ◌∷◌, ◌++◌, length, map, take, drop, refl, sym, ap, ◌∙◌, subst, inl, inr}
use Rattle.game.proofs.Common.{arith, range_with_len, map-append, append-nil, append_assoc, get_or, length-append, take_all, leb_tells, System, Node, Vertex}
use Rattle.game.proofs.Common.{rows}
use Rattle.std.specs.Prelude.{min, Ok, Err, IfOk, MatchResult}
use Rattle.std.specs.declared.alloc.AllocError.{AllocError}
use Rattle.std.proofs.lemmas.List.{take-append-drop, take_more}
use Rattle.std.specs.List.{AllZip, flat_map}
use Rattle.std.specs.declared.result.Result.{Result}
use Rattle.std.specs.Int.{div_ceil}
use Rattle.std.proofs.Common.{mul_comm}
use Rattle.std.proofs.lemmas.Grind.{div_ceil_times}
use Rattle.std.proofs.Math.Seq.{take-add}
use Rattle.std.proofs.lemmas.Grind.{flat_map-append}
use Rattle.std.proofs.lemmas.List.FromFn.{length-range_with_len}
use Rattle.game.specs.Parts.{vertices_of_range}
use Rattle.game.proofs.Arenas.{range_more, rows_append}

drop_range : (k a n : ℕ) → drop k (range_with_len a n) ≡ range_with_len (a + k) (n - k)
drop_range zero a n = let start : a ≡ a + 0 = omega arith in let size : n ≡ n - 0 = omega arith in (λ i. range_with_len (start i) (size i))
drop_range (suc k) a zero = let size : 0 ≡ 0 - suc k = omega arith in (λ i. range_with_len (a + suc k) (size i))
drop_range (suc k) a (suc n) =
    let start : a + 1 + k ≡ a + suc k = omega arith in
    let size : n - k ≡ suc n - suc k = omega arith in
    drop_range k (a + 1) n ∙ (λ i. range_with_len (start i) (size i))

take_range : (m a n : ℕ) → take m (range_with_len a n) ≡ range_with_len a (min m n)
take_range zero a n = let size : 0 ≡ min 0 n = omega arith in (λ i. range_with_len a (size i))
take_range (suc m) a zero = let size : 0 ≡ min (suc m) 0 = omega arith in (λ i. range_with_len a (size i))
take_range (suc m) a (suc n) = let size : suc (min m n) ≡ min (suc m) (suc n) = omega arith in ap (λ xs. a ∷ xs) (take_range m (a + 1) n)
    ∙ (λ i. range_with_len a (size i))

-- a part of the numbers from 0 on, by its first number
pub range_cut : (k m n first size : ℕ) → first ≡ min k n → size ≡ min m (n - first) → range_with_len first size ≡ take m (drop k (range_with_len 0 n))
range_cut k m n first size start count =
    sym (ap (take m) (drop_range k 0 n) ∙ (take_range m (0 + k) (n - k) ∙ elim (leb_tells k n) [
      | inl w ↦ let at : 0 + k ≡ first = omega (arith, w.1, start) in let all : min m (n - k) ≡ size = omega (arith, w.1, start, count)
          in (λ i. range_with_len (at i) (all i))
      | inr w ↦ let none : min m (n - k) ≡ 0 = omega (arith, w.1) in let zeros : size ≡ 0 = omega (arith, w.1, start, count)
          in (λ i. range_with_len (0 + k) (none i)) ∙ (λ i. range_with_len first (sym zeros i))
    ]))

-- the parts of the first ranges
parts_upto : (l : System) (nodes : List Node) (size n : ℕ) → flat_map (λ part. part) (map (vertices_of_range l nodes size) (range_with_len 0 n))
    ≡ rows l nodes (take (n * size) (range_with_len 0 l.states))
parts_upto l nodes size zero = let none : 0 ≡ 0 * size = omega arith in (λ i. rows l nodes (take (none i) (range_with_len 0 l.states)))
parts_upto l nodes size (suc n) =
    let part = vertices_of_range l nodes size in
    let xs = range_with_len 0 l.states in
    let here : 0 + n ≡ n = omega arith in
    let one : suc n ≡ n + 1 = omega arith in
    let next : n * size + size ≡ suc n * size = omega arith in
    let cut : map part (range_with_len 0 (suc n)) ≡ map part (range_with_len 0 n) ++ part n ∷ [] =
    ap (λ k. map part (range_with_len 0 k)) one ∙ (ap (map part) (range_more 0 n)
    ∙ (map-append part (range_with_len 0 n) ((0 + n) ∷ []) ∙ (λ i. map part (range_with_len 0 n) ++ part (here i) ∷ [])))
    in
    ap (flat_map (λ (p : List Vertex). p)) cut
    ∙ (flat_map-append (λ (p : List Vertex). p) (map part (range_with_len 0 n)) (part n ∷ [])
    ∙ ((λ i. parts_upto l nodes size n i ++ append-nil (part n) i)
    ∙ (sym (rows_append l nodes (take (n * size) xs) (take size (drop (n * size) xs)))
    ∙ ap (rows l nodes) (sym (take-add (n * size) size xs) ∙ (λ i. take (next i) xs)))))

-- The parts of all ranges are the vertices of all states.
pub all_parts : (l : System) (nodes : List Node) (size ranges : ℕ) (parts : List (List Vertex)) → 0 < ranges → size ≡ div_ceil l.states ranges
    → parts ≡ map (vertices_of_range l nodes size) (range_with_len 0 ranges)
    → flat_map (λ part. part) parts ≡ rows l nodes (range_with_len 0 l.states)
all_parts l nodes size ranges parts some ceil are =
    let whole : l.states ≤ ranges * size = rw (ceil, mul_comm ranges (div_ceil l.states ranges)) (div_ceil_times l.states ranges some).0 in
    ap (flat_map (λ (p : List Vertex). p)) are ∙ (parts_upto l nodes size ranges
    ∙ ap (rows l nodes) (take_all (ranges * size) (range_with_len 0 l.states) (omega (arith, whole, length-range_with_len 0 l.states))))

-- what follows of the value of an `Ok`
pub ok_from : {X E : Type 0} (r : Result X E) (P Q : X → Type 0) (F : E → Type 0) → MatchResult r P F → ((x : X) → P x → Q x) → IfOk r Q
ok_from (Ok x) P Q F h f = f x h
ok_from (Err e) P Q F h f = tt

given : {X : Type 0} (f : ℕ → X) (is : List ℕ) (xs : List X) → AllZip (λ i (r : Result X AllocError). IfOk r (λ x. x ≡ f i)) is (map Ok xs) → xs ≡ map f is
given f [] [] h = refl
given f [] (x ∷ xs) h = absurd h
given f (i ∷ is) [] h = absurd h
given f (i ∷ is) (x ∷ xs) h = λ j. h.0 j ∷ given f is xs h.1 j

-- What the calls gave where each gave something.
pub all_given : {X : Type 0} (f : ℕ → X) (is : List ℕ) (rs : List (Result X AllocError)) (xs : List X) → rs ≡ map Ok xs
    → AllZip (λ i (r : Result X AllocError). IfOk r (λ x. x ≡ f i)) is rs → xs ≡ map f is
all_given {X} f is rs xs same h = given f is xs (subst (AllZip (λ i (r : Result X AllocError). IfOk r (λ x. x ≡ f i)) is) same h)

-- one part more
pub joined_more : (parts : List (List Vertex)) (i : ℕ) (first old new part : List Vertex) → (i < length parts) × (part ≡ get_or parts i part)
    → old ≡ first ++ flat_map (λ p. p) (take i parts) → new ≡ old ++ part
    → new ≡ first ++ flat_map (λ p. p) (take (i + 1) parts)
joined_more parts i first old new part here before joined =
    let cut : take (i + 1) parts ≡ take i parts ++ part ∷ [] = take_more parts i part here.0 ∙ ap (λ p. take i parts ++ p ∷ []) (sym here.1) in
    let all : flat_map (λ (p : List Vertex). p) (take (i + 1) parts) ≡ flat_map (λ p. p) (take i parts) ++ part =
    ap (flat_map (λ (p : List Vertex). p)) cut ∙ (flat_map-append (λ (p : List Vertex). p) (take i parts) (part ∷ [])
    ∙ ap (λ xs. flat_map (λ p. p) (take i parts) ++ xs) (append-nil part))
    in
    joined ∙ (ap (λ xs. xs ++ part) before ∙ (append_assoc first (flat_map (λ p. p) (take i parts)) part ∙ ap (λ xs. first ++ xs) (sym all)))

-- .. for which there is room
pub joined_fit : (parts : List (List Vertex)) (i most : ℕ) (first old part : List Vertex) → (i < length parts) × (part ≡ get_or parts i part)
    → old ≡ first ++ flat_map (λ p. p) (take i parts)
    → length first + length (flat_map (λ p. p) parts) ≤ most → length old + length part ≤ most
joined_fit parts i most first old part here before few =
    let new = joined_more parts i first old (old ++ part) part here before refl in
    let all : flat_map (λ (p : List Vertex). p) parts ≡ flat_map (λ p. p) (take (i + 1) parts) ++ flat_map (λ p. p) (drop (i + 1) parts) =
    ap (flat_map (λ (p : List Vertex). p)) (sym (take-append-drop (i + 1) parts))
    ∙ flat_map-append (λ (p : List Vertex). p) (take (i + 1) parts) (drop (i + 1) parts)
    in
    omega (
      arith,
      few,
      ap length new,
      ap length all,
      length-append old part,
      length-append first (flat_map (λ p. p) (take (i + 1) parts)),
      length-append (flat_map (λ p. p) (take (i + 1) parts)) (flat_map (λ p. p) (drop (i + 1) parts)),
    )
