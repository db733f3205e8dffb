-- A text spells a game, or a fault decides.
use Rattle.std.proofs.Common.{◌≡◌, ◌≢◌, ℕ, zero, suc, ◌+◌, ◌<◌, ◌≤◌, ◌⊎◌, inl, inr, List, [], ◌∷◌, ◌++◌, length, Option, Some, None, true, false, cond, ◌==◌}
use Rattle.std.proofs.Common.{ap, ◌∙◌, subst, append-nil, append_assoc, arith, get_or, refl, sym}
use Rattle.std.specs.Prelude.{Contains, slice_get}
use Rattle.std.specs.List.{AllByRecursion, AllZip}
use Rattle.std.proofs.lemmas.Bool.{eqb-true, eqb-false}
use Rattle.std.proofs.lemmas.Bool.Decides.{eqb_tells, leb_tells}
use Rattle.std.proofs.lemmas.List.Elements.{Contains-get_or}
use Rattle.std.proofs.lemmas.List.Quantifiers.{all_pairs_push}
use Rattle.text.specs.Text.{lines}
use Rattle.systems.proofs.Ordered.{Contains-from_Has, Has, Has-from_Contains, all_has}
use Rattle.calculus.specs.declared.limits.TheConstants.{GREATEST_PRIORITY}
use Rattle.game.specs.Game.{Game, Vertex}
use Rattle.game.specs.declared.limits.TheConstants.{MOST_VERTICES}
use Rattle.game.specs.declared.player.Player.TheVariants.{Even}
use Rattle.text.specs.Tokens.{capped}
use Rattle.pgsolver.specs.Fault.{PgBodyFault, HasBadSuccessor, HasPgFault, IsBadId, PgLineFault}
use Rattle.pgsolver.specs.Scan.{header_at, line_at}
use Rattle.pgsolver.specs.Spelling.{AreGoodLines, IsGameText, IsPgHeader, IsLine, IsLineWithin, VertexLine, vertex_said}
use Rattle.pgsolver.specs.declared.error.PgFault.{PgFault}
use Rattle.pgsolver.specs.declared.error.PgFault.TheVariants.{BadHeader, BadIdentifier, BadLine, BadSuccessor, PriorityTooGreat, TooManyVertices}
use Rattle.pgsolver.proofs.Judging.{bad_line}
use Rattle.pgsolver.proofs.Placing.{Differ, differ_rest, few_lines, one_line}
use Rattle.pgsolver.proofs.Reading.{zip_length}
use Rattle.pgsolver.proofs.Scanning.{header_finds, header_gives, line_gives}

-- ---- a line

-- an identifier stands on some line, or on none
stands : (v : ℕ) (before : List VertexLine) → ((y : VertexLine) × Has before y × (y.id ≡ v)) ⊎ ((y : VertexLine) → Has before y → y.id ≡ v → ⊥)
stands v [] = inr (λ y h e. h)
stands v (x ∷ before) = elim (eqb_tells x.id v) [
  | inl w ↦ inl (x, inl refl, w.1)
  | inr w ↦ elim (stands v before) [
    | inl s ↦ inl (s.0, inr s.1, s.2)
    | inr none ↦ inr (λ y h e. elim h [ inl q ↦ w.1 (ap (λ (l : VertexLine). l.id) q ∙ e) | inr k ↦ none y k e ])
  ]
]

-- some number is above n, or none is
far_or_near : (n : ℕ) (ts : List ℕ) → ((t : ℕ) × Has ts t × (n < t)) ⊎ AllByRecursion (λ t. t ≤ n) ts
far_or_near n [] = inr tt
far_or_near n (t ∷ ts) = elim (leb_tells t n) [
  | inr w ↦ inl (t, inl refl, w.1)
  | inl w ↦ elim (far_or_near n ts) [
    | inl s ↦ inl (s.0, inr s.1, s.2)
    | inr near ↦ inr (w.1, near)
  ]
]

module _ (n : ℕ) where
  -- a line behind others
  data Judged (before : List VertexLine) (line : List ℕ) : Type 0 where
    fine : (x : VertexLine) → IsLine line x → IsLineWithin n x → ((y : VertexLine) → Contains before y → y.id ≡ x.id → ⊥) → Judged before line
    no_line : PgLineFault n before line BadLine → Judged before line
    no_id : PgLineFault n before line BadIdentifier → Judged before line
    no_successor : PgLineFault n before line BadSuccessor → Judged before line
    no_priority : PgLineFault n before line PriorityTooGreat → Judged before line

  -- all lines say what they should, as many as there should be, or a fault decides
  data Rest (rest : List (List ℕ)) : Type 0 where
    all : (spelled : List VertexLine) → AreGoodLines n rest spelled → length rest ≡ n + 1 → Rest rest
    wrong : (fault : PgFault) (good : ℕ) → PgBodyFault n rest fault good → Rest rest

  module _ (before : List VertexLine) (line : List ℕ) where
    module _ (x : VertexLine) (is : IsLine line x) (low : x.id ≤ n) (free : (y : VertexLine) → Contains before y → y.id ≡ x.id → ⊥) where
      right_id : IsBadId n before x → ⊥
      right_id (inl far) = absurd (omega (arith, low, far))
      right_id (inr (y, there, same)) = free y there same

      by_priority : x.successors ≢ [] → AllByRecursion (λ t. t ≤ n) x.successors → Judged before line
      by_priority some near = elim (leb_tells x.priority GREATEST_PRIORITY) [
        | inl w ↦ fine x is (record { id = low; some = some; successors = near; priority = w.1 }) free
        | inr w ↦ no_priority (x, is, right_id, right, w.1)
      ]
        where
          right : HasBadSuccessor n x → ⊥
          right (inl none) = some none
          right (inr (t, there, far)) =
              let near_one = all_has (λ t. t ≤ n) x.successors t near (Has-from_Contains x.successors t there) in
              absurd (omega (arith, near_one, far))

      by_successors : (ts : List ℕ) → x.successors ≡ ts → Judged before line
      by_successors [] none = no_successor (x, is, right_id, inl none)
      by_successors (t ∷ ts) some = elim (far_or_near n x.successors) [
        | inl s ↦ no_successor (x, is, right_id, inr (s.0, Contains-from_Has x.successors s.0 s.1, s.2))
        | inr near ↦ by_priority (λ none. (let q : [] ≡ t ∷ ts = sym none ∙ some in cc)) near
      ]

    by_id : (x : VertexLine) → IsLine line x → Judged before line
    by_id x is = elim (leb_tells x.id n) [
      | inr w ↦ no_id (x, is, inl w.1)
      | inl w ↦ elim (stands x.id before) [
        | inl s ↦ no_id (x, is, inr (s.0, Contains-from_Has before s.0 s.1, s.2))
        | inr none ↦ by_successors x is w.1 (λ y there same. none y (Has-from_Contains before y there) same) x.successors refl
      ]
    ]

    by_scan : (o : Option VertexLine) → line_at line ≡ o → Judged before line
    by_scan None none = no_line (bad_line line none)
    by_scan (Some a) found = let (x, is, same) = line_gives line a found in by_id x is

  -- ---- the lines below a header

  each_more : (done : List (List ℕ)) (spelled : List VertexLine) (line : List ℕ) (x : VertexLine) → AllZip IsLine done spelled → IsLine line x
      → AllZip IsLine (done ++ line ∷ []) (spelled ++ x ∷ [])
  each_more [] [] line x each one = (one, tt)
  each_more [] (y ∷ spelled) line x each one = absurd each
  each_more (l ∷ done) [] line x each one = absurd each
  each_more (l ∷ done) (y ∷ spelled) line x each one = (each.0, each_more done spelled line x each.1 one)

  all_more : (spelled : List VertexLine) (x : VertexLine) → AllByRecursion (IsLineWithin n) spelled → IsLineWithin n x → AllByRecursion (IsLineWithin n) (spelled ++ x ∷ [])
  all_more [] x every one = (one, tt)
  all_more (y ∷ spelled) x every one = (every.0, all_more spelled x every.1 one)

  longer : (front : List (List ℕ)) (spelled : List VertexLine) (line : List ℕ) (x : VertexLine) → AreGoodLines n front spelled → IsLine line x → IsLineWithin n x
      → ((y : VertexLine) → Contains spelled y → y.id ≡ x.id → ⊥) → AreGoodLines n (front ++ line ∷ []) (spelled ++ x ∷ [])
  longer front spelled line x good is within free = record {
    each = each_more front spelled line x good.each is;
    within = all_more spelled x good.within within;
    once = all_pairs_push (λ (a b : VertexLine). a.id ≢ b.id) spelled x good.once
        (λ k d inside same. free (get_or spelled k d) (Contains-get_or spelled k d inside) same);
  }

  -- no more lines than identifiers
  at_most : (front : List (List ℕ)) (spelled : List VertexLine) → AreGoodLines n front spelled → length front ≤ n + 1
  at_most front spelled good = omega (
    arith,
    zip_length front spelled good.each,
    few_lines n spelled good.once (λ x there. (all_has (IsLineWithin n) spelled x good.within there).id),
  )

  at_line : (rest front : List (List ℕ)) (line : List ℕ) (back : List (List ℕ)) (spelled : List VertexLine) → rest ≡ front ++ line ∷ back → AreGoodLines n front spelled
      → ((x : VertexLine) → IsLine line x → IsLineWithin n x → ((y : VertexLine) → Contains spelled y → y.id ≡ x.id → ⊥) → Rest rest) → Judged spelled line → Rest rest
  at_line rest front line back spelled cut good go (fine x is within free) = go x is within free
  at_line rest front line back spelled cut good go (no_line bad) = wrong BadLine (length front)
      (record { front = front; line = line; back = back; before = spelled; cut = cut; good_lines = good; count = refl; wrong = bad })
  at_line rest front line back spelled cut good go (no_id bad) = wrong BadIdentifier (length front)
      (inl (record { front = front; line = line; back = back; before = spelled; cut = cut; good_lines = good; count = refl; wrong = bad }))
  at_line rest front line back spelled cut good go (no_successor bad) = wrong BadSuccessor (length front)
      (record { front = front; line = line; back = back; before = spelled; cut = cut; good_lines = good; count = refl; wrong = bad })
  at_line rest front line back spelled cut good go (no_priority bad) = wrong PriorityTooGreat (length front)
      (record { front = front; line = line; back = back; before = spelled; cut = cut; good_lines = good; count = refl; wrong = bad })

  at_end : (rest : List (List ℕ)) (spelled : List VertexLine) → AreGoodLines n rest spelled → Rest rest
  at_end rest spelled good = elim (leb_tells (n + 1) (length rest)) [
    | inl w ↦ all spelled good (omega (arith, w.1, at_most rest spelled good))
    | inr w ↦ wrong BadIdentifier (length rest) (inr (record { spelled = spelled; good_lines = good; few = w.1; count = refl }))
  ]

  behind : (rest front back : List (List ℕ)) (spelled : List VertexLine) → rest ≡ front ++ back → AreGoodLines n front spelled → Rest rest
  behind rest front [] spelled cut good =
      let whole : rest ≡ front = cut ∙ append-nil front in
      at_end rest spelled (subst (λ ls. AreGoodLines n ls spelled) (sym whole) good)
  behind rest front (line ∷ back) spelled cut good =
      at_line rest front line back spelled cut good
      (λ x is within free. behind rest (front ++ line ∷ []) back (spelled ++ x ∷ []) (cut ∙ sym (append_assoc front (line ∷ []) back))
      (longer front spelled line x good is within free))
      (by_scan spelled line (line_at line) refl)

  decided_rest : (rest : List (List ℕ)) → Rest rest
  decided_rest rest = behind rest [] rest [] refl (record { each = tt; within = tt; once = λ i j d less inside. absurd (omega (arith, inside)) })

-- ---- the game that good lines spell

-- the vertex of the line that has this identifier
pick : List VertexLine → ℕ → Vertex
pick [] v = record { owner = Even; priority = 0; successors = [] }
pick (x ∷ spelled) v = cond (x.id == v) (vertex_said x) (pick spelled v)

pick_is : (spelled : List VertexLine) (x : VertexLine) → Differ spelled → Has spelled x → pick spelled x.id ≡ vertex_said x
unfolding pick
pick_is [] x apart there = absurd there
pick_is (y ∷ spelled) x apart there =
    elim (y.id == x.id) as (λ b. (y.id == x.id) ≡ b → cond b (vertex_said y) (pick spelled x.id) ≡ vertex_said x) [
      | true ↦ λ q. ap vertex_said (one_line (y ∷ spelled) y x apart (inl refl) there (eqb-true y.id x.id q))
      | false ↦ λ q. elim there [
        | inl e ↦ absurd (eqb-false y.id x.id q (ap (λ (l : VertexLine). l.id) e))
        | inr k ↦ pick_is spelled x (differ_rest y spelled apart) k
      ]
    ] refl

-- so many values of a function, from v on
values : (ℕ → Vertex) → (v count : ℕ) → List Vertex
values f v zero = []
values f v (suc count) = f v ∷ values f (v + 1) count

values_long : (f : ℕ → Vertex) (v count : ℕ) → length (values f v count) ≡ count
unfolding values
values_long f v zero = refl
values_long f v (suc count) = omega (arith, values_long f (v + 1) count)

values_at : (f : ℕ → Vertex) (v count k : ℕ) → k < count → slice_get (values f v count) k ≡ Some (f (v + k))
unfolding values
values_at f v zero k inside = absurd (omega (arith, inside))
values_at f v (suc count) zero inside = let same : v ≡ v + 0 = omega arith in ap (λ u. Some (f u)) same
values_at f v (suc count) (suc k) inside =
    let same : v + 1 + k ≡ v + suc k = omega arith in
    values_at f (v + 1) count k (omega (arith, inside)) ∙ ap (λ u. Some (f u)) same

spelled_by : (text first : List ℕ) (rest : List (List ℕ)) (n : ℕ) (spelled : List VertexLine) → lines text ≡ first ∷ rest → IsPgHeader first n → n < MOST_VERTICES
    → AreGoodLines n rest spelled → length rest ≡ n + 1
    → IsGameText text (record { vertices = values (pick spelled) 0 (n + 1); named = None })
spelled_by text first rest n spelled cut header limit good complete = record {
  n = n;
  first = first;
  rest = rest;
  spelled = spelled;
  cut = cut;
  header = header;
  limit = limit;
  good = good;
  complete = complete;
  size = values_long (pick spelled) 0 (n + 1);
  placed = λ x there. (
      let has = Has-from_Contains spelled x there in
      let low = (all_has (IsLineWithin n) spelled x good.within has).id in
      let same : 0 + x.id ≡ x.id = omega arith in
      values_at (pick spelled) 0 (n + 1) x.id (omega (arith, low)) ∙ ap (λ v. Some (pick spelled v)) same ∙ ap Some (pick_is spelled x good.once has));
  unnamed = refl;
}

-- ---- the whole text

abbrev Decided : List ℕ → Type 0
Decided text = ((g : Game) × IsGameText text g) ⊎ ((fault : PgFault) × (line : ℕ) × HasPgFault text fault line)

by_rest : (text first : List ℕ) (rest : List (List ℕ)) (n : ℕ) → lines text ≡ first ∷ rest → IsPgHeader first n → n < MOST_VERTICES → Rest n rest → Decided text
by_rest text first rest n cut header limit (all spelled good complete) =
    inl (record { vertices = values (pick spelled) 0 (n + 1); named = None }, spelled_by text first rest n spelled cut header limit good complete)
by_rest text first rest n cut header limit (wrong fault good bad) = inr (fault, good + 2, inr (first, rest, n, good, cut, header, limit, bad, refl))

heads : (x y : List ℕ) (xs ys : List (List ℕ)) → x ∷ xs ≡ y ∷ ys → x ≡ y
heads x y xs ys e = cc

by_header : (text first : List ℕ) (rest : List (List ℕ)) → lines text ≡ first ∷ rest → (o : Option ℕ) → header_at first ≡ o → Decided text
by_header text first rest cut None none = inr (BadHeader, 1, inl (headless, refl))
  where
    headless : (other : List ℕ) (others : List (List ℕ)) (n : ℕ) → lines text ≡ other ∷ others → IsPgHeader other n → ⊥
    headless other others n is header =
        let same = heads other first others rest (sym is ∙ cut) in
        let some = header_finds first n (subst (λ l. IsPgHeader l n) same header) in
        let q : None ≡ Some (capped n) = sym none ∙ some in cc
by_header text first rest cut (Some v) found =
    let (n, header, same) = header_gives first v found in
    elim (leb_tells MOST_VERTICES n) [
      | inl w ↦ inr (TooManyVertices, 1, inl ((first, rest, n, cut, header, w.1), refl))
      | inr w ↦ by_rest text first rest n cut header w.1 (decided_rest n rest)
    ]

by_lines : (text : List ℕ) (all : List (List ℕ)) → lines text ≡ all → Decided text
by_lines text [] none = inr (BadHeader, 1, inl ((λ first rest n is header. (let q : [] ≡ first ∷ rest = sym none ∙ is in cc)), refl))
by_lines text (first ∷ rest) cut = by_header text first rest cut (header_at first) refl

pub decided : (text : List ℕ) → Decided text
decided text = by_lines text (lines text) refl
