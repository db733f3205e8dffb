-- What is wrong with a line, by what was found on it.
use Rattle.std.proofs.Common.{◌≡◌, ℕ, ◌<◌, ◌≤◌, inl, inr, Bool, true, false, ◌||◌, List, [], ◌∷◌, map, Option, Some, None, slice_index_or, refl, sym, ap, ◌∙◌}
use Rattle.std.proofs.Common.{subst, arith}
use Rattle.std.specs.Prelude.{IfSome, nat_lt, is_some}
use Rattle.std.specs.List.{AllByRecursion}
use Rattle.std.proofs.lemmas.Bool.{ltb-true, ltb-false}
use Rattle.text.specs.Text.{lines}
use Rattle.text.specs.Tokens.{capped, sign_at}
use Rattle.text.specs.Lines.{IfKnown}
use Rattle.text.specs.Stream as stream
use Rattle.text.specs.Stream.{after_line, PassesLine}
use Rattle.text.proofs.Streaming.{lines_cons}
use Rattle.lts.proofs.Unique.{lines_same}
use Rattle.systems.proofs.Ordered.{Has, Has-from_Contains, Contains-from_Has, all_has}
use Rattle.game.specs.declared.limits.TheConstants.{MOST_VERTICES}
use Rattle.game.specs.NumberSet.{number_set}
use Rattle.pgsolver.specs.declared.error.PgFault.{PgFault}
use Rattle.pgsolver.specs.declared.error.PgFault.TheVariants.{BadHeader, BadLine, BadIdentifier, BadSuccessor, PriorityTooGreat, TooManyVertices}
use Rattle.pgsolver.specs.declared.scan.Head.{Head}
use Rattle.pgsolver.specs.Spelling.{VertexLine, IsPgHeader, IsLine, IsLineWithin}
use Rattle.pgsolver.specs.Passes.{PassesVertex}
use Rattle.pgsolver.proofs.Same.{set_none, far_set}
use Rattle.pgsolver.specs.Fault.{IsBadId, HasBadSuccessor, PgLineFault, HasPgFault}
use Rattle.pgsolver.specs.Scan.{capped_line, line_said, header_at, line_at}
use Rattle.pgsolver.specs.Left.{BeginsGame, IsPlace, ArePlaces, Says, IsSound, IsFaultOfLine, has_far}
use Rattle.pgsolver.proofs.Scanning.{header_gives, header_finds, line_gives, line_finds}
use Rattle.pgsolver.proofs.Placing.{has_at}

-- ---- the header

-- the first line is no header
pub bad_first : (old new : Option (List ℕ)) → IfKnown old new (PassesLine header_at None) → IfSome old (λ text. HasPgFault text BadHeader 1)
bad_first None new none = tt
bad_first (Some text) None none = absurd none
bad_first (Some []) (Some left) none = inl (λ first rest n e header. absurd cc, refl)
bad_first (Some (b ∷ text)) (Some left) none =
    inl (
      λ first rest n e header.
          let same : first ≡ stream.line_of (b ∷ text) = (lines_same first (stream.line_of (b ∷ text)) rest (lines (after_line (b ∷ text)))
          (sym e ∙ lines_cons b text)).0 in
          let some = header_finds (stream.line_of (b ∷ text)) n (subst (λ l. IsPgHeader l n) same header) in cc,
      refl,
    )

no_header : (v : ℕ) → header_at [] ≡ Some v → ⊥
unfolding header_at sign_at
no_header v e = cc

-- the first line is this one
first_line : (text : List ℕ) (v : ℕ) → header_at (stream.line_of text) ≡ Some v → lines text ≡ stream.line_of text ∷ lines (after_line text)
first_line [] v e = absurd (no_header v e)
first_line (b ∷ text) v e = lines_cons b text

-- the header announces too many vertices
pub over_first : (old new : Option (List ℕ)) (v : ℕ) → IfKnown old new (PassesLine header_at (Some v)) → MOST_VERTICES ≤ v
    → IfSome old (λ text. HasPgFault text TooManyVertices 1)
over_first None new v found over = tt
over_first (Some text) None v found over = absurd found
over_first (Some text) (Some left) v (found, after) over =
    let (n, header, is) = header_gives (stream.line_of text) v found in
    inl ((stream.line_of text, lines (after_line text), n, first_line text v found, header, omega arith), refl)

-- the header announces what a game may have
pub right_first : (old new : Option (List ℕ)) (v : ℕ) → IfKnown old new (PassesLine header_at (Some v)) → v < MOST_VERTICES → IfKnown old new (BeginsGame v)
right_first None new v found within = tt
right_first (Some text) None v found within = absurd found
right_first (Some text) (Some left) v (found, after) within =
    let (n, header, is) = header_gives (stream.line_of text) v found in
    let same : n ≡ v = omega arith in
    record {
      first = stream.line_of text;
      cut = first_line text v found ∙ ap (λ t. stream.line_of text ∷ lines t) (sym after);
      header = subst (IsPgHeader (stream.line_of text)) same header;
    }

-- ---- a vertex line

-- no vertex line was found
pub bad_line : (line : List ℕ) → line_at line ≡ None → (x : VertexLine) → IsLine line x → ⊥
bad_line line none x h = let some = line_finds line x h in cc

-- the line that was next has no such shape
pub no_shape : (n : ℕ) (before : List VertexLine) (targets : List ℕ) (old new : Option (List ℕ)) → IfKnown old new (PassesVertex targets None)
    → IfSome old (λ text. PgLineFault n before (stream.line_of text) BadLine)
no_shape n before targets None new none = tt
no_shape n before targets (Some text) None none = absurd none
no_shape n before targets (Some text) (Some left) none = bad_line (stream.line_of text) none

-- a fault with its place
pub at_place : (old : Option (List ℕ)) (P : List ℕ → Type 0) (place : ℕ) → IfSome old P → IfSome old (λ text. P text × (place ≡ place))
at_place None P place h = tt
at_place (Some text) P place h = (h, refl)

or_false : (a b : Bool) → (a || b) ≡ false → (a ≡ false) × (b ≡ false)
or_false true b e = absurd cc
or_false false b e = (refl, e)

-- no successor is too great, so none was read as the greatest number
pub near_same : (n : ℕ) (vs : List ℕ) → n < MOST_VERTICES → has_far n (map capped vs) ≡ false → (map capped vs ≡ vs) × AllByRecursion (λ t. t ≤ n) vs
near_same n [] small h = (refl, tt)
near_same n (v ∷ vs) small h =
    let both = or_false (nat_lt n (capped v)) (has_far n (map capped vs)) h in
    let low : capped v ≤ n = ltb-false n (capped v) both.0 in
    let same : capped v ≡ v = omega arith in
    let rest = near_same n vs small both.1 in
    (λ i. same i ∷ rest.0 i, (omega arith, rest.1))

-- a successor is too great
pub far_one : (n : ℕ) (vs : List ℕ) → n < MOST_VERTICES → has_far n (map capped vs) ≡ true → (t : ℕ) × Has vs t × (n < t)
far_one n [] small h = absurd cc
far_one n (v ∷ vs) small h =
    elim (nat_lt n (capped v)) as (λ b. nat_lt n (capped v) ≡ b → (b || has_far n (map capped vs)) ≡ true → (t : ℕ) × Has (v ∷ vs) t × (n < t)) [
      | true ↦ λ less _. let high : n < capped v = ltb-true n (capped v) less in (v, inl refl, omega arith)
      | false ↦ λ _ h. let (t, there, far) = far_one n vs small h in (t, inr there, far)
    ] refl h

module _ (n : ℕ) (small : n < MOST_VERTICES) (before : List VertexLine) (places : List (Option ℕ)) (are : ArePlaces n before places) (line : List ℕ) (x : VertexLine)
    (is : IsLine line x) (a : VertexLine) (same : a ≡ capped_line x) where
  id_is : a.id ≡ capped x.id
  id_is = ap (λ (l : VertexLine). l.id) same

  new_id : a.id ≤ n → slice_index_or places a.id None ≡ None → IsBadId n before x → ⊥
  new_id low none (inl high) = omega (arith, id_is)
  new_id low none (inr (y, there, e)) =
      let at : IsPlace before a.id None = subst (IsPlace before a.id) none (are.each a.id low) in
      let id : x.id ≡ a.id = omega (arith, id_is) in
      at y there (e ∙ id)

  old_id : a.id ≤ n → is_some (slice_index_or places a.id None) ≡ true → IsBadId n before x
  old_id low some =
      let id : a.id ≡ x.id = omega (arith, id_is) in
      elim (slice_index_or places a.id None) as (λ o. IsPlace before a.id o → is_some o ≡ true → IsBadId n before x) [
        | None ↦ λ _ e. absurd cc
        | (Some k) ↦ λ at _. let (y, there, e) = at in inr (y, Contains-from_Has before y (has_at before k y there), e ∙ id)
      ] (are.each a.id low) some

  successors_are : a.successors ≡ map capped x.successors
  successors_are = ap (λ (l : VertexLine). l.successors) same

  some_successor : (a.successors ≡ [] → ⊥) → x.successors ≡ [] → ⊥
  some_successor some e = some (successors_are ∙ ap (map capped) e)

  near_successors : (a.successors ≡ [] → ⊥) → has_far n a.successors ≡ false → HasBadSuccessor n x → ⊥
  near_successors some near (inl e) = some_successor some e
  near_successors some near (inr (t, there, far)) =
      let low = all_has (λ t. t ≤ n) x.successors t (near_same n x.successors small (ap (has_far n) (sym successors_are) ∙ near)).1
      (Has-from_Contains x.successors t there) in
      omega (arith, low, far)

  fault_of : (fault : PgFault) → IsFaultOfLine n places a fault → PgLineFault n before line fault
  fault_of BadIdentifier (inl high) = (x, is, inl (omega (arith, id_is)))
  fault_of BadIdentifier (inr (low, some)) = (x, is, old_id low some)
  fault_of BadSuccessor (low, none, inl empty) = (x, is, new_id low none, inl (none_mapped x.successors (sym successors_are ∙ empty)))
    where
      none_mapped : (vs : List ℕ) → map capped vs ≡ [] → vs ≡ []
      none_mapped [] e = refl
      none_mapped (v ∷ vs) e = absurd cc
  fault_of BadSuccessor (low, none, inr far) =
      let (t, there, high) = far_one n x.successors small (ap (has_far n) (sym successors_are) ∙ far) in
      (x, is, new_id low none, inr (t, Contains-from_Has x.successors t there, high))
  fault_of PriorityTooGreat (low, none, some, near, high) =
      (x, is, new_id low none, near_successors some near, omega (arith, ap (λ (l : VertexLine). l.priority) same))
  fault_of BadHeader h = absurd h
  fault_of BadLine h = absurd h
  fault_of TooManyVertices h = absurd h

-- what is wrong with what a line says of a set is wrong of the successors as they stand
fault_set : (n : ℕ) (places : List (Option ℕ)) (head : Head) (numbers set : List ℕ) → set ≡ number_set numbers → (fault : PgFault)
    → IsFaultOfLine n places (line_said head set) fault → IsFaultOfLine n places (line_said head numbers) fault
fault_set n places head numbers set made BadIdentifier h = h
fault_set n places head numbers set made BadSuccessor (low, none, inl empty) = (low, none, inl (set_none numbers (sym made ∙ empty)))
fault_set n places head numbers set made BadSuccessor (low, none, inr far) = (low, none, inr (sym (far_set n numbers) ∙ ap (has_far n) (sym made) ∙ far))
fault_set n places head numbers set made PriorityTooGreat (low, none, some, near, high) =
    (low, none, λ e. some (made ∙ ap number_set e), sym (far_set n numbers) ∙ ap (has_far n) (sym made) ∙ near, high)
fault_set n places head numbers set made BadHeader h = absurd h
fault_set n places head numbers set made BadLine h = absurd h
fault_set n places head numbers set made TooManyVertices h = absurd h

-- what the line says is wrong
pub faulty : (n : ℕ) (before : List VertexLine) (places : List (Option ℕ)) (head : Head) (targets set : List ℕ) (fault : PgFault) (old new : Option (List ℕ))
    → n < MOST_VERTICES → ArePlaces n before places → IfKnown old new (PassesVertex targets (Some head)) → set ≡ number_set targets
    → IsFaultOfLine n places (line_said head set) fault → IfSome old (λ text. PgLineFault n before (stream.line_of text) fault)
faulty n before places head targets set fault None new small are found made wrong = tt
faulty n before places head targets set fault (Some text) None small are found made wrong = absurd found
faulty n before places head targets set fault (Some text) (Some left) small are (numbers, found, same, after) made wrong =
    let (x, is, e) = line_gives (stream.line_of text) (line_said head numbers) found in
    fault_of n small before places are (stream.line_of text) x is (line_said head numbers) e fault
    (fault_set n places head numbers set (made ∙ same) fault wrong)

near_all : (n : ℕ) (ts : List ℕ) → has_far n ts ≡ false → AllByRecursion (λ t. t ≤ n) ts
near_all n [] h = tt
near_all n (t ∷ ts) h = let both = or_false (nat_lt n t) (has_far n ts) h in (ltb-false n t both.0, near_all n ts both.1)

-- what is sound with a set is within the limits as it stands
within_set : (n : ℕ) (places : List (Option ℕ)) (head : Head) (numbers set : List ℕ) → set ≡ number_set numbers → IsSound n places (line_said head set)
    → IsLineWithin n (line_said head numbers)
within_set n places head numbers set made h = record {
  id = h.id;
  some = λ e. h.some (made ∙ ap number_set e);
  successors = near_all n numbers (sym (far_set n numbers) ∙ ap (has_far n) (sym made) ∙ h.near);
  priority = h.priority;
}

-- what is found within the limits stands on the line as it was found
uncapped : (n : ℕ) (line : List ℕ) (head : Head) (numbers : List ℕ) → n < MOST_VERTICES → line_at line ≡ Some (line_said head numbers)
    → IsLineWithin n (line_said head numbers) → has_far n numbers ≡ false → IsLine line (line_said head numbers)
uncapped n line head numbers small found within near =
    let (x, is, e) = line_gives line (line_said head numbers) found in
    let id : head.id ≡ capped x.id = ap (λ (l : VertexLine). l.id) e in
    let priority : head.priority ≡ capped x.priority = ap (λ (l : VertexLine). l.priority) e in
    let successors : numbers ≡ map capped x.successors = ap (λ (l : VertexLine). l.successors) e in
    let all = near_same n x.successors small (ap (has_far n) (sym successors) ∙ near) in
    let id_same : x.id ≡ head.id = omega (arith, within.id) in
    let priority_same : x.priority ≡ head.priority = omega (arith, within.priority) in
    let owner_same : x.owner ≡ head.owner = ap (λ (l : VertexLine). l.owner) (sym e) in
    let successors_same : x.successors ≡ numbers = sym all.0 ∙ sym successors in
    let same : x ≡ line_said head numbers = λ i. record { id = id_same i; priority = priority_same i; owner = owner_same i; successors = successors_same i } in
    subst (IsLine line) same is

-- what the line says is sound
pub sound : (n : ℕ) (places : List (Option ℕ)) (head : Head) (targets set : List ℕ) (old new : Option (List ℕ)) → n < MOST_VERTICES
    → IfKnown old new (PassesVertex targets (Some head)) → set ≡ number_set targets → IsSound n places (line_said head set) → Says n places old new head set
sound n places head targets set None new small found made h = record {
  successors = targets;
  within = within_set n places head targets set made h;
  new_id = h.new;
  set = made;
  is = tt;
}
sound n places head targets set (Some text) None small found made h = absurd found
sound n places head targets set (Some text) (Some left) small (numbers, found, same, after) made h =
    let within = within_set n places head numbers set (made ∙ same) h in
    let near : has_far n numbers ≡ false = sym (far_set n numbers) ∙ ap (has_far n) (sym (made ∙ same)) ∙ h.near in
    record {
      successors = numbers;
      within = within;
      new_id = h.new;
      set = made ∙ same;
      is = (uncapped n (stream.line_of text) head numbers small found within near, after);
    }
