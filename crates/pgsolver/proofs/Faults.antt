-- A text that spells a game has no deciding fault, and any other text has one at most.
use Rattle.std.proofs.Common.{◌≡◌, ℕ, ◌+◌, ◌<◌, ◌≤◌, ◌⊎◌, inl, inr, Bool, true, false, ◌||◌, List, [], ◌∷◌, ◌++◌, length, map, refl, sym, ap, ◌∙◌, subst}
use Rattle.std.proofs.Common.{arith, append-nil}
use Rattle.std.specs.Prelude.{nat_lt}
use Rattle.std.specs.List.{AllZip, AllByRecursion}
use Rattle.std.proofs.lemmas.List.{length-append}
use Rattle.std.proofs.lemmas.Bool.{cases_lt, lt-ltb}
use Rattle.text.specs.Text.{lines}
use Rattle.text.specs.Tokens.{capped}
use Rattle.lts.proofs.Unique.{lines_same}
use Rattle.systems.proofs.Ordered.{Has, Has-from_Contains, Contains-from_Has, all_has}
use Rattle.game.specs.declared.limits.TheConstants.{MOST_VERTICES}
use Rattle.game.specs.Game.{Game}
use Rattle.pgsolver.specs.declared.error.PgFault.{PgFault}
use Rattle.pgsolver.specs.declared.error.PgFault.TheVariants.{BadHeader, BadLine, BadIdentifier, BadSuccessor, PriorityTooGreat, TooManyVertices}
use Rattle.pgsolver.specs.Spelling.{VertexLine, IsPgHeader, IsLine, IsLineWithin, AreGoodLines, IsGameText}
use Rattle.pgsolver.specs.Fault.{IsBadId, HasBadSuccessor, PgLineFault, PgHeaderFault, FaultyLine, PgBodyFault, HasPgFault}
use Rattle.pgsolver.specs.Left.{has_far}
use Rattle.pgsolver.proofs.Judging.{far_one}
use Rattle.pgsolver.proofs.Placing.{Differ, differ_rest, differ_first}
use Rattle.pgsolver.proofs.Unique.{header_same, read_alike, line_same, lines_are, text_same}

-- ---- a line among good ones

record IsAmong (n : ℕ) (front : List (List ℕ)) (line : List ℕ) (spelled : List VertexLine) : Type 0 where
  before : List VertexLine
  x : VertexLine
  each : AllZip IsLine front before
  within_before : AllByRecursion (IsLineWithin n) before
  is : IsLine line x
  within : IsLineWithin n x
  there : Has spelled x
  apart : (y : VertexLine) → Has before y → y.id ≡ x.id → ⊥

among : (n : ℕ) (front : List (List ℕ)) (line : List ℕ) (back : List (List ℕ)) (spelled : List VertexLine) → AllZip IsLine (front ++ line ∷ back) spelled
    → AllByRecursion (IsLineWithin n) spelled → Differ spelled → IsAmong n front line spelled
among n [] line back [] each within once = absurd each
among n [] line back (x ∷ spelled) each within once =
    record { before = []; x = x; each = tt; within_before = tt; is = each.0; within = within.0; there = inl refl; apart = λ y h e. h }
among n (l ∷ front) line back [] each within once = absurd each
among n (l ∷ front) line back (z ∷ spelled) each within once =
    let h = among n front line back spelled each.1 within.1 (differ_rest z spelled once) in
    record {
      before = z ∷ h.before;
      x = h.x;
      each = (each.0, h.each);
      within_before = (within.0, h.within_before);
      is = h.is;
      within = h.within;
      there = inr h.there;
      apart = λ y k e. elim k [ inl same ↦ differ_first z h.x spelled once h.there (ap (λ (l : VertexLine). l.id) same ∙ e) | inr m ↦ h.apart y m e ];
    }

-- ---- a good line has no fault

no_far : (n : ℕ) (x : VertexLine) → IsLineWithin n x → HasBadSuccessor n x → ⊥
no_far n x h (inl e) = h.some e
no_far n x h (inr (t, there, far)) = let low = all_has (λ t. t ≤ n) x.successors t h.successors (Has-from_Contains x.successors t there)
    in omega (arith, low, far)

no_bad_id : (n : ℕ) (before : List VertexLine) (x : VertexLine) → IsLineWithin n x → ((y : VertexLine) → Has before y → y.id ≡ x.id → ⊥) → IsBadId n before x → ⊥
no_bad_id n before x h apart (inl high) = omega (arith, h.id, high)
no_bad_id n before x h apart (inr (y, there, e)) = apart y (Has-from_Contains before y there) e

no_line : (n : ℕ) (before : List VertexLine) (line : List ℕ) (x : VertexLine) (fault : PgFault) → n < MOST_VERTICES → IsLine line x → IsLineWithin n x
    → ((y : VertexLine) → Has before y → y.id ≡ x.id → ⊥) → PgLineFault n before line fault → ⊥
no_line n before line x BadLine small is within apart wrong = wrong x is
no_line n before line x BadIdentifier small is within apart (y, same, bad) = no_bad_id n before x within apart
    (subst (IsBadId n before) (line_same n line x y small within is same) bad)
no_line n before line x BadSuccessor small is within apart (y, same, right, bad) = no_far n x within
    (subst (HasBadSuccessor n) (line_same n line x y small within is same) bad)
no_line n before line x PriorityTooGreat small is within apart (y, same, right, near, high) = let e = ap (λ (l : VertexLine). l.priority)
    (line_same n line x y small within is same) in omega (arith, within.priority, e, high)
no_line n before line x BadHeader small is within apart wrong = wrong
no_line n before line x TooManyVertices small is within apart wrong = wrong

-- a faulty line is not among good ones
no_among : (n : ℕ) (front : List (List ℕ)) (line : List ℕ) (back : List (List ℕ)) (spelled before : List VertexLine) (fault : PgFault) → n < MOST_VERTICES
    → AreGoodLines n (front ++ line ∷ back) spelled → AreGoodLines n front before → PgLineFault n before line fault → ⊥
no_among n front line back spelled before fault small good goods wrong =
    let h = among n front line back spelled good.each good.within good.once in
    let same : before ≡ h.before = lines_are n front h.before before small h.within_before h.each goods.each in
    no_line n h.before line h.x fault small h.is h.within h.apart (subst (λ b. PgLineFault n b line fault) same wrong)

-- ---- what decides

-- the text ends after good lines, or a faulty line follows them
record IsStop (n : ℕ) (rest : List (List ℕ)) (fault : PgFault) (good : ℕ) : Type 0 where
  front : List (List ℕ)
  back : List (List ℕ)
  before : List VertexLine
  split : rest ≡ front ++ back
  goods : AreGoodLines n front before
  long : length front ≡ good
  why : ((fault ≡ BadIdentifier) × (back ≡ []) × (good < n + 1))
      ⊎ ((line : List ℕ) × (after : List (List ℕ)) × (back ≡ line ∷ after) × PgLineFault n before line fault)

stop_line : (n : ℕ) (rest : List (List ℕ)) (fault : PgFault) (good : ℕ) → FaultyLine n rest fault good → IsStop n rest fault good
stop_line n rest fault good h = record {
  front = h.front;
  back = h.line ∷ h.back;
  before = h.before;
  split = h.cut;
  goods = h.good_lines;
  long = h.count;
  why = inr (h.line, h.back, refl, h.wrong);
}

stop_of : (n : ℕ) (rest : List (List ℕ)) (fault : PgFault) (good : ℕ) → PgBodyFault n rest fault good → IsStop n rest fault good
stop_of n rest BadIdentifier good (inl h) = stop_line n rest BadIdentifier good h
stop_of n rest BadIdentifier good (inr h) =
    record {
      front = rest;
      back = [];
      before = h.spelled;
      split = sym (append-nil rest);
      goods = h.good_lines;
      long = h.count;
      why = inl (refl, refl, omega (arith, h.few, h.count));
    }
stop_of n rest _ good h = stop_line n rest _ good h

no_body : (n : ℕ) (rest : List (List ℕ)) (spelled : List VertexLine) (fault : PgFault) (good : ℕ) → n < MOST_VERTICES → AreGoodLines n rest spelled
    → length rest ≡ n + 1 → IsStop n rest fault good → ⊥
no_body n rest spelled fault good small all count stop =
    let sum : length rest ≡ length stop.front + length stop.back = ap length stop.split ∙ length-append stop.front stop.back in
    elim stop.why [
      | inl w ↦ absurd (omega (arith, sum, stop.long, count, ap length w.1, w.2))
      | inr w ↦ no_among n stop.front w.0 w.1 spelled stop.before fault small
          (subst (λ l. AreGoodLines n l spelled) (stop.split ∙ ap (λ l. stop.front ++ l) w.2) all) stop.goods w.3
    ]

no_first : (text : List ℕ) (g : Game) (fault : PgFault) → IsGameText text g → PgHeaderFault (lines text) fault → ⊥
no_first text g BadHeader a wrong = wrong a.first a.rest a.n a.cut a.header
no_first text g TooManyVertices a (first, rest, n, cut, header, over) =
    let same = lines_same first a.first rest a.rest (sym cut ∙ a.cut) in
    let e = header_same a.first n a.n (subst (λ l. IsPgHeader l n) same.0 header) a.header in
    omega (arith, e, a.limit, over)
no_first text g BadLine a wrong = wrong
no_first text g BadIdentifier a wrong = wrong
no_first text g BadSuccessor a wrong = wrong
no_first text g PriorityTooGreat a wrong = wrong

pub no_fault : (text : List ℕ) (g : Game) (fault : PgFault) (line : ℕ) → IsGameText text g → HasPgFault text fault line → ⊥
no_fault text g fault line a (inl (wrong, place)) = no_first text g fault a wrong
no_fault text g fault line a (inr (first, rest, n, good, cut, header, small, body, place)) =
    let (same_n, same_rest) = text_same text g a first rest n cut header small in
    let stop = stop_of n rest fault good body in
    no_body a.n a.rest a.spelled fault good a.limit a.good a.complete
    (subst (λ k. IsStop k a.rest fault good) same_n (subst (λ r. IsStop n r fault good) same_rest stop))

-- ---- one fault at most

far_from : (n : ℕ) (vs : List ℕ) (t : ℕ) → n < MOST_VERTICES → Has vs t → n < t → has_far n (map capped vs) ≡ true
far_from n [] t small there far = absurd there
far_from n (v ∷ vs) t small (inl e) far = let high : n < capped v = omega (arith, e) in rw (lt-ltb n (capped v) high) refl
far_from n (v ∷ vs) t small (inr there) far = or_true (nat_lt n (capped v)) (has_far n (map capped vs)) (far_from n vs t small there far)
  where
    or_true : (a b : Bool) → b ≡ true → (a || b) ≡ true
    or_true true b h = refl
    or_true false b h = h

none_mapped : (vs ws : List ℕ) → map capped vs ≡ map capped ws → vs ≡ [] → ws ≡ []
none_mapped vs [] e none = refl
none_mapped [] (w ∷ ws) e none = absurd cc
none_mapped (v ∷ vs) (w ∷ ws) e none = absurd cc

-- what is wrong with one reading is wrong with another
far_alike : (n : ℕ) (line : List ℕ) (x y : VertexLine) → n < MOST_VERTICES → IsLine line x → IsLine line y → HasBadSuccessor n x → HasBadSuccessor n y
far_alike n line x y small h k (inl none) = inl (none_mapped x.successors y.successors (ap (λ (l : VertexLine). l.successors) (read_alike line x y h k)) none)
far_alike n line x y small h k (inr (t, there, far)) =
    let same = ap (λ (l : VertexLine). l.successors) (read_alike line x y h k) in
    let (u, there', far') = far_one n y.successors small (ap (has_far n) (sym same)
    ∙ far_from n x.successors t small (Has-from_Contains x.successors t there) far) in
    inr (u, Contains-from_Has y.successors u there', far')

bad_alike : (n : ℕ) (before : List VertexLine) (line : List ℕ) (x y : VertexLine) → n < MOST_VERTICES → AllByRecursion (IsLineWithin n) before → IsLine line x
    → IsLine line y → IsBadId n before x → IsBadId n before y
bad_alike n before line x y small within h k (inl high) = let e = ap (λ (l : VertexLine). l.id) (read_alike line x y h k) in inl (omega (arith, e, high))
bad_alike n before line x y small within h k (inr (z, there, same)) =
    let e = ap (λ (l : VertexLine). l.id) (read_alike line x y h k) in
    let low = (all_has (IsLineWithin n) before z within (Has-from_Contains before z there)).id in
    inr (z, there, omega (arith, e, low, same))

module _ (n : ℕ) (before : List VertexLine) (line : List ℕ) (small : n < MOST_VERTICES) (within : AllByRecursion (IsLineWithin n) before) where
  one_line : (f g : PgFault) → PgLineFault n before line f → PgLineFault n before line g → f ≡ g
  one_line BadLine BadLine p q = refl
  one_line BadLine BadIdentifier p (y, is, more) = absurd (p y is)
  one_line BadLine BadSuccessor p q = absurd (p q.0 q.1)
  one_line BadLine PriorityTooGreat p q = absurd (p q.0 q.1)
  one_line BadIdentifier BadLine (x, is, more) q = absurd (q x is)
  one_line BadIdentifier BadIdentifier p q = refl
  one_line BadIdentifier BadSuccessor (x, is, bad) (y, same, right, far) = absurd (right (bad_alike n before line x y small within is same bad))
  one_line BadIdentifier PriorityTooGreat (x, is, bad) (y, same, right, near, high) = absurd (right (bad_alike n before line x y small within is same bad))
  one_line BadSuccessor BadLine p q = absurd (q p.0 p.1)
  one_line BadSuccessor BadIdentifier (y, same, right, far) (x, is, bad) = absurd (right (bad_alike n before line x y small within is same bad))
  one_line BadSuccessor BadSuccessor p q = refl
  one_line BadSuccessor PriorityTooGreat (x, is, good, far) (y, same, right, near, high) = absurd (near (far_alike n line x y small is same far))
  one_line PriorityTooGreat BadLine p q = absurd (q p.0 p.1)
  one_line PriorityTooGreat BadIdentifier (y, same, right, near, high) (x, is, bad) = absurd (right (bad_alike n before line x y small within is same bad))
  one_line PriorityTooGreat BadSuccessor (y, same, right, near, high) (x, is, good, far) = absurd (near (far_alike n line x y small is same far))
  one_line PriorityTooGreat PriorityTooGreat p q = refl
  one_line BadHeader g p q = absurd p
  one_line TooManyVertices g p q = absurd p
  one_line f BadHeader p q = absurd q
  one_line f TooManyVertices p q = absurd q

-- the front of one is a beginning of a longer one
longer_front : (xs : List (List ℕ)) (l : List ℕ) (vs ys ws : List (List ℕ)) → xs ++ l ∷ vs ≡ ys ++ ws → length xs < length ys → (more : List (List ℕ))
    × (ys ≡ xs ++ l ∷ more)
longer_front xs l vs [] ws e less = absurd (omega arith)
longer_front [] l vs (y ∷ ys) ws e less = let same = lines_same l y vs (ys ++ ws) e in (ys, ap (λ z. z ∷ ys) (sym same.0))
longer_front (x ∷ xs) l vs (y ∷ ys) ws e less =
    let same = lines_same x y (xs ++ l ∷ vs) (ys ++ ws) e in
    let (more, is) = longer_front xs l vs ys ws same.1 (omega arith) in
    (more, λ i. sym same.0 i ∷ is i)

not_before : (n : ℕ) (rest : List (List ℕ)) (f g : PgFault) (i j : ℕ) → n < MOST_VERTICES → IsStop n rest f i → IsStop n rest g j → i < j → ⊥
not_before n rest f g i j small p q less =
    let sum_p : length rest ≡ length p.front + length p.back = ap length p.split ∙ length-append p.front p.back in
    let sum_q : length rest ≡ length q.front + length q.back = ap length q.split ∙ length-append q.front q.back in
    elim p.why [
      | inl w ↦ absurd (omega (arith, sum_p, sum_q, p.long, q.long, ap length w.1, less))
      | inr w ↦
          let (more, is) = longer_front p.front w.0 w.1 q.front q.back (ap (λ l. p.front ++ l) (sym w.2) ∙ sym p.split ∙ q.split)
          (omega (arith, p.long, q.long, less)) in
          no_among n p.front w.0 more q.before p.before f small (subst (λ l. AreGoodLines n l q.before) is q.goods) p.goods w.3
    ]

same_split : (xs ys vs ws : List (List ℕ)) → length xs ≡ length ys → xs ++ vs ≡ ys ++ ws → (xs ≡ ys) × (vs ≡ ws)
same_split [] [] vs ws long e = (refl, e)
same_split [] (y ∷ ys) vs ws long e = absurd (omega (arith, long))
same_split (x ∷ xs) [] vs ws long e = absurd (omega (arith, long))
same_split (x ∷ xs) (y ∷ ys) vs ws long e =
    let same = lines_same x y (xs ++ vs) (ys ++ ws) e in
    let rest = same_split xs ys vs ws (omega (arith, long)) same.1 in
    (λ i. same.0 i ∷ rest.0 i, rest.1)

one_body : (n : ℕ) (rest : List (List ℕ)) (f g : PgFault) (i j : ℕ) → n < MOST_VERTICES → IsStop n rest f i → IsStop n rest g j → (f ≡ g) × (i ≡ j)
one_body n rest f g i j small p q =
    let at : i ≡ j = elim (cases_lt i j) [
      | inl less ↦ absurd (not_before n rest f g i j small p q less)
      | inr low ↦ elim (cases_lt j i)
          [ inl less ↦ absurd (not_before n rest g f j i small q p less) | inr high ↦ omega arith ]
    ] in
    let parts = same_split p.front q.front p.back q.back (p.long ∙ at ∙ sym q.long) (sym p.split ∙ q.split) in
    let before : q.before ≡ p.before = lines_are n p.front p.before q.before small p.goods.within p.goods.each
    (subst (λ l. AllZip IsLine l q.before) (sym parts.0) q.goods.each) in
    let fault : f ≡ g = elim p.why [
      | inl w ↦ elim q.why [
        | inl k ↦ w.0 ∙ sym k.0
        | inr k ↦ absurd (omega (arith, ap length w.1, ap length parts.1, ap length k.2))
      ]
      | inr w ↦ elim q.why [
        | inl k ↦ absurd (omega (arith, ap length k.1, ap length parts.1, ap length w.2))
        | inr k ↦
            let same = lines_same w.0 k.0 w.1 k.1 (sym w.2 ∙ parts.1 ∙ k.2) in
            one_line n p.before k.0 small p.goods.within f g (subst (λ l. PgLineFault n p.before l f) same.0 w.3) (subst (λ b. PgLineFault n b k.0 g) before k.3)
      ]
    ] in
    (fault, at)

-- two readings of one header
two_headers : (all : List (List ℕ)) (first first' : List ℕ) (rest rest' : List (List ℕ)) (n n' : ℕ) → all ≡ first ∷ rest → all ≡ first' ∷ rest'
    → IsPgHeader first n → IsPgHeader first' n' → (capped n ≡ capped n') × (rest ≡ rest')
two_headers all first first' rest rest' n n' cut cut' h h' =
    let same = lines_same first first' rest rest' (sym cut ∙ cut') in
    (header_same first' n n' (subst (λ x. IsPgHeader x n) same.0 h) h', same.1)

one_first : (all : List (List ℕ)) (f g : PgFault) → PgHeaderFault all f → PgHeaderFault all g → f ≡ g
one_first all BadHeader BadHeader p q = refl
one_first all BadHeader TooManyVertices p (first, rest, n, cut, h, over) = absurd (p first rest n cut h)
one_first all TooManyVertices BadHeader (first, rest, n, cut, h, over) q = absurd (q first rest n cut h)
one_first all TooManyVertices TooManyVertices p q = refl
one_first all BadLine g p q = absurd p
one_first all BadIdentifier g p q = absurd p
one_first all BadSuccessor g p q = absurd p
one_first all PriorityTooGreat g p q = absurd p
one_first all f BadLine p q = absurd q
one_first all f BadIdentifier p q = absurd q
one_first all f BadSuccessor p q = absurd q
one_first all f PriorityTooGreat p q = absurd q

-- a right header has no fault
right_header : (all : List (List ℕ)) (fault : PgFault) (first : List ℕ) (rest : List (List ℕ)) (n : ℕ) → PgHeaderFault all fault → all ≡ first ∷ rest
    → IsPgHeader first n → n < MOST_VERTICES → ⊥
right_header all BadHeader first rest n p cut h small = p first rest n cut h
right_header all TooManyVertices first rest n (first', rest', n', cut', h', over) cut h small = let e =
    (two_headers all first first' rest rest' n n' cut cut' h h').0 in omega (arith, e, small, over)
right_header all BadLine first rest n p cut h small = p
right_header all BadIdentifier first rest n p cut h small = p
right_header all BadSuccessor first rest n p cut h small = p
right_header all PriorityTooGreat first rest n p cut h small = p

pub one_fault : (text : List ℕ) (f g : PgFault) (i j : ℕ) → HasPgFault text f i → HasPgFault text g j → (f ≡ g) × (i ≡ j)
one_fault text f g i j (inl (p, at)) (inl (q, at')) = (one_first (lines text) f g p q, at ∙ sym at')
one_fault text f g i j (inl (p, at)) (inr (first, rest, n, good, cut, h, small, body, place)) = absurd (right_header (lines text) f first rest n p cut h small)
one_fault text f g i j (inr (first, rest, n, good, cut, h, small, body, place)) (inl (q, at)) = absurd (right_header (lines text) g first rest n q cut h small)
one_fault text f g i j (inr (first, rest, n, good, cut, h, small, body, place)) (inr (first', rest', n', good', cut', h', small', body', place')) =
    let (e, r) = two_headers (lines text) first first' rest rest' n n' cut cut' h h' in
    let same_n : n ≡ n' = omega (arith, e) in
    let stop = subst (λ k. IsStop k rest' f good) same_n (subst (λ l. IsStop n l f good) r (stop_of n rest f good body)) in
    let (same, at) = one_body n' rest' f g good good' small' stop (stop_of n' rest' g good' body') in
    (same, place ∙ ap (λ k. k + 2) at ∙ sym place')
