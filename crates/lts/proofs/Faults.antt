-- A text that spells a system has no deciding fault.
use Rattle.std.proofs.Common.{◌≡◌, ℕ, ◌+◌, ◌<◌, ◌≤◌, ◌⊎◌, inl, inr, List, [], ◌∷◌, ◌++◌, length, refl, sym, ap, ◌∙◌, subst, arith, true≢false}
use Rattle.std.specs.List.{AllByRecursion}
use Rattle.std.proofs.lemmas.List.{length-append}
use Rattle.std.proofs.lemmas.Bool.{cases_lt}
use Rattle.systems.specs.declared.limits.TheConstants.{MOST_TRANSITIONS, MOST_STATES}
use Rattle.lts.specs.declared.error.AutFault.{AutFault}
use Rattle.lts.specs.declared.error.AutFault.TheVariants.{BadHeader, BadLine, OverLimit, NoSuchState, WrongCount, BadStates, BadLabel}
use Rattle.text.specs.Text.{lines}
use Rattle.systems.specs.Label.{is_label}
use Rattle.systems.specs.System.{Arrow, System}
use Rattle.lts.specs.Aut.{IsAut, IsAutHeader, IsGoodAutLine, AutLineFault, AutHeaderFault, AutBodyFault, HasAutFault}
use Rattle.lts.proofs.Unique.{header_same, transition_same, lines_same}
use Rattle.lts.proofs.Reading.{good_lines}

all_middle : {X : Type 0} (P : X → Type 0) (front : List X) (x : X) (back : List X) → AllByRecursion P (front ++ x ∷ back) → P x
all_middle P [] x back all = all.0
all_middle P (y ∷ front) x back all = all_middle P front x back all.1

-- a good line has no fault
no_line : (n : ℕ) (line : List ℕ) (fault : AutFault) → IsGoodAutLine n line → AutLineFault n line fault → ⊥
no_line n line BadLine (a, is, inside) wrong = wrong a is
no_line n line BadLabel (a, is, inside) (b, same, bad) = true≢false
    (sym inside.label ∙ ap (λ (x : Arrow). is_label x.label) (transition_same line a b is same) ∙ bad)
no_line n line NoSuchState (a, is, inside) (b, same, right, past) =
    let e = transition_same line a b is same in
    let s : a.source ≡ b.source = ap (λ (x : Arrow). x.source) e in
    let t : a.target ≡ b.target = ap (λ (x : Arrow). x.target) e in
    elim past [ inl p ↦ absurd (omega (arith, s, inside.source, p)) | inr p ↦ absurd (omega (arith, t, inside.target, p)) ]
no_line n line _ good wrong = wrong

-- what decides: a count that is wrong after the good lines, or a faulty line
record IsStop (m n : ℕ) (rest : List (List ℕ)) (fault : AutFault) (good : ℕ) : Type 0 where
  front : List (List ℕ)
  back : List (List ℕ)
  split : rest ≡ front ++ back
  goods : AllByRecursion (IsGoodAutLine n) front
  long : length front ≡ good
  why : ((fault ≡ WrongCount) × (((back ≡ []) × (good < m)) ⊎ ((0 < length back) × (good ≡ m))))
      ⊎ ((line : List ℕ) × (after : List (List ℕ)) × (back ≡ line ∷ after) × (good < m) × AutLineFault n line fault)

some_length : (xs : List (List ℕ)) → (xs ≡ [] → ⊥) → 0 < length xs
some_length [] h = absurd (h refl)
some_length (x ∷ xs) h = omega arith

stop_of : (m n : ℕ) (rest : List (List ℕ)) (fault : AutFault) (good : ℕ) → AutBodyFault m n rest fault good → IsStop m n rest fault good
stop_of m n rest WrongCount good (front, back, split, goods, long, wrong) =
    record {
      front = front;
      back = back;
      split = split;
      goods = goods;
      long = long;
      why = inl (refl, elim wrong [ inl w ↦ inl w | inr w ↦ inr (some_length back w.0, w.1) ]);
    }
stop_of m n rest _ good body =
    record { front = body.0; back = body.2 ∷ body.1; split = body.3; goods = body.4; long = body.5; why = inr (body.2, body.1, refl, body.6, body.7) }

no_body : (m n : ℕ) (rest : List (List ℕ)) (fault : AutFault) (good : ℕ) → AllByRecursion (IsGoodAutLine n) rest → length rest ≡ m
    → AutBodyFault m n rest fault good → ⊥
no_body m n rest fault good all count body =
    let stop = stop_of m n rest fault good body in
    let sum : length rest ≡ length stop.front + length stop.back = ap length stop.split ∙ length-append stop.front stop.back in
    elim stop.why [
      | inl w ↦ absurd (elim w.1 [ inl k ↦ omega (arith, sum, stop.long, count, ap length k.0, k.1) | inr k ↦ omega (arith, sum, stop.long, count, k.0, k.1) ])
      | inr w ↦ no_line n w.0 fault (all_middle (IsGoodAutLine n) stop.front w.0 w.1
          (subst (AllByRecursion (IsGoodAutLine n)) (stop.split ∙ ap (λ l. stop.front ++ l) w.2) all)) w.4
    ]

same_header : (text : List ℕ) (l : System) (a : IsAut text l) (first : List ℕ) (rest : List (List ℕ)) (i m n : ℕ) → lines text ≡ first ∷ rest
    → IsAutHeader first i m n
    → (rest ≡ a.rest) × (i ≡ l.initial) × (m ≡ length a.rest) × (n ≡ l.states)
same_header text l a first rest i m n cut header =
    let same = lines_same first a.first rest a.rest (sym cut ∙ a.cut) in
    let h = header_same a.first i m n l.initial (length a.rest) l.states (subst (λ x. IsAutHeader x i m n) same.0 header) a.header in
    (same.1, h.0, h.1, h.2)

no_first : (text : List ℕ) (l : System) (fault : AutFault) → IsAut text l → AutHeaderFault (lines text) fault → ⊥
no_first text l BadHeader a wrong = wrong a.first a.rest l.initial (length a.rest) l.states a.cut a.header
no_first text l OverLimit a (first, rest, i, m, n, cut, header, over) =
    let (r, e, f, g) = same_header text l a first rest i m n cut header in
    elim over [ inl p ↦ absurd (omega (arith, f, a.count, p)) | inr p ↦ absurd (omega (arith, g, a.limit, p)) ]
no_first text l BadStates a (first, rest, i, m, n, cut, header, few, small, past) =
    let (r, e, f, g) = same_header text l a first rest i m n cut header in absurd (omega (arith, e, g, a.initial, past))
no_first text l _ a wrong = wrong

pub no_fault : (text : List ℕ) (l : System) (fault : AutFault) (line : ℕ) → IsAut text l → HasAutFault text fault line → ⊥
no_fault text l fault line a (inl (wrong, place)) = no_first text l fault a wrong
no_fault text l fault line a (inr (first, rest, i, m, n, good, cut, header, few, small, below, body, place)) =
    let (r, e, f, g) = same_header text l a first rest i m n cut header in
    no_body m n rest fault good (subst (AllByRecursion (IsGoodAutLine n)) (sym r)
    (subst (λ k. AllByRecursion (IsGoodAutLine k) a.rest) (sym g) (good_lines l.states a.rest a.spelled a.each a.within))) (ap length r ∙ sym f) body

-- ---- one fault at most

-- a line has one fault at most
one_line : (n : ℕ) (line : List ℕ) (f g : AutFault) → AutLineFault n line f → AutLineFault n line g → f ≡ g
one_line n line BadLine BadLine p q = refl
one_line n line BadLine BadLabel p (b, is, more) = absurd (p b is)
one_line n line BadLine NoSuchState p (b, is, right, past) = absurd (p b is)
one_line n line BadLabel BadLine (a, is, more) q = absurd (q a is)
one_line n line BadLabel BadLabel p q = refl
one_line n line BadLabel NoSuchState (a, is, bad) (b, same, right, past) = absurd
    (true≢false (sym right ∙ sym (ap (λ (x : Arrow). is_label x.label) (transition_same line a b is same)) ∙ bad))
one_line n line NoSuchState BadLine (a, is, right, past) q = absurd (q a is)
one_line n line NoSuchState BadLabel (b, same, right, past) (a, is, bad) = absurd
    (true≢false (sym right ∙ sym (ap (λ (x : Arrow). is_label x.label) (transition_same line a b is same)) ∙ bad))
one_line n line NoSuchState NoSuchState p q = refl
one_line n line f g p q = absurd assumption

-- a faulty line is not among the good ones of a longer front
inside_longer : (n : ℕ) (fault : AutFault) (front back longer rest : List (List ℕ)) (line : List ℕ) → front ++ line ∷ back ≡ longer ++ rest
    → length front < length longer → AllByRecursion (IsGoodAutLine n) longer → AutLineFault n line fault → ⊥
inside_longer n fault front back [] rest line e more goods wrong = absurd (omega arith)
inside_longer n fault [] back (x ∷ longer) rest line e more goods wrong =
    let same = lines_same line x back (longer ++ rest) e in no_line n x fault goods.0 (subst (λ l. AutLineFault n l fault) same.0 wrong)
inside_longer n fault (y ∷ front) back (x ∷ longer) rest line e more goods wrong =
    let same = lines_same y x (front ++ line ∷ back) (longer ++ rest) e in inside_longer n fault front back longer rest line same.1 (omega arith) goods.1 wrong

same_back : (xs ys vs ws : List (List ℕ)) → length xs ≡ length ys → xs ++ vs ≡ ys ++ ws → vs ≡ ws
same_back [] [] vs ws long e = e
same_back [] (y ∷ ys) vs ws long e = absurd (omega (arith, long))
same_back (x ∷ xs) [] vs ws long e = absurd (omega (arith, long))
same_back (x ∷ xs) (y ∷ ys) vs ws long e = same_back xs ys vs ws (omega (arith, long)) (lines_same x y (xs ++ vs) (ys ++ ws) e).1

not_before : (m n : ℕ) (rest : List (List ℕ)) (f g : AutFault) (i j : ℕ) → IsStop m n rest f i → IsStop m n rest g j → i < j → ⊥
not_before m n rest f g i j p q less =
    let sum_p : length rest ≡ length p.front + length p.back = ap length p.split ∙ length-append p.front p.back in
    let sum_q : length rest ≡ length q.front + length q.back = ap length q.split ∙ length-append q.front q.back in
    let top : j ≤ m = elim q.why [ inl w ↦ elim w.1 [ inl k ↦ omega (arith, k.1) | inr k ↦ omega (arith, k.1) ] | inr w ↦ omega (arith, w.3) ] in
    elim p.why [
      | inl w ↦ elim w.1 [ inl k ↦ absurd (omega (arith, sum_p, sum_q, p.long, q.long, ap length k.0, less)) | inr k ↦ absurd (omega (arith, k.1, top, less)) ]
      | inr w ↦
          inside_longer n f p.front w.1 q.front q.back w.0 (ap (λ l. p.front ++ l) (sym w.2) ∙ sym p.split ∙ q.split)
          (omega (arith, p.long, q.long, less)) q.goods w.4
    ]

one_body : (m n : ℕ) (rest : List (List ℕ)) (f g : AutFault) (i j : ℕ) → IsStop m n rest f i → IsStop m n rest g j → (f ≡ g) × (i ≡ j)
one_body m n rest f g i j p q =
    let at : i ≡ j = elim (cases_lt i j) [
      | inl less ↦ absurd (not_before m n rest f g i j p q less)
      | inr low ↦ elim (cases_lt j i)
          [ inl less ↦ absurd (not_before m n rest g f j i q p less) | inr high ↦ omega arith ]
    ] in
    let back : p.back ≡ q.back = same_back p.front q.front p.back q.back (p.long ∙ at ∙ sym q.long) (sym p.split ∙ q.split) in
    let fault : f ≡ g = elim p.why [
      | inl w ↦ elim q.why [
        | inl k ↦ w.0 ∙ sym k.0
        | inr k ↦ absurd (elim w.1 [ inl u ↦ omega (arith, ap length u.0, ap length back, ap length k.2) | inr u ↦ omega (arith, u.1, k.3, at) ])
      ]
      | inr w ↦ elim q.why [
        | inl k ↦ absurd (elim k.1 [ inl u ↦ omega (arith, ap length u.0, ap length back, ap length w.2) | inr u ↦ omega (arith, u.1, w.3, at) ])
        | inr k ↦ let same = lines_same w.0 k.0 w.1 k.1 (sym w.2 ∙ back ∙ k.2) in one_line n k.0 f g (subst (λ l. AutLineFault n l f) same.0 w.4) k.4
      ]
    ] in
    (fault, at)

-- two readings of one header
abbrev SameHeader : (i m n i' m' n' : ℕ) (rest rest' : List (List ℕ)) → Type 0
SameHeader i m n i' m' n' rest rest' = (i ≡ i') × (m ≡ m') × (n ≡ n') × (rest ≡ rest')

two_headers : (all : List (List ℕ)) (first first' : List ℕ) (rest rest' : List (List ℕ)) (i m n i' m' n' : ℕ) → all ≡ first ∷ rest → all ≡ first' ∷ rest'
    → IsAutHeader first i m n → IsAutHeader first' i' m' n' → SameHeader i m n i' m' n' rest rest'
two_headers all first first' rest rest' i m n i' m' n' cut cut' h h' =
    let same = lines_same first first' rest rest' (sym cut ∙ cut') in
    let e = header_same first' i m n i' m' n' (subst (λ x. IsAutHeader x i m n) same.0 h) h' in
    (e.0, e.1, e.2, same.1)

one_first : (all : List (List ℕ)) (f g : AutFault) → AutHeaderFault all f → AutHeaderFault all g → f ≡ g
one_first all BadHeader BadHeader p q = refl
one_first all BadHeader OverLimit p (first, rest, i, m, n, cut, h, more) = absurd (p first rest i m n cut h)
one_first all BadHeader BadStates p (first, rest, i, m, n, cut, h, few, small, past) = absurd (p first rest i m n cut h)
one_first all OverLimit BadHeader (first, rest, i, m, n, cut, h, more) q = absurd (q first rest i m n cut h)
one_first all OverLimit OverLimit p q = refl
one_first all OverLimit BadStates (first, rest, i, m, n, cut, h, over) (first', rest', i', m', n', cut', h', few, small, past) =
    let e = two_headers all first first' rest rest' i m n i' m' n' cut cut' h h' in
    elim over [ inl k ↦ absurd (omega (arith, k, few, e.1)) | inr k ↦ absurd (omega (arith, k, small, e.2)) ]
one_first all BadStates BadHeader (first, rest, i, m, n, cut, h, few, small, past) q = absurd (q first rest i m n cut h)
one_first all BadStates OverLimit (first', rest', i', m', n', cut', h', few, small, past) (first, rest, i, m, n, cut, h, over) =
    let e = two_headers all first first' rest rest' i m n i' m' n' cut cut' h h' in
    elim over [ inl k ↦ absurd (omega (arith, k, few, e.1)) | inr k ↦ absurd (omega (arith, k, small, e.2)) ]
one_first all BadStates BadStates p q = refl
one_first all f g p q = absurd assumption

-- a right header has no fault
right_header : (all : List (List ℕ)) (fault : AutFault) (first : List ℕ) (rest : List (List ℕ)) (i m n : ℕ) → AutHeaderFault all fault → all ≡ first ∷ rest
    → IsAutHeader first i m n → m ≤ MOST_TRANSITIONS → n ≤ MOST_STATES → i < n → ⊥
right_header all BadHeader first rest i m n p cut h few small below = p first rest i m n cut h
right_header all OverLimit first rest i m n (first', rest', i', m', n', cut', h', over) cut h few small below =
    let e = two_headers all first first' rest rest' i m n i' m' n' cut cut' h h'
    in elim over [ inl k ↦ absurd (omega (arith, k, few, e.1)) | inr k ↦ absurd (omega (arith, k, small, e.2)) ]
right_header all BadStates first rest i m n (first', rest', i', m', n', cut', h', few', small', past) cut h few small below =
    let e = two_headers all first first' rest rest' i m n i' m' n' cut cut' h h' in absurd (omega (arith, past, below, e.0, e.2))
right_header all _ first rest i m n p cut h few small below = p

pub one_fault : (text : List ℕ) (f g : AutFault) (i j : ℕ) → HasAutFault text f i → HasAutFault text g j → (f ≡ g) × (i ≡ j)
one_fault text f g i j (inl (p, at)) (inl (q, at')) = (one_first (lines text) f g p q, at ∙ sym at')
one_fault text f g i j (inl (p, at)) (inr (first, rest, a, m, n, good, cut, h, few, small, below, body, place)) = absurd
    (right_header (lines text) f first rest a m n p cut h few small below)
one_fault text f g i j (inr (first, rest, a, m, n, good, cut, h, few, small, below, body, place)) (inl (q, at)) = absurd
    (right_header (lines text) g first rest a m n q cut h few small below)
one_fault text f g i j (inr (first, rest, a, m, n, good, cut, h, few, small, below, body, place))
    (inr (first', rest', a', m', n', good', cut', h', few', small', below', body', place')) =
    let e = two_headers (lines text) first first' rest rest' a m n a' m' n' cut cut' h h' in
    let stop = stop_of m' n' rest' f good (subst (λ k. AutBodyFault m' k rest' f good) e.2
    (subst (λ k. AutBodyFault k n rest' f good) e.1 (subst (λ l. AutBodyFault m n l f good) e.3 body))) in
    let (same, at) = one_body m' n' rest' f g good good' stop (stop_of m' n' rest' g good' body') in
    (same, place ∙ ap (λ k. k + 2) at ∙ sym place')
