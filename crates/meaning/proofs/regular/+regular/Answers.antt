use Rattle.std.proofs.Common.{◌≡◌, ◌↔◌, ℕ, ◌<◌, ◌≤◌, Bool, List, Result, Vec, Global, arith, length, ◌||◌, ap, ap₂, sym, ◌∙◌, subst, IfOk}
use Rattle.std.proofs.lemmas.Result.{IfOk-weaker}
use Rattle.systems.specs.System.{System}
use Rattle.calculus.specs.View.{action_of, regular_of}
use Rattle.calculus.specs.Tree.{Regular, Step, Then, Either, Star, Plus}
use Rattle.calculus.specs.Meaning.{MarksOf, marked}
use Rattle.meaning.specs.Arrivals.{unmarked}
use Rattle.meaning.specs.Into.{Into}
use Rattle.meaning.specs.Signs.{without_signs, has_star}
use Rattle.meaning.proofs.Behind.{height, no_higher, into_any, into_starred, into_unstarred}
use Rattle.meaning.proofs.Regulars.{into_then, into_either, into_plus}
use Rattle.meaning.proofs.Growth.{joined, is_within, fewer, sound_more, base_more, reached_all, reached_some}
use Rattle.meaning.proofs.Marked.{marks_same, marks_or, length_zip}
use Rattle.meaning.proofs.regular.+regular.Goals as goal

pub leading-returns-in_ok-middle-in-Seq : goal.leading-returns-in_ok-middle-in-Seq
leading-returns-in_ok-middle-in-Seq t c =
    let l = c.args.lts.now.system in
    let is : regular_of c.args.regular.now ≡ Then (regular_of c.deref-in-Seq.result.now) (regular_of c.deref.result.now) =
    ap regular_of c.in-Seq.is ∙ sym (ap₂ (λ a b. Then (regular_of a) (regular_of b)) c.deref-in-Seq.ensures c.deref.ensures) in
    subst (λ (r : Regular). IfOk c.leading-in-Seq.result (λ found. MarksOf l.states found.items (Into l r c.args.marks.now))) (sym is)
    (IfOk-weaker c.leading-in-Seq.result _ _
    (λ found f. into_then l c.requires.system (regular_of c.deref-in-Seq.result.now)
    (regular_of c.deref.result.now) c.args.marks.now c.in_ok-middle-in-Seq.middle.items found.items
    c.in_ok-middle-in-Seq.ensures (subst (λ ms. MarksOf l.states found.items
    (Into l (regular_of c.deref-in-Seq.result.now) ms)) c.deref-in-Seq-2.ensures.value f))
    c.leading-in-Seq.ensures)

pub leading-returns-in_ok-other-in-Choice : goal.leading-returns-in_ok-other-in-Choice
leading-returns-in_ok-other-in-Choice t c =
    let l = c.args.lts.now.system in
    let r = regular_of c.deref-in-Choice.result.now in
    let q = regular_of c.deref-in-Choice-2.result.now in
    let ms = c.args.marks.now in
    let one = c.in_ok-one-in-Choice.one.items in
    let is : regular_of c.args.regular.now ≡ Either r q =
    ap regular_of c.in-Choice.is ∙ sym (ap₂ (λ a b. Either (regular_of a) (regular_of b)) c.deref-in-Choice.ensures c.deref-in-Choice-2.ensures) in
    let joins : c.union.result.items ≡ joined one c.in_ok-other-in-Choice.other.items = c.union.ensures ∙ ap (joined one) c.deref-in-Choice-3.ensures.value in
    subst (λ (x : Regular). MarksOf l.states c.union.result.items (Into l x ms)) (sym is)
    (subst (λ items. MarksOf l.states items (Into l (Either r q) ms)) (sym joins)
    (marks_same l.states _ _ _
    (marks_or l.states one c.in_ok-other-in-Choice.other.items (Into l r ms) (Into l q ms) c.in_ok-one-in-Choice.ensures c.in_ok-other-in-Choice.ensures)
    (λ s h. into_either l r q ms s)))

pub reaching-returns-then-is_within-clause-any : goal.reaching-returns-then-is_within-clause-any
reaching-returns-then-is_within-clause-any t c =
    let l = c.args.lts.now.system in
    let r = regular_of c.args.step.now in
    let found = c.loop-any.any.items in
    let more = c.in_ok-some.some.items in
    let m : MarksOf l.states more (Into l r found) = subst (λ x. MarksOf l.states more (Into l r x)) c.deref.ensures.value c.in_ok-some.ensures in
    let within : c.is_within.result ≡ is_within more found = c.is_within.ensures
    ∙ ap₂ (λ a b. is_within a b) c.deref-in-loop-any.ensures.value c.deref-in-loop-any-2.ensures.value in
    reached_all l c.requires.system r c.args.marks.now found more c.loop-any.invariant.count m c.loop-any.invariant.sound c.loop-any.invariant.base
    (sym within ∙ c.if-is_within.true)

pub reaching-returns-then-is_within-clause-some : goal.reaching-returns-then-is_within-clause-some
reaching-returns-then-is_within-clause-some t c =
    let l = c.args.lts.now.system in
    let r = regular_of c.args.step.now in
    let found = c.loop-any.any.items in
    let more = c.in_ok-some.some.items in
    let m : MarksOf l.states more (Into l r found) = subst (λ x. MarksOf l.states more (Into l r x)) c.deref.ensures.value c.in_ok-some.ensures in
    let within : c.is_within.result ≡ is_within more found = c.is_within.ensures
    ∙ ap₂ (λ a b. is_within a b) c.deref-in-loop-any.ensures.value c.deref-in-loop-any-2.ensures.value in
    reached_some l c.requires.system r c.args.marks.now found more c.loop-any.invariant.count m
    (reached_all l c.requires.system r c.args.marks.now found more c.loop-any.invariant.count m c.loop-any.invariant.sound c.loop-any.invariant.base
    (sym within ∙ c.if-is_within.true))

pub reaching-loop-any-smaller : goal.reaching-loop-any-smaller
reaching-loop-any-smaller t c =
    let found = c.loop-any.any.items in
    let more = c.in_ok-some.some.items in
    let within : c.is_within.result ≡ is_within more found = c.is_within.ensures
    ∙ ap₂ (λ a b. is_within a b) c.deref-in-loop-any.ensures.value c.deref-in-loop-any-2.ensures.value in
    let joins : c.union-any.result.items ≡ joined found more = c.union-any.ensures ∙ ap (joined found) c.deref-in-loop-any-3.ensures.value in
    subst (λ x. unmarked x < unmarked found) (sym joins)
    (fewer found more (omega (arith, c.loop-any.invariant.count, c.in_ok-some.ensures.count)) (sym within ∙ c.if-is_within.false))

pub reaching-loop-any-preserved : goal.reaching-loop-any-preserved
reaching-loop-any-preserved t c =
    let l = c.args.lts.now.system in
    let r = regular_of c.args.step.now in
    let found = c.loop-any.any.items in
    let more = c.in_ok-some.some.items in
    let m : MarksOf l.states more (Into l r found) = subst (λ x. MarksOf l.states more (Into l r x)) c.deref.ensures.value c.in_ok-some.ensures in
    let joins : c.union-any.result.items ≡ joined found more = c.union-any.ensures ∙ ap (joined found) c.deref-in-loop-any-3.ensures.value in
    record {
      count = ap length joins ∙ (length_zip (λ p. p.0 || p.1) found more (omega (arith, c.loop-any.invariant.count, c.in_ok-some.ensures.count))
          ∙ c.loop-any.invariant.count);
      sound = λ s h k. sound_more l c.requires.system r c.args.marks.now found more c.loop-any.invariant.count m c.loop-any.invariant.sound s h
          (subst (λ x. marked x s) joins k);
      base = λ s h k. subst (λ x. marked x s) (sym joins)
          (base_more l c.requires.system r c.args.marks.now found more c.loop-any.invariant.count m c.loop-any.invariant.base s h k);
    }

pub at_least_one-returns-in-Act : goal.at_least_one-returns-in-Act
at_least_one-returns-in-Act t c =
    let l = c.args.lts.now.system in
    let r : Regular = Step (action_of c.in-Act.action) in
    let ms = c.args.marks.now in
    let any = c.in_ok-any.any.items in
    let is : regular_of c.args.step.now ≡ r = ap regular_of c.in-Act.is in
    subst (λ (x : Regular). IfOk c.before-in-Act.result (λ found. MarksOf l.states found.items (Into l (Plus x) ms))) (sym is)
    (IfOk-weaker c.before-in-Act.result (λ found. MarksOf l.states found.items (Into l r c.deref.result.now)) _
    (λ found f. into_plus l c.requires.system r ms any found.items c.in_ok-any.ensures
    (subst (λ x. MarksOf l.states found.items (Into l r x)) c.deref.ensures.value f))
    c.before-in-Act.ensures)

-- what stands before the signs behind a formula is no higher
lower_of : (r q : Regular) → q ≡ without_signs r → height q ≤ height r
lower_of r q e = subst (λ x. height x ≤ height r) (sym e) (no_higher r)

pub leading-any_number-requires : goal.leading-any_number-requires
leading-any_number-requires t c =
    let is : regular_of c.args.regular.now ≡ Star (regular_of c.deref-in-Star.result.now) = ap regular_of c.in-Star.is
    ∙ sym (ap (λ a. Star (regular_of a)) c.deref-in-Star.ensures) in (
      omega (
        arith,
        ap height is,
        lower_of (regular_of c.deref-in-Star.result.now)
            (regular_of c.without_signs_behind.result.now) c.without_signs_behind.ensures,
        c.decreases,
      ),
      (c.requires.system, c.requires.count),
    )

pub leading-any_number-requires-then-has_star : goal.leading-any_number-requires-then-has_star
leading-any_number-requires-then-has_star t c =
    let is : regular_of c.args.regular.now ≡ Plus (regular_of c.deref-then-has_star.result.now) = ap regular_of c.in-Plus.is
    ∙ sym (ap (λ a. Plus (regular_of a)) c.deref-then-has_star.ensures) in (
      omega (
        arith,
        ap height is,
        lower_of (regular_of c.deref-then-has_star.result.now)
            (regular_of c.without_signs_behind-then-has_star.result.now) c.without_signs_behind-then-has_star.ensures,
        c.decreases,
      ),
      (c.requires.system, c.requires.count),
    )

pub leading-at_least_one-requires : goal.leading-at_least_one-requires
leading-at_least_one-requires t c =
    let is : regular_of c.args.regular.now ≡ Plus (regular_of c.deref-else-has_star.result.now) = ap regular_of c.in-Plus.is
    ∙ sym (ap (λ a. Plus (regular_of a)) c.deref-else-has_star.ensures) in (
      omega (
        arith,
        ap height is,
        lower_of (regular_of c.deref-else-has_star.result.now)
            (regular_of c.without_signs_behind-else-has_star.result.now) c.without_signs_behind-else-has_star.ensures,
        c.decreases,
      ),
      (c.requires.system, c.requires.count),
    )

-- a call's marks are those of a formula that leads to the set from the same states
led_by : {E : Type 0} (l : System) (x y z : Regular) (ms : List Bool) (r : Result (Vec Bool Global) E) → x ≡ y → ((s : ℕ) → Into l z ms s ↔ Into l y ms s)
    → IfOk r (λ found. MarksOf l.states found.items (Into l z ms)) → IfOk r (λ found. MarksOf l.states found.items (Into l x ms))
led_by l x y z ms r is same h =
    subst (λ (q : Regular). IfOk r (λ found. MarksOf l.states found.items (Into l q ms))) (sym is)
    (IfOk-weaker r (λ found. MarksOf l.states found.items (Into l z ms)) _
    (λ found f. marks_same l.states found.items (Into l z ms) (Into l y ms) f (λ s h. same s)) h)

pub leading-returns-in-Star : goal.leading-returns-in-Star
leading-returns-in-Star t c =
    let l = c.args.lts.now.system in
    let r = regular_of c.deref-in-Star.result.now in
    let ms = c.args.marks.now in
    led_by l _ (Star r) (Star (regular_of c.without_signs_behind.result.now)) ms c.any_number.result
    (ap regular_of c.in-Star.is ∙ sym (ap (λ a. Star (regular_of a)) c.deref-in-Star.ensures))
    (λ s. subst (λ x. Into l (Star x) ms s ↔ Into l (Star r) ms s) (sym c.without_signs_behind.ensures) (into_any l r ms s)) c.any_number.ensures

pub leading-returns-then-has_star : goal.leading-returns-then-has_star
leading-returns-then-has_star t c =
    let l = c.args.lts.now.system in
    let r = regular_of c.deref-then-has_star.result.now in
    let ms = c.args.marks.now in
    let starred : c.has_star.result ≡ has_star r = c.has_star.ensures
    ∙ ap (λ x. has_star (regular_of x)) (c.deref-in-Plus.ensures ∙ sym c.deref-then-has_star.ensures) in
    led_by l _ (Plus r) (Star (regular_of c.without_signs_behind-then-has_star.result.now)) ms c.any_number-then-has_star.result
    (ap regular_of c.in-Plus.is ∙ sym (ap (λ a. Plus (regular_of a)) c.deref-then-has_star.ensures))
    (λ s. subst (λ x. Into l (Star x) ms s ↔ Into l (Plus r) ms s) (sym c.without_signs_behind-then-has_star.ensures)
    (into_starred l r ms s (sym starred ∙ c.if-has_star.true))) c.any_number-then-has_star.ensures

pub leading-returns-else-has_star : goal.leading-returns-else-has_star
leading-returns-else-has_star t c =
    let l = c.args.lts.now.system in
    let r = regular_of c.deref-else-has_star.result.now in
    let ms = c.args.marks.now in
    let starred : c.has_star.result ≡ has_star r = c.has_star.ensures
    ∙ ap (λ x. has_star (regular_of x)) (c.deref-in-Plus.ensures ∙ sym c.deref-else-has_star.ensures) in
    led_by l _ (Plus r) (Plus (regular_of c.without_signs_behind-else-has_star.result.now)) ms c.at_least_one.result
    (ap regular_of c.in-Plus.is ∙ sym (ap (λ a. Plus (regular_of a)) c.deref-else-has_star.ensures))
    (λ s. subst (λ x. Into l (Plus x) ms s ↔ Into l (Plus r) ms s) (sym c.without_signs_behind-else-has_star.ensures)
    (into_unstarred l r ms s (sym starred ∙ c.if-has_star.false))) c.at_least_one.ensures
