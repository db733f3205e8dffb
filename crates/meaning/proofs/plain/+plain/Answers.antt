use Rattle.std.proofs.Common.{◌≡◌, Bool, List, Result, Vec, Global, not, ◌&&◌, ◌||◌, map, zip, ap, ap₂, sym, ◌∙◌, subst, arith, IfOk, IsTrue, true, false}
use Rattle.std.proofs.lemmas.Result.{IfOk-weaker}
use Rattle.systems.specs.System.{System}
use Rattle.calculus.specs.View.{formula_of, regular_of}
use Rattle.meaning.specs.Term.{formula_in, IsRight}
use Rattle.calculus.specs.Tree.{Formula, And, Or, Implies, Dia, Box, Mu, Nu}
use Rattle.calculus.specs.Meaning.{Env, MarksOf, mean, iterate, with_set}
use Rattle.meaning.specs.Into.{Into}
use Rattle.meaning.specs.Environment.{sets_of}
use Rattle.meaning.proofs.Marked.{marks_and, marks_or, marks_implies, equal_marks}
use Rattle.meaning.proofs.Regulars.{into_box, into_dia}
use Rattle.meaning.specs.Free.{is_free_in}
use Rattle.meaning.proofs.Unused.{one_turn}
use Rattle.meaning.proofs.Closed.{marks_anywhere}
use Rattle.meaning.proofs.Iterated.{turn_marks, repeats_marks, least_marks, greatest_marks}
use Rattle.meaning.proofs.plain.+plain.Goals as goal

-- what was made are the marks of the formula that these stand for
made_of : (l : System) (e : Env) (x y : Formula) (made items : List Bool) → x ≡ y → made ≡ items → MarksOf l.states items (mean l y e)
    → MarksOf l.states made (mean l x e)
made_of l e x y made items is same m = subst (λ (z : Formula). MarksOf l.states made (mean l z e)) (sym is)
    (subst (λ ms. MarksOf l.states ms (mean l y e)) (sym same) m)

-- the same of a call's result
result_of : {E : Type 0} (l : System) (e : Env) (x y : Formula) (r : Result (Vec Bool Global) E) (P : List Bool → Type 0) → x ≡ y
    → ((ms : List Bool) → P ms → MarksOf l.states ms (mean l y e)) → IfOk r (λ marks. P marks.items)
    → IfOk r (λ marks. MarksOf l.states marks.items (mean l x e))
result_of l e x y r P is f h = subst (λ (z : Formula). IfOk r (λ marks. MarksOf l.states marks.items (mean l z e))) (sym is)
    (IfOk-weaker r (λ marks. P marks.items) _ (λ marks. f marks.items) h)

pub marks_of-returns-in-Known-clause-marks : goal.marks_of-returns-in-Known-clause-marks
marks_of-returns-in-Known-clause-marks t c =
    let l = c.args.lts.now.system in
    let f = formula_of c.in-Known.field-0.now in
    let right = subst (IsRight l) c.in-Known.is c.requires.right in
    result_of l (sets_of c.args.environment.now) _ f c.copied_marks.result (λ ms. ms ≡ c.deref.result.now) (ap formula_in c.in-Known.is)
    (λ ms same. subst (λ ns. MarksOf l.states ns (mean l f (sets_of c.args.environment.now))) (sym (same ∙ c.deref.ensures.value))
    (marks_anywhere l c.states-count.ensures.known f (sets_of c.args.environment.now) c.in-Known.marks.items right.0 right.1))
    c.copied_marks.ensures

pub marks_of-returns-in_ok-one-in-And-clause-marks : goal.marks_of-returns-in_ok-one-in-And-clause-marks
marks_of-returns-in_ok-one-in-And-clause-marks t c =
    let l = c.args.lts.now.system in
    let e = sets_of c.args.environment.now in
    let f = formula_in c.deref-in-And.result.now in
    let g = formula_in c.deref-in-And-2.result.now in
    let one = c.in_ok-one-in-And.one.items in
    made_of l e _ (And f g) _ _
    (ap formula_in c.in-And.is ∙ sym (ap₂ (λ a b. And (formula_in a) (formula_in b)) c.deref-in-And.ensures c.deref-in-And-2.ensures))
    (c.intersection.ensures ∙ ap (λ ms. map (λ (p : Bool × Bool). p.0 && p.1) (zip one ms)) c.deref-in-And-3.ensures.value)
    (marks_and l.states one c.in_ok-one-in-And.other.items (mean l f e) (mean l g e) c.in_ok-one-in-And.ensures.one c.in_ok-one-in-And.ensures.other)

pub marks_of-returns-in_ok-one-in-Or-clause-marks : goal.marks_of-returns-in_ok-one-in-Or-clause-marks
marks_of-returns-in_ok-one-in-Or-clause-marks t c =
    let l = c.args.lts.now.system in
    let e = sets_of c.args.environment.now in
    let f = formula_in c.deref-in-Or.result.now in
    let g = formula_in c.deref-in-Or-2.result.now in
    let one = c.in_ok-one-in-Or.one.items in
    made_of l e _ (Or f g) _ _
    (ap formula_in c.in-Or.is ∙ sym (ap₂ (λ a b. Or (formula_in a) (formula_in b)) c.deref-in-Or.ensures c.deref-in-Or-2.ensures))
    (c.union.ensures ∙ ap (λ ms. map (λ (p : Bool × Bool). p.0 || p.1) (zip one ms)) c.deref-in-Or-3.ensures.value)
    (marks_or l.states one c.in_ok-one-in-Or.other.items (mean l f e) (mean l g e) c.in_ok-one-in-Or.ensures.one c.in_ok-one-in-Or.ensures.other)

pub marks_of-returns-in_ok-one-in-Implies-clause-marks : goal.marks_of-returns-in_ok-one-in-Implies-clause-marks
marks_of-returns-in_ok-one-in-Implies-clause-marks t c =
    let l = c.args.lts.now.system in
    let e = sets_of c.args.environment.now in
    let f = formula_in c.deref-in-Implies.result.now in
    let g = formula_in c.deref-in-Implies-2.result.now in
    let one = c.in_ok-one-in-Implies.one.items in
    made_of l e _ (Implies f g) _ _
    (ap formula_in c.in-Implies.is ∙ sym (ap₂ (λ a b. Implies (formula_in a) (formula_in b)) c.deref-in-Implies.ensures c.deref-in-Implies-2.ensures))
    (c.union-in-Implies.ensures ∙ ap₂ (λ ns ms. map (λ (p : Bool × Bool). p.0 || p.1)
    (zip ns ms)) c.complement-in-Implies.ensures c.deref-in-Implies-3.ensures.value)
    (marks_implies l.states one c.in_ok-one-in-Implies.other.items (mean l f e)
    (mean l g e) c.in_ok-one-in-Implies.ensures.one c.in_ok-one-in-Implies.ensures.other)

pub marks_of-returns-in_ok-marks-in-Dia-clause-marks : goal.marks_of-returns-in_ok-marks-in-Dia-clause-marks
marks_of-returns-in_ok-marks-in-Dia-clause-marks t c =
    let l = c.args.lts.now.system in
    let r = regular_of c.in-Dia.regular.now in
    let e = sets_of c.args.environment.now in
    let f = formula_in c.deref-in-Dia.result.now in
    result_of l e _ (Dia r f) c.leading.result (λ ms. MarksOf l.states ms (Into l r c.deref-in-Dia-2.result.now))
    (ap formula_in c.in-Dia.is ∙ sym (ap (λ a. Dia r (formula_in a)) c.deref-in-Dia.ensures))
    (λ ms q. into_dia l c.states-count.ensures.known r c.in_ok-marks-in-Dia.marks.items ms (mean l f e) c.in_ok-marks-in-Dia.ensures.marks
    (subst (λ xs. MarksOf l.states ms (Into l r xs)) c.deref-in-Dia-2.ensures.value q))
    c.leading.ensures

pub marks_of-returns-in_ok-found-in-Box-clause-marks : goal.marks_of-returns-in_ok-found-in-Box-clause-marks
marks_of-returns-in_ok-found-in-Box-clause-marks t c =
    let l = c.args.lts.now.system in
    let r = regular_of c.in-Box.regular.now in
    let found = c.in_ok-found-in-Box.found.items in
    let turned : c.deref-in-Box-2.result.now ≡ map not c.in_ok-marks-in-Box.marks.items = c.deref-in-Box-2.ensures.value ∙ c.complement-in-Box.ensures in
    let e = sets_of c.args.environment.now in
    let f = formula_in c.deref-in-Box.result.now in
    made_of l e _ (Box r f) _ _
    (ap formula_in c.in-Box.is ∙ sym (ap (λ a. Box r (formula_in a)) c.deref-in-Box.ensures))
    c.complement-in-Box-2.ensures
    (into_box l c.states-count.ensures.known r c.in_ok-marks-in-Box.marks.items found (mean l f e) c.in_ok-marks-in-Box.ensures.marks
    (subst (λ ms. MarksOf l.states found (Into l r ms)) turned c.in_ok-found-in-Box.ensures))

pub marks_of-returns-in-Mu-clause-marks : goal.marks_of-returns-in-Mu-clause-marks
marks_of-returns-in-Mu-clause-marks t c =
    let l = c.args.lts.now.system in
    let e = sets_of c.args.environment.now in
    let f = formula_in c.deref-in-Mu.result.now in
    let name = c.in-Mu.name.now.items in
    result_of l e _ (Mu name f) c.iterated.result (λ ms. MarksOf l.states ms (iterate l.states (λ set. mean l f (with_set e name set)) (λ s. IsTrue false)))
    (ap formula_in c.in-Mu.is ∙ sym (ap (λ a. Mu name (formula_in a)) c.deref-in-Mu.ensures))
    (λ ms q. least_marks l c.states-count.ensures.known name f e ms q) c.iterated.ensures

pub marks_of-returns-in-Nu-clause-marks : goal.marks_of-returns-in-Nu-clause-marks
marks_of-returns-in-Nu-clause-marks t c =
    let l = c.args.lts.now.system in
    let e = sets_of c.args.environment.now in
    let f = formula_in c.deref-in-Nu.result.now in
    let name = c.in-Nu.name.now.items in
    result_of l e _ (Nu name f) c.iterated-in-Nu.result (λ ms. MarksOf l.states ms (iterate l.states (λ set. mean l f (with_set e name set)) (λ s. IsTrue true)))
    (ap formula_in c.in-Nu.is ∙ sym (ap (λ a. Nu name (formula_in a)) c.deref-in-Nu.ensures))
    (λ ms q. greatest_marks l c.states-count.ensures.known name f e ms q) c.iterated-in-Nu.ensures

pub iterated-returns-then-not-used : goal.iterated-returns-then-not-used
iterated-returns-then-not-used t c =
    let l = c.args.lts.now.system in
    let f = formula_in c.args.body.now in
    let e = sets_of c.args.environment.now in
    let name = c.args.name.now.items in
    let absent : is_free_in name f ≡ false = sym c.requires.used ∙ c.if-not-used.true in
    IfOk-weaker c.marks_of.result _ _
    (λ marks made. one_turn l c.states-count.ensures.known name f e _ (λ s. IsTrue c.args.from) marks.items absent c.states-count.ensures.known.some made)
    c.marks_of.ensures.marks

pub iterated-loop-turn-preserved : goal.iterated-loop-turn-preserved
iterated-loop-turn-preserved t c =
    turn_marks c.args.lts.now.system c.states-count.ensures.known c.args.name.now.items (formula_in c.args.body.now)
    (sets_of c.args.environment.now) c.loop-turn.turn (λ s. IsTrue c.args.from) c.loop-turn.set.items _ c.in_ok-next.next.items
    c.deref-in-loop-turn.ensures.value c.loop-turn.invariant c.in_ok-next.ensures.marks

pub iterated-returns-then-eq : goal.iterated-returns-then-eq
iterated-returns-then-eq t c =
    let same : c.in_ok-next.next.items ≡ c.loop-turn.set.items = equal_marks c.in_ok-next.next.items c.loop-turn.set.items (sym c.eq.ensures ∙ c.if-eq.true) in
    repeats_marks c.args.lts.now.system c.states-count.ensures.known c.args.name.now.items (formula_in c.args.body.now)
    (sets_of c.args.environment.now) c.loop-turn.turn c.args.lts.now.system.states (λ s. IsTrue c.args.from) c.loop-turn.set.items _ c.in_ok-next.next.items
    c.deref-in-loop-turn.ensures.value same (omega arith) c.loop-turn.invariant c.in_ok-next.ensures.marks

pub iterated-returns : goal.iterated-returns
iterated-returns t c =
    let l = c.args.lts.now.system in
    let done : c.loop-turn.turn ≡ l.states = omega (arith, c.loop-turn-test.false, c.loop-turn.auto.turn-end, c.states-count.ensures.count) in
    subst (λ k. MarksOf l.states c.loop-turn.set.items (iterate k
    (λ set. mean l (formula_in c.args.body.now) (with_set (sets_of c.args.environment.now) c.args.name.now.items set))
    (λ s. IsTrue c.args.from))) done c.loop-turn.invariant
