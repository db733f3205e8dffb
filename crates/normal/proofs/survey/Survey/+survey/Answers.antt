use Rattle.std.proofs.Common.{◌≡◌, ℕ, ◌+◌, ◌≤◌, true, sym, ap, subst, arith, rules, not, false}
use Rattle.calculus.specs.View.{action_of, regular_of}
use Rattle.calculus.specs.NormalTree.{Norm, size, two, modal, loop_of}
use Rattle.normal.specs.Part.{tree_of}
use Rattle.normal.specs.Surveys.{open_at, AreBefore, Surveys}
use Rattle.normal.specs.declared.survey.PartPlace.{PartPlace}
use Rattle.normal.proofs.Surveying.{IsLeaf, IsOpened, IsClosed, greatest_le_size, chain_le_size, above_le_size, past_before, junction_surveys, opened_above}
use Rattle.normal.proofs.Surveying.{fixpoint_surveys}
use Rattle.normal.proofs.survey.Survey.+survey.Goals as goal

pub fixpoint-close-requires-clause-above : goal.fixpoint-close-requires-clause-above
fixpoint-close-requires-clause-above t c =
    let f = tree_of c.args.operand.now (c.args.place.at + 1) in
    let opened : IsOpened c.args.self.now c.open.new.self c.args.place = record {
      opens = c.open.ensures.opens;
      priorities = c.open.ensures.priorities;
      rule = c.open.ensures.rule;
      room = search rules;
    } in
    let w : Surveys c.open.new.self c.part-inside.new.self (record {
      at = c.args.place.at + 1;
      level = c.args.place.level + 1;
    }) f c.part-inside.result = subst
    (λ p. Surveys c.open.new.self c.part-inside.new.self p (tree_of c.args.operand.now p.at) c.part-inside.result) c.inside.ensures c.part-inside.ensures in
    let over : (open_at c.part-inside.new.self.opens c.args.place.level).above ≤ size f = omega (
      arith,
      opened_above c.args.self.now c.open.new.self c.part-inside.new.self c.args.place f c.part-inside.result opened w,
      above_le_size c.args.place.at (c.args.place.at + 1) f,
    ) in
    omega (arith, c.requires.room, over)

pub fixpoint-close-requires-clause-nested : goal.fixpoint-close-requires-clause-nested
fixpoint-close-requires-clause-nested t c =
    let f = tree_of c.args.operand.now (c.args.place.at + 1) in
    let w : Surveys c.open.new.self c.part-inside.new.self (record {
      at = c.args.place.at + 1;
      level = c.args.place.level + 1;
    }) f c.part-inside.result = subst
    (λ p. Surveys c.open.new.self c.part-inside.new.self p (tree_of c.args.operand.now p.at) c.part-inside.result) c.inside.ensures c.part-inside.ensures in
    omega (arith, c.requires.room, w.summary.nested, greatest_le_size f)

pub fixpoint-close-requires-clause-from_least : goal.fixpoint-close-requires-clause-from_least
fixpoint-close-requires-clause-from_least t c =
    let f = tree_of c.args.operand.now (c.args.place.at + 1) in
    let w : Surveys c.open.new.self c.part-inside.new.self (record {
      at = c.args.place.at + 1;
      level = c.args.place.level + 1;
    }) f c.part-inside.result = subst
    (λ p. Surveys c.open.new.self c.part-inside.new.self p (tree_of c.args.operand.now p.at) c.part-inside.result) c.inside.ensures c.part-inside.ensures in
    omega (arith, c.requires.room, w.summary.from_least, chain_le_size f true)

pub fixpoint-close-requires-clause-from_greatest : goal.fixpoint-close-requires-clause-from_greatest
fixpoint-close-requires-clause-from_greatest t c =
    let f = tree_of c.args.operand.now (c.args.place.at + 1) in
    let w : Surveys c.open.new.self c.part-inside.new.self (record {
      at = c.args.place.at + 1;
      level = c.args.place.level + 1;
    }) f c.part-inside.result = subst
    (λ p. Surveys c.open.new.self c.part-inside.new.self p (tree_of c.args.operand.now p.at) c.part-inside.result) c.inside.ensures c.part-inside.ensures in
    omega (arith, c.requires.room, w.summary.from_greatest, chain_le_size f false)

pub fixpoint-returns : goal.fixpoint-returns
fixpoint-returns t c =
    let f = tree_of c.args.operand.now (c.args.place.at + 1) in
    let opened : IsOpened c.args.self.now c.open.new.self c.args.place = record {
      opens = c.open.ensures.opens;
      priorities = c.open.ensures.priorities;
      rule = c.open.ensures.rule;
      room = search rules;
    } in
    let w : Surveys c.open.new.self c.part-inside.new.self (record {
      at = c.args.place.at + 1;
      level = c.args.place.level + 1;
    }) f c.part-inside.result = subst
    (λ p. Surveys c.open.new.self c.part-inside.new.self p (tree_of c.args.operand.now p.at) c.part-inside.result) c.inside.ensures c.part-inside.ensures in
    let closed : IsClosed c.part-inside.new.self c.close.new.self c.args.place c.args.flag c.part-inside.result c.close.result =
    record {
      own = c.close.ensures.own;
      others = c.close.ensures.others;
      opens = c.close.ensures.opens;
      rule = c.close.ensures.rule;
      summary = c.close.ensures.summary;
    }
    in
    fixpoint_surveys c.args.self.now c.open.new.self c.part-inside.new.self c.close.new.self c.args.place c.args.flag f c.part-inside.result c.close.result
    opened w closed c.requires.before

pub formula-returns-in-Implies : goal.formula-returns-in-Implies
formula-returns-in-Implies t c = rw (c.in-Implies.is, ← c.deref-in-Implies.ensures, ← c.deref-in-Implies-2.ensures) (c.junction-in-Implies.ensures c.args.flag)

pub formula-returns-in-Dia : goal.formula-returns-in-Dia
formula-returns-in-Dia t c = rw (c.in-Dia.is, ← c.deref-in-Dia.ensures) c.modal.ensures

pub formula-returns-in-Box : goal.formula-returns-in-Box
formula-returns-in-Box t c = rw (c.in-Box.is, ← c.deref-in-Box.ensures) c.modal-in-Box.ensures

pub formula-returns-in-Mu : goal.formula-returns-in-Mu
formula-returns-in-Mu t c = rw (c.in-Mu.is, ← c.deref-in-Mu-2.ensures, ← c.deref-in-Mu.ensures.value) c.fixpoint.ensures

pub formula-returns-in-Nu : goal.formula-returns-in-Nu
formula-returns-in-Nu t c = rw (c.in-Nu.is, ← c.deref-in-Nu-2.ensures, ← c.deref-in-Nu.ensures.value) c.fixpoint-in-Nu.ensures

pub formula-returns-in-And : goal.formula-returns-in-And
formula-returns-in-And t c = rw (c.in-And.is, ← c.deref-in-And.ensures, ← c.deref-in-And-2.ensures) (c.junction.ensures (not c.args.flag))

pub formula-returns-in-Or : goal.formula-returns-in-Or
formula-returns-in-Or t c = rw (c.in-Or.is, ← c.deref-in-Or.ensures, ← c.deref-in-Or-2.ensures) (c.junction-in-Or.ensures c.args.flag)

-- the right operand finds room
right_fits : (at next : ℕ) (f g : ℕ → Norm) → next ≡ at + 1 + size (f (at + 1)) → at + size (two true f g at) ≤ 4096 → next + size (g next) ≤ 4096
right_fits at next f g e h = rw e (omega (arith, h))

pub junction-part-second-requires : goal.junction-part-second-requires
junction-part-second-requires t c =
    let w : Surveys c.leaf-leaf.new.self c.part-first.new.self (record { at = c.args.place.at + 1; level = c.args.place.level })
    (tree_of c.args.left.now (c.args.place.at + 1)) c.part-first.result =
    subst (λ p. Surveys c.leaf-leaf.new.self c.part-first.new.self p (tree_of c.args.left.now p.at) c.part-first.result) c.beside.ensures c.part-first.ensures
    in
    let next : c.part-first.result.next ≡ c.args.place.at + 1 + size (tree_of c.args.left.now (c.args.place.at + 1)) = w.summary.next in
    let was : AreBefore c.leaf-leaf.new.self.opens c.args.place.level (c.args.place.at + 1) = λ i below. let b = c.requires.before i below
    in let e : (open_at c.leaf-leaf.new.self.opens i).last
    ≡ (open_at c.args.self.now.opens i).last = ap (λ os. (open_at os i).last) c.leaf-leaf.ensures.opens in omega arith in
    let P : PartPlace → Type 0 = λ p. (p.at + size (tree_of c.args.right.now p.at) ≤ 4096)
    × ((p.level ≤ p.at) × AreBefore c.part-first.new.self.opens p.level p.at) in (
      search rules,
      subst P (sym c.beside-2.ensures) (
        right_fits c.args.place.at c.part-first.result.next (tree_of c.args.left.now)
            (tree_of c.args.right.now) next c.requires.room,
        (omega (arith, c.requires.level), past_before _ _ _ _ _ w was),
      ),
    )

pub junction-returns : goal.junction-returns
junction-returns t c = λ flag.
    let leaf : IsLeaf c.args.self.now c.leaf-leaf.new.self c.args.place = record {
      priorities = c.leaf-leaf.ensures.priorities;
      opens = c.leaf-leaf.ensures.opens;
      rule = c.leaf-leaf.ensures.rule;
      room = search rules;
    } in
    let w : Surveys c.leaf-leaf.new.self c.part-first.new.self (record { at = c.args.place.at + 1; level = c.args.place.level })
    (tree_of c.args.left.now (c.args.place.at + 1)) c.part-first.result =
    subst (λ p. Surveys c.leaf-leaf.new.self c.part-first.new.self p (tree_of c.args.left.now p.at) c.part-first.result) c.beside.ensures c.part-first.ensures
    in
    junction_surveys c.args.self.now c.leaf-leaf.new.self c.part-first.new.self c.part-second.new.self c.args.place (tree_of c.args.left.now)
    (tree_of c.args.right.now) c.part-first.result c.part-second.result c.together.result leaf w
    (subst (λ p. Surveys c.part-first.new.self c.part-second.new.self p
    (tree_of c.args.right.now p.at) c.part-second.result) c.beside-2.ensures c.part-second.ensures) c.together.ensures flag

pub modal-returns-in-Act : goal.modal-returns-in-Act
modal-returns-in-Act t c = rw c.in-Act.is (c.modality.ensures c.args.flag (action_of c.in-Act.field-0))

pub modal-returns-in-Choice : goal.modal-returns-in-Choice
modal-returns-in-Choice t c = rw (c.in-Choice.is, ← c.deref-in-Choice.ensures, ← c.deref-in-Choice-2.ensures) (c.junction.ensures c.args.flag)

pub modal-returns-in-Plus : goal.modal-returns-in-Plus
modal-returns-in-Plus t c =
    let flag = c.args.flag in
    let f = tree_of c.args.operand.now in
    let first = subst (λ r. Surveys c.args.self.now c.modal-in-Plus.new.self c.args.place
    (modal flag (regular_of r) (loop_of flag (modal flag
    (regular_of c.deref-in-Plus-2.result.now)) f) c.args.place.at) c.modal-in-Plus.result) c.deref-in-Plus.ensures c.modal-in-Plus.ensures in
    rw c.in-Plus.is (subst (λ r. Surveys c.args.self.now c.modal-in-Plus.new.self c.args.place
    (modal flag (regular_of c.in-Plus.r.value) (loop_of flag
    (modal flag (regular_of r)) f) c.args.place.at) c.modal-in-Plus.result) c.deref-in-Plus-2.ensures first)

pub part-returns-in-Two : goal.part-returns-in-Two
part-returns-in-Two t c = rw c.in-Two.is (c.junction.ensures c.in-Two.flag)
