use Rattle.std.proofs.Common.{◌≡◌, ◌<◌, ℕ, ◌∷◌, inl, inr, arith, [], length, true, false, ap, sym, subst}
use Rattle.calculus.specs.Form.{IsShape}
use Rattle.calculus.specs.NodeView.{node_of, shape_of}
use Rattle.calculus.specs.View.{action_of}
use Rattle.game.specs.declared.player.Player.TheVariants.{Even, Odd}
use Rattle.game.specs.Arena.{owner_of, place, successors_of}
use Rattle.calculus.specs.Taken.{IsSetFor}
use Rattle.rankings.specs.Cells.{cell}
use Rattle.rankings.specs.Columns.{number_at}
use Rattle.rankings.specs.Slopes.{CanFollow}
use Rattle.rankings.proofs.Ranked.{constant_ranked, junction_ranked, modality_ranked, single_ranked, steps_moved, two_columns, two_moved}
use Rattle.rankings.proofs.nodes.is_ranked.Goals as goal

pub returns-in-True : goal.returns-in-True
returns-in-True c = λ yes s h i.
    constant_ranked c.args.sheet.now c.args.lts.now c.slopes-slopes.result s c.args.number (node_of c.args.node.now) c.requires.node c.slopes-slopes.ensures true
    (ap shape_of c.in-True.is)
    (subst (λ own. CanFollow c.slopes-slopes.result own 0) (ap (λ f. f s) c.column-own.ensures) (c.constants_lead.ensures yes s h i))

pub returns-in-False : goal.returns-in-False
returns-in-False c = λ yes s h i.
    constant_ranked c.args.sheet.now c.args.lts.now c.slopes-slopes.result s c.args.number (node_of c.args.node.now) c.requires.node c.slopes-slopes.ensures false
    (ap shape_of c.in-False.is)
    (subst (λ own. CanFollow c.slopes-slopes.result own 1) (ap (λ f. f s) c.column-own.ensures) (c.constants_lead-in-False.ensures yes s h i))

pub returns-in-And : goal.returns-in-And
returns-in-And c = λ yes s h i.
    junction_ranked c.args.sheet.now c.args.lts.now c.slopes-slopes.result s c.args.number (node_of c.args.node.now) c.requires.node c.slopes-slopes.ensures false
    c.in-And.left c.in-And.right (ap shape_of c.in-And.is)
    (two_moved c.slopes-slopes.result Odd (owner_of (shape_of c.args.node.now.kind)) (number_at c.column-own.result s) (number_at c.column-left.result s)
    (number_at c.column-right.result s) (cell c.args.sheet.now c.args.number s) (cell c.args.sheet.now c.in-And.left s)
    (cell c.args.sheet.now c.in-And.right s) (sym (ap (λ k. owner_of (shape_of k)) c.in-And.is)) (ap (λ f. f s) c.column-own.ensures)
    (ap (λ f. f s) c.column-left.ensures) (ap (λ f. f s) c.column-right.ensures) (c.junctions_lead.ensures yes s h i))

pub returns-in-Or : goal.returns-in-Or
returns-in-Or c = λ yes s h i.
    junction_ranked c.args.sheet.now c.args.lts.now c.slopes-slopes.result s c.args.number (node_of c.args.node.now) c.requires.node c.slopes-slopes.ensures true
    c.in-Or.left c.in-Or.right (ap shape_of c.in-Or.is)
    (two_moved c.slopes-slopes.result Even (owner_of (shape_of c.args.node.now.kind)) (number_at c.column-own.result s) (number_at c.column-left-in-Or.result s)
    (number_at c.column-right-in-Or.result s) (cell c.args.sheet.now c.args.number s) (cell c.args.sheet.now c.in-Or.left s)
    (cell c.args.sheet.now c.in-Or.right s) (sym (ap (λ k. owner_of (shape_of k)) c.in-Or.is)) (ap (λ f. f s) c.column-own.ensures)
    (ap (λ f. f s) c.column-left-in-Or.ensures) (ap (λ f. f s) c.column-right-in-Or.ensures) (c.junctions_lead-in-Or.ensures yes s h i))

pub returns-in-Dia : goal.returns-in-Dia
returns-in-Dia c = λ yes s h i.
    modality_ranked c.args.sheet.now c.args.lts.now c.slopes-slopes.result s c.args.number (node_of c.args.node.now) c.requires.node c.slopes-slopes.ensures true
    (action_of c.in-Dia.field-0) c.in-Dia.child (ap shape_of c.in-Dia.is) c.states-states.ensures.known (let b = c.requires.states in let e = c.states-states.ensures.count in omega arith) c.args.set.now
    (subst (λ k. IsSetFor c.args.lts.now.labels (shape_of k) c.args.set.now) c.in-Dia.is c.requires.set)
    (steps_moved c.args.lts.now c.slopes-slopes.result Even (owner_of (shape_of c.args.node.now.kind)) c.args.set.now (number_at c.column-own.result)
    (number_at c.column-next.result) (cell c.args.sheet.now c.args.number) (cell c.args.sheet.now c.in-Dia.child) 1 s
    (sym (ap (λ k. owner_of (shape_of k)) c.in-Dia.is)) (ap (λ f. f s) c.column-own.ensures) c.column-next.ensures (c.modalities_lead.ensures yes s h i))

pub returns-in-Box : goal.returns-in-Box
returns-in-Box c = λ yes s h i.
    modality_ranked c.args.sheet.now c.args.lts.now c.slopes-slopes.result s c.args.number (node_of c.args.node.now) c.requires.node c.slopes-slopes.ensures false
    (action_of c.in-Box.field-0) c.in-Box.child (ap shape_of c.in-Box.is) c.states-states.ensures.known (let b = c.requires.states in let e = c.states-states.ensures.count in omega arith) c.args.set.now
    (subst (λ k. IsSetFor c.args.lts.now.labels (shape_of k) c.args.set.now) c.in-Box.is c.requires.set)
    (steps_moved c.args.lts.now c.slopes-slopes.result Odd (owner_of (shape_of c.args.node.now.kind)) c.args.set.now (number_at c.column-own.result)
    (number_at c.column-next-in-Box.result) (cell c.args.sheet.now c.args.number) (cell c.args.sheet.now c.in-Box.child) 0 s
    (sym (ap (λ k. owner_of (shape_of k)) c.in-Box.is)) (ap (λ f. f s) c.column-own.ensures) c.column-next-in-Box.ensures (c.modalities_lead-in-Box.ensures yes s h i))

pub returns-in-Mu : goal.returns-in-Mu
returns-in-Mu c = λ yes s h i.
    let n : ℕ = length c.args.sheet.now.nodes in
    let follows =
    two_columns c.slopes-slopes.result (number_at c.column-own.result s) (number_at c.column.result s) (cell c.args.sheet.now c.args.number s)
    (cell c.args.sheet.now c.in-Mu.child s) (ap (λ f. f s) c.column-own.ensures) (ap (λ f. f s) c.column.ensures) (c.singles_lead.ensures yes s h i)
    in
    let ranked = λ (e : successors_of c.args.lts.now.system n s (shape_of c.args.node.now.kind) ≡ place n s c.in-Mu.child ∷ []) (low : c.in-Mu.child < n).
    single_ranked c.args.sheet.now c.args.lts.now c.slopes-slopes.result s c.args.number (node_of c.args.node.now) c.requires.node c.slopes-slopes.ensures
    c.in-Mu.child e low follows in
    elim c.in-Mu.is [
      | inl e ↦ ranked (ap (λ k. successors_of c.args.lts.now.system n s (shape_of k)) e) (subst (λ k. IsShape n (shape_of k)) e c.requires.node.1)
      | inr w ↦ elim w [
        | inl e ↦ ranked (ap (λ k. successors_of c.args.lts.now.system n s (shape_of k)) e) (subst (λ k. IsShape n (shape_of k)) e c.requires.node.1)
        | inr e ↦ ranked (ap (λ k. successors_of c.args.lts.now.system n s (shape_of k)) e) (subst (λ k. IsShape n (shape_of k)) e c.requires.node.1)
      ]
    ]
