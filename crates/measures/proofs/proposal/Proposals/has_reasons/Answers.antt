use Rattle.measures.proofs.Common.{◌≡◌, ◌⊎◌, ◌∙◌, ap, arith, below_more, inl, inr, sym, value_at, Measure, Vertex}
use Rattle.measures.specs.Measure.{digit_of}
use Rattle.measures.specs.Proposal.{AreEnough, HasReasonsFor, IsReason, Proposal}
use Rattle.measures.specs.StoredProposal.{proposal_in}
use Rattle.measures.proofs.StoredProposals.{reasons_for}
use Rattle.measures.proofs.proposal.Proposals.has_reasons.Goals as goal
use Rattle.measures.proofs.proposal.Proposals.has_reasons.Goals.{else-digit-ne0-via-then-digit-ne0+else-not-are_enough, else-digit-ne0-via-else-digit-ne0}

pub loop-digit-preserved : goal.loop-digit-preserved
loop-digit-preserved c = λ g at wide.
    let v = c.args.at.now.v in
    let digit = c.loop-digit.digit in
    let now : Proposal = proposal_in c.args.at.now.player c.args.self.now g in
    let x : Vertex = record { owner = c.args.owner; priority = c.args.at.now.priority; successors = c.args.successors.now } in
    let found : (digit_of (value_at now.values v) digit ≡ 0) ⊎ AreEnough x.owner (IsReason now digit x.priority v) x.successors =
    elim c.else-digit-ne0.branch [
      | else-digit-ne0-via-then-digit-ne0+else-not-are_enough w ↦ inr (w.are_enough.ensures g wide w.if-not-are_enough.false)
      | else-digit-ne0-via-else-digit-ne0 w ↦ inl (sym (ap (λ (m : Measure). digit_of m digit) c.requires.known.own) ∙ (sym c.digit.ensures ∙ w.if-digit-ne0.false))
    ] in
    below_more (λ k. HasReasonsFor now k v) digit (c.loop-digit.invariant g at wide) (reasons_for now x v digit at found)

pub returns-else-digit-ne0 : goal.returns-else-digit-ne0
returns-else-digit-ne0 c = λ g at wide so k l.
    let v = c.args.at.now.v in
    let digit = c.loop-digit.digit in
    let now : Proposal = proposal_in c.args.at.now.player c.args.self.now g in
    let x : Vertex = record { owner = c.args.owner; priority = c.args.at.now.priority; successors = c.args.successors.now } in
    let found : (digit_of (value_at now.values v) digit ≡ 0) ⊎ AreEnough x.owner (IsReason now digit x.priority v) x.successors =
    elim c.else-digit-ne0.branch [
      | else-digit-ne0-via-then-digit-ne0+else-not-are_enough w ↦ inr (w.are_enough.ensures g wide w.if-not-are_enough.false)
      | else-digit-ne0-via-else-digit-ne0 w ↦ inl (sym (ap (λ (m : Measure). digit_of m digit) c.requires.known.own) ∙ (sym c.digit.ensures ∙ w.if-digit-ne0.false))
    ] in
    below_more (λ i. HasReasonsFor now i v) digit (c.loop-digit.invariant g at wide) (reasons_for now x v digit at found) k (omega arith)
