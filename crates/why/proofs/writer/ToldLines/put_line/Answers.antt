use Rattle.std.proofs.Common.{◌≡◌, ◌≤◌, ℕ, suc, Bool, List, None, Some, arith, get_or, length, sym}
use Rattle.std.specs.Prelude.{slice_get}
use Rattle.std.proofs.lemmas.Option.{slice_get-get_or}
use Rattle.systems.specs.System.{System}
use Rattle.calculus.specs.Nodes.{Node}
use Rattle.calculus.specs.Normal.{normal_nodes}
use Rattle.text.proofs.Writing.{Wrote-after, Wrote-as, Wrote-err, WroteFront-after, WroteFront-more}
use Rattle.why.specs.Story.{step_before, visit_text}
use Rattle.why.specs.declared.visit.Continuation.TheVariants.{On}
use Rattle.why.specs.declared.visit.Visit.{Visit}
use Rattle.why.proofs.writer.ToldLines.put_line.Goals as goal

abbrev any_visit : Visit
any_visit = record { way = record { from = None; vertex = 0; blanks = 0 }; kind = On }

visit_at : (l : System) (nodes : List Node) (long : List ℕ) (visits : List Visit) (number count : ℕ) (head marked : Bool) → suc number ≤ count → count ≤ length visits
    → head ≡ marked
    → visit_text l nodes long (step_before nodes visits number) head (Some (get_or visits number any_visit))
    ≡ visit_text l nodes long (step_before nodes visits number) marked (slice_get visits number)
visit_at l nodes long visits number count head marked lt le same =
    (λ j. visit_text l nodes long (step_before nodes visits number) (same j) (sym (slice_get-get_or visits number any_visit (omega (arith, lt, le))) j))

pub returns-in_err-put_way : goal.returns-in_err-put_way
returns-in_err-put_way g c =
    let s = c.args.self.now.story in
    Wrote-as _ _ _ _ _ (visit_at s.system.now.system (normal_nodes s.normal.now) c.args.self.now.long.now s.visits.now c.args.number s.count _ _ c.requires s.within c.is_head-head.ensures)
    (Wrote-err _ _ _ _ c.from_residual.ensures.0 (WroteFront-more _ _ _ _ c.in_err-put_way.ensures))

pub returns-in_err-put_head : goal.returns-in_err-put_head
returns-in_err-put_head g c =
    let s = c.args.self.now.story in
    Wrote-as _ _ _ _ _ (visit_at s.system.now.system (normal_nodes s.normal.now) c.args.self.now.long.now s.visits.now c.args.number s.count _ _ c.requires s.within c.is_head-head.ensures)
    (Wrote-err _ _ _ _ c.from_residual-in_err-put_head.ensures.0
    (WroteFront-after _ _ _ _ _ c.in_ok-put_way.ensures (WroteFront-more _ _ _ _ c.in_err-put_head.ensures)))

pub returns : goal.returns
returns g c =
    let s = c.args.self.now.story in
    Wrote-as _ _ _ _ _ (visit_at s.system.now.system (normal_nodes s.normal.now) c.args.self.now.long.now s.visits.now c.args.number s.count _ _ c.requires s.within c.is_head-head.ensures)
    (Wrote-after _ _ _ _ _ _ c.in_ok-put_way.ensures (Wrote-after _ _ _ _ _ _ c.in_ok-put_head.ensures c.put_end.ensures))
