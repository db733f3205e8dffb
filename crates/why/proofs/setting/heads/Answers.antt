use Rattle.std.proofs.Common.{None, get_or, ◌∙◌}
use Rattle.std.proofs.lemmas.Option.{slice_get-get_or}
use Rattle.why.specs.declared.visit.Continuation.TheVariants.{On}
use Rattle.why.specs.declared.visit.Visit.{Visit}
use Rattle.why.proofs.Heads.{heads_end, heads_more}
use Rattle.why.proofs.setting.heads.Goals as goal

pub loop-visit-preserved : goal.loop-visit-preserved
loop-visit-preserved c =
    let visits = c.args.visits.now in
    let n = c.loop-visit.visit-index in
    let d : Visit = record { way = record { from = None; vertex = 0; blanks = 0 }; kind = On } in
    record {
      long = c.mark_head.ensures.long ∙ c.loop-visit.invariant.long;
      marks = heads_more visits c.loop-visit.heads.items c.mark_head.new.heads.items n (get_or visits n d) c.loop-visit.invariant.long
          (slice_get-get_or visits n d c.loop-visit-test.true) c.loop-visit.invariant.marks c.mark_head.ensures.marks;
    }

pub returns : goal.returns
returns c = heads_end c.args.visits.now c.loop-visit.heads.items c.loop-visit.visit-index c.loop-visit-test.false c.loop-visit.invariant.marks
