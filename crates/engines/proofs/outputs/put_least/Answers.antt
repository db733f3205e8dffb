use Rattle.std.proofs.Common.{refl}
use Rattle.calculus.specs.Closed.{closed_formula}
use Rattle.calculus.specs.Normal.{normal_nodes}
use Rattle.game.specs.Arena.{arena}
use Rattle.evidence.specs.Canon.{evidence_text}
use Rattle.engines.proofs.Leasts.{even_found, least_here, odd_found}
use Rattle.engines.proofs.Putting.{even_begun, odd_after}
use Rattle.engines.proofs.outputs.put_least.Goals as goal

pub returns-in_err-write : goal.returns-in_err-write
returns-in_err-write g c = λ x board is.
    let l = x.texts.system.system in
    let f = closed_formula x.texts.formula in
    let least = c.args.least.now in
    let even = even_found x.rule board l f least is c.best_exists.ensures c.known.ensures x.marks in
    even_begun x (evidence_text even.0) _ _ (g.O.Sink.taken c.args.odd.now) c.from_residual.result even.2 c.from_residual.ensures.0
    (c.in_err-write.ensures (arena l (normal_nodes least.form)) even.0 (least_here x.rule board l f least is _ refl c.deref.ensures.value) even.1)

pub returns : goal.returns
returns g c = λ x board is.
    let l = x.texts.system.system in
    let f = closed_formula x.texts.formula in
    let least = c.args.least.now in
    let g_is = arena l (normal_nodes least.form) in
    let known = least_here x.rule board l f least is in
    let even = even_found x.rule board l f least is c.best_exists.ensures c.known.ensures x.marks in
    let odd = odd_found x.rule board l f least is c.best_exists.ensures c.known.ensures x.marks in
    odd_after x (evidence_text even.0) (evidence_text odd.0) _ _ _ _ c.write-2.result even.2 odd.2
    (c.in_ok-write.ensures g_is even.0 (known _ refl c.deref.ensures.value) even.1)
    (c.write-2.ensures g_is odd.0 (known _ refl c.deref.ensures.value) odd.1)
