use Rattle.std.proofs.Common.{ap}
use Rattle.std.proofs.lemmas.Result.{IfOk-weaker, IfErr-weaker}
use Rattle.systems.specs.System.{System}
use Rattle.lts.proofs.Whole.{read_whole, read_fault}
use Rattle.lts.proofs.reader.read_text.Goals as goal

pub returns-clause-fault : goal.returns-clause-fault
returns-clause-fault g c =
    IfErr-weaker c.read_rest.result _ _ (λ e wrong. read_fault
    (g.B.Read.remaining c.args.reader.now) _ c.in_ok-found.found e c.in_ok-found.ensures.within c.in_ok-found.ensures.first wrong) c.read_rest.ensures.fault

pub returns-clause-spelled : goal.returns-clause-spelled
returns-clause-spelled g c =
    IfOk-weaker c.read_rest.result _ _
    (λ l rest. read_whole (g.B.Read.remaining c.args.reader.now) _ _ c.in_ok-found.found rest.0 l.system c.in_ok-found.ensures.within
    c.in_ok-found.ensures.first rest.2 rest.1
    (ap (λ (k : System). k.states) rest.3) (ap (λ (k : System). k.initial) rest.3) (ap (λ (k : System). k.arrows) rest.3))
    c.read_rest.ensures.rest
