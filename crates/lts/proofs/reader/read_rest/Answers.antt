use Rattle.lts.proofs.reader.read_rest.Goals as goal

pub assemble-requires-clause-gathered : goal.assemble-requires-clause-gathered
assemble-requires-clause-gathered g c =
    let (arrows, gathered, within, are) = c.in_ok-read_rows.ensures.rows in
    (arrows, rw (c.as_slice.ensures.keys, c.replace-transitions.ensures.value) gathered, within)

pub returns-clause-rest : goal.returns-clause-rest
returns-clause-rest g c =
    let (arrows, gathered, within, are) = c.in_ok-read_rows.ensures.rows in
    let set = c.in_ok-assemble.ensures.arrows arrows (rw (c.as_slice.ensures.keys, c.replace-transitions.ensures.value) gathered) in
    (arrows, within, are, λ i. record { states = c.in_ok-assemble.ensures.states i; initial = c.in_ok-assemble.ensures.initial i; arrows = set i })
