use Rattle.std.proofs.Common.{rules, arith, ◌≡◌, ◌+◌, length, map, ap, ◌∙◌}
use Rattle.std.proofs.lemmas.List.{length-map}
use Rattle.grammar.specs.Syntax.{reg_tokens, more_names}
use Rattle.grammar.specs.Written.{reg_syntax}
use Rattle.formula.proofs.Faults.{names-count}
use Rattle.formula.proofs.scope.+token_count.Goals as goal

pub returns-in-Names : goal.returns-in-Names
returns-in-Names t c =
    let e = names-count (map (λ name. name.now) c.in-Names.others.items) in
    let l = length-map c.in-Names.others.items (λ name. name.now) in
    let n : c.len.result ≡ length c.in-Names.others.items = c.len.ensures ∙ search rules in
    let whole : length (reg_tokens (reg_syntax c.args.regular.now)) ≡ length (more_names (map (λ name. name.now) c.in-Names.others.items))
    + 1 = ap (λ w. length (reg_tokens (reg_syntax w))) c.in-Names.is ∙ omega arith in
    omega arith
