use Rattle.std.proofs.Common.{◌≡◌, ◌+◌, ◌++◌, ◌∷◌, [], map, arith, ◌∙◌, ap, sym, drop, refl, true, false}
use Rattle.std.proofs.lemmas.List.{map-append, take_rest}
use Rattle.std.proofs.lemmas.Grind.{common_steps}
use Rattle.grammar.specs.Syntax.{more_names}
use Rattle.grammar.specs.Written.{bare_tokens}
use Rattle.grammar.specs.Read.{MatchBar}
use Rattle.grammar.proofs.Regulars.{names-more}
use Rattle.grammar.proofs.Handed.{refused_on}
use Rattle.grammar.proofs.Misreads.{built}
use Rattle.grammar.proofs.RegularRefusals.{names-unnamed, names-read}
use Rattle.grammar.proofs.regular.names.Goals as goal

pub names-preserved : goal.names-preserved
names-preserved c =
    let ts = c.args.tokens.now in
    let bar : MatchBar (bare_tokens (drop c.names.at ts)) true = rw take_rest at c.names-test.ensures in
    let p = names-more ts c.names.at (map (λ name. name.now) c.names.others.items) c.in_ok-name.name.now c.in_ok-name.field-0-1.now c.names.invariant.1 bar
    (rw take_rest at c.in_ok-name.ensures) in
    let e : map (λ name. name.now) c.push.new.self.items ≡ map (λ name. name.now) c.names.others.items
    ++ c.in_ok-name.name.now ∷ [] = grind (arith, common_steps, map-append) in
    (p.0, p.1 ∙ ap (λ names. more_names names ++ bare_tokens (drop (c.names.at + 2) ts)) (sym e))

pub returns-in_err-name : goal.returns-in_err-name
returns-in_err-name c =
    let bar : MatchBar (bare_tokens (drop c.names.at c.args.tokens.now)) true = rw take_rest at c.names-test.ensures in
    refused_on _ _ _ _ c.from_residual.ensures.1
    (names-unnamed _ _ c.args.first.now c.args.tokens.now c.names.at (map (λ name. name.now) c.names.others.items) _ c.names.invariant.1 bar
    (rw take_rest at c.in_err-name.ensures))

pub returns : goal.returns
returns c =
    let bar : MatchBar (bare_tokens (drop c.names.at c.args.tokens.now)) false = rw take_rest at c.names-test.ensures in
    built _ _ _ c.built.result c.built.ensures tt (λ r b.
    names-read _ _ c.args.first.now c.args.tokens.now (drop c.names.at c.args.tokens.now) (map (λ name. name.now) c.names.others.items) _ r
    (rw take_rest at b) refl c.names.invariant.1 bar)
