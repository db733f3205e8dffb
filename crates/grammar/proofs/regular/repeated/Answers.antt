use Rattle.std.proofs.Common.{refl}
use Rattle.grammar.proofs.Handed.{refused_on}
use Rattle.grammar.proofs.Misreads.{built}
use Rattle.grammar.proofs.RegularRefusals.{repeat-deep, repeat-followed, repeated-read}
use Rattle.grammar.proofs.regular.repeated.Goals as goal

pub returns-in_err-below : goal.returns-in_err-below
returns-in_err-below c =
    refused_on _ _ _ _ c.from_residual.ensures.1 (
    repeat-deep c.args.repeat c.args.level _ _ c.args.left _ _ c.requires.left c.requires.onward c.requires.sign c.requires.first c.in_err-below.ensures.0
    c.in_err-below.ensures.1)

pub returns-in_err-after_repeat : goal.returns-in_err-after_repeat
returns-in_err-after_repeat c =
    let e = c.in_err-after_repeat.ensures in
    refused_on _ _ _ _ c.from_residual-in_err-after_repeat.ensures.1 (
    repeat-followed c.args.repeat c.args.level _ _ c.args.left c.args.rest.now _ c.requires.left c.requires.onward c.requires.sign c.requires.first
    c.in_ok-below.ensures.0 e.0 e.1)

pub returns : goal.returns
returns c =
    built _ _ _ c.built.result c.built.ensures tt (λ r b.
    repeated-read c.args.repeat c.args.level _ _ c.args.rest.now c.args.left _ r c.requires.left c.requires.onward c.requires.first c.requires.sign
    c.in_ok-below.ensures.0 c.in_ok-after_repeat.ensures b refl)
