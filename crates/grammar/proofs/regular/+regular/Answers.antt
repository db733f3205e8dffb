use Rattle.std.proofs.Common.{rules, arith, ◌≡◌, ◌+◌, ◌∙◌, ◌≤◌, length, max, subst, ap, refl, [], ◌∷◌}
use Rattle.grammar.specs.Token.{NotSign, Open}
use Rattle.grammar.specs.Syntax.{reg_tokens}
use Rattle.grammar.specs.Written.{bare_tokens, token_of, reg_syntax}
use Rattle.grammar.specs.Misread.{IsRegularMisread, ReadsRegular, RegularOf}
use Rattle.grammar.proofs.Handed.{refused_on}
use Rattle.grammar.proofs.Misreads.{built, below-room, misread-within as within}
use Rattle.grammar.proofs.Regulars.{joined-read, kept-length}
use Rattle.grammar.proofs.RegularPlaces.{place_front, place_not, place_open}
use Rattle.grammar.proofs.RegularRefusals.{negation-empty, negation-deep, negation-many, negation-none, word-unbarred, parens-unbarred, parens-unclosed}
use Rattle.grammar.proofs.RegularRefusals.{not-read, at-row, some_row, may_join, join-deep, join-right}
use Rattle.grammar.proofs.regular.+regular.Goals as goal

pub negated-returns-in_err-inner : goal.negated-returns-in_err-inner
negated-returns-in_err-inner t c =
    refused_on _ _ _ _ c.from_residual.ensures.1 (within _ _ _ _ _ _ _ _ (NotSign ∷ []) _ _ (place_not _ _) c.in_err-inner.ensures)

pub negated-returns : goal.negated-returns
negated-returns t c =
    built _ _ _ c.built.result c.built.ensures tt (λ s b. not-read _ _ _ c.in_ok-inner.inner _ s b refl c.in_ok-inner.ensures)

pub regular-returns-in_err-negation : goal.regular-returns-in_err-negation
regular-returns-in_err-negation t c =
    refused_on _ _ _ _ c.from_residual.ensures.1 (within _ _ _ _ _ _ _ _ [] _ _ (place_front c.args.level _ _ c.requires.above) c.in_err-negation.ensures)

pub regular-extended-requires : goal.regular-extended-requires
regular-extended-requires t c =
    let r = c.in_ok-negation.field-0 in
    let short : length r.rest.now ≤ length c.args.tokens.now = kept-length
    (reg_tokens (reg_syntax r.syntax.value)) r.rest.now c.args.tokens.now c.in_ok-negation.ensures.eaten in
    (search rules, (c.requires.row, at-row c.args.level _ _ _ r c.requires.above c.in_ok-negation.ensures))

pub negation-returns-in_default : goal.negation-returns-in_default
negation-returns-in_default t c =
    let none : length c.args.tokens.now ≡ 0 = search rules in
    negation-empty c.args.room.depth c.args.room.parens c.args.tokens.now c.unexpected.result none c.unexpected.ensures

pub negation-returns-in_err-below-in-NotSign : goal.negation-returns-in_err-below-in-NotSign
negation-returns-in_err-below-in-NotSign t c =
    refused_on _ _ _ _ c.from_residual.ensures.1 (
    negation-deep _ _ c.args.tokens.now c.in-Some.first.now c.in-Some.rest.now _ c.in-Some.ensures.cases.0
    (ap token_of c.in-NotSign.is) c.in_err-below-in-NotSign.ensures.0 c.in_err-below-in-NotSign.ensures.1)

pub negation-returns-in_err-inside-in-Open : goal.negation-returns-in_err-inside-in-Open
negation-returns-in_err-inside-in-Open t c =
    refused_on _ _ _ _ c.from_residual-in_err-inside-in-Open.ensures.1 (
    negation-many _ _ c.args.tokens.now c.in-Some.first.now c.in-Some.rest.now _ c.in-Some.ensures.cases.0
    (ap token_of c.in-Open.is) c.in_err-inside-in-Open.ensures.0 c.in_err-inside-in-Open.ensures.1)

pub negation-returns-in_ok-built-in-Some-word : goal.negation-returns-in_ok-built-in-Some-word
negation-returns-in_ok-built-in-Some-word t c =
    word-unbarred _ _ c.args.tokens.now c.in-Some.first.now c.in-Some.rest.now _ c.in_ok-built-in-Some-word.field-0 c.unbarred.result
    c.in-Some.ensures.cases.0 c.in-Some-word.ensures c.in_ok-built-in-Some-word.ensures c.unbarred.ensures

pub negation-returns-in-None : goal.negation-returns-in-None
negation-returns-in-None t c =
    let d = c.in_default-token in
    negation-none c.args.room.depth c.args.room.parens c.args.tokens.now c.in-Some.first.now c.in-Some.rest.now c.unexpected-in-None.result
    c.in-Some.ensures.cases.0 c.in-None.ensures d.not-Name d.not-NotSign d.not-Open c.unexpected-in-None.ensures

pub parens-returns-in_err-inner : goal.parens-returns-in_err-inner
parens-returns-in_err-inner t c =
    refused_on _ _ _ _ c.from_residual.ensures.1 (within _ _ _ _ _ _ _ _ (Open ∷ []) _ _ (place_open _ _) c.in_err-inner.ensures)

pub parens-returns-in_err-rest : goal.parens-returns-in_err-rest
parens-returns-in_err-rest t c =
    refused_on _ _ _ _ c.from_residual-in_err-rest.ensures.1 (parens-unclosed _ _ _ c.in_ok-inner.inner _ c.in_ok-inner.ensures c.in_err-rest.ensures)

pub parens-returns : goal.parens-returns
parens-returns t c =
    parens-unbarred _ _ _ c.in_ok-inner.inner c.in_ok-rest.rest.now _ c.in_ok-built.field-0 c.unbarred.result c.in_ok-inner.ensures c.in_ok-rest.ensures refl
    c.in_ok-built.ensures c.unbarred.ensures

pub extended-returns-in_err-longer-in-Some : goal.extended-returns-in_err-longer-in-Some
extended-returns-in_err-longer-in-Some t c =
    refused_on _ _ _ _ c.from_residual.ensures.1 c.in_err-longer-in-Some.ensures

pub extended-returns-in_ok-longer-in-Some : goal.extended-returns-in_ok-longer-in-Some
extended-returns-in_ok-longer-in-Some t c =
    subst (λ ts. RegularOf c.args.level c.args.room.depth c.args.room.parens ts c.extended.result) c.in_ok-longer-in-Some.ensures.eaten c.extended.ensures

pub extended-returns-in-None : goal.extended-returns-in-None
extended-returns-in-None t c = record { eaten = refl; sound = c.requires.left; stops = c.in-None.ensures (some_row c.args.left c.requires.onward) }

pub joined-returns-in_err-below : goal.joined-returns-in_err-below
joined-returns-in_err-below t c =
    refused_on _ _ _ _ c.from_residual.ensures.1 (
    join-deep c.args.sign c.args.level _ _ c.args.left _ _ c.requires.left c.requires.onward c.requires.sign c.requires.first c.in_err-below.ensures.0
    c.in_err-below.ensures.1)

pub joined-returns-in_err-right : goal.joined-returns-in_err-right
joined-returns-in_err-right t c =
    let e = c.in_err-right.field-0.0 in
    let below = below-room (λ level depth inside. IsRegularMisread level depth inside
    (bare_tokens c.args.rest.now) e) c.args.room c.in_ok-below.below _ _ c.level.ensures c.in_ok-below.ensures.1 c.in_err-right.ensures in
    refused_on _ _ _ _ c.from_residual-in_err-right.ensures.1 (
    join-right c.args.sign c.args.level _ _ c.args.left _ e c.requires.left c.requires.onward c.requires.sign c.requires.first c.in_ok-below.ensures.0 below)

pub joined-returns : goal.joined-returns
joined-returns t c =
    let left = c.args.left in
    let right = c.in_ok-right.right in
    let read = below-room (λ level depth inside. ReadsRegular level depth inside
    (bare_tokens c.args.rest.now) right) c.args.room c.in_ok-below.below _ _ c.level.ensures c.in_ok-below.ensures.1 c.in_ok-right.ensures in
    let high : c.max-height.result + 1 ≡ max left.height right.height + 1 = omega (arith, c.max-height.ensures) in
    built _ _ _ c.built.result c.built.ensures tt (λ r b.
    joined-read c.args.sign c.args.level _ _ _ left right _ r c.requires.left
    (may_join left _ c.args.sign c.requires.onward c.requires.first) c.requires.first c.requires.sign c.in_ok-below.ensures.0 read
    (record { is = b.is; high = b.high ∙ high; after = b.after }) refl)

pub regular-returns : goal.regular-returns
regular-returns t c =
    subst (λ ts. RegularOf c.args.level c.args.room.depth c.args.room.parens ts c.extended.result) c.in_ok-negation.ensures.eaten c.extended.ensures
