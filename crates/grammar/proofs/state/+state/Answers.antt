use Rattle.std.proofs.Common.{◌≡◌, ◌≤◌, ◌+◌, [], ◌∷◌, ◌∙◌, max, sym, ap, refl, subst, arith}
use Rattle.grammar.specs.Token.{Name, NotSign, Open}
use Rattle.grammar.specs.Written.{bare_tokens, token_of, opening_bracket, written_modal, reg_syntax, state_syntax}
use Rattle.grammar.specs.Misread.{IsStateMisread, ReadsState, StateOf}
use Rattle.grammar.specs.declared.room.Room.{Room}
use Rattle.grammar.proofs.Handed.{refused_on}
use Rattle.grammar.proofs.Misreads.{built, below-room, misread-within as within}
use Rattle.grammar.proofs.StatePlaces.{after-not, in-group, at-front, in-brackets}
use Rattle.grammar.proofs.States.{group-read, not-read, modal-read, bound-read, joined-read, word-read}
use Rattle.grammar.proofs.StateEnds.{binder-unnamed, binder-undotted, group-too-wide}
use Rattle.grammar.proofs.StateRefusals.{within-modality, modality-unclosed, within-binder, parenthesis-unclosed, within-sign, beyond-sign, beyond-first}
use Rattle.grammar.proofs.StateRefusals.{none-left, none-begins, prefix-too-deep, renamed}
use Rattle.grammar.proofs.state.+state.Goals as goal

pub group-returns-in_err-inner : goal.group-returns-in_err-inner
group-returns-in_err-inner t c =
    refused_on _ _ _ _ c.from_residual.ensures.1 (within _ _ _ _ _ _ _ _ (Open ∷ []) _ _ (in-group _ _) c.in_err-inner.ensures)

pub group-returns-in_err-rest : goal.group-returns-in_err-rest
group-returns-in_err-rest t c =
    refused_on _ _ _ _ c.from_residual-in_err-rest.ensures.1 (parenthesis-unclosed _ _ _ _ _ c.in_ok-inner.ensures c.in_err-rest.ensures)

pub group-returns : goal.group-returns
group-returns t c =
    built _ _ _ c.built.result c.built.ensures tt
    (λ s b. group-read _ _ _ c.in_ok-inner.inner _ c.in_ok-rest.rest.now s b refl c.in_ok-inner.ensures c.in_ok-rest.ensures)

pub negated-returns-in_err-inner : goal.negated-returns-in_err-inner
negated-returns-in_err-inner t c =
    refused_on _ _ _ _ c.from_residual.ensures.1 (within _ _ _ _ _ _ _ _ (NotSign ∷ []) _ _ (after-not _ _) c.in_err-inner.ensures)

pub negated-returns : goal.negated-returns
negated-returns t c =
    built _ _ _ c.built.result c.built.ensures tt (λ s b. not-read _ _ _ c.in_ok-inner.inner _ s b refl c.in_ok-inner.ensures)

pub modal-returns-in_err-inside : goal.modal-returns-in_err-inside
modal-returns-in_err-inside t c =
    refused_on _ _ _ _ c.from_residual.ensures.1 (within _ _ _ _ _ _ _ _ (opening_bracket c.args.brackets ∷ []) _ _
    (in-brackets c.args.brackets _ _) c.in_err-inside.ensures)

pub modal-returns-in_err-tokens : goal.modal-returns-in_err-tokens
modal-returns-in_err-tokens t c =
    refused_on _ _ _ _ c.from_residual-in_err-tokens.ensures.1 (
    modality-unclosed c.args.brackets _ _ _ _ _ c.in_ok-inside.ensures c.in_err-tokens.ensures)

pub modal-returns-in_err-inner : goal.modal-returns-in_err-inner
modal-returns-in_err-inner t c =
    refused_on _ _ _ _ c.from_residual-in_err-inner.ensures.1 (
    within-modality c.args.brackets _ _ _ _ _ _ c.in_ok-inside.ensures c.in_ok-tokens.ensures c.in_err-inner.ensures)

pub modal-returns : goal.modal-returns
modal-returns t c =
    let inside = c.in_ok-inside.inside in
    let inner = c.in_ok-inner.inner in
    let high : c.max-height.result + 1 ≡ max inside.height inner.height + 1 = omega (arith, c.max-height.ensures) in
    built _ _ _ c.built.result c.built.ensures tt (λ s b.
    modal-read c.args.brackets _ _ _ inside _ inner _ s (record { is = b.is; high = b.high ∙ high; after = b.after })
    (ap (λ r. written_modal c.args.brackets (reg_syntax r) (state_syntax inner.syntax.value)) c.into_inner-regular.ensures)
    c.in_ok-inside.ensures c.in_ok-tokens.ensures c.in_ok-inner.ensures)

pub bound-returns-in_err-name : goal.bound-returns-in_err-name
bound-returns-in_err-name t c =
    refused_on _ _ _ _ c.from_residual.ensures.1 (binder-unnamed c.args.binder _ _ _ _ c.in_err-name.ensures)

pub bound-returns-in_err-tokens : goal.bound-returns-in_err-tokens
bound-returns-in_err-tokens t c =
    refused_on _ _ _ _ c.from_residual-in_err-tokens.ensures.1 (
    binder-undotted c.args.binder c.in_ok-name.name.now _ _ _ _ _ c.in_ok-name.ensures c.in_err-tokens.ensures)

pub bound-returns-in_err-body : goal.bound-returns-in_err-body
bound-returns-in_err-body t c =
    refused_on _ _ _ _ c.from_residual-in_err-body.ensures.1 (
    within-binder c.args.binder c.in_ok-name.name.now _ _ _ _ _ _ c.in_ok-name.ensures c.in_ok-tokens.ensures c.in_err-body.ensures)

pub bound-returns : goal.bound-returns
bound-returns t c =
    built _ _ _ c.built.result c.built.ensures tt (λ s b.
    bound-read c.args.binder c.in_ok-name.name.now _ _ _ (bare_tokens c.in_ok-tokens.tokens.now) c.in_ok-body.body _ s b refl
    (c.in_ok-name.ensures ∙ ap (λ ts. Name c.in_ok-name.name.now ∷ ts) c.in_ok-tokens.ensures) c.in_ok-body.ensures)

pub state-returns-in_err-unary : goal.state-returns-in_err-unary
state-returns-in_err-unary t c =
    refused_on _ _ _ _ c.from_residual.ensures.1 (within _ _ _ _ _ _ _ _ [] _ _ (at-front c.args.level _ _) c.in_err-unary.ensures)

pub joined-returns-in_err-below : goal.joined-returns-in_err-below
joined-returns-in_err-below t c =
    refused_on _ _ _ _ c.from_residual.ensures.1 (
    beyond-sign c.args.sign c.args.level _ _ c.args.left _ _ c.requires.left c.requires.first c.requires.sign c.in_err-below.ensures.0 c.in_err-below.ensures.1)

pub joined-returns-in_err-right : goal.joined-returns-in_err-right
joined-returns-in_err-right t c =
    let e = c.in_err-right.field-0.0 in
    let below = below-room (λ level depth inside. IsStateMisread level depth inside
    (bare_tokens c.args.rest.now) e) c.args.room c.in_ok-below.below _ _ c.level.ensures c.in_ok-below.ensures.1 c.in_err-right.ensures in
    refused_on _ _ _ _ c.from_residual-in_err-right.ensures.1 (
    within-sign c.args.sign c.args.level _ _ c.args.left _ e c.requires.left c.requires.first c.requires.sign c.in_ok-below.ensures.0 below)

pub joined-returns : goal.joined-returns
joined-returns t c =
    let left = c.args.left in
    let right = c.in_ok-right.right in
    let read = below-room (λ level depth inside. ReadsState level depth inside
    (bare_tokens c.args.rest.now) right) c.args.room c.in_ok-below.below _ _ c.level.ensures c.in_ok-below.ensures.1 c.in_ok-right.ensures in
    let high : c.max-height.result + 1 ≡ max left.height right.height + 1 = omega (arith, c.max-height.ensures) in
    built _ _ _ c.built.result c.built.ensures tt (λ s b.
    joined-read c.args.sign c.args.level _ _ _ left right _ s c.requires.left c.requires.first c.requires.sign c.in_ok-below.ensures.0 read
    (record { is = b.is; high = b.high ∙ high; after = b.after }) refl)

pub extended-returns-in_err-longer-in-Some : goal.extended-returns-in_err-longer-in-Some
extended-returns-in_err-longer-in-Some t c =
    refused_on _ _ _ _ c.from_residual.ensures.1 c.in_err-longer-in-Some.ensures

pub extended-returns-in_ok-longer-in-Some : goal.extended-returns-in_ok-longer-in-Some
extended-returns-in_ok-longer-in-Some t c =
    subst (λ ts. StateOf c.args.level c.args.room.depth c.args.room.parens ts c.extended.result) c.in_ok-longer-in-Some.ensures.eaten c.extended.ensures

pub extended-returns-in-None : goal.extended-returns-in-None
extended-returns-in-None t c = record { eaten = refl; sound = c.requires.left; stops = c.in-None.ensures }

pub unary-returns-in_default : goal.unary-returns-in_default
unary-returns-in_default t c =
    none-left c.args.room.depth c.args.room.parens c.args.tokens.now _ c.in_default.ensures.cases c.unexpected.ensures

pub unary-returns-in_err-below : goal.unary-returns-in_err-below
unary-returns-in_err-below t c =
    refused_on _ _ _ _ c.from_residual.ensures.1 (
    beyond-first _ _ _ c.args.tokens.now c.in-Some.first.now c.in-Some.rest.now _ c.in-Some.ensures.cases.0 c.in-Some-prefix_of.ensures c.in_err-below.ensures.1
    (λ back is. prefix-too-deep c.in-Some-prefix_of.prefix _ _ back _ c.in_err-below.ensures.0 is))

pub unary-returns-in-Some-prefix_of : goal.unary-returns-in-Some-prefix_of
unary-returns-in-Some-prefix_of t c =
    let deep : c.in_ok-below.field-0.depth + 1 ≡ c.args.room.depth = omega
    (arith, ap (λ (r : Room). r.depth) c.in_ok-below.ensures.1, c.in_ok-below.ensures.0) in
    renamed _ _ _ _ _ _ c.prefixed.result deep (ap (λ (r : Room). r.parens) c.in_ok-below.ensures.1)
    (sym (ap bare_tokens c.in-Some.ensures.cases.0 ∙ ap (λ u. u ∷ bare_tokens c.in-Some.rest.now) c.in-Some-prefix_of.ensures)) c.prefixed.ensures

pub unary-returns-in_err-inside : goal.unary-returns-in_err-inside
unary-returns-in_err-inside t c =
    refused_on _ _ _ _ c.from_residual-in_err-inside.ensures.1 (
    beyond-first _ _ _ c.args.tokens.now c.in-Some.first.now c.in-Some.rest.now _ c.in-Some.ensures.cases.0 (ap token_of c.in-Open.is) c.in_err-inside.ensures.1
    (λ back is. let none : c.args.room.parens ≤ 0 = omega (arith, c.in_err-inside.ensures.0) in group-too-wide _ _ back _ none is))

pub unary-returns-in-Open : goal.unary-returns-in-Open
unary-returns-in-Open t c =
    let wide : c.in_ok-inside.field-0.parens + 1 ≡ c.args.room.parens = omega
    (arith, ap (λ (r : Room). r.parens) c.in_ok-inside.ensures.1, c.in_ok-inside.ensures.0) in
    renamed _ _ _ _ _ _ c.group.result (ap (λ (r : Room). r.depth) c.in_ok-inside.ensures.1) wide
    (sym (ap bare_tokens c.in-Some.ensures.cases.0 ∙ ap (λ u. token_of u ∷ bare_tokens c.in-Some.rest.now) c.in-Open.is)) c.group.ensures

pub unary-returns-in-None : goal.unary-returns-in-None
unary-returns-in-None t c =
    none-begins _ _ c.args.tokens.now c.in-Some.first.now c.in-Some.rest.now _ c.in-Some.ensures.cases.0
    (rw c.in_default-prefix_of.is at c.prefix_of.ensures) c.in_default-token.not-Open c.in-None.ensures c.unexpected-in-None.ensures

pub unary-returns-in-Some-word : goal.unary-returns-in-Some-word
unary-returns-in-Some-word t c =
    renamed _ _ _ _ _ _ c.built.result refl refl (sym (ap bare_tokens c.in-Some.ensures.cases.0))
    (built _ _ _ c.built.result c.built.ensures tt (λ s b. word-read _ _ _ _ c.in-Some.rest.now s b c.in-Some-word.ensures))

pub state-returns : goal.state-returns
state-returns t c =
    subst (λ ts. StateOf c.args.level c.args.room.depth c.args.room.parens ts c.extended.result) c.in_ok-unary.ensures.eaten c.extended.ensures
