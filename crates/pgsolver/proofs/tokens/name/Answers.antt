use Rattle.std.proofs.Common.{[], ap, ◌∙◌}
use Rattle.pgsolver.specs.Spelling.{is_vertex_name}
use Rattle.text.proofs.Streaming.{next_is, next_is_not}
use Rattle.pgsolver.proofs.Passing.{no_name, open_name, quoted_name}
use Rattle.pgsolver.proofs.tokens.name.Goals as goal

pub returns-then-ne : goal.returns-then-ne
returns-then-ne g c = no_name c.in_ok-next.field-0 _ _ c.in_ok-next.ensures.next (next_is_not c.in_ok-next.field-0 34 c.ne.result c.ne.ensures c.if-ne.true)

pub returns-then-not-branch : goal.returns-then-not-branch
returns-then-not-branch g c =
    open_name c.in_ok-next.field-0 4097 [] _ _ _ c.in_ok-next.ensures.next (next_is c.in_ok-next.field-0 34 c.ne.result c.ne.ensures c.if-ne.false)
    (rw c.if-not-branch.true at c.in_ok-quoted.ensures)

pub returns : goal.returns
returns g c =
    quoted_name c.in_ok-next.field-0 c.quoted.new.kept.items c.is_name.result _ _ _ c.in_ok-next.ensures.next
    (rw c.if-not-branch.false at c.in_ok-quoted.ensures) (c.is_name.ensures ∙ ap is_vertex_name c.deref.ensures.value)
