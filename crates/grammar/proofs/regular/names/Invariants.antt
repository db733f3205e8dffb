-- The names so far and the tokens left are the tokens.
use Rattle.std.proofs.Common.{◌≡◌, ◌-◌, ◌≤◌, ◌++◌, length, map, drop}
use Rattle.grammar.specs.Syntax.{more_names}
use Rattle.grammar.specs.Written.{bare_tokens}
use Rattle.grammar.proofs.regular.names.Given as goal

abbrev pub invariant-names : goal.invariant-names
invariant-names l = (l.at ≤ length l.tokens) × (bare_tokens l.tokens ≡ more_names (map (λ name. name.now) l.others.items) ++ bare_tokens (drop l.at l.tokens))

abbrev pub decreases-names : goal.decreases-names
decreases-names l = length l.tokens - l.at
