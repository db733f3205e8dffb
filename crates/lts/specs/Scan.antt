-- What a line is as a test: a header or a transition.
use Rattle.std.specs.Prelude.{◌≡◌, ℕ, ◌+◌, List, codes, take, Option, Some, None}
use Rattle.text.specs.Tokens.{sign_at, quoted_at, number_before, end_at, ◌>>=◌}
use Rattle.text.specs.Stream.{line_of, after_line}
use Rattle.systems.specs.declared.limits.TheConstants.{LONGEST_LABEL}
use Rattle.systems.specs.System.{Arrow}
use Rattle.lts.specs.declared.scan.Announced.{Announced}
use Rattle.lts.specs.declared.scan.TransitionLine.{TransitionLine}
use Rattle.lts.specs.declared.scan.Ends.{Ends}

-- the transition that a line says
abbrev pub said : TransitionLine → Arrow
said s = record { source = s.source; label = s.label.now; target = s.target }

-- the three numbers of a header, and its end
unfoldable pub counts_at : List ℕ → Option Announced
counts_at line = do
  i ← number_before (codes ",") line
  m ← number_before (codes ",") i.1
  n ← number_before (codes ")") m.1
  end_at (record { initial = i.0; transitions = m.0; states = n.0 }) n.1

unfoldable pub header_at : List ℕ → Option Announced
header_at line = do
  rest ← sign_at (codes "des") line
  rest ← sign_at (codes "(") rest
  counts_at rest

-- the label and the target of a transition from this source, and its end
-- the target of a transition, and the end of its line
unfoldable pub target_at : List ℕ → Option ℕ
target_at line = do
  rest ← sign_at (codes ",") line
  t ← number_before (codes ")") rest
  end_at t.0 t.1

unfoldable pub labelled_at : ℕ → List ℕ → Option Arrow
labelled_at source line = do
  label ← quoted_at line
  t ← target_at label.1
  Some (record { source = source; label = label.0; target = t })

unfoldable pub transition_at : List ℕ → Option Arrow
transition_at line = do
  rest ← sign_at (codes "(") line
  s ← number_before (codes ",") rest
  labelled_at s.0 s.1

-- The line is a transition between these states, of whose label the first bytes are kept: one more than a label has at most.
abbrev pub PassesTransition : List ℕ → Option Ends → List ℕ → List ℕ → Type 0
PassesTransition kept (Some e) text left =
    (label : List ℕ) × (transition_at (line_of text) ≡ Some (record { source = e.source; label = label; target = e.target })) × (left ≡ after_line text)
    × (kept ≡ take (LONGEST_LABEL + 1) label)
PassesTransition kept None text left = transition_at (line_of text) ≡ None
