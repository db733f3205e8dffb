-- Worked examples of texts that spell no system, with the fault that decides and its line.
use Rattle.std.specs.Prelude.{◌≡◌, ℕ, ◌+◌, List, [], ◌∷◌, codes, refl}
use Rattle.std.proofs.Common.{arith, inl, inr}
use Rattle.text.specs.Text.{lines}
use Rattle.text.specs.Tokens.{cut_at, end_at, number_at, number_before, quoted_at, sign_at}
use Rattle.lts.specs.Aut.{IsAutHeader, IsTransition, IsGoodAutLine, AutBodyFault, HasAutFault}
use Rattle.lts.specs.Scan.{transition_at, labelled_at, target_at}
use Rattle.lts.specs.declared.error.AutFault.{AutFault}
use Rattle.lts.specs.declared.error.AutFault.TheVariants.{BadHeader, BadLine, OverLimit, NoSuchState, WrongCount, BadStates, BadLabel}
use Rattle.lts.proofs.Judging.{bad_line}
use Rattle.vectors.specs.Systems.{arrow, header, transition, two_states_header, line_a}

-- a fault below the header of the two-state system
below : (text : List ℕ) (rest : List (List ℕ)) (fault : AutFault) (good : ℕ) → lines text ≡ codes "des (0,2,2)" ∷ rest → AutBodyFault 2 2 rest fault good
    → HasAutFault text fault (good + 2)
below text rest fault good cut wrong =
    inr (codes "des (0,2,2)", rest, 0, 2, 2, good, cut, two_states_header, omega arith, omega arith, omega arith, wrong, refl)

good_a : IsGoodAutLine 2 (codes "(0,\"a\",1)")
good_a = (arrow 0 (codes "a") 1, line_a, record { source = omega arith; target = omega arith; label = refl })

-- the two-state system without its last line: a line is missing at line 3
missing_line : HasAutFault (codes "des (0,2,2)\n(0,\"a\",1)\n") WrongCount 3
missing_line = below (codes "des (0,2,2)\n(0,\"a\",1)\n") (codes "(0,\"a\",1)" ∷ []) WrongCount 1 refl
    (codes "(0,\"a\",1)" ∷ [], [], refl, (good_a, tt), refl, inl (refl, omega arith))

-- the empty text has no header
no_header : HasAutFault [] BadHeader 1
no_header = inl (λ first rest i m n e h. cc, refl)

header_of_none : IsAutHeader (codes "des (0,0,0)") 0 0 0
header_of_none = header (codes "0") (codes "0") (codes "0") refl refl refl

no_states : HasAutFault (codes "des (0,0,0)") BadStates 1
no_states = inl ((codes "des (0,0,0)", [], 0, 0, 0, refl, header_of_none, omega arith, omega arith, omega arith), refl)

-- a target that is no state, at line 2
line_far : IsTransition (codes "(0,\"a\",2)") (arrow 0 (codes "a") 2)
line_far = transition (codes "0") (codes "a") (codes "2") refl refl refl

no_such_state : HasAutFault (codes "des (0,2,2)\n(0,\"a\",2)\n") NoSuchState 2
no_such_state = below (codes "des (0,2,2)\n(0,\"a\",2)\n") (codes "(0,\"a\",2)" ∷ []) NoSuchState 0 refl
    ([], [], codes "(0,\"a\",2)", refl, tt, refl, omega arith, (arrow 0 (codes "a") 2, line_far, refl, inr (omega arith)))

-- the two-state system, its last line cut short: that line is no transition
cut_short : HasAutFault (codes "des (0,2,2)\n(0,\"a\",1)\n(1,\"b") BadLine 3
unfolding transition_at labelled_at target_at sign_at quoted_at number_at number_before end_at cut_at
cut_short = below (codes "des (0,2,2)\n(0,\"a\",1)\n(1,\"b") (codes "(0,\"a\",1)" ∷ codes "(1,\"b" ∷ []) BadLine 1 refl
    (codes "(0,\"a\",1)" ∷ [], [], codes "(1,\"b", refl, (good_a, tt), refl, omega arith, bad_line (codes "(1,\"b") refl)

header_of_too_many : IsAutHeader (codes "des (0,0,1000001)") 0 0 1000001
header_of_too_many = header (codes "0") (codes "0") (codes "1000001") refl refl refl

too_many_states : HasAutFault (codes "des (0,0,1000001)") OverLimit 1
too_many_states = inl ((codes "des (0,0,1000001)", [], 0, 0, 1000001, refl, header_of_too_many, inr (omega arith)), refl)

-- a transition's line, though its label is none and its target no state
line_without_label : IsTransition (codes "(0,\"\",2)") (arrow 0 [] 2)
line_without_label = transition (codes "0") [] (codes "2") refl refl refl

-- the label's fault comes before the target's
no_label : HasAutFault (codes "des (0,2,2)\n(0,\"\",2)") BadLabel 2
no_label = below (codes "des (0,2,2)\n(0,\"\",2)") (codes "(0,\"\",2)" ∷ []) BadLabel 0 refl
    ([], [], codes "(0,\"\",2)", refl, tt, refl, omega arith, (arrow 0 [] 2, line_without_label, refl))
