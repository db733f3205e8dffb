-- What the tests on a whole line say of the line.
use Rattle.std.proofs.Common.{◌≡◌, ℕ, List, [], ◌∷◌, ◌++◌, true, false, ◌+◌, take, Option, Some, None, refl, sym, ap, ◌∙◌}
use Rattle.std.specs.Prelude.{codes}
use Rattle.text.specs.Text.{value_of}
use Rattle.text.specs.Tokens.{capped, sign_at, quoted_at, end_at, number_before, ◌>>=◌}
use Rattle.text.proofs.Scanning.{bind_some, sign_gives, sign_finds, number_before_gives, number_before_finds, quoted_gives, quoted_finds, end_gives, end_finds}
use Rattle.lts.specs.declared.scan.Announced.{Announced}
use Rattle.systems.specs.System.{Arrow}
use Rattle.lts.specs.Aut.{IsAutHeader, IsTransition}
use Rattle.text.specs.Lines.{IfKnown}
use Rattle.text.specs.Stream.{line_of, after_line, Passes, PassesSign, PassesKept, PassesLine}
use Rattle.text.proofs.Streaming.{Then, known_only, known_then, known_both, sign_stops, sign_goes_on, token_stops, token_goes_on}
use Rattle.systems.specs.declared.limits.TheConstants.{LONGEST_LABEL}
use Rattle.lts.specs.declared.scan.Ends.{Ends}
use Rattle.lts.specs.Scan.{header_at, counts_at, target_at, transition_at, labelled_at, PassesTransition}

abbrev pub header_of : ℕ → ℕ → ℕ → Announced
header_of i m n = record { initial = i; transitions = m; states = n }

abbrev header_3 : ℕ → ℕ → List ℕ → Option Announced
header_3 i m rest = number_before (codes ")") rest >>= λ n. end_at (header_of i m n.0) n.1

abbrev header_2 : ℕ → List ℕ → Option Announced
header_2 i rest = number_before (codes ",") rest >>= λ m. header_3 i m.0 m.1

abbrev header_1 : List ℕ → Option Announced
header_1 rest = number_before (codes ",") rest >>= λ i. header_2 i.0 i.1

-- what is found is a header
pub header_gives : (line : List ℕ) (a : Announced) → header_at line ≡ Some a
    → (i m n : ℕ) × IsAutHeader line i m n × (a.initial ≡ capped i) × (a.transitions ≡ capped m) × (a.states ≡ capped n)
unfolding header_at counts_at
header_gives line a e =
    let (r1, s1, e1) = bind_some (sign_at (codes "des") line) (λ rest. sign_at (codes "(") rest >>= header_1) a e in
    let (r2, s2, e2) = bind_some (sign_at (codes "(") r1) header_1 a e1 in
    let (i, s3, e3) = bind_some (number_before (codes ",") r2) (λ i. header_2 i.0 i.1) a e2 in
    let (m, s4, e4) = bind_some (number_before (codes ",") i.1) (λ m. header_3 i.0 m.0 m.1) a e3 in
    let (n, s5, e5) = bind_some (number_before (codes ")") m.1) (λ n. end_at (header_of i.0 m.0 n.0) n.1) a e4 in
    let (blank, same) = end_gives (header_of i.0 m.0 n.0) a n.1 e5 in
    let (x, hx, vx, gx) = number_before_gives (codes ",") r2 i.0 i.1 s3 in
    let (y, hy, vy, gy) = number_before_gives (codes ",") i.1 m.0 m.1 s4 in
    let (z, hz, vz, gz) = number_before_gives (codes ")") m.1 n.0 n.1 s5 in
    let spaced = sign_gives (codes "des") line r1 (codes "(" ∷ x ∷ codes "," ∷ y ∷ codes "," ∷ z ∷ codes ")" ∷ []) s1
    (sign_gives (codes "(") r1 r2 (x ∷ codes "," ∷ y ∷ codes "," ∷ z ∷ codes ")" ∷ []) s2
    (gx (y ∷ codes "," ∷ z ∷ codes ")" ∷ []) (gy (z ∷ codes ")" ∷ []) (gz [] blank)))) in (
      value_of x,
      value_of y,
      value_of z,
      (x, y, z, (hx, refl), (hy, refl), (hz, refl), spaced),
      ap (λ (h : Announced). h.initial) (sym same)
          ∙ vx,
      ap (λ (h : Announced). h.transitions) (sym same) ∙ vy,
      ap (λ (h : Announced). h.states) (sym same) ∙ vz,
    )

-- a header is found
pub header_finds : (line : List ℕ) (i m n : ℕ) → IsAutHeader line i m n
    → header_at line ≡ Some (record { initial = capped i; transitions = capped m; states = capped n })
unfolding header_at counts_at
header_finds line i m n (x, y, z, hx, hy, hz, spaced) =
    let (r1, s1, m1) = sign_finds 100 (101 ∷ 115 ∷ []) line (codes "(" ∷ x ∷ codes "," ∷ y ∷ codes "," ∷ z ∷ codes ")" ∷ []) refl spaced in
    let (r2, s2, m2) = sign_finds 40 [] r1 (x ∷ codes "," ∷ y ∷ codes "," ∷ z ∷ codes ")" ∷ []) refl m1 in
    let (r3, s3, m3) = number_before_finds x 44 [] r2 (y ∷ codes "," ∷ z ∷ codes ")" ∷ []) hx.0 refl refl m2 in
    let (r4, s4, m4) = number_before_finds y 44 [] r3 (z ∷ codes ")" ∷ []) hy.0 refl refl m3 in
    let (r5, s5, m5) = number_before_finds z 41 [] r4 [] hz.0 refl refl m4 in
    rw (s1, s2, s3, s4, s5, end_finds (header_of (capped (value_of x)) (capped (value_of y)) (capped (value_of z))) r5 m5, hx.1, hy.1, hz.1) refl

abbrev arrow : ℕ → List ℕ → ℕ → Arrow
arrow s label t = record { source = s; label = label; target = t }

abbrev target_2 : List ℕ → Option ℕ
target_2 rest = number_before (codes ")") rest >>= λ t. end_at t.0 t.1

abbrev transition_3 : ℕ → List ℕ → List ℕ → Option Arrow
transition_3 s label rest = target_at rest >>= λ t. Some (arrow s label t)

abbrev transition_2 : ℕ → List ℕ → Option Arrow
transition_2 s rest = quoted_at rest >>= λ label. transition_3 s label.0 label.1

abbrev transition_1 : List ℕ → Option Arrow
transition_1 rest = number_before (codes ",") rest >>= λ s. transition_2 s.0 s.1

abbrev some_arrow : Arrow → Option Arrow
some_arrow a = Some a

some_is : (x y : Arrow) → some_arrow x ≡ some_arrow y → x ≡ y
some_is x y e = cc

-- what is found is a transition
pub transition_gives : (line : List ℕ) (a : Arrow) → transition_at line ≡ Some a
    → (b : Arrow) × IsTransition line b × (a.source ≡ capped b.source) × (a.label ≡ b.label) × (a.target ≡ capped b.target)
unfolding transition_at labelled_at target_at
transition_gives line a e =
    let (r1, s1, e1) = bind_some (sign_at (codes "(") line) transition_1 a e in
    let (s, s2, e2) = bind_some (number_before (codes ",") r1) (λ s. transition_2 s.0 s.1) a e1 in
    let (l, s3, e3) = bind_some (quoted_at s.1) (λ label. transition_3 s.0 label.0 label.1) a e2 in
    let (v, e4, e5) = bind_some (target_at l.1) (λ t. Some (arrow s.0 l.0 t)) a e3 in
    let (r4, s4, e6) = bind_some (sign_at (codes ",") l.1) target_2 v e4 in
    let (t, s5, e7) = bind_some (number_before (codes ")") r4) (λ t. end_at t.0 t.1) v e6 in
    let (blank, at) = end_gives t.0 v t.1 e7 in
    let same : arrow s.0 l.0 t.0 ≡ a = ap (arrow s.0 l.0) at ∙ some_is (arrow s.0 l.0 v) a e5 in
    let (x, hx, vx, gx) = number_before_gives (codes ",") r1 s.0 s.1 s2 in
    let (z, hz, vz, gz) = number_before_gives (codes ")") r4 t.0 t.1 s5 in
    let (plain, quoted) = quoted_gives s.1 l.0 l.1 (codes "," ∷ z ∷ codes ")" ∷ []) s3 (sign_gives (codes ",") l.1 r4 (z ∷ codes ")" ∷ []) s4 (gz [] blank)) in
    let spaced = sign_gives (codes "(") line r1 (x ∷ codes "," ∷ (34 ∷ l.0 ++ 34 ∷ []) ∷ codes "," ∷ z ∷ codes ")" ∷ []) s1
    (gx ((34 ∷ l.0 ++ 34 ∷ []) ∷ codes "," ∷ z ∷ codes ")" ∷ []) quoted) in (
      arrow (value_of x) l.0 (value_of z),
      (x, z, (hx, refl), (hz, refl), plain, spaced),
      ap (λ (h : Arrow). h.source) (sym same)
          ∙ vx,
      ap (λ (h : Arrow). h.label) (sym same),
      ap (λ (h : Arrow). h.target) (sym same) ∙ vz,
    )

-- a transition is found
pub transition_finds : (line : List ℕ) (a : Arrow) → IsTransition line a
    → transition_at line ≡ Some (record { source = capped a.source; label = a.label; target = capped a.target })
unfolding transition_at labelled_at target_at
transition_finds line a (x, z, hx, hz, plain, spaced) =
    let q = 34 ∷ a.label ++ 34 ∷ [] in
    let (r1, s1, m1) = sign_finds 40 [] line (x ∷ codes "," ∷ q ∷ codes "," ∷ z ∷ codes ")" ∷ []) refl spaced in
    let (r2, s2, m2) = number_before_finds x 44 [] r1 (q ∷ codes "," ∷ z ∷ codes ")" ∷ []) hx.0 refl refl m1 in
    let (r3, s3, m3) = quoted_finds r2 a.label (codes "," ∷ z ∷ codes ")" ∷ []) plain m2 in
    let (r4, s4, m4) = sign_finds 44 [] r3 (z ∷ codes ")" ∷ []) refl m3 in
    let (r5, s5, m5) = number_before_finds z 41 [] r4 [] hz.0 refl refl m4 in
    rw (s1, s2, s3, s4, s5, end_finds (capped (value_of z)) r5 m5, hx.1, hz.1) refl

-- ---- the same as they are read, token by token

pub counts_stop_1 : (old new : Option (List ℕ)) → IfKnown old new (Passes (number_before (codes ",")) None) → IfKnown old new (PassesLine counts_at None)
unfolding counts_at
counts_stop_1 old new none = token_stops (number_before (codes ",")) header_2 old new none

pub counts_go_1 : (i : ℕ) (r : Option Announced) (old mid new : Option (List ℕ)) → IfKnown old mid (Passes (number_before (codes ",")) (Some i))
    → IfKnown mid new (PassesLine (header_2 i) r) → IfKnown old new (PassesLine counts_at r)
unfolding counts_at
counts_go_1 i r old mid new some rest = token_goes_on (number_before (codes ",")) header_2 i r old mid new some rest

pub counts_stop_2 : (i : ℕ) (old new : Option (List ℕ)) → IfKnown old new (Passes (number_before (codes ",")) None)
    → IfKnown old new (PassesLine (header_2 i) None)
counts_stop_2 i old new none = token_stops (number_before (codes ",")) (header_3 i) old new none

pub counts_go_2 : (i m : ℕ) (r : Option Announced) (old mid new : Option (List ℕ)) → IfKnown old mid (Passes (number_before (codes ",")) (Some m))
    → IfKnown mid new (PassesLine (header_3 i m) r) → IfKnown old new (PassesLine (header_2 i) r)
counts_go_2 i m r old mid new some rest = token_goes_on (number_before (codes ",")) (header_3 i) m r old mid new some rest

pub counts_stop_3 : (i m : ℕ) (old new : Option (List ℕ)) → IfKnown old new (Passes (number_before (codes ")")) None)
    → IfKnown old new (PassesLine (header_3 i m) None)
counts_stop_3 i m old new none = token_stops (number_before (codes ")")) (λ n. end_at (header_of i m n)) old new none

pub counts_go_3 : (i m n : ℕ) (r : Option Announced) (old mid new : Option (List ℕ)) → IfKnown old mid (Passes (number_before (codes ")")) (Some n))
    → IfKnown mid new (PassesLine (end_at (header_of i m n)) r) → IfKnown old new (PassesLine (header_3 i m) r)
counts_go_3 i m n r old mid new some rest = token_goes_on (number_before (codes ")")) (λ n. end_at (header_of i m n)) n r old mid new some rest

abbrev header_0 : List ℕ → Option Announced
header_0 rest = sign_at (codes "(") rest >>= counts_at

pub header_stops_1 : (old new : Option (List ℕ)) → IfKnown old new (PassesSign (sign_at (codes "des")) false) → IfKnown old new (PassesLine header_at None)
unfolding header_at
header_stops_1 old new none = sign_stops (sign_at (codes "des")) header_0 old new none

pub header_stops_2 : (old mid new : Option (List ℕ)) → IfKnown old mid (PassesSign (sign_at (codes "des")) true)
    → IfKnown mid new (PassesSign (sign_at (codes "(")) false) → IfKnown old new (PassesLine header_at None)
unfolding header_at
header_stops_2 old mid new some none = sign_goes_on (sign_at (codes "des")) header_0 None old mid new some
    (sign_stops (sign_at (codes "(")) counts_at mid new none)

pub header_goes_on : (r : Option Announced) (old a b new : Option (List ℕ)) → IfKnown old a (PassesSign (sign_at (codes "des")) true)
    → IfKnown a b (PassesSign (sign_at (codes "(")) true) → IfKnown b new (PassesLine counts_at r) → IfKnown old new (PassesLine header_at r)
unfolding header_at
header_goes_on r old a b new some bracket rest = sign_goes_on (sign_at (codes "des")) header_0 r old a new some
    (sign_goes_on (sign_at (codes "(")) counts_at r a b new bracket rest)

pub target_stops_1 : (old new : Option (List ℕ)) → IfKnown old new (PassesSign (sign_at (codes ",")) false) → IfKnown old new (PassesLine target_at None)
unfolding target_at
target_stops_1 old new none = sign_stops (sign_at (codes ",")) target_2 old new none

pub target_stops_2 : (old mid new : Option (List ℕ)) → IfKnown old mid (PassesSign (sign_at (codes ",")) true)
    → IfKnown mid new (Passes (number_before (codes ")")) None) → IfKnown old new (PassesLine target_at None)
unfolding target_at
target_stops_2 old mid new some none = sign_goes_on (sign_at (codes ",")) target_2 None old mid new some
    (token_stops (number_before (codes ")")) (λ t. end_at t) mid new none)

pub target_goes_on : (t : ℕ) (r : Option ℕ) (old a b new : Option (List ℕ)) → IfKnown old a (PassesSign (sign_at (codes ",")) true)
    → IfKnown a b (Passes (number_before (codes ")")) (Some t)) → IfKnown b new (PassesLine (end_at t) r) → IfKnown old new (PassesLine target_at r)
unfolding target_at
target_goes_on t r old a b new some number rest = sign_goes_on (sign_at (codes ",")) target_2 r old a new some
    (token_goes_on (number_before (codes ")")) (λ t. end_at t) t r a b new number rest)

-- no transition, by what is not there
pub no_open : (kept : List ℕ) (old new : Option (List ℕ)) → IfKnown old new (PassesSign (sign_at (codes "(")) false)
    → IfKnown old new (PassesTransition kept None)
unfolding transition_at labelled_at
no_open kept old new none = sign_stops (sign_at (codes "(")) transition_1 old new none

pub no_source : (kept : List ℕ) (old mid new : Option (List ℕ)) → IfKnown old mid (PassesSign (sign_at (codes "(")) true)
    → IfKnown mid new (Passes (number_before (codes ",")) None) → IfKnown old new (PassesTransition kept None)
unfolding transition_at labelled_at
no_source kept old mid new bracket none = sign_goes_on (sign_at (codes "(")) transition_1 None old mid new bracket
    (token_stops (number_before (codes ",")) transition_2 mid new none)

-- what the label and what follows it say
abbrev pub Labelled : ℕ → List ℕ → Option Ends → List ℕ → List ℕ → Type 0
Labelled s kept (Some e) text left = (label : List ℕ) × (transition_2 s (line_of text) ≡ Some (arrow e.source label e.target)) × (left ≡ after_line text)
    × (kept ≡ take (LONGEST_LABEL + 1) label)
Labelled s kept None text left = transition_2 s (line_of text) ≡ None

pub no_label : (s most : ℕ) (kept : List ℕ) (old new : Option (List ℕ)) → IfKnown old new (PassesKept quoted_at most kept false)
    → IfKnown old new (Labelled s kept None)
no_label s most kept old new none = known_only {P = PassesKept quoted_at most kept false} {Q = Labelled s kept None} old new none (λ text left e. rw e refl)

pub no_target : (s most : ℕ) (kept : List ℕ) (old mid new : Option (List ℕ)) → IfKnown old mid (PassesKept quoted_at most kept true)
    → IfKnown mid new (PassesLine target_at None) → IfKnown old new (Labelled s kept None)
no_target s most kept old mid new some none = known_then {P = PassesKept quoted_at most kept true} {Q = PassesLine target_at None} {R = Labelled s kept
    None} old mid new some none (λ text between left e h. rw (e.1, h) refl)

pub a_target : (s t : ℕ) (kept : List ℕ) (old mid new : Option (List ℕ)) → IfKnown old mid (PassesKept quoted_at (LONGEST_LABEL + 1) kept true)
    → IfKnown mid new (PassesLine target_at (Some t))
    → IfKnown old new (Labelled s kept (Some (record { source = s; target = t })))
a_target s t kept old mid new some rest =
    known_then {P = PassesKept quoted_at (LONGEST_LABEL + 1) kept true} {Q = PassesLine target_at (Some t)} {R = Labelled s kept
    (Some (record { source = s; target = t }))} old mid new some rest
    (λ text between left e h. (e.0, rw (e.1, h.0) refl, h.1 ∙ sym e.2, e.3))

pub from_source : (s : ℕ) (kept : List ℕ) (r : Option Ends) (old a b new : Option (List ℕ)) → IfKnown old a (PassesSign (sign_at (codes "(")) true)
    → IfKnown a b (Passes (number_before (codes ",")) (Some s)) → IfKnown b new (Labelled s kept r) → IfKnown old new (PassesTransition kept r)
unfolding transition_at labelled_at
from_source s kept None old a b new bracket number rest =
    sign_goes_on (sign_at (codes "(")) transition_1 None old a new bracket (token_goes_on (number_before (codes ",")) transition_2 s None a b new number rest)
from_source s kept (Some e) old a b new bracket number rest =
    known_then {P = PassesSign (sign_at (codes "(")) true} {Q = Then (Passes (number_before (codes ",")) (Some s))
    (Labelled s kept (Some e))} {R = PassesTransition kept (Some e)} old a new bracket
    (known_both (Passes (number_before (codes ",")) (Some s)) (Labelled s kept (Some e)) a b new number rest)
    (λ text one left o more. let (two, n, l) = more in (l.0, rw (o.0, n.0) l.1, l.2 ∙ sym n.1 ∙ sym o.1, l.3))
