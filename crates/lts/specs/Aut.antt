-- The Aldebaran text of a system, and the fault of a text that spells none.
use Rattle.std.specs.Prelude.{◌≡◌, ◌≢◌, ℕ, ◌+◌, ◌<◌, ◌≤◌, ◌⊎◌, List, [], ◌∷◌, ◌++◌, length, IsTrue, IsFalse, codes, ◌==◌}
use Rattle.std.specs.List.{list_any, AllZip, AllByRecursion}
use Rattle.text.specs.Text.{lines, IsNumeral, IsSpaced}
use Rattle.systems.specs.declared.limits.TheConstants.{MOST_TRANSITIONS, MOST_STATES}
use Rattle.systems.specs.Label.{is_label}
use Rattle.systems.specs.System.{Arrow, System, IsArrow, set_of}
use Rattle.lts.specs.declared.error.AutFault.{AutFault}
use Rattle.lts.specs.declared.error.AutFault.TheVariants.{BadHeader, BadLine, OverLimit, NoSuchState, WrongCount, BadStates, BadLabel}

-- `des (initial, transitions, states)`
abbrev pub IsAutHeader : List ℕ → ℕ → ℕ → ℕ → Type 0
IsAutHeader line initial count states =
    (i m n : List ℕ) × IsNumeral i initial × IsNumeral m count × IsNumeral n states
    × IsSpaced (codes "des" ∷ codes "(" ∷ i ∷ codes "," ∷ m ∷ codes "," ∷ n ∷ codes ")" ∷ []) line

-- `(source, "label", target)`, where the label is any bytes without a quote
abbrev pub IsTransition : List ℕ → Arrow → Type 0
IsTransition line a =
    (s t : List ℕ) × IsNumeral s a.source × IsNumeral t a.target × IsFalse (list_any (λ b. b == 34) a.label)
    × IsSpaced (codes "(" ∷ s ∷ codes "," ∷ (34 ∷ a.label ++ 34 ∷ []) ∷ codes "," ∷ t ∷ codes ")" ∷ []) line

-- a line that spells a transition of a system with n states
abbrev pub IsGoodAutLine : ℕ → List ℕ → Type 0
IsGoodAutLine n line = (a : Arrow) × IsTransition line a × IsArrow n a

-- The text spells the system: a header, and then as many lines as it says, one for each transition. A transition may stand twice.
pub record IsAut (text : List ℕ) (l : System) : Type 0 where
  pub first : List ℕ
  pub rest : List (List ℕ)
  pub spelled : List Arrow
  pub cut : lines text ≡ first ∷ rest
  pub header : IsAutHeader first l.initial (length rest) l.states
  pub each : AllZip IsTransition rest spelled
  pub set : l.arrows ≡ set_of spelled
  pub count : length rest ≤ MOST_TRANSITIONS
  pub some : 1 ≤ l.states
  pub limit : l.states ≤ MOST_STATES
  pub initial : l.initial < l.states
  pub within : AllByRecursion (IsArrow l.states) spelled

-- what is wrong with the first line
abbrev pub AutHeaderFault : List (List ℕ) → AutFault → Type 0
AutHeaderFault all BadHeader = (first : List ℕ) (rest : List (List ℕ)) (i m n : ℕ) → all ≡ first ∷ rest → IsAutHeader first i m n → ⊥
AutHeaderFault all OverLimit =
    (first : List ℕ) × (rest : List (List ℕ)) × (i m n : ℕ) × (all ≡ first ∷ rest) × IsAutHeader first i m n × ((MOST_TRANSITIONS < m) ⊎ (MOST_STATES < n))
AutHeaderFault all BadStates =
    (first : List ℕ) × (rest : List (List ℕ)) × (i m n : ℕ) × (all ≡ first ∷ rest) × IsAutHeader first i m n × (m ≤ MOST_TRANSITIONS) × (n ≤ MOST_STATES) × (n ≤ i)
AutHeaderFault all _ = ⊥

-- what is wrong with a line that stands where a transition of a system with n states is due
abbrev pub AutLineFault : ℕ → List ℕ → AutFault → Type 0
AutLineFault n line BadLine = (a : Arrow) → IsTransition line a → ⊥
AutLineFault n line BadLabel = (a : Arrow) × IsTransition line a × IsFalse (is_label a.label)
AutLineFault n line NoSuchState = (a : Arrow) × IsTransition line a × IsTrue (is_label a.label) × ((n ≤ a.source) ⊎ (n ≤ a.target))
AutLineFault n line _ = ⊥

-- The first faulty line of those below a right header with m transitions and n states: its fault, and how many good ones stand before it. A line
-- past the m that were announced is one too many, whatever it holds; the end of the text comes too soon where fewer stand.
abbrev pub AutBodyFault : (m n : ℕ) → List (List ℕ) → AutFault → ℕ → Type 0
AutBodyFault m n rest WrongCount good =
    (front back : List (List ℕ)) × (rest ≡ front ++ back) × AllByRecursion (IsGoodAutLine n) front × (length front ≡ good)
    × (((back ≡ []) × (good < m)) ⊎ ((back ≢ []) × (good ≡ m)))
AutBodyFault m n rest fault good =
    (front back : List (List ℕ)) × (line : List ℕ) × (rest ≡ front ++ line ∷ back) × AllByRecursion (IsGoodAutLine n) front × (length front ≡ good)
    × (good < m) × AutLineFault n line fault

-- the fault that decides, and its line, from 1
abbrev pub HasAutFault : List ℕ → AutFault → ℕ → Type 0
HasAutFault text fault place =
    (AutHeaderFault (lines text) fault × (place ≡ 1))
    ⊎ ((first : List ℕ) × (rest : List (List ℕ)) × (i m n good : ℕ) × (lines text ≡ first ∷ rest) × IsAutHeader first i m n
    × (m ≤ MOST_TRANSITIONS) × (n ≤ MOST_STATES) × (i < n) × AutBodyFault m n rest fault good × (place ≡ good + 2))

-- the same of the fault with its line
abbrev pub HasAutFaultAt : List ℕ → AutFault × ℕ → Type 0
HasAutFaultAt text told = HasAutFault text told.0 told.1
