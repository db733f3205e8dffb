-- The fault of a text that spells no game.
use Rattle.std.specs.Prelude.{◌≡◌, ℕ, ◌+◌, ◌<◌, ◌≤◌, ◌⊎◌, List, [], ◌∷◌, ◌++◌, length, Contains}
use Rattle.text.specs.Text.{lines}
use Rattle.calculus.specs.declared.limits.TheConstants.{GREATEST_PRIORITY}
use Rattle.game.specs.declared.limits.TheConstants.{MOST_VERTICES}
use Rattle.pgsolver.specs.Spelling.{VertexLine, IsPgHeader, IsLine, AreGoodLines}
use Rattle.pgsolver.specs.declared.error.PgFault.{PgFault}
use Rattle.pgsolver.specs.declared.error.PgFault.TheVariants.{BadHeader, BadLine, BadIdentifier, BadSuccessor, PriorityTooGreat, TooManyVertices}

-- what is wrong with the first line
abbrev pub PgHeaderFault : List (List ℕ) → PgFault → Type 0
PgHeaderFault all BadHeader = (first : List ℕ) (rest : List (List ℕ)) (n : ℕ) → all ≡ first ∷ rest → IsPgHeader first n → ⊥
PgHeaderFault all TooManyVertices = (first : List ℕ) × (rest : List (List ℕ)) × (n : ℕ) × (all ≡ first ∷ rest) × IsPgHeader first n × (MOST_VERTICES ≤ n)
PgHeaderFault all _ = ⊥

-- the identifier is above the greatest, or stands on a line before
abbrev pub IsBadId : ℕ → List VertexLine → VertexLine → Type 0
IsBadId n before x = (n < x.id) ⊎ ((y : VertexLine) × Contains before y × (y.id ≡ x.id))

-- there is no successor, or one is above the greatest identifier
abbrev pub HasBadSuccessor : ℕ → VertexLine → Type 0
HasBadSuccessor n x = (x.successors ≡ []) ⊎ ((t : ℕ) × Contains x.successors t × (n < t))

-- What is wrong with a line, after lines that say these. Shape decides first, then the identifier, then the successors, then the priority.
abbrev pub PgLineFault : ℕ → List VertexLine → List ℕ → PgFault → Type 0
PgLineFault n before line BadLine = (x : VertexLine) → IsLine line x → ⊥
PgLineFault n before line BadIdentifier = (x : VertexLine) × IsLine line x × IsBadId n before x
PgLineFault n before line BadSuccessor = (x : VertexLine) × IsLine line x × (IsBadId n before x → ⊥) × HasBadSuccessor n x
PgLineFault n before line PriorityTooGreat = (x : VertexLine) × IsLine line x × (IsBadId n before x → ⊥) × (HasBadSuccessor n x → ⊥) × (GREATEST_PRIORITY < x.priority)
PgLineFault n before line _ = ⊥

-- the first faulty line of those below a right header, and how many good ones stand before it
pub record FaultyLine (n : ℕ) (rest : List (List ℕ)) (fault : PgFault) (good : ℕ) : Type 0 where
  pub front : List (List ℕ)
  pub line : List ℕ
  pub back : List (List ℕ)
  pub before : List VertexLine
  pub cut : rest ≡ front ++ line ∷ back
  pub good_lines : AreGoodLines n front before
  pub count : length front ≡ good
  pub wrong : PgLineFault n before line fault

-- All lines are good, but the text ends before each identifier stood.
pub record EndsTooSoon (n : ℕ) (rest : List (List ℕ)) (good : ℕ) : Type 0 where
  pub spelled : List VertexLine
  pub good_lines : AreGoodLines n rest spelled
  pub few : length rest < n + 1
  pub count : length rest ≡ good

-- the same of an identifier that is missing, whose line is the one after the last
abbrev pub PgBodyFault : ℕ → List (List ℕ) → PgFault → ℕ → Type 0
PgBodyFault n rest BadIdentifier good = FaultyLine n rest BadIdentifier good ⊎ EndsTooSoon n rest good
PgBodyFault n rest fault good = FaultyLine n rest fault good

-- the fault that decides, and its line, from 1
abbrev pub HasPgFault : List ℕ → PgFault → ℕ → Type 0
HasPgFault text fault place =
    (PgHeaderFault (lines text) fault × (place ≡ 1))
    ⊎ ((first : List ℕ) × (rest : List (List ℕ)) × (n good : ℕ) × (lines text ≡ first ∷ rest) × IsPgHeader first n × (n < MOST_VERTICES)
    × PgBodyFault n rest fault good × (place ≡ good + 2))

-- the same of the fault with its line
abbrev pub HasPgFaultAt : List ℕ → PgFault × ℕ → Type 0
HasPgFaultAt text told = HasPgFault text told.0 told.1
