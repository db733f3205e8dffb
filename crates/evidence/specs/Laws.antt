-- What evidence proves.
use Rattle.std.specs.Prelude.{◌≡◌, ℕ, ◌+◌, ◌<◌, ◌≤◌, ◌⊎◌, ◌↔◌, Bool, List, Some, length, IsTrue}
use Rattle.std.specs.List.{AllByRecursion}
use Rattle.systems.specs.System.{Arrow, System, IsSystem}
use Rattle.calculus.specs.Tree.{Formula}
use Rattle.calculus.specs.Admitted.{IsAdmitted}
use Rattle.calculus.specs.Meaning.{Satisfies}
use Rattle.calculus.specs.NormalTree.{normal_form}
use Rattle.calculus.specs.Nodes.{Node}
use Rattle.calculus.specs.declared.limits.TheConstants.{GREATEST_PRIORITY}
use Rattle.game.specs.Arena.{arena, place}
use Rattle.game.specs.declared.player.Player.TheVariants.{Even, Odd}
use Rattle.game.specs.Game.{Game, IsGame, dual, greatest}
use Rattle.game.specs.Wins.{OddWins, Wins, WinsBy}
use Rattle.game.specs.declared.limits.TheConstants.{MOST_VERTICES}
use Rattle.measures.specs.Measure.{Counts, Reaches}
use Rattle.laws.specs.Admissible.{IsNodes}
use Rattle.evidence.specs.Canon.{evidence_text}
use Rattle.evidence.specs.Evidence.{Descends, Entry, Evidence, IsEvidence, IsGood, entry_at, has}
use Rattle.evidence.specs.Best.{IsEvenOf, IsOddOf}
use Rattle.evidence.specs.Verdict.{IsBoth, IsVerdict}
use Rattle.evidence.specs.declared.verdict.Verdict.{Verdict}
use Rattle.evidence.specs.declared.verdict.Both.{Both}
use Rattle.evidence.specs.Fault.{HasEvidenceFault}
use Rattle.evidence.specs.Spelling.{IsEvidenceText}
use Rattle.evidence.specs.declared.error.EvidenceFault.{EvidenceFault}
use Rattle.evidence.specs.declared.limits.TheConstants.{GREATEST_COUNT}
use Rattle.evidence.specs.Witness.{HasAllArrows, IsClosedFor, IsPartOf, AreReached, Keeps, cut_to, filtered_system, witness}
use Rattle.evidence.specs.declared.verdict.Both.TheVariants.{Yes}

-- Where no fault stands anywhere, the player wins each vertex of the set.
abbrev pub GoodEvidenceWins : Type 0
GoodEvidenceWins = (g : Game) (e : Evidence) → IsEvidence g e → IsGood g e → (v : ℕ) → IsTrue (has e v) → WinsBy e.player g v

-- A rank descends where, as a measure, it reaches the next one: Even's in the game, Odd's in the dual game, of one priority more.
abbrev pub DescentIsReaching : Type 0
DescentIsReaching =
    (g : Game) (p : ℕ) (rank next : List ℕ)
    → (Descends Even g p rank next ↔ Reaches g p (Counts next) (Counts rank))
    × (0 < length g.vertices → Descends Odd g p rank next ↔ Reaches (dual g) (p + 1) (Counts next) (Counts rank))

-- Evidence has one verdict, and two pieces have one answer.
abbrev pub OneVerdict : Type 0
OneVerdict = (g : Game) (e : Evidence) → ((a : Verdict) × IsVerdict g e a) × ((a b : Verdict) → IsVerdict g e a → IsVerdict g e b → a ≡ b)

abbrev pub OneAnswer : Type 0
OneAnswer = (g : Game) (e f : Evidence) → ((a : Both) × IsBoth g e f a) × ((a b : Both) → IsBoth g e f a → IsBoth g e f b → a ≡ b)

-- Each game has Even's evidence of this kind, and Odd's where the dual game has no priority above the limit.
abbrev pub BestExists : Type 0
BestExists = (g : Game) → IsGame g → ((e : Evidence) × IsEvenOf g e) × (greatest g ≤ GREATEST_PRIORITY → (e : Evidence) × IsOddOf g e)

-- There is one such evidence of each.
abbrev pub BestIsOne : Type 0
BestIsOne = (g : Game) (e f : Evidence) → (IsEvenOf g e → IsEvenOf g f → e ≡ f) × (IsOddOf g e → IsOddOf g f → e ≡ f)

-- Even's has no fault, and holds exactly the vertices that Even wins.
abbrev pub EvenEvidenceIsGood : Type 0
EvenEvidenceIsGood = (g : Game) → IsGame g → (e : Evidence) → IsEvenOf g e → IsEvidence g e × IsGood g e × ((v : ℕ) → IsTrue (has e v) ↔ Wins g v)

-- Odd's has none either, and holds exactly those that Odd wins.
abbrev pub OddEvidenceIsGood : Type 0
OddEvidenceIsGood = (g : Game) → IsGame g → greatest g ≤ GREATEST_PRIORITY → (e : Evidence) → IsOddOf g e → IsEvidence g e × IsGood g e
    × ((v : ℕ) → IsTrue (has e v) ↔ OddWins g v)

-- Good evidence of Even and of Odd has no vertex in common.
abbrev pub NoneInBoth : Type 0
NoneInBoth =
    (g : Game) (e f : Evidence) → IsEvidence g e → IsGood g e → e.player ≡ Even → IsEvidence g f → IsGood g f → f.player ≡ Odd
    → (v : ℕ) → IsTrue (has e v) → IsTrue (has f v) → ⊥

-- Even's and Odd's of the least tables have every vertex.
abbrev pub AllInOne : Type 0
AllInOne =
    (g : Game) → IsGame g → greatest g ≤ GREATEST_PRIORITY → (e f : Evidence) → IsEvenOf g e → IsOddOf g f → (v : ℕ) → v < length g.vertices
    → IsTrue (has e v) ⊎ IsTrue (has f v)

-- Where the answer of two is yes, each holds exactly the vertices that its player wins, and none is in both.
abbrev pub YesDecides : Type 0
YesDecides =
    (g : Game) (e f : Evidence) → IsEvidence g e → IsEvidence g f → IsBoth g e f Yes → (v : ℕ) → v < length g.vertices
    → (IsTrue (has e v) ↔ WinsBy e.player g v) × (IsTrue (has f v) ↔ WinsBy f.player g v) × (IsTrue (has e v) → IsTrue (has f v) → ⊥)

-- It is yes of those of the least tables, in either order.
abbrev pub BestIsYes : Type 0
BestIsYes = (g : Game) → IsGame g → greatest g ≤ GREATEST_PRIORITY → (e f : Evidence) → IsEvenOf g e → IsOddOf g f → IsBoth g e f Yes × IsBoth g f e Yes

-- What is reached from a vertex of good evidence is closed.
abbrev pub ReachedIsClosed : Type 0
ReachedIsClosed = (g : Game) (e : Evidence) (u : ℕ) (set : ℕ → Bool) → IsGood g e → IsTrue (has e u) → AreReached g e u set → IsTrue (set u)
    × IsClosedFor g e set

-- There is a test of what is reached from a vertex of good evidence.
abbrev pub ReachedExists : Type 0
ReachedExists = (g : Game) (e : Evidence) (u : ℕ) → IsEvidence g e → IsGood g e → IsTrue (has e u) → (set : ℕ → Bool) × AreReached g e u set

-- Such arrows give such steps.
abbrev pub ArrowsKeepSteps : Type 0
ArrowsKeepSteps = (l part : System) (nodes : List Node) (e : Evidence) (set : ℕ → Bool) → HasAllArrows l part nodes e set → Keeps l part nodes e set

-- What passes a test is a system, and a part.
abbrev pub PartsAreSystems : Type 0
PartsAreSystems = (l : System) (p : Arrow → Bool) → IsSystem l → IsSystem (filtered_system p l) × IsPartOf l (filtered_system p l)

-- Good evidence, cut to a closed set, is good in the arena of a part that keeps the steps in the set; so the player wins there.
abbrev pub WitnessWins : Type 0
WitnessWins =
    (l part : System) (nodes : List Node) (e : Evidence) (set : ℕ → Bool) → IsPartOf l part → IsEvidence (arena l nodes) e → IsGood (arena l nodes) e
    → IsClosedFor (arena l nodes) e set → Keeps l part nodes e set
    → IsEvidence (arena part nodes) (cut_to set e) × IsGood (arena part nodes) (cut_to set e)
    × ((v : ℕ) → IsTrue (set v) → WinsBy e.player (arena part nodes) v)

-- Where the set has the initial state with the root, Even's evidence says that the part's initial state satisfies the formula, and Odd's that it doesn't.
abbrev pub WitnessMeans : Type 0
WitnessMeans =
    (l part : System) (f : Formula) (nodes : List Node) (e : Evidence) (set : ℕ → Bool) → IsPartOf l part → IsEvidence (arena l nodes) e
    → IsGood (arena l nodes) e
    → IsClosedFor (arena l nodes) e set → Keeps l part nodes e set → IsTrue (set (place (length nodes) l.initial 0))
    → IsSystem part → IsAdmitted f → IsNodes (normal_form f) nodes
    → (e.player ≡ Even → Satisfies part f l.initial) × (e.player ≡ Odd → Satisfies part f l.initial → ⊥)

-- The part that has just the arrows that the play takes from the root of good evidence is a system, and its initial state satisfies the formula where the
-- evidence is Even's, and doesn't where it is Odd's.
abbrev pub WitnessShows : Type 0
WitnessShows =
    (l : System) (f : Formula) (nodes : List Node) (e : Evidence) (set : ℕ → Bool) → IsSystem l → IsAdmitted f → IsNodes (normal_form f) nodes
    → IsEvidence (arena l nodes) e → IsGood (arena l nodes) e → IsTrue (has e (place (length nodes) l.initial 0))
    → AreReached (arena l nodes) e (place (length nodes) l.initial 0) set
    → IsSystem (witness l nodes e set) × (e.player ≡ Even → Satisfies (witness l nodes e set) f l.initial)
    × (e.player ≡ Odd → Satisfies (witness l nodes e set) f l.initial → ⊥)

-- A text spells one evidence of a game at most.
abbrev pub OneEvidence : Type 0
OneEvidence = (g : Game) (text : List ℕ) (e f : Evidence) → IsEvidenceText g text e → IsEvidenceText g text f → e ≡ f

-- A text that spells evidence has no deciding fault, and each text has one at most, at one line.
abbrev pub NoEvidenceFault : Type 0
NoEvidenceFault = (g : Game) (text : List ℕ) (e : Evidence) (fault : EvidenceFault) (line : ℕ) → IsEvidenceText g text e → HasEvidenceFault g text fault line → ⊥

abbrev pub OneEvidenceFault : Type 0
OneEvidenceFault = (g : Game) (text : List ℕ) (a b : EvidenceFault) (i j : ℕ) → HasEvidenceFault g text a i → HasEvidenceFault g text b j → (a ≡ b) × (i ≡ j)

-- No count of a rank is above the limit of the texts.
abbrev pub IsSmall : Evidence → Type 0
IsSmall e = (v : ℕ) (x : Entry) → entry_at e v ≡ Some x → AllByRecursion (λ k. k ≤ GREATEST_COUNT) x.rank

-- The canonical text of evidence spells the evidence.
abbrev pub EvidenceTextSpells : Type 0
EvidenceTextSpells = (g : Game) (e : Evidence) → length g.vertices ≤ MOST_VERTICES → IsEvidence g e → IsSmall e → IsEvidenceText g (evidence_text e) e

-- What is written of the least tables of a game with at least one vertex is read again, as what it is, and accepted.
abbrev pub WrittenIsAccepted : Type 0
WrittenIsAccepted =
    (g : Game) (e f : Evidence) → IsGame g → greatest g ≤ GREATEST_PRIORITY → IsEvenOf g e → IsOddOf g f
    → IsEvidenceText g (evidence_text e) e × IsEvidenceText g (evidence_text f) f × IsBoth g e f Yes

-- A text spells evidence for a game, or a fault decides.
abbrev pub EvidenceTextIsDecided : Type 0
EvidenceTextIsDecided = (g : Game) (text : List ℕ) → ((e : Evidence) × IsEvidenceText g text e) ⊎ ((fault : EvidenceFault) × (line : ℕ) × HasEvidenceFault g text fault line)
