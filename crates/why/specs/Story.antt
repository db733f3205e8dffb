-- The text of a telling.
use Rattle.std.specs.Prelude.{◌≡◌, ℕ, zero, suc, ◌+◌, ◌≤◌, ◌≢◌, ◌-◌, ◌/◌, ◌%◌, Bool, true, false, not, ◌&&◌, ◌||◌, ◌==◌, List, [], ◌∷◌, ◌++◌, Option, None, Some, length, take, drop, replicate, codes, decimal}
use Rattle.std.specs.Prelude.{nat_le, nat_lt, slice_get, IsTrue, ◌↔◌, ◌⊎◌, ◌<◌, slice_index_or, if◌then◌else◌}
use Rattle.std.specs.List.{list_any}
use Rattle.std.specs.Option.{is_none, is_some}
use Rattle.std.specs.Str.{bytes_eq}
use Rattle.systems.specs.System.{Arrow, System}
use Rattle.systems.specs.Numbered.{arrows_from}
use Rattle.text.specs.Pieces.{line_end}
use Rattle.text.specs.Wrote.{lines_from}
use Rattle.calculus.specs.Tree.{Action}
use Rattle.calculus.specs.Canon.{action_text}
use Rattle.calculus.specs.Holds.{holds}
use Rattle.calculus.specs.Nodes.{Node}
use Rattle.calculus.specs.NormalTree.{Shape, ConstantNode, ModalityNode}
use Rattle.calculus.specs.declared.limits.TheConstants.{MOST_NODES}
use Rattle.why.specs.Everywhere.{StepTest, asked_test, node_of, state_of}
use Rattle.why.specs.Telling.{goes_on}
use Rattle.why.specs.declared.visit.Continuation.{Continuation}
use Rattle.why.specs.declared.visit.Continuation.TheVariants.{On, Branch, Sink, Back, Told, Everywhere}
use Rattle.why.specs.declared.visit.Visit.{Visit}
use Rattle.why.specs.declared.visit.TheConstants.{MOST_BLANKS, MOST_COLUMNS, MOST_SHOWN}

abbrev pub shape_in : Option Node → Shape
shape_in None = ConstantNode true
shape_in (Some node) = node.shape

-- what the node of a vertex is
abbrev pub shape_at : List Node → ℕ → Shape
shape_at nodes v = shape_in (slice_get nodes (node_of (length nodes) v))

abbrev pub blanks_before : ℕ → List ℕ
blanks_before n = take n (replicate MOST_BLANKS 32)

-- a modality without what stands behind it, as `<ACTION>` or `[ACTION]`, and nothing of another node
abbrev pub modality_text : Shape → List ℕ
modality_text (ModalityNode true a child) = codes "<" ++ (action_text a ++ codes ">")
modality_text (ModalityNode false a child) = codes "[" ++ (action_text a ++ codes "]")
modality_text _ = []

abbrev pub modality_at : List Node → ℕ → List ℕ
modality_at nodes v = modality_text (shape_at nodes v)

abbrev pub modality_of : Node → List ℕ
modality_of node = modality_text node.shape

-- the number of a modality, counted from here on: that of the first of these vertices which has it
abbrev pub number_from : List Node → ℕ → (long : List ℕ) → (modality : List ℕ) → Option ℕ
number_from nodes k [] text = None
number_from nodes k (v ∷ long) text = if bytes_eq (modality_at nodes v) text then Some k else number_from nodes (suc k) long text

-- It is longer than MOST_COLUMNS, and none of these vertices has it. Of those there are no more than nodes.
abbrev pub is_another : List Node → (long : List ℕ) → (modality : List ℕ) → Bool
is_another nodes long text = nat_lt MOST_COLUMNS (length text) && (is_none (number_from nodes 1 long text) && nat_lt (length long) MOST_NODES)

-- with the vertex from which a step is taken, where its modality is another long one
abbrev pub long_with : List Node → (long : List ℕ) → (from : Option ℕ) → List ℕ
long_with nodes long None = long
long_with nodes long (Some u) = if is_another nodes long (modality_at nodes u) then long ++ u ∷ [] else long

abbrev pub from_of : Option Visit → Option ℕ
from_of None = None
from_of (Some v) = v.way.from

-- the vertices from which steps by long modalities lead to the visits before this one, the first one of each modality
abbrev pub long_before : List Node → List Visit → ℕ → List ℕ
long_before nodes visits zero = []
long_before nodes visits (suc i) = long_with nodes (long_before nodes visits i) (from_of (slice_get visits i))

-- the first MOST_SHOWN bytes, and the last one
abbrev pub cut_line : List ℕ → List ℕ
cut_line text = take MOST_SHOWN text ++ (codes ".." ++ (drop (length text - 1) text ++ line_end))

-- `[number] = modality`, cut
abbrev pub long_line : List Node → (number vertex : ℕ) → List ℕ
long_line nodes k v = codes "[" ++ (decimal k ++ (codes "] = " ++ cut_line (modality_at nodes v)))

-- that of the long modality of this number, from 0 on
abbrev pub long_line_at : List Node → (long : List ℕ) → ℕ → List ℕ
long_line_at nodes long i = long_line nodes (suc i) (slice_index_or long i 0)

-- the action formula of a modality
abbrev pub action_in : Shape → Option Action
action_in (ModalityNode flag a child) = Some a
action_in _ = None

abbrev pub action_at : List Node → ℕ → Option Action
action_at nodes v = action_in (shape_at nodes v)

-- the label of the first of these transitions that leads to the state and has a label of which the action formula holds
abbrev pub first_label : Action → (target : ℕ) → List Arrow → List ℕ
first_label a t [] = []
first_label a t (arrow ∷ arrows) = if arrow.target == t && holds a arrow.label then arrow.label else first_label a t arrows

-- the modality by which a step is taken, where the line before isn't a step by the same one
abbrev pub modality_told : List Node → (before : Option ℕ) → (from : ℕ) → List ℕ
modality_told nodes None u = modality_at nodes u
modality_told nodes (Some w) u = if bytes_eq (modality_at nodes w) (modality_at nodes u) then [] else modality_at nodes u

-- a modality, by its number where it has one
abbrev pub by_text : (number : Option ℕ) → (modality : List ℕ) → List ℕ
by_text number [] = line_end
by_text None (c ∷ text) = codes " by " ++ (c ∷ text ++ line_end)
by_text (Some k) (c ∷ text) = codes " by [" ++ (decimal k ++ (codes "]" ++ line_end))

-- `source -label-> target`
abbrev pub arrow_text : System → List Node → (from vertex blanks : ℕ) → Action → List ℕ
arrow_text l nodes u v blanks a =
    blanks_before blanks ++ (decimal (state_of (length nodes) u) ++ (codes " -" ++ (first_label a (state_of (length nodes) v) (arrows_from l (state_of (length nodes) u))
    ++ (codes "-> " ++ decimal (state_of (length nodes) v)))))

-- the same and its modality
abbrev pub step_text : System → List Node → (long : List ℕ) → (before : Option ℕ) → (from vertex blanks : ℕ) → Option Action → List ℕ
step_text l nodes long before u v blanks (Some a) =
    arrow_text l nodes u v blanks a ++ by_text (number_from nodes 1 long (modality_told nodes before u)) (modality_told nodes before u)
step_text l nodes long before u v blanks None = []

-- the step that leads to a visit: from a vertex with a modality
abbrev pub way_text : System → List Node → (long : List ℕ) → (before : Option ℕ) → (from : Option ℕ) → (vertex blanks : ℕ) → List ℕ
way_text l nodes long before None v blanks = []
way_text l nodes long before (Some u) v blanks = step_text l nodes long before u v blanks (action_at nodes u)

-- before the first step of what comes again and again
abbrev pub head_text : Bool → (blanks : ℕ) → List ℕ
head_text head blanks = if head then blanks_before blanks ++ (codes "loop:" ++ line_end) else []

abbrev pub has_none : List Arrow → Bool
has_none [] = true
has_none (arrow ∷ arrows) = false

-- that no step by the action is possible at the state, or none at all
abbrev pub lack_text : System → (state : ℕ) → Action → List ℕ
lack_text l s a = if has_none (arrows_from l s) then codes "deadlock" else codes "no " ++ (action_text a ++ codes " here")

-- why only a sink follows: the node is a constant, or a modality by which no step is possible
abbrev pub sink_text : System → (state : ℕ) → Shape → List ℕ
sink_text l s (ConstantNode flag) = if flag then codes "true here" else codes "false here"
sink_text l s (ModalityNode flag a child) = lack_text l s a
sink_text l s _ = []

abbrev pub which_text : (possible : Bool) → List ℕ
which_text possible = if possible then codes "from here each of " else codes "from here none of "

-- that each of so many states has a step by an action, or that none has
abbrev pub everywhere_text : (count : ℕ) → Option StepTest → List ℕ
everywhere_text n None = []
everywhere_text n (Some test) = (which_text test.possible ++ (decimal n ++ codes " states has a step by ")) ++ action_text test.action

-- why a run ends: only a sink follows, or what the fixpoint asks is so everywhere, or the rest was told in another run
abbrev pub reason_text : System → List Node → (vertex : ℕ) → Continuation → List ℕ
reason_text l nodes v Sink = sink_text l (state_of (length nodes) v) (shape_at nodes v)
reason_text l nodes v (Everywhere n) = everywhere_text n (asked_test nodes (node_of (length nodes) v))
reason_text l nodes v Told = codes "as above"
reason_text l nodes v _ = []

-- at which state a run ends, and why
abbrev pub stop_text : System → List Node → (vertex blanks : ℕ) → Continuation → List ℕ
stop_text l nodes v blanks kind =
    blanks_before blanks ++ (decimal (state_of (length nodes) v) ++ (codes ": " ++ (reason_text l nodes v kind ++ line_end)))

-- how a run ends
abbrev pub end_text : System → List Node → (vertex blanks : ℕ) → Continuation → List ℕ
end_text l nodes v blanks On = []
end_text l nodes v blanks Branch = []
end_text l nodes v blanks (Back i) = blanks_before blanks ++ (codes "back to " ++ (decimal (state_of (length nodes) v) ++ line_end))
end_text l nodes v blanks kind = stop_text l nodes v blanks kind

-- the vertex from which the last step was taken, where a line of the same run tells it
abbrev pub step_after : List Node → Continuation → (from before : Option ℕ) → Option ℕ
step_after nodes On None before = before
step_after nodes On (Some u) before = if is_some (action_at nodes u) then Some u else before
step_after nodes _ from before = None

abbrev pub after_visit : List Node → Option Visit → (before : Option ℕ) → Option ℕ
after_visit nodes None before = before
after_visit nodes (Some v) before = step_after nodes v.kind v.way.from before

-- that before the visit of this number
abbrev pub step_before : List Node → List Visit → ℕ → Option ℕ
step_before nodes visits zero = None
step_before nodes visits (suc i) = after_visit nodes (slice_get visits i) (step_before nodes visits i)

-- the lines of a visit: the step that leads to it, where a loop begins, and how its run ends
abbrev pub visit_text : System → List Node → (long : List ℕ) → (before : Option ℕ) → (head : Bool) → Option Visit → List ℕ
visit_text l nodes long before head None = []
visit_text l nodes long before head (Some v) =
    way_text l nodes long before v.way.from v.way.vertex v.way.blanks ++ (head_text head v.way.blanks ++ end_text l nodes v.way.vertex v.way.blanks v.kind)

-- the lines of the visit of this number
abbrev pub text_at : System → List Node → (long : List ℕ) → List Visit → (heads : List Bool) → ℕ → List ℕ
text_at l nodes long visits heads i = visit_text l nodes long (step_before nodes visits i) (slice_index_or heads i false) (slice_get visits i)

-- The marks are those of the visits to which a run comes back.
abbrev pub AreHeads : List Visit → List Bool → Type 0
AreHeads visits heads =
    (i : ℕ) → i < length visits → IsTrue (slice_index_or heads i false) ↔ ((k : ℕ) × (v : Visit) × (slice_get visits k ≡ Some v) × (v.kind ≡ Back i))

-- That of such a visit was added, where a run ends so.
abbrev pub HasMarked : Continuation → (old new : List Bool) → Type 0
HasMarked kind old new = (i : ℕ) → i < length old → IsTrue (slice_index_or new i false) ↔ (IsTrue (slice_index_or old i false) ⊎ (kind ≡ Back i))

-- ------------------------------------------------------------------ what is told of it all

abbrev pub count_if : Bool → ℕ
count_if b = if b then 1 else 0

abbrev pub is_told_step : List Node → Option ℕ → Bool
is_told_step nodes None = false
is_told_step nodes (Some u) = is_some (action_at nodes u)

-- how many lines a visit has
abbrev pub lines_of : List Node → (head : Bool) → Option Visit → ℕ
lines_of nodes head None = 0
lines_of nodes head (Some v) = count_if (is_told_step nodes v.way.from) + (count_if head + count_if (not (goes_on v.kind)))

-- how many the visits before this one have
abbrev pub lines_before : List Node → List Visit → List Bool → ℕ → ℕ
lines_before nodes visits heads zero = 0
lines_before nodes visits heads (suc i) = lines_before nodes visits heads i + lines_of nodes (slice_index_or heads i false) (slice_get visits i)

-- So many first visits are told: all, or as many as have at most so many lines, where that isn't 0.
pub record IsCut (nodes : List Node) (visits : List Visit) (heads : List Bool) (limit count : ℕ) : Type 0 where
  pub within : count ≤ length visits
  pub few : (limit ≡ 0) ⊎ (lines_before nodes visits heads count ≤ limit)
  pub many : count < length visits → (limit ≢ 0) × (limit < lines_before nodes visits heads (suc count))

-- what stands behind the lines, where visits are left out, or so many were made that some may be
abbrev pub rest_text : (most count visits : ℕ) → List ℕ
rest_text most count visits = if nat_lt count visits || nat_le most visits then codes ".. (--limit 0 tells all)" ++ line_end else []

-- the long modalities, the lines of the visits, and what stands behind them
abbrev pub told_text : System → List Node → (long : List ℕ) → (most : ℕ) → List Visit → (heads : List Bool) → (count : ℕ) → List ℕ
told_text l nodes long most visits heads count =
    lines_from (long_line_at nodes long) 0 (length long) ++ (lines_from (text_at l nodes long visits heads) 0 count ++ rest_text most count (length visits))

abbrev pub story_text : System → List Node → (most : ℕ) → List Visit → (heads : List Bool) → (count : ℕ) → List ℕ
story_text l nodes most visits heads count = told_text l nodes (long_before nodes visits count) most visits heads count

abbrev pub is_branch : Continuation → Bool
is_branch Branch = true
is_branch _ = false

-- Some run branches.
abbrev pub has_branch : List Visit → Bool
has_branch visits = list_any (λ (v : Visit). is_branch v.kind) visits

-- whether the initial state satisfies the formula, and what shows it
abbrev pub verdict_text : (answer several : Bool) → List ℕ
verdict_text true true = codes "initial yes: these runs show it"
verdict_text true false = codes "initial yes: this run shows it"
verdict_text false true = codes "initial no: these runs break it"
verdict_text false false = codes "initial no: this run breaks it"
