-- What surveys of parts find together.
use Rattle.std.proofs.Common.{◌≡◌, ◌≢◌, ℕ, ◌+◌, ◌<◌, ◌≤◌, max, Bool, true, false, ◌||◌, List, [], ◌∷◌, ◌++◌, length, refl, sym, ap, ◌∙◌, subst, arith}
use Rattle.std.specs.Prelude.{nat_lt, ◌==◌, if◌then◌else◌, slice_set, slice_index}
use Rattle.std.proofs.lemmas.Bool.{lt-ltb, le-ltb}
use Rattle.std.proofs.lemmas.List.{get_or-set_same, get_or-set_other}
use Rattle.calculus.specs.NormalTree.{Norm, Constant, Junction, Modality, Fixpoint, Variable, ConstantNode, JunctionNode, ModalityNode, FixpointNode, VariableNode}
use Rattle.calculus.specs.NormalTree.{size, chain, two}
use Rattle.calculus.specs.Nodes.{Node, Rule, nodes_by, greatest_nested, greatest_node_priority, parity_from}
use Rattle.calculus.specs.Rules.{names, above, rule_of}
use Rattle.normal.specs.Surveys.{last_seen, open_at, opened, raised, chosen, past, AreBefore, Summarizes, IsFixpointOf, noted_rule, Surveys, closed}
use Rattle.calculus.specs.declared.priorities.Priorities.{Priorities}
use Rattle.calculus.specs.declared.priorities.Priorities.TheVariants.{Nested, Dependent}
use Rattle.normal.specs.declared.survey.OpenBinder.{OpenBinder}
use Rattle.normal.specs.declared.survey.PartPlace.{PartPlace}
use Rattle.normal.specs.declared.survey.Summary.{Summary}
use Rattle.normal.specs.declared.survey.Survey.{Survey}

-- ---- variables that were seen

-- where a variable stands in the tree its last number is one of the tree's, and else what it was
record Tells (b at : ℕ) (f : Norm) (last : ℕ) : Type 0 where
  some : names b f ≡ true → at ≤ last_seen b at f last
  none : names b f ≡ false → last_seen b at f last ≡ last
  below : last_seen b at f last < at + size f

either_some : (p q : Bool) (at mid one two : ℕ) → at ≤ mid → (p ≡ true → at ≤ one) → (q ≡ true → mid ≤ two) → (q ≡ false → two ≡ one) → (p || q) ≡ true
    → at ≤ two
either_some true true at mid one two h l r n e = omega (arith, r refl)
either_some true false at mid one two h l r n e = omega (arith, l refl, n refl)
either_some false true at mid one two h l r n e = omega (arith, r refl)
either_some false false at mid one two h l r n e = cc

neither_some : (p q : Bool) (last one two : ℕ) → (p ≡ false → one ≡ last) → (q ≡ false → two ≡ one) → (p || q) ≡ false → two ≡ last
neither_some true q last one two l r e = cc
neither_some false true last one two l r e = cc
neither_some false false last one two l r e = r refl ∙ l refl

here_some : (t : Bool) (at last : ℕ) → t ≡ true → at ≤ (if t then at else last)
here_some true at last e = omega arith
here_some false at last e = cc

here_none : (t : Bool) (at last : ℕ) → t ≡ false → (if t then at else last) ≡ last
here_none true at last e = cc
here_none false at last e = refl

here_below : (t : Bool) (at last : ℕ) → last < at → (if t then at else last) < at + 1
here_below true at last h = omega arith
here_below false at last h = omega arith

tells : (b at : ℕ) (f : Norm) (last : ℕ) → last < at → Tells b at f last
tells b at (Constant flag) last h = record { some = λ e. cc; none = λ e. refl; below = omega arith }
tells b at (Junction flag f g) last h =
    let l = tells b (at + 1) f last (omega arith) in
    let low : last_seen b (at + 1) f last < at + 1 + size f = l.below in
    let r = tells b (at + 1 + size f) g (last_seen b (at + 1) f last) low in
    let left = l.some in
    record {
      some = either_some (names b f) (names b g) at (at + 1 + size f) (last_seen b (at + 1) f last)
          (last_seen b (at + 1 + size f) g (last_seen b (at + 1) f last)) (omega arith) (λ e. let i = left e in omega arith) r.some r.none;
      none = neither_some (names b f) (names b g) last (last_seen b (at + 1) f last)
          (last_seen b (at + 1 + size f) g (last_seen b (at + 1) f last)) l.none r.none;
      below = let i = r.below in omega arith;
    }
tells b at (Modality flag a f) last h = let t = tells b (at + 1) f last (omega arith) in let some = t.some
    in record { some = λ e. let i = some e in omega arith; none = t.none; below = let i = t.below in omega arith }
tells b at (Fixpoint flag f) last h = let t = tells b (at + 1) f last (omega arith) in let some = t.some
    in record { some = λ e. let i = some e in omega arith; none = t.none; below = let i = t.below in omega arith }
tells b at (Variable c) last h = record { some = here_some (c == b) at last; none = here_none (c == b) at last; below = here_below (c == b) at last h }

-- ---- bounds

-- Each binder raises the priority by one at most.
parity_from_le : (flag : Bool) (n : ℕ) → parity_from flag n ≤ 1 + n
parity_from_le true n = omega arith
parity_from_le false n = omega arith

pub greatest_le_size : (f : Norm) → greatest_nested f ≤ size f
greatest_le_size (Constant flag) = omega arith
greatest_le_size (Junction flag f g) = omega (arith, greatest_le_size f, greatest_le_size g)
greatest_le_size (Modality flag a f) = omega (arith, greatest_le_size f)
greatest_le_size (Fixpoint flag f) = omega (arith, parity_from_le flag (greatest_nested f), greatest_le_size f)
greatest_le_size (Variable binder) = omega arith

pub chain_le_size : (f : Norm) (first : Bool) → chain f first ≤ size f
chain_le_size (Constant flag) first = omega arith
chain_le_size (Junction flag f g) first = omega (arith, chain_le_size f first, chain_le_size g first)
chain_le_size (Modality flag a f) first = omega (arith, chain_le_size f first)
chain_le_size (Fixpoint true f) true = omega (arith, chain_le_size f true, chain_le_size f false)
chain_le_size (Fixpoint true f) false = omega (arith, chain_le_size f false)
chain_le_size (Fixpoint false f) true = omega (arith, chain_le_size f true)
chain_le_size (Fixpoint false f) false = omega (arith, chain_le_size f true, chain_le_size f false)
chain_le_size (Variable binder) first = omega arith

if_le : (t : Bool) (m n : ℕ) → m ≤ n → (if t then m else 0) ≤ n
if_le true m n h = h
if_le false m n h = omega arith

pub above_le_size : (b at : ℕ) (f : Norm) → above b at f ≤ size f
above_le_size b at (Constant flag) = omega arith
above_le_size b at (Junction flag f g) = omega (arith, above_le_size b (at + 1) f, above_le_size b (at + 1 + size f) g)
above_le_size b at (Modality flag a f) = omega (arith, above_le_size b (at + 1) f)
above_le_size b at (Fixpoint flag f) =
    let own : parity_from flag (above at (at + 1) f) ≤ 1 + size f = omega (arith, parity_from_le flag (above at (at + 1) f), above_le_size at (at + 1) f) in
    let some = if_le (names b f) (parity_from flag (above at (at + 1) f)) (1 + size f) own in
    omega (arith, above_le_size b (at + 1) f)
above_le_size b at (Variable c) = omega arith

-- ---- priorities that were noted

-- two lists that agree at the tree's numbers give its nodes the same priorities
noted_agree : (t u : List ℕ) (at : ℕ) (f : Norm) → ((k : ℕ) → at ≤ k → k < at + size f → slice_index t k ≡ slice_index u k)
    → nodes_by (noted_rule t) at f ≡ nodes_by (noted_rule u) at f
noted_agree t u at (Constant flag) h = let e = h at (omega arith) (omega arith) in λ i. record { shape = ConstantNode flag; priority = e i } ∷ []
noted_agree t u at (Junction flag f g) h =
    let e = h at (omega arith) (omega arith) in
    let l = noted_agree t u (at + 1) f (λ k low high. h k (omega arith) (omega arith)) in
    let r = noted_agree t u (at + 1 + size f) g (λ k low high. h k (omega arith) (omega arith)) in
    λ i. record { shape = JunctionNode flag (at + 1) (at + 1 + size f); priority = e i } ∷ (l i ++ r i)
noted_agree t u at (Modality flag a f) h =
    let e = h at (omega arith) (omega arith) in
    let n = noted_agree t u (at + 1) f (λ k low high. h k (omega arith) (omega arith)) in
    λ i. record { shape = ModalityNode flag a (at + 1); priority = e i } ∷ n i
noted_agree t u at (Fixpoint flag f) h =
    let e = h at (omega arith) (omega arith) in
    let n = noted_agree t u (at + 1) f (λ k low high. h k (omega arith) (omega arith)) in
    λ i. record { shape = FixpointNode flag (at + 1); priority = e i } ∷ n i
noted_agree t u at (Variable c) h = let e = h at (omega arith) (omega arith) in λ i. record { shape = VariableNode c; priority = e i } ∷ []

pub greatest_append : (xs ys : List Node) → greatest_node_priority (xs ++ ys) ≡ max (greatest_node_priority xs) (greatest_node_priority ys)
greatest_append [] ys = omega arith
greatest_append (x ∷ xs) ys = let e = greatest_append xs ys in omega arith

-- ---- parts

-- what a node that binds nothing leaves
pub record IsLeaf (old new : Survey) (place : PartPlace) : Type 0 where
  pub priorities : new.priorities ≡ slice_set old.priorities place.at 0
  pub opens : new.opens ≡ old.opens
  pub rule : new.rule ≡ old.rule
  pub room : place.at < length old.priorities

leaf_noted : (old new : Survey) (place : PartPlace) → IsLeaf old new place → slice_index new.priorities place.at ≡ 0
leaf_noted old new place h = ap (λ t. slice_index t place.at) h.priorities ∙ get_or-set_same old.priorities place.at 0 0 h.room

leaf_kept : (old new : Survey) (place : PartPlace) → IsLeaf old new place → (k : ℕ) → k < place.at → slice_index new.priorities k ≡ slice_index old.priorities k
leaf_kept old new place h k below = ap (λ t. slice_index t k) h.priorities ∙ get_or-set_other old.priorities place.at k 0 0 (λ e. omega arith)

junction_zero : (r : Priorities) (at : ℕ) (flag : Bool) (f g : Norm) → 0 ≡ rule_of r at (Junction flag f g)
junction_zero Nested at flag f g = refl
junction_zero Dependent at flag f g = refl

-- past a tree no variable was seen from its end on
pub past_before : (old new : Survey) (place : PartPlace) (f : Norm) (s : Summary) → Surveys old new place f s → AreBefore old.opens place.level place.at
    → AreBefore new.opens place.level s.next
past_before old new place f s w before i below =
    let o = open_at old.opens i in
    let t = tells o.number place.at f o.last (before i below) in
    let low : last_seen o.number place.at f o.last < place.at + size f = t.below in
    let is : (open_at new.opens i).last ≡ last_seen o.number place.at f o.last = ap (λ (x : OpenBinder). x.last) (w.opens i below) in
    let next : s.next ≡ place.at + size f = w.summary.next in
    omega arith

none_first : (n : ℕ) → n ≡ max 0 n
none_first n = omega arith

three : (a b c : ℕ) → max (max a b) c ≡ max a (max b c)
three a b c = omega arith

pub junction_surveys : (old mid one new : Survey) (place : PartPlace) (f g : ℕ → Norm) (first second s : Summary) → IsLeaf old mid place
    → Surveys mid one (record { at = place.at + 1; level = place.level }) (f (place.at + 1)) first
    → Surveys one new (record { at = first.next; level = place.level }) (g first.next) second
    → s ≡ record {
      next = second.next;
      nested = max first.nested second.nested;
      greatest = max first.greatest second.greatest;
      from_least = max first.from_least second.from_least;
      from_greatest = max first.from_greatest second.from_greatest;
    }
    → (flag : Bool) → Surveys old new place (two flag f g place.at) s
junction_surveys old mid one new place f g first second s h w v' is flag =
    let at = place.at in
    let left = f (at + 1) in
    let middle = at + 1 + size left in
    let right = g middle in
    let next : first.next ≡ middle = w.summary.next in
    let v : Surveys one new (record { at = middle; level = place.level }) right second = subst
    (λ n. Surveys one new (record { at = n; level = place.level }) (g n) second) next v' in
    let kept : (k : ℕ) → k < middle → slice_index new.priorities k ≡ slice_index one.priorities k = v.kept in
    let own : slice_index new.priorities at ≡ rule_of old.rule at (two flag f g at) =
    kept at (omega arith) ∙ (w.kept at (omega arith) ∙ (leaf_noted old mid place h ∙ junction_zero old.rule at flag left right))
    in
    let zero = junction_zero old.rule at flag left right in
    let by_left : nodes_by (noted_rule new.priorities) (at + 1) left ≡ nodes_by (rule_of old.rule) (at + 1) left =
    noted_agree new.priorities one.priorities (at + 1) left (λ k low high. kept k high) ∙ (w.priorities ∙ ap (λ r. nodes_by (rule_of r) (at + 1) left) h.rule)
    in
    let by_right : nodes_by (noted_rule new.priorities) middle right ≡ nodes_by (rule_of old.rule) middle right = v.priorities
    ∙ ap (λ r. nodes_by (rule_of r) middle right) (w.rule ∙ h.rule) in
    let first_greatest : first.greatest ≡ greatest_node_priority (nodes_by (rule_of old.rule) (at + 1) left) = w.summary.greatest
    ∙ ap (λ r. greatest_node_priority (nodes_by (rule_of r) (at + 1) left)) h.rule in
    let second_greatest : second.greatest ≡ greatest_node_priority (nodes_by (rule_of old.rule) middle right) = v.summary.greatest
    ∙ ap (λ r. greatest_node_priority (nodes_by (rule_of r) middle right)) (w.rule ∙ h.rule) in
    record {
      priorities = λ i. record { shape = JunctionNode flag (at + 1) middle; priority = own i } ∷ (by_left i ++ by_right i);
      kept = λ k below. kept k (omega arith) ∙ (w.kept k (omega arith) ∙ leaf_kept old mid place h k below);
      opens = λ i below. v.opens i below ∙ (ap (past middle right) (w.opens i below ∙ ap (λ os. past (at + 1) left (open_at os i)) h.opens)
          ∙ (let o = open_at old.opens i in λ j. record {
            number = o.number;
            last = last_seen o.number middle right (last_seen o.number (at + 1) left o.last);
            above = three o.above (above o.number (at + 1) left) (above o.number middle right) j;
          }));
      rule = v.rule ∙ (w.rule ∙ h.rule);
      summary = record {
        next = ap (λ (x : Summary). x.next) is ∙ (let e : second.next ≡ middle + size right = v.summary.next in omega arith);
        nested = ap (λ (x : Summary). x.nested) is ∙ (λ j. max (w.summary.nested j) (v.summary.nested j));
        greatest = ap (λ (x : Summary). x.greatest) is ∙ ((λ j. max (first_greatest j) (second_greatest j))
            ∙ (sym (greatest_append (nodes_by (rule_of old.rule) (at + 1) left) (nodes_by (rule_of old.rule) middle right))
            ∙ (none_first (greatest_node_priority (nodes_by (rule_of old.rule) (at + 1) left ++ nodes_by (rule_of old.rule) middle right))
            ∙ (λ j. max (zero j) (greatest_node_priority (nodes_by (rule_of old.rule) (at + 1) left ++ nodes_by (rule_of old.rule) middle right))))));
        from_least = ap (λ (x : Summary). x.from_least) is ∙ (λ j. max (w.summary.from_least j) (v.summary.from_least j));
        from_greatest = ap (λ (x : Summary). x.from_greatest) is ∙ (λ j. max (w.summary.from_greatest j) (v.summary.from_greatest j));
      };
    }

-- ---- fixpoints

by_rule : (r : Priorities) (at : ℕ) (flag : Bool) (f : Norm) (inside over : ℕ) → inside ≡ greatest_nested f → over ≡ above at (at + 1) f
    → chosen r flag inside over ≡ rule_of r at (Fixpoint flag f)
by_rule Nested at flag f inside over e h = ap (parity_from flag) e
by_rule Dependent at flag f inside over e h = ap (parity_from flag) h

-- what is raised is what the tree has on its own
over_all : (named later : Bool) (old inner priority : ℕ) → later ≡ named
    → (if later then max (max old inner) priority else max old inner) ≡ max old (max (if named then priority else 0) inner)
over_all true true old inner priority e = omega arith
over_all true false old inner priority e = cc
over_all false true old inner priority e = cc
over_all false false old inner priority e = omega arith

later_named : (b at : ℕ) (f : Norm) (last : ℕ) → last < at → nat_lt at (last_seen b (at + 1) f last) ≡ names b f
later_named b at f last h = let t = tells b (at + 1) f last (omega arith) in by_cases (names b f) (last_seen b (at + 1) f last) t.some t.none
  where
    by_cases : (named : Bool) (n : ℕ) → (named ≡ true → at + 1 ≤ n) → (named ≡ false → n ≡ last) → nat_lt at n ≡ named
    by_cases true n some none = lt-ltb at n (omega (arith, some refl))
    by_cases false n some none = le-ltb at n (omega (arith, none refl))

raised_past : (at : ℕ) (flag : Bool) (f : Norm) (o : OpenBinder) → o.last < at
    → raised at (parity_from flag (above at (at + 1) f)) (past (at + 1) f o) ≡ past at (Fixpoint flag f) o
raised_past at flag f o h =
    let e = over_all (names o.number f) (nat_lt at (last_seen o.number (at + 1) f o.last)) o.above (above o.number (at + 1) f)
    (parity_from flag (above at (at + 1) f)) (later_named o.number at f o.last h) in
    λ i. record { number = o.number; last = last_seen o.number (at + 1) f o.last; above = e i }

-- what the binder whose operand begins leaves
pub record IsOpened (old new : Survey) (place : PartPlace) : Type 0 where
  pub opens : new.opens ≡ slice_set old.opens place.level (opened place.at)
  pub priorities : new.priorities ≡ old.priorities
  pub rule : new.rule ≡ old.rule
  pub room : place.level < length old.opens

opened_own : (old new : Survey) (place : PartPlace) → IsOpened old new place → open_at new.opens place.level ≡ opened place.at
opened_own old new place h = ap (λ os. open_at os place.level) h.opens ∙ get_or-set_same old.opens place.level (opened place.at) closed h.room

opened_others : (old new : Survey) (place : PartPlace) → IsOpened old new place → (i : ℕ) → i < place.level → open_at new.opens i ≡ open_at old.opens i
opened_others old new place h i below = ap (λ os. open_at os i) h.opens ∙ get_or-set_other old.opens place.level i (opened place.at) closed (λ e. omega arith)

-- how much its operand has above the binder
pub opened_above : (old mid end : Survey) (place : PartPlace) (f : Norm) (inside : Summary) → IsOpened old mid place
    → Surveys mid end (record { at = place.at + 1; level = place.level + 1 }) f inside
    → (open_at end.opens place.level).above ≡ above place.at (place.at + 1) f
opened_above old mid end place f inside h w =
    let own : open_at end.opens place.level ≡ past (place.at + 1) f (opened place.at) = w.opens place.level (omega arith)
    ∙ ap (past (place.at + 1) f) (opened_own old mid place h) in
    ap (λ (o : OpenBinder). o.above) own ∙ none (above place.at (place.at + 1) f)
  where
    none : (n : ℕ) → max 0 n ≡ n
    none n = omega arith

fixpoint_summary : (flag : Bool) (at : ℕ) (rule : Rule) (f : Norm) (inside s : Summary) (priority : ℕ) → Summarizes rule (at + 1) f inside
    → priority ≡ rule at (Fixpoint flag f) → IsFixpointOf flag inside priority s → Summarizes rule at (Fixpoint flag f) s
fixpoint_summary true at rule f inside s priority h p is =
    record {
      next = let e : s.next ≡ inside.next = is.next in let n : inside.next ≡ at + 1 + size f = h.next in omega arith;
      nested = is.nested ∙ ap (parity_from true) h.nested;
      greatest = is.greatest ∙ (λ i. max (p i) (h.greatest i));
      from_least = is.from_least ∙ (λ i. max (1 + h.from_greatest i) (h.from_least i));
      from_greatest = is.from_greatest ∙ h.from_greatest;
    }
fixpoint_summary false at rule f inside s priority h p is =
    record {
      next = let e : s.next ≡ inside.next = is.next in let n : inside.next ≡ at + 1 + size f = h.next in omega arith;
      nested = is.nested ∙ ap (parity_from false) h.nested;
      greatest = is.greatest ∙ (λ i. max (p i) (h.greatest i));
      from_least = is.from_least ∙ h.from_least;
      from_greatest = is.from_greatest ∙ (λ i. max (1 + h.from_least i) (h.from_greatest i));
    }

-- what is left when its operand has ended
pub record IsClosed (old new : Survey) (place : PartPlace) (flag : Bool) (inside s : Summary) : Type 0 where
  pub own : slice_index new.priorities place.at ≡ chosen old.rule flag inside.nested (open_at old.opens place.level).above
  pub others : (k : ℕ) → k ≢ place.at → slice_index new.priorities k ≡ slice_index old.priorities k
  pub opens : (i : ℕ) → i < place.level → open_at new.opens i ≡ raised place.at (parity_from flag (open_at old.opens place.level).above) (open_at old.opens i)
  pub rule : new.rule ≡ old.rule
  pub summary : IsFixpointOf flag inside (chosen old.rule flag inside.nested (open_at old.opens place.level).above) s

pub fixpoint_surveys : (old mid end new : Survey) (place : PartPlace) (flag : Bool) (f : Norm) (inside s : Summary) → IsOpened old mid place
    → Surveys mid end (record { at = place.at + 1; level = place.level + 1 }) f inside
    → IsClosed end new place flag inside s → AreBefore old.opens place.level place.at → Surveys old new place (Fixpoint flag f) s
fixpoint_surveys old mid end new place flag f inside s h w k before =
    let at = place.at in
    let over : (open_at end.opens place.level).above ≡ above at (at + 1) f = opened_above old mid end place f inside h w in
    let rule : end.rule ≡ old.rule = w.rule ∙ h.rule in
    let priority = chosen end.rule flag inside.nested (open_at end.opens place.level).above in
    let is : priority ≡ rule_of old.rule at (Fixpoint flag f) = by_rule end.rule at flag f inside.nested
    (open_at end.opens place.level).above w.summary.nested over ∙ ap (λ r. rule_of r at (Fixpoint flag f)) rule in
    let own : slice_index new.priorities at ≡ rule_of old.rule at (Fixpoint flag f) = k.own ∙ is in
    let rest : nodes_by (noted_rule new.priorities) (at + 1) f ≡ nodes_by (rule_of old.rule) (at + 1) f =
    noted_agree new.priorities end.priorities (at + 1) f (λ n low high. k.others n (λ e. omega arith))
    ∙ (w.priorities ∙ ap (λ r. nodes_by (rule_of r) (at + 1) f) h.rule)
    in
    record {
      priorities = λ i. record { shape = FixpointNode flag (at + 1); priority = own i } ∷ rest i;
      kept = λ n below. k.others n (λ e. omega arith) ∙ (w.kept n (omega arith) ∙ ap (λ t. slice_index t n) h.priorities);
      opens = λ i below.
          let here : open_at end.opens i ≡ past (at + 1) f (open_at old.opens i) = w.opens i (omega arith)
          ∙ ap (past (at + 1) f) (opened_others old mid place h i below) in
          k.opens i below ∙ ((λ j. raised at (parity_from flag (over j)) (here j)) ∙ raised_past at flag f (open_at old.opens i) (before i below));
      rule = k.rule ∙ rule;
      summary = fixpoint_summary flag at (rule_of old.rule) f inside s priority
          (subst (λ r. Summarizes (rule_of r) (at + 1) f inside) h.rule w.summary) is k.summary;
    }
