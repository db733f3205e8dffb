-- Labels in the order of how many transitions have them.
use Rattle.std.proofs.Common.{◌≡◌, ◌≢◌, ℕ, ◌+◌, ◌<◌, ◌≤◌, inl, inr, Bool, true, false, cond, List, [], ◌∷◌, length, map, get_or, set, take, refl}
use Rattle.std.proofs.Common.{sym, ap, ap₂, ◌∙◌, subst, arith, Ordering, Less, Equal, Greater, get_or-set_same, get_or-set_other}
use Rattle.std.specs.Prelude.{◌==◌, ◌||◌, count_by}
use Rattle.std.specs.List.{All, AllByRecursion, Contains, flat_map, list_any, range_with_len}
use Rattle.std.specs.List.Sorted.{IsPermutation, IsSorted}
use Rattle.std.specs.Ordering.{is_lt, nat_cmp, ordering_reverse, ordering_then}
use Rattle.std.specs.Str.{bytes_eq}
use Rattle.std.specs.Cmp.{nat_cmp_total}
use Rattle.std.proofs.lemmas.Bool.{cases_lt}
use Rattle.std.proofs.lemmas.Bool.Decides.{eqb_tells, nat_tests}
use Rattle.std.proofs.lemmas.Cmp.{nat_list_cmp_total, tied_itself}
use Rattle.std.proofs.lemmas.List.{get_or-map, get_or_default, length-map, length-set, length-take}
use Rattle.std.proofs.lemmas.List.Elements.{All-from_recursion, recursion_from_All}
use Rattle.std.proofs.lemmas.List.FromFn.{fill_by_all, get_or-map-range_with_len, length-map-range_with_len}
use Rattle.std.proofs.lemmas.List.Sorted.{All-permutation, IsPermutation-map}
use Rattle.std.proofs.lemmas.List.Sums.{count_by-le-length, count_by_more_no, count_by_more_yes, sum_by-cons}
use Rattle.std.proofs.lemmas.Slice.Eq.{bytes_eq-Decides}
use Rattle.std.proofs.lemmas.Option.{get_or_from_slice_get, slice_get_within}
use Rattle.text.specs.Wrote.{lines_from}
use Rattle.systems.specs.Label.{bytes_cmp}
use Rattle.systems.specs.Numbered.{Numbered, AreAscending, AreUsed, IsInside, arrow_of, label_at}
use Rattle.systems.specs.System.{Arrow}
use Rattle.systems.specs.declared.system.Transition.{Transition}
use Rattle.calculus.specs.Nodes.{Node}
use Rattle.calculus.specs.NodeView.{nodes_of, shape_of}
use Rattle.calculus.specs.declared.node.Node as declared
use Rattle.lts.proofs.Listed.{listed}
use Rattle.commands.specs.Labels.{IsLabelsText, has_label, is_taken, label_line, rank_cmp, times_of}
use Rattle.commands.specs.Ranking.{AreCounted, IsCounted, IsRanking, counted_at, counted_line_at, counted_line_of, times_among}
use Rattle.commands.specs.declared.label_counts.Counted.{Counted}

-- ------------------------------------------------------------------ counts

-- the counts of the first transitions
pub record CountsSoFar (n : ℕ) (ts : List Transition) (counts : List ℕ) : Type 0 where
  pub long : length counts ≡ n
  pub each : (k : ℕ) → k < n → get_or counts k 0 ≡ times_among ts k

test : (a b : ℕ) → a ≡ b → (a == b) ≡ true
test a b e = grind (arith, nat_tests)

other : (a b : ℕ) → a ≢ b → (a == b) ≡ false
other a b e = grind (arith, nat_tests)

-- one transition more
pub counts_more : (n : ℕ) (ts : List Transition) (i : ℕ) (d : Transition) (counts : List ℕ) (x : ℕ) → i < length ts → (get_or ts i d).label < n
    → x ≡ get_or counts (get_or ts i d).label x → CountsSoFar n (take i ts) counts
    → CountsSoFar n (take (i + 1) ts) (set counts (get_or ts i d).label (x + 1))
counts_more n ts i d counts x below within is so = more (get_or ts i d).label refl within is
  where
    more : (at : ℕ) → (get_or ts i d).label ≡ at → at < n → x ≡ get_or counts at x → CountsSoFar n (take (i + 1) ts) (set counts at (x + 1))
    more at same within is =
        let there : at < length counts = omega (arith, so.long, within) in
        record {
          long = length-set counts at (x + 1) ∙ so.long;
          each = λ k h. elim (eqb_tells k at) [
            | inl w ↦ ap (λ j. get_or (set counts at (x + 1)) j 0) w.1 ∙ (get_or-set_same counts at (x + 1) 0 there
                ∙ (ap (λ y. y + 1) (is ∙ (get_or_default counts at x 0 there ∙ (ap (λ j. get_or counts j 0) (sym w.1) ∙ so.each k h)))
                ∙ sym (count_by_more_yes (λ (t : Transition). t.label == k) ts i d below (test _ k (same ∙ sym w.1)))))
            | inr w ↦ get_or-set_other counts at k (x + 1) 0 w.1
                ∙ (so.each k h ∙ sym (count_by_more_no (λ (t : Transition). t.label == k) ts i d below (other _ k (λ e. w.1 (sym e ∙ same)))))
          ];
        }

-- a count isn't above the number of transitions
pub count_low : (n : ℕ) (ts : List Transition) (i k : ℕ) (counts : List ℕ) (x : ℕ) → k < n → x ≡ get_or counts k x → CountsSoFar n (take i ts) counts
    → x ≤ length ts
count_low n ts i k counts x within is so =
    let same : x ≡ times_among (take i ts) k = is ∙ (get_or_default counts k x 0 (omega (arith, so.long, within)) ∙ so.each k within) in
    omega (arith, same, count_by-le-length (λ (t : Transition). t.label == k) (take i ts), length-take {A = Transition})

-- of all of them
pub all_counts : (n : ℕ) (ts : List Transition) (counts : List ℕ) → CountsSoFar n ts counts → counts ≡ map (times_among ts) (range_with_len 0 n)
all_counts n ts counts so = fill_by_all (times_among ts) counts n 0 so.long so.each

-- ------------------------------------------------------------------ the order

less_is : (o : Ordering) → is_lt o ≡ true → o ≡ Less
less_is Less e = refl
less_is Equal e = cc
less_is Greater e = cc

number_less : (j k : ℕ) → j < k → nat_cmp j k ≡ Less
number_less j k h = grind (arith, nat_tests)

-- labels stand in the order of their numbers
label_order : (labels : List (List ℕ)) → AreAscending labels → (j k : ℕ) → j < length labels → k < length labels
    → bytes_cmp (label_at labels j) (label_at labels k) ≡ nat_cmp j k
label_order labels up j k first second =
    elim (eqb_tells j k) [
      | inl w ↦ ap (λ i. bytes_cmp (label_at labels i) (label_at labels k)) w.1
          ∙ (tied_itself nat_list_cmp_total (label_at labels k) ∙ sym (ap (λ i. nat_cmp i k) w.1 ∙ tied_itself nat_cmp_total k))
      | inr w ↦ elim (cases_lt j k) [
        | inl h ↦ less_is _ (up j k h second) ∙ sym (number_less j k h)
        | inr h ↦
            let below : k < j = omega (arith, w.1) in
            nat_list_cmp_total.antisymm (label_at labels j) (label_at labels k)
            ∙ (ap ordering_reverse (less_is _ (up k j below first) ∙ sym (number_less k j below)) ∙ sym (nat_cmp_total.antisymm j k))
      ]
    ]

-- two labels are the same where their numbers are
same_label : (labels : List (List ℕ)) → AreAscending labels → (j k : ℕ) → j < length labels → k < length labels
    → bytes_eq (label_at labels j) (label_at labels k) ≡ (j == k)
same_label labels up j k first second =
    elim (eqb_tells j k) [
      | inl w ↦ (bytes_eq-Decides (label_at labels j) (label_at labels k)).1 (ap (label_at labels) w.1) ∙ sym w.0
      | inr w ↦ differ (bytes_eq (label_at labels j) (label_at labels k)) refl w.0 w.1
    ]
  where
    number_tied : (j k : ℕ) → nat_cmp j k ≡ Equal → j ≡ k
    number_tied j k e = grind (arith, nat_tests)

    differ : (b : Bool) → bytes_eq (label_at labels j) (label_at labels k) ≡ b → (j == k) ≡ false → j ≢ k
        → bytes_eq (label_at labels j) (label_at labels k) ≡ (j == k)
    differ false e none apart = e ∙ sym none
    differ true e none apart =
        let same = (bytes_eq-Decides (label_at labels j) (label_at labels k)).0 e in
        let tied : nat_cmp j k ≡ Equal = sym (label_order labels up j k first second)
        ∙ (ap (λ l. bytes_cmp l (label_at labels k)) same ∙ tied_itself nat_list_cmp_total (label_at labels k)) in
        absurd (apart (number_tied j k tied))

-- so many transitions have a label as have its number
times_same : (l : Numbered) → AreAscending l.labels → (ts : List Transition) → IsInside l ts → (k : ℕ) → k < length l.labels
    → times_among ts k ≡ count_by (λ (a : Arrow). bytes_eq a.label (label_at l.labels k)) (map (arrow_of l.labels) ts)
times_same l up [] inside k h = refl
times_same l up (t ∷ ts) inside k h =
    let same = same_label l.labels up t.label k inside.0.label h in
    sum_by-cons (λ (t : Transition). cond (t.label == k) 1 0) t ts
    ∙ (ap₂ (λ b n. cond b 1 0 + n) (sym same) (times_same l up ts inside.1 k h)
    ∙ sym (sum_by-cons (λ (a : Arrow). cond (bytes_eq a.label (label_at l.labels k)) 1 0) (arrow_of l.labels t) (map (arrow_of l.labels) ts)))

-- ------------------------------------------------------------------ the ranking

abbrev pub counted_cmp : Counted → Counted → Ordering
counted_cmp x y = ordering_then (nat_cmp y.count.0 x.count.0) (nat_cmp x.number y.number)

abbrev label_of : Numbered → Counted → List ℕ
label_of l c = label_at l.labels c.number

ranked_as : (l : Numbered) → AreAscending l.labels → (x y : Counted) → IsCounted l x → IsCounted l y
    → rank_cmp l.system (label_of l x) (label_of l y) ≡ counted_cmp x y
ranked_as l up x y one other =
    ap₂ (λ m n. ordering_then (nat_cmp n m) (bytes_cmp (label_of l x) (label_of l y))) (sym one.count) (sym other.count)
    ∙ ap (λ o. ordering_then (nat_cmp y.count.0 x.count.0) o) (label_order l.labels up x.number y.number one.inside other.inside)

abbrev pub none : Counted
none = record { count = record { 0 = 0 }; number = 0 }

module _ (l : Numbered) (ts : List Transition) (up : AreAscending l.labels) (inside : IsInside l ts) (arrows : map (arrow_of l.labels) ts ≡ l.system.arrows) where
  abbrev n : ℕ
  n = length l.labels

  abbrev counts : List ℕ
  counts = map (times_among ts) (range_with_len 0 n)

  abbrev old : List Counted
  old = map (counted_at counts) (range_with_len 0 n)

  counted_there : (k : ℕ) → k < n → IsCounted l (counted_at counts k)
  counted_there k h = record {
    inside = h;
    count = get_or-map-range_with_len (times_among ts) 0 n k k 0 h (omega arith)
        ∙ (times_same l up ts inside k h ∙ ap (count_by (λ (a : Arrow). bytes_eq a.label (label_at l.labels k))) arrows);
  }

  all_counted : All (IsCounted l) old
  all_counted k d h =
      let below : k < n = omega (arith, length-map-range_with_len (counted_at counts) 0 n) in
      subst (IsCounted l) (sym (get_or-map-range_with_len (counted_at counts) 0 n k k d below (omega arith))) (counted_there k below)

  labels_are : map (label_of l) old ≡ l.labels
  labels_are = mapped (range_with_len 0 n) ∙ sym (fill_by_all (label_at l.labels) l.labels n [] refl (λ k h. refl))
    where
      mapped : (ks : List ℕ) → map (label_of l) (map (counted_at counts) ks) ≡ map (label_at l.labels) ks
      mapped [] = refl
      mapped (k ∷ ks) = ap (λ xs. label_at l.labels k ∷ xs) (mapped ks)

  all_there : (us : List Transition) → IsInside l us → AllByRecursion (λ (a : Arrow). Contains l.labels a.label) (map (arrow_of l.labels) us)
  all_there [] h = tt
  all_there (t ∷ us) h = ((t.label, h.0.label, get_or_default l.labels t.label _ [] h.0.label), all_there us h.1)

  -- the sorted labels
  pub ranking_of : (new : List Counted) → AreUsed l → IsPermutation old new → IsSorted counted_cmp new → IsRanking l new
  ranking_of new used moved sorted = record {
    each = recursion_from_All (IsCounted l) new counted;
    ranked = record {
      labels = l.labels;
      are = record {
        once = up;
        used = used;
        all = subst (AllByRecursion (λ (a : Arrow). Contains l.labels a.label)) arrows (all_there ts inside);
      };
      moved = subst (λ labels. IsPermutation labels (map (label_of l) new)) labels_are (IsPermutation-map (label_of l) old new moved);
      sorted = λ k d low high.
          let long = length-map new (label_of l) in
          let here : k < length new = omega (arith, long, high) in
          let next : k + 1 < length new = omega (arith, long, high) in
          let x = get_or-map (label_of l) new (k + 1) none d next in
          let y = get_or-map (label_of l) new k none d here in
          ap₂ (λ a b. is_lt (rank_cmp l.system a b)) x y
          ∙ (ap is_lt (ranked_as l up (get_or new (k + 1) none) (get_or new k none) (counted (k + 1) none next) (counted k none here))
          ∙ sorted k none low next);
    };
  }
    where
      counted : All (IsCounted l) new
      counted = All-permutation (IsCounted l) old new moved all_counted

-- ------------------------------------------------------------------ the lines

-- a line for each label
abbrev pub lines_of : Numbered → List Node → List Counted → List ℕ
lines_of l form counted = flat_map (λ label. label_line (times_of l.system label) label (is_taken form label)) (map (label_of l) counted)

-- they are the text of the labels
pub listed_by : (l : Numbered) (form : List Node) (counted : List Counted) → IsRanking l counted → IsLabelsText l.system form (lines_of l form counted)
listed_by l form counted ranking = record { labels = map (label_of l) counted; ranked = ranking.ranked; lines = refl }

-- the lines by number are all of them
pub all_lines : (l : Numbered) (form : List Node) (counted : List Counted) → AreCounted l counted
    → lines_from (counted_line_at l.labels form counted) 0 (length counted) ≡ lines_of l form counted
all_lines l form counted each = listed (λ label. label_line (times_of l.system label) label (is_taken form label)) (label_of l)
    (counted_line_at l.labels form counted) 0 counted (λ i c is.
    let same : 0 + i ≡ i = omega arith in
    let here : IsCounted l c = subst (IsCounted l) (get_or_from_slice_get counted i c c is)
    (All-from_recursion (IsCounted l) counted each i c (slice_get_within counted i c is)) in
    ap (counted_line_at l.labels form counted) same ∙ (ap (counted_line_of l.labels form) is
    ∙ ap (λ n. label_line n (label_of l c) (is_taken form (label_of l c))) here.count))

-- a node of the program takes a label where the node that it stands for does
pub taken_by : (label : List ℕ) (xs : List declared.Node) → list_any (λ (x : declared.Node). has_label label (shape_of x.kind)) xs ≡ is_taken (nodes_of xs) label
taken_by label [] = refl
taken_by label (x ∷ xs) = ap (λ b. has_label label (shape_of x.kind) || b) (taken_by label xs)
