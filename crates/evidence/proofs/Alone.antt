-- A text spells one evidence at most, and has one fault at most, but not both.
use Rattle.std.proofs.Common.{◌≡◌, ◌≢◌, ℕ, suc, ◌+◌, ◌<◌, inl, inr, List, [], ◌∷◌, ◌++◌, Option, Some, None, length, refl, sym, ap, ◌∙◌, subst, arith}
use Rattle.std.proofs.Common.{slice_index_or}
use Rattle.std.specs.Prelude.{AllPairs, Contains}
use Rattle.std.specs.List.{AllByRecursion, AllZip}
use Rattle.std.proofs.Math.ListN.{get_or-append}
use Rattle.std.proofs.lemmas.Bool.{cases_lt}
use Rattle.std.proofs.lemmas.List.{length-append}
use Rattle.text.specs.Text.{pieces_of}
use Rattle.game.specs.Game.{Game}
use Rattle.game.specs.declared.player.Player.{Player}
use Rattle.game.specs.declared.player.Player.TheVariants.{Even, Odd}
use Rattle.evidence.specs.Canon.{header}
use Rattle.evidence.specs.Evidence.{Entry, Evidence, counted}
use Rattle.evidence.specs.Fault.{HasEvidenceFault, IsFaultyRest, IsMisplaced, EvidenceLineFault}
use Rattle.evidence.specs.Spelling.{AreGoodRows, AreLines, AreEntriesOf, IsEvidenceText, IsRowInside, IsShaped, EntryRow}
use Rattle.evidence.specs.declared.error.EvidenceFault.{EvidenceFault}
use Rattle.evidence.specs.declared.error.EvidenceFault.TheVariants.{BadHeader, BadLine, BadVertex}
use Rattle.evidence.proofs.Scanned.{row_same}

tails : {X : Type 0} (x y : X) (xs ys : List X) → x ∷ xs ≡ y ∷ ys → (x ≡ y) × (xs ≡ ys)
tails x y xs ys e = (cc, cc)

header_alone : (p q : Player) → header p ≡ header q → p ≡ q
header_alone Even Even e = refl
header_alone Even Odd e = absurd (omega (arith, ap length e))
header_alone Odd Even e = absurd (omega (arith, ap length e))
header_alone Odd Odd e = refl

-- the same player, and the same lines below the header
cut_alone : (all rest rest' : List (List ℕ)) (p q : Player) → all ≡ header p ∷ rest → all ≡ header q ∷ rest' → (p ≡ q) × (rest ≡ rest')
cut_alone all rest rest' p q a b = let t = tails (header p) (header q) rest rest' (sym a ∙ b) in (header_alone p q t.0, t.1)

rows_same : (w : ℕ) (lines : List (List ℕ)) (xs ys : List EntryRow) → AllZip (IsShaped w) lines xs → AllZip (IsShaped w) lines ys → xs ≡ ys
rows_same w [] [] [] h k = refl
rows_same w [] [] (y ∷ ys) h k = absurd k
rows_same w [] (x ∷ xs) ys h k = absurd h
rows_same w (line ∷ lines) [] ys h k = absurd h
rows_same w (line ∷ lines) (x ∷ xs) [] h k = absurd k
rows_same w (line ∷ lines) (x ∷ xs) (y ∷ ys) h k =
    let e = row_same w line x y h.0 k.0 in
    let r = rows_same w lines xs ys h.1 k.1 in
    λ i. e i ∷ r i

option_same : (o p : Option Entry) → ((x : Entry) → o ≡ Some x → p ≡ Some x) → ((x : Entry) → p ≡ Some x → o ≡ Some x) → o ≡ p
option_same None None f k = refl
option_same None (Some y) f k = k y refl
option_same (Some x) p f k = sym (f x refl)

list_same : (es fs : List (Option Entry)) → length es ≡ length fs → ((v : ℕ) → slice_index_or es v None ≡ slice_index_or fs v None) → es ≡ fs
list_same [] [] l h = refl
list_same [] (y ∷ fs) l h = absurd (omega (arith, l))
list_same (x ∷ es) [] l h = absurd (omega (arith, l))
list_same (x ∷ es) (y ∷ fs) l h = let first : x ≡ y = h 0 in let rest = list_same es fs (omega (arith, l)) (λ v. h (suc v)) in λ i. first i ∷ rest i

entries_same : (n w : ℕ) (rest : List (List ℕ)) (es fs : List (Option Entry)) → AreLines n w rest es → AreLines n w rest fs → es ≡ fs
entries_same n w rest es fs a b =
    let rows = rows_same w rest a.rows b.rows a.good.each b.good.each in
    let same : AreEntriesOf a.rows fs = subst (λ rows. AreEntriesOf rows fs) (sym rows) b.same in
    list_same es fs (a.long ∙ sym b.long) (λ v. option_same (slice_index_or es v None) (slice_index_or fs v None) (λ x e. (same v x).1 ((a.same v x).0 e))
    (λ x e. (a.same v x).1 ((same v x).0 e)))

-- A text spells one evidence.
pub one_evidence : (g : Game) (text : List ℕ) (e f : Evidence) → IsEvidenceText g text e → IsEvidenceText g text f → e ≡ f
one_evidence g text e f a b =
    let same = cut_alone (pieces_of text) a.rest b.rest e.player f.player a.cut b.cut in
    let lines : AreLines (length g.vertices) (length (counted e.player g)) a.rest f.entries = subst
    (λ p. AreLines (length g.vertices) (length (counted p g)) a.rest f.entries) (sym same.0)
    (subst (λ rest. AreLines (length g.vertices) (length (counted f.player g)) rest f.entries) (sym same.1) b.lines) in
    let entries = entries_same (length g.vertices) (length (counted e.player g)) a.rest e.entries f.entries a.lines lines in
    λ i. record { player = same.0 i; entries = entries i }

-- ---- a line among good ones has no fault

record IsSplit (w : ℕ) (front : List (List ℕ)) (line : List ℕ) (rows : List EntryRow) : Type 0 where
  before : List EntryRow
  row : EntryRow
  after : List EntryRow
  is : rows ≡ before ++ row ∷ after
  each : AllZip (IsShaped w) front before
  shaped : IsShaped w line row

split_of : (w : ℕ) (front : List (List ℕ)) (line : List ℕ) (back : List (List ℕ)) (rows : List EntryRow) → AllZip (IsShaped w) (front ++ line ∷ back) rows
    → IsSplit w front line rows
split_of w [] line back [] h = absurd h
split_of w [] line back (x ∷ rows) h = record { before = []; row = x; after = rows; is = refl; each = tt; shaped = h.0 }
split_of w (l ∷ front) line back [] h = absurd h
split_of w (l ∷ front) line back (x ∷ rows) h =
    let s = split_of w front line back rows h.1 in
    record { before = x ∷ s.before; row = s.row; after = s.after; is = ap (λ l. x ∷ l) s.is; each = (h.0, s.each); shaped = s.shaped }

middle : (P : EntryRow → Type 0) (front : List EntryRow) (x : EntryRow) (back : List EntryRow) → AllByRecursion P (front ++ x ∷ back) → P x
middle P [] x back all = all.0
middle P (y ∷ front) x back all = middle P front x back all.1

seam : (front : List EntryRow) (x : EntryRow) (back : List EntryRow) (d : EntryRow) → slice_index_or (front ++ x ∷ back) (length front) d ≡ x
seam [] x back d = refl
seam (y ∷ front) x back d = seam front x back d

apart : (front : List EntryRow) (x y : EntryRow) (back : List EntryRow) → AllPairs (λ (a b : EntryRow). a.vertex ≢ b.vertex) (front ++ x ∷ back) → Contains front y
    → y.vertex ≢ x.vertex
apart front x y back once (k, h, is) e =
    let long = length-append front (x ∷ back) in
    let at : slice_index_or (front ++ x ∷ back) k y ≡ y = get_or-append front (x ∷ back) y k h ∙ is in
    once k (length front) y h (omega arith) (ap (λ (r : EntryRow). r.vertex) at ∙ (e ∙ sym (ap (λ (r : EntryRow). r.vertex) (seam front x back y))))

no_line : (n w : ℕ) (front : List (List ℕ)) (line : List ℕ) (back : List (List ℕ)) (rows before : List EntryRow) (fault : EvidenceFault)
    → AreGoodRows n w (front ++ line ∷ back) rows → AreGoodRows n w front before → EvidenceLineFault n w before line fault → ⊥
no_line n w front line back rows before BadHeader all some wrong = wrong
no_line n w front line back rows before BadLine all some wrong = let s = split_of w front line back rows all.each in wrong s.row s.shaped
no_line n w front line back rows before BadVertex all some (y, shaped, place) = misplaced place
  where
    s : IsSplit w front line rows
    s = split_of w front line back rows all.each

    same : y ≡ (split_of w front line back rows all.each).row
    same = row_same w line y (split_of w front line back rows all.each).row shaped (split_of w front line back rows all.each).shaped

    inside : IsRowInside n y
    inside =
        let s = split_of w front line back rows all.each in
        subst (IsRowInside n) (sym same) (middle (IsRowInside n) s.before s.row s.after (subst (AllByRecursion (IsRowInside n)) s.is all.inside))

    misplaced : IsMisplaced n before y → ⊥
    misplaced (inl past) = absurd (omega (arith, inside.vertex, past))
    misplaced (inr (inl (t, e, far))) = absurd (omega (arith, inside.move t e, far))
    misplaced (inr (inr (other, stands, e))) =
        let s = split_of w front line back rows all.each in
        let front_same = rows_same w front before s.before some.each s.each in
        apart s.before s.row other s.after (subst (AllPairs (λ (a b : EntryRow). a.vertex ≢ b.vertex)) s.is all.once)
        (subst (λ (l : List EntryRow). Contains l other) front_same stands) (e ∙ ap (λ (r : EntryRow). r.vertex) same)

-- ---- one fault

longer : (fs gs bs cs : List (List ℕ)) (l m : List ℕ) → fs ++ l ∷ bs ≡ gs ++ m ∷ cs → length fs < length gs → (mid : List (List ℕ)) × (gs ≡ fs ++ l ∷ mid)
longer fs [] bs cs l m e h = absurd (omega (arith, h))
longer [] (x ∷ gs) bs cs l m e h = (gs, ap (λ k. k ∷ gs) (sym (tails l x bs (gs ++ m ∷ cs) e).0))
longer (a ∷ fs) (x ∷ gs) bs cs l m e h =
    let t = tails a x (fs ++ l ∷ bs) (gs ++ m ∷ cs) e in
    let (mid, is) = longer fs gs bs cs l m t.1 (omega (arith, h)) in
    (mid, λ i. sym t.0 i ∷ is i)

level : (fs gs bs cs : List (List ℕ)) (l m : List ℕ) → fs ++ l ∷ bs ≡ gs ++ m ∷ cs → length fs ≡ length gs → (fs ≡ gs) × (l ≡ m)
level [] [] bs cs l m e h = (refl, (tails l m bs cs e).0)
level [] (x ∷ gs) bs cs l m e h = absurd (omega (arith, h))
level (a ∷ fs) [] bs cs l m e h = absurd (omega (arith, h))
level (a ∷ fs) (x ∷ gs) bs cs l m e h =
    let t = tails a x (fs ++ l ∷ bs) (gs ++ m ∷ cs) e in
    let r = level fs gs bs cs l m t.1 (omega (arith, h)) in
    (λ i. t.0 i ∷ r.0 i, r.1)

not_before : (n w : ℕ) (rest : List (List ℕ)) (f h : EvidenceFault) (i j : ℕ) → IsFaultyRest n w rest f i → IsFaultyRest n w rest h j → i < j → ⊥
not_before n w rest f h i j p q less =
    let (mid, is) = longer p.front q.front p.back q.back p.line q.line (sym p.cut ∙ q.cut) (omega (arith, p.count, q.count, less)) in
    no_line n w p.front p.line mid q.before p.before f (subst (λ l. AreGoodRows n w l q.before) is q.fine) p.fine p.wrong

one_line : (n w : ℕ) (before : List EntryRow) (line : List ℕ) (f h : EvidenceFault) → EvidenceLineFault n w before line f → EvidenceLineFault n w before line h → f ≡ h
one_line n w before line BadHeader h p q = absurd p
one_line n w before line BadLine BadHeader p q = absurd q
one_line n w before line BadLine BadLine p q = refl
one_line n w before line BadLine BadVertex p q = absurd (p q.0 q.1)
one_line n w before line BadVertex BadHeader p q = absurd q
one_line n w before line BadVertex BadLine p q = absurd (q p.0 p.1)
one_line n w before line BadVertex BadVertex p q = refl

one_rest : (n w : ℕ) (rest : List (List ℕ)) (f h : EvidenceFault) (i j : ℕ) → IsFaultyRest n w rest f i → IsFaultyRest n w rest h j → (f ≡ h) × (i ≡ j)
one_rest n w rest f h i j p q =
    let at : i ≡ j = elim (cases_lt i j) [
      | inl less ↦ absurd (not_before n w rest f h i j p q less)
      | inr low ↦ elim (cases_lt j i) [ inl less ↦ absurd (not_before n w rest h f j i q p less) | inr high ↦ omega arith ]
    ] in
    let same = level p.front q.front p.back q.back p.line q.line (sym p.cut ∙ q.cut) (p.count ∙ at ∙ sym q.count) in
    let before = rows_same w p.front p.before q.before p.fine.each (subst (λ l. AllZip (IsShaped w) l q.before) (sym same.0) q.fine.each) in
    let wrong : EvidenceLineFault n w p.before p.line h = subst (λ rows. EvidenceLineFault n w rows p.line h) (sym before)
    (subst (λ line. EvidenceLineFault n w q.before line h) (sym same.1) q.wrong) in
    (one_line n w p.before p.line f h p.wrong wrong, at)

-- a fault below a header
abbrev IsBelow : Game → List ℕ → EvidenceFault → ℕ → Type 0
IsBelow g text fault place =
    (player : Player) × (rest : List (List ℕ)) × (good : ℕ) × (pieces_of text ≡ header player ∷ rest)
    × IsFaultyRest (length g.vertices) (length (counted player g)) rest fault good × (place ≡ good + 2)

one_below : (g : Game) (text : List ℕ) (f h : EvidenceFault) (i j : ℕ) → IsBelow g text f i → IsBelow g text h j → (f ≡ h) × (i ≡ j)
one_below g text f h i j (p, rest, good, cut, faulty, at) (q, rest', good', cut', faulty', at') =
    let same = cut_alone (pieces_of text) rest rest' p q cut cut' in
    let other = subst (λ l. IsFaultyRest (length g.vertices) (length (counted p g)) l h good') (sym same.1)
    (subst (λ player. IsFaultyRest (length g.vertices) (length (counted player g)) rest' h good') (sym same.0) faulty') in
    let (fault, goods) = one_rest (length g.vertices) (length (counted p g)) rest f h good good' faulty other in
    (fault, at ∙ (ap (λ k. k + 2) goods ∙ sym at'))

pub one_fault : (g : Game) (text : List ℕ) (f h : EvidenceFault) (i j : ℕ) → HasEvidenceFault g text f i → HasEvidenceFault g text h j → (f ≡ h) × (i ≡ j)
one_fault g text BadHeader BadHeader i j a b = (refl, a.1 ∙ sym b.1)
one_fault g text BadHeader BadLine i j a b = absurd (a.0 b.0 b.1 b.3)
one_fault g text BadHeader BadVertex i j a b = absurd (a.0 b.0 b.1 b.3)
one_fault g text BadLine BadHeader i j a b = absurd (b.0 a.0 a.1 a.3)
one_fault g text BadVertex BadHeader i j a b = absurd (b.0 a.0 a.1 a.3)
one_fault g text BadLine BadLine i j a b = one_below g text BadLine BadLine i j a b
one_fault g text BadLine BadVertex i j a b = one_below g text BadLine BadVertex i j a b
one_fault g text BadVertex BadLine i j a b = one_below g text BadVertex BadLine i j a b
one_fault g text BadVertex BadVertex i j a b = one_below g text BadVertex BadVertex i j a b

no_below : (g : Game) (text : List ℕ) (e : Evidence) (fault : EvidenceFault) (place : ℕ) → IsEvidenceText g text e → IsBelow g text fault place → ⊥
no_below g text e fault place a (p, rest, good, cut, faulty, at) =
    let same = cut_alone (pieces_of text) rest a.rest p e.player cut a.cut in
    let n = length g.vertices in
    let lines : AreGoodRows n (length (counted p g)) a.rest a.lines.rows = subst (λ player. AreGoodRows n (length (counted player g)) a.rest a.lines.rows)
    (sym same.0) a.lines.good in
    let all : AreGoodRows n (length (counted p g)) (faulty.front ++ faulty.line ∷ faulty.back) a.lines.rows = subst
    (λ l. AreGoodRows n (length (counted p g)) l a.lines.rows) (sym same.1 ∙ faulty.cut) lines in
    no_line n (length (counted p g)) faulty.front faulty.line faulty.back a.lines.rows faulty.before fault all faulty.fine faulty.wrong

pub no_fault : (g : Game) (text : List ℕ) (e : Evidence) (fault : EvidenceFault) (place : ℕ) → IsEvidenceText g text e → HasEvidenceFault g text fault place → ⊥
no_fault g text e BadHeader place a b = b.0 e.player a.rest a.cut
no_fault g text e BadLine place a b = no_below g text e BadLine place a b
no_fault g text e BadVertex place a b = no_below g text e BadVertex place a b
