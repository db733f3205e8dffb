-- What is known while the lines of transitions are read.
use Rattle.std.proofs.Common.{◌≡◌, ℕ, ◌+◌, ◌<◌, inl, inr, List, [], ◌∷◌, ◌++◌, length, Option, Some, None, refl, sym, ap, ◌∙◌, subst, append_assoc}
use Rattle.std.proofs.Common.{append-nil, arith}
use Rattle.std.specs.Prelude.{IfSome}
use Rattle.std.specs.List.{AllZip, AllByRecursion}
use Rattle.std.proofs.lemmas.List.{length-append, length-map}
use Rattle.lts.specs.declared.error.AutFault.{AutFault}
use Rattle.lts.specs.declared.error.AutFault.TheVariants.{WrongCount}
use Rattle.lts.specs.declared.scan.Announced.{Announced}
use Rattle.systems.specs.declared.system.Transition.{Transition}
use Rattle.text.specs.Text.{lines}
use Rattle.systems.specs.System.{Arrow, IsArrow}
use Rattle.lts.specs.Aut.{IsTransition, IsGoodAutLine}
use Rattle.systems.specs.Numbered.{arrow_of}
use Rattle.lts.specs.Gathered.{Gathers}
use Rattle.text.specs.Lines.{IfKnown}
use Rattle.text.proofs.Streaming.{known_then}
use Rattle.lts.specs.Left.{HasAutRestFault, AreTransitions, ArrowsSoFar, BeginsWithRows, HasNoLine}
use Rattle.lts.proofs.Gathering.{all_append}
use Rattle.lts.proofs.Judging.{GoodRow, BadRow}

pub nothing_yet : (n : ℕ) (old : Option (List ℕ)) (labels : List (List ℕ)) (transitions : List Transition) → Gathers labels transitions []
    → ArrowsSoFar n 0 old old labels transitions
nothing_yet n old labels transitions none = record { arrows = []; within = tt; gathered = none; count = refl; cut = start old }
  where
    start : (old : Option (List ℕ)) → IfKnown old old (BeginsWithRows [])
    start None = tt
    start (Some text) = ([], refl, tt)

each_more : (done : List (List ℕ)) (arrows : List Arrow) (line : List ℕ) (a : Arrow) → AllZip IsTransition done arrows → IsTransition line a
    → AllZip IsTransition (done ++ line ∷ []) (arrows ++ a ∷ [])
each_more [] [] line a each one = (one, tt)
each_more [] (b ∷ arrows) line a each one = absurd each
each_more (l ∷ done) [] line a each one = absurd each
each_more (l ∷ done) (b ∷ arrows) line a each one = (each.0, each_more done arrows line a each.1 one)

rows_more : (n : ℕ) (arrows : List Arrow) (a : Arrow) (text mid left : List ℕ) → BeginsWithRows arrows text mid → GoodRow n a mid left
    → BeginsWithRows (arrows ++ a ∷ []) text left
rows_more n arrows a text mid left (done, cut, each) row = (
  done ++ row.line ∷ [],
  cut ∙ ap (λ l. done ++ l) row.cut
      ∙ sym (append_assoc done (row.line ∷ []) (lines left)),
  each_more done arrows row.line a each row.is,
)

-- one more line
pub line_more : (n good : ℕ) (old mid new : Option (List ℕ)) (labels labels' : List (List ℕ)) (ts ts' : List Transition) (a : Arrow)
    → ArrowsSoFar n good old mid labels ts → IfKnown mid new (GoodRow n a) → IsArrow n a
    → ((arrows : List Arrow) → Gathers labels ts arrows → Gathers labels' ts' (arrows ++ a ∷ [])) → ArrowsSoFar n (good + 1) old new labels' ts'
line_more n good old mid new labels labels' ts ts' a so row inside add = record {
  arrows = so.arrows ++ a ∷ [];
  within = all_append (IsArrow n) so.arrows (a ∷ []) so.within (inside, tt);
  gathered = add so.arrows so.gathered;
  count = omega (arith, length-append so.arrows (a ∷ []), so.count);
  cut = known_then {P = BeginsWithRows so.arrows} {Q = GoodRow n a} {R = BeginsWithRows (so.arrows ++ a ∷ [])} old mid new so.cut row
      (λ text between left rows one. rows_more n so.arrows a text between left rows one);
}

pub good_lines : (n : ℕ) (done : List (List ℕ)) (arrows : List Arrow) → AllZip IsTransition done arrows → AllByRecursion (IsArrow n) arrows
    → AllByRecursion (IsGoodAutLine n) done
good_lines n [] [] each within = tt
good_lines n [] (b ∷ arrows) each within = tt
good_lines n (l ∷ done) [] each within = absurd each
good_lines n (l ∷ done) (b ∷ arrows) each within = ((b, each.0, within.0), good_lines n done arrows each.1 within.1)

-- as many transitions as lines
zip_length : (done : List (List ℕ)) (arrows : List Arrow) → AllZip IsTransition done arrows → length done ≡ length arrows
zip_length [] [] each = refl
zip_length [] (b ∷ arrows) each = absurd each
zip_length (l ∷ done) [] each = absurd each
zip_length (l ∷ done) (b ∷ arrows) each = omega (arith, zip_length done arrows each.1)

-- the lines that were read, in front of the rest
record Front (h : Announced) (good : ℕ) (text left : List ℕ) : Type 0 where
  done : List (List ℕ)
  cut : lines text ≡ done ++ lines left
  goods : AllByRecursion (IsGoodAutLine h.states) done
  count : length done ≡ good

front_of : (h : Announced) (good : ℕ) (text left : List ℕ) (labels : List (List ℕ)) (ts : List Transition)
    → ArrowsSoFar h.states good (Some text) (Some left) labels ts → Front h good text left
front_of h good text left labels ts so =
    let (done, cut, each) = so.cut in record {
      done = done;
      cut = cut;
      goods = good_lines h.states done so.arrows each so.within;
      count = zip_length done so.arrows each ∙ so.count;
    }

-- the lines end too soon
pub too_few : (h : Announced) (good p : ℕ) → p ≡ good → (old mid new : Option (List ℕ)) (labels : List (List ℕ)) (ts : List Transition)
    → ArrowsSoFar h.states good old mid labels ts → IfKnown mid new HasNoLine → good < h.transitions
    → IfSome old (λ text. HasAutRestFault h text WrongCount (p + 2))
too_few h good p at None mid new labels ts so none few = tt
too_few h good p at (Some text) None new labels ts so none few = absurd so.cut
too_few h good p at (Some text) (Some left) None labels ts so none few = absurd none
too_few h good p at (Some text) (Some left) (Some rest) labels ts so none few =
    let front = front_of h good text left labels ts so in (
      good,
      (front.done, [], front.cut ∙ ap (λ l. front.done ++ l) none, front.goods, front.count, inl (refl, few)),
      ap (λ n. n + 2) at,
    )

-- a line is left over
pub too_many : (h : Announced) (good p : ℕ) → p ≡ h.transitions → good ≡ h.transitions
    → (old mid : Option (List ℕ)) (labels : List (List ℕ)) (ts : List Transition) → ArrowsSoFar h.states good old mid labels ts
    → IfSome mid (λ text. (line : List ℕ) × (rest : List (List ℕ)) × (lines text ≡ line ∷ rest)) → IfSome old (λ text. HasAutRestFault h text WrongCount (p + 2))
too_many h good p at all None mid labels ts so more = tt
too_many h good p at all (Some text) None labels ts so more = absurd so.cut
too_many h good p at all (Some text) (Some left) labels ts so (line, rest, more) =
    let front = front_of h good text left labels ts so in (
      h.transitions,
      (front.done, line ∷ rest, front.cut ∙ ap (λ l. front.done ++ l) more, front.goods, front.count ∙ all, inr (λ e. cc, refl)),
      ap (λ n. n + 2) at,
    )

-- the line is faulty
pub bad_row : (h : Announced) (good p : ℕ) → p ≡ good → (old mid : Option (List ℕ)) (labels : List (List ℕ)) (ts : List Transition) (fault : AutFault)
    → ArrowsSoFar h.states good old mid labels ts → IfSome mid (BadRow h.states fault)
    → good < h.transitions → IfSome old (λ text. HasAutRestFault h text fault (p + 2))
bad_row h good p at None mid labels ts fault so row few = tt
bad_row h good p at (Some text) None labels ts fault so row few = absurd so.cut
bad_row h good p at (Some text) (Some left) labels ts WrongCount so row few = absurd row.wrong
bad_row h good p at (Some text) (Some left) labels ts _ so row few =
    let front = front_of h good text left labels ts so in
    (good, (front.done, row.rest, row.line, front.cut ∙ ap (λ l. front.done ++ l) row.cut, front.goods, front.count, few, row.wrong), ap (λ n. n + 2) at)

-- all lines were read
pub all_rows : (h : Announced) (good : ℕ) → good ≡ h.transitions
    → (old mid new : Option (List ℕ)) (labels : List (List ℕ)) (ts : List Transition) (so : ArrowsSoFar h.states good old mid labels ts) → IfKnown mid new HasNoLine
    → IfKnown old new (AreTransitions h so.arrows)
all_rows h good all None mid new labels ts so none = tt
all_rows h good all (Some text) None new labels ts so none = absurd so.cut
all_rows h good all (Some text) (Some left) None labels ts so none = absurd none
all_rows h good all (Some text) (Some left) (Some rest) labels ts so none =
    let (done, cut, each) = so.cut in
    let whole : lines text ≡ done = cut ∙ ap (λ l. done ++ l) none ∙ append-nil done in
    record { each = subst (λ l. AllZip IsTransition l so.arrows) (sym whole) each; count = ap length whole ∙ zip_length done so.arrows each ∙ so.count ∙ all }

pub row_count : (n good : ℕ) (old now : Option (List ℕ)) (labels : List (List ℕ)) (ts : List Transition) → ArrowsSoFar n good old now labels ts → length ts ≡ good
row_count n good old now labels ts so = sym (length-map ts (arrow_of labels)) ∙ ap length so.gathered.spelled ∙ so.count
