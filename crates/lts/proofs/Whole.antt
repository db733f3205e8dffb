-- A header and its transitions are a text of a system.
use Rattle.std.proofs.Common.{◌≡◌, ℕ, inr, List, length, Option, Some, None, Result, sym, subst, arith}
use Rattle.std.specs.Prelude.{IfSome, IfOk, IfErr}
use Rattle.std.specs.List.{AllByRecursion}
use Rattle.lts.specs.declared.error.AutError.{AutError}
use Rattle.lts.specs.declared.error.AutError.TheVariants as errors
use Rattle.lts.specs.declared.scan.Announced.{Announced}
use Rattle.text.specs.Text.{lines}
use Rattle.systems.specs.System.{Arrow, System, IsArrow, set_of}
use Rattle.lts.specs.Aut.{IsAut, IsAutHeader, HasAutFault, HasAutFaultAt}
use Rattle.text.specs.Lines.{IfKnown}
use Rattle.lts.specs.Left.{IsWithinLimits, BeginsSystem, AreTransitions, HasAutRestFault, RefusesAut, aut_fault_of}
use Rattle.text.specs.declared.error.ReadFault.TheVariants as reads
use Rattle.text.specs.Reads.{Reads}
use Rattle.text.proofs.Promised.{AreLaws, keeps}
use Rattle.systems.specs.Numbered.{Numbered}
use Rattle.lts.proofs.Faults.{no_fault, one_fault}
use Rattle.lts.proofs.Unique as unique

whole : (h : Announced) (text left rest : List ℕ) (arrows : List Arrow) (l : System) → IsWithinLimits h → BeginsSystem h text left
    → AreTransitions h arrows left rest → AllByRecursion (IsArrow h.states) arrows
    → l.states ≡ h.states → l.initial ≡ h.initial → l.arrows ≡ set_of arrows → IsAut text l
whole h text left rest arrows l admitted begins are within states initial set = record {
  first = begins.first;
  rest = lines left;
  spelled = arrows;
  cut = begins.cut;
  header = subst (λ n. IsAutHeader begins.first l.initial (length (lines left)) n) (sym states)
      (subst (λ i. IsAutHeader begins.first i (length (lines left)) h.states) (sym initial)
      (subst (λ m. IsAutHeader begins.first h.initial m h.states) (sym are.count) begins.header));
  each = are.each;
  set = set;
  count = omega (arith, are.count, admitted.transitions);
  some = omega (arith, states, admitted.initial);
  limit = omega (arith, states, admitted.states);
  initial = omega (arith, states, initial, admitted.initial);
  within = subst (λ n. AllByRecursion (IsArrow n) arrows) (sym states) within;
}

-- what was read is spelled
pub read_whole : (old mid new : Option (List ℕ)) (h : Announced) (arrows : List Arrow) (l : System) → IsWithinLimits h → IfKnown old mid (BeginsSystem h)
    → IfKnown mid new (AreTransitions h arrows) → AllByRecursion (IsArrow h.states) arrows
    → l.states ≡ h.states → l.initial ≡ h.initial → l.arrows ≡ set_of arrows → IfSome old (λ text. IsAut text l)
read_whole None mid new h arrows l admitted begins are within states initial set = tt
read_whole (Some text) None new h arrows l admitted begins are within states initial set = absurd begins
read_whole (Some text) (Some left) None h arrows l admitted begins are within states initial set = absurd are
read_whole (Some text) (Some left)
    (Some rest) h arrows l admitted begins are within states initial set = whole h text left rest arrows l admitted begins are within states initial set

-- a fault below the header decides
pub read_fault : (old mid : Option (List ℕ)) (h : Announced) (e : AutError) → IsWithinLimits h → IfKnown old mid (BeginsSystem h) → RefusesAut mid (HasAutRestFault h) e
    → RefusesAut old HasAutFault e
read_fault None mid h e admitted begins wrong = tt
read_fault (Some text) None h e admitted begins wrong = absurd begins
read_fault (Some text) (Some left) h errors.Read admitted begins wrong = tt
read_fault (Some text) (Some left) h errors.Memory admitted begins wrong = tt
read_fault (Some text) (Some left) h (errors.Fault fault line) admitted begins (good, body, place) =
    inr (
      begins.first,
      lines left,
      h.initial,
      h.transitions,
      h.states,
      good,
      begins.cut,
      begins.header,
      admitted.transitions,
      admitted.states,
      admitted.initial,
      body,
      place,
    )

pub laws : AreLaws IsAut IsAut IsAut HasAutFaultAt
laws = record {
  one_value = λ text l k a b. unique.one_system text k l b a;
  no_fault = λ text l f a h. no_fault text l f.0 f.1 a h;
  none_due = λ text l f a h. no_fault text l f.0 f.1 a h;
  one_fault = λ text f g h k. let e = one_fault text f.0 g.0 f.1 g.1 h k in λ i. (e.0 i, e.1 i);
}

-- all that the reader promises
pub promised : (old : Option (List ℕ)) (r : Result Numbered AutError) → IfOk r (λ l. IfSome old (λ text. IsAut text l.system))
    → IfErr r (RefusesAut old HasAutFault) → Reads IsAut IsAut IsAut HasAutFaultAt (λ (l : Numbered). l.system) aut_fault_of old r
promised old r spelled fault = keeps IsAut IsAut IsAut HasAutFaultAt (λ (l : Numbered). l.system) aut_fault_of laws old r spelled fault
