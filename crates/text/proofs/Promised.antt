-- A reader's promise, from what it says of its answers and refusals and from the laws of its texts.
use Rattle.std.proofs.Common.{◌≡◌, ℕ, List, Option, Some, None, Result, Ok, Err, refl}
use Rattle.std.specs.Prelude.{IfOk, IfErr, IfSome}
use Rattle.text.specs.Reads.{Reads}

-- One value is spelled, a text that spells one has no fault, and one fault decides.
pub record AreLaws {V F : Type 0} (spells answers due : List ℕ → V → Type 0) (faulty : List ℕ → F → Type 0) : Type 0 where
  pub one_value : (bytes : List ℕ) (v w : V) → answers bytes v → spells bytes w → w ≡ v
  pub no_fault : (bytes : List ℕ) (v : V) (f : F) → answers bytes v → faulty bytes f → ⊥
  pub none_due : (bytes : List ℕ) (v : V) (f : F) → due bytes v → faulty bytes f → ⊥
  pub one_fault : (bytes : List ℕ) (f g : F) → faulty bytes f → faulty bytes g → f ≡ g

module _ {A V E F : Type 0} (spells answers due : List ℕ → V → Type 0) (faulty : List ℕ → F → Type 0) (view : A → V) (named : E → Option F)
    (laws : AreLaws spells answers due faulty) where
  told_none : (o : Option F) (bytes : List ℕ) (v : V) → due bytes v → IfSome o (faulty bytes) → o ≡ None
  told_none None bytes v d h = refl
  told_none (Some f) bytes v d h = absurd (laws.none_due bytes v f d h)

  told_one : (o : Option F) (bytes : List ℕ) (f : F) → IfSome o (faulty bytes) → faulty bytes f → IfSome o (λ told. told ≡ f)
  told_one None bytes f h k = tt
  told_one (Some g) bytes f h k = laws.one_fault bytes g f h k

  pub keeps : (text : Option (List ℕ)) (r : Result A E) → IfOk r (λ a. IfSome text (λ bytes. answers bytes (view a)))
      → IfErr r (λ e. IfSome text (λ bytes. IfSome (named e) (faulty bytes))) → Reads spells answers due faulty view named text r
  keeps None (Ok a) spelled fault = record { spelled = tt; only = tt; complete = tt; none = tt; exact = tt; fault = tt }
  keeps None (Err e) spelled fault = record { spelled = tt; only = tt; complete = tt; none = tt; exact = tt; fault = tt }
  keeps (Some bytes) (Ok a) spelled fault = record {
    spelled = spelled;
    only = λ other k. laws.one_value bytes (view a) other spelled k;
    complete = tt;
    none = λ f k. laws.no_fault bytes (view a) f spelled k;
    exact = tt;
    fault = tt;
  }
  keeps (Some bytes) (Err e) spelled fault = record {
    spelled = tt;
    only = tt;
    complete = λ v d. told_none (named e) bytes v d fault;
    none = tt;
    exact = λ f k. told_one (named e) bytes f fault k;
    fault = fault;
  }
