-- What is told of labels whose system or formula is refused.
use Rattle.std.proofs.Common.{◌≡◌, ℕ, List, [], Option, Some, None, refl}
use Rattle.std.specs.Prelude.{option_map}
use Rattle.requests.specs.Check.{BySets, RefusesCheck}
use Rattle.requests.specs.declared.error.MuError.{MuError}
use Rattle.requests.specs.declared.error.MuError.TheVariants as error
use Rattle.commands.specs.Labels.{RefusesLabels}

-- It is what a check tells that makes no game and lends no writer.
pub refused_texts : (first second : List ℕ) (e : MuError) → RefusesCheck BySets first second [] e → RefusesLabels first (Some second) e
refused_texts first second error.Memory h = h.0
refused_texts first second (error.System e) h = h.0
refused_texts first second (error.Normal e) h = absurd h.0.beyond
refused_texts first second e h = h

-- a text is left of the formula that there is
pub text_given : {S : Type 0} (left : S → Option (List ℕ)) (formula : Option S) (f : S) (second : Option (List ℕ)) → formula ≡ Some f
    → option_map left formula ≡ option_map (λ text. Some text) second → (text : List ℕ) × (second ≡ Some text) × (left f ≡ Some text)
text_given left formula f None is same = let none : Some (left f) ≡ None = rw is at same in absurd (cc)
text_given left formula f (Some text) is same = let some : Some (left f) ≡ Some (Some text) = rw is at same in (text, refl, cc)
