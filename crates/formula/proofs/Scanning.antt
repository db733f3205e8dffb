-- Where in a text the first word that no transition has is found.
use Rattle.std.proofs.Common.{◌≡◌, ℕ, Bool, true, false, ◌||◌, List, [], ◌∷◌, Option, map, refl, sym, ap, ◌∙◌}
use Rattle.std.proofs.Math.Path.{fun_ext}
use Rattle.std.proofs.lemmas.Bool.{false≢true}
use Rattle.std.proofs.lemmas.List.Folds.{list_any_at}
use Rattle.std.specs.List.{AllByRecursion, Contains, list_any}
use Rattle.systems.specs.System.{Arrow}
use Rattle.systems.specs.Numbered.{Numbered, AreUsed, IsInside, IsTransitionOf, arrow_of, label_at}
use Rattle.systems.specs.declared.system.Transition.{Transition}
use Rattle.formula.specs.Cutting.{IsLexed}
use Rattle.grammar.specs.Written.{bare_tokens}
use Rattle.grammar.specs.declared.token.Placed.{Placed}
use Rattle.formula.specs.Strange.{NameOrAtom, has_term}
use Rattle.formula.specs.Noted.{is_known}
use Rattle.formula.specs.Absent.{IsFirstAbsent, first_unknown, is_on_transition}
use Rattle.formula.proofs.Noting.{any_map}

-- of these tokens, each with its place
abbrev pub scan : (NameOrAtom → Bool) → Bool → List Placed → Option ℕ
scan known inside placed = first_unknown known inside (bare_tokens placed) (map (λ p. p.offset) placed)

-- One more element passes, or it is left to the others.
more_any : {X : Type 0} (p : X → Bool) (x : X) (xs : List X) (b : Bool) → (p x ≡ true → b ≡ true) → (list_any p xs ≡ true → b ≡ true)
    → list_any p (x ∷ xs) ≡ true → b ≡ true
more_any p x xs b first others h = by (p x) first h
  where
    by : (c : Bool) → (c ≡ true → b ≡ true) → (c || list_any p xs) ≡ true → b ≡ true
    by true f k = f refl
    by false f k = others k

used_any : (p : List ℕ → Bool) (arrows : List Arrow) (labels : List (List ℕ)) → AllByRecursion (Contains (map (λ a. a.label) arrows)) labels
    → list_any p labels ≡ true → list_any (λ a. p a.label) arrows ≡ true
used_any p arrows [] used h = absurd (false≢true h)
used_any p arrows (x ∷ xs) used h =
    let (k, below, at) = used.0 in
    let here = λ (e : p x ≡ true). sym (any_map (λ (a : Arrow). a.label) p arrows)
    ∙ list_any_at p (map (λ (a : Arrow). a.label) arrows) k x below (ap p at ∙ e) in
    more_any p x xs (list_any (λ a. p a.label) arrows) here (used_any p arrows xs used.1) h

arrow_any : (p : List ℕ → Bool) (l : Numbered) (ts : List Transition) → AllByRecursion (IsTransitionOf l) ts
    → list_any (λ a. p a.label) (map (arrow_of l.labels) ts) ≡ true → list_any p l.labels ≡ true
arrow_any p l [] inside h = absurd (false≢true h)
arrow_any p l (t ∷ ts) inside h =
    more_any (λ (a : Arrow). p a.label) (arrow_of l.labels t) (map (arrow_of l.labels) ts) (list_any p l.labels)
    (λ e. list_any_at p l.labels t.label [] inside.0.label e) (arrow_any p l ts inside.1) h

both_ways : (a b : Bool) → (a ≡ true → b ≡ true) → (b ≡ true → a ≡ true) → a ≡ b
both_ways true b f g = sym (f refl)
both_ways false true f g = g refl
both_ways false false f g = refl

-- What a label has, a transition has, and the other way round.
known_on : (l : Numbered) (ts : List Transition) (t : NameOrAtom) → AreUsed l → map (arrow_of l.labels) ts ≡ l.system.arrows → IsInside l ts
    → is_known l.labels t ≡ is_on_transition l.system t
known_on l ts t used are inside =
    both_ways (is_known l.labels t) (is_on_transition l.system t) (used_any (has_term t) l.system.arrows l.labels used)
    (λ h. arrow_any (has_term t) l ts inside (ap (list_any (λ (a : Arrow). has_term t a.label)) are ∙ h))

-- What is found by what is known of the labels is what is asked for.
pub found_absent : (l : Numbered) (ts : List Transition) (known : NameOrAtom → Bool) (text : List ℕ) (placed : List Placed) (found : Option ℕ) → IsLexed text placed
    → ((t : NameOrAtom) → known t ≡ is_known l.labels t) → AreUsed l → map (arrow_of l.labels) ts ≡ l.system.arrows → IsInside l ts
    → found ≡ scan known false placed → IsFirstAbsent l.system text found
found_absent l ts known text placed found lexed as_labels used are inside e =
    let same : known ≡ is_on_transition l.system = fun_ext (λ t. as_labels t ∙ known_on l ts t used are inside) in
    let places : List ℕ = map (λ (p : Placed). p.offset) placed in
    record {
      pieces = lexed.pieces;
      joined = lexed.joined;
      cut = lexed.cut;
      decided = lexed.decided;
      first = e ∙ (ap (λ k. first_unknown k false (bare_tokens placed) places) same
          ∙ (ap (λ ts. first_unknown (is_on_transition l.system) false ts places) (sym lexed.spelled)
          ∙ ap (first_unknown (is_on_transition l.system) false _) (sym lexed.places)));
    }
