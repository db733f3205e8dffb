use Rattle.std.proofs.Common.{ℕ, [], ap, sym, arith, ◌∙◌}
use Rattle.std.proofs.lemmas.List.{get_or-map, length-map}
use Rattle.std.specs.Global.{Vec}
use Rattle.std.proofs.lemmas.Option.{get_or_from_slice_get}
use Rattle.std.proofs.lemmas.Slice.Eq.{bytes_eq-Decides}
use Rattle.lts.proofs.intake.number_of.Goals as goal

pub returns-clause-number : goal.returns-clause-number
returns-clause-number g c =
    let labels = c.insert_full.new.self.keys in
    let place = c.in_ok-place.place in
    let (key, there, alike) = c.in_ok-place.ensures.stored in
    record {
      within = omega (arith, length-map labels (λ (v : Vec ℕ). v.items), c.in_ok-place.ensures.within);
      is = get_or-map (λ (v : Vec ℕ). v.items) labels place key [] c.in_ok-place.ensures.within
          ∙ ap (λ (v : Vec ℕ). v.items) (get_or_from_slice_get labels place key key there)
          ∙ sym ((bytes_eq-Decides c.in_ok-from_slice.field-0.items key.items).0 alike) ∙ c.in_ok-from_slice.ensures.items;
    }
