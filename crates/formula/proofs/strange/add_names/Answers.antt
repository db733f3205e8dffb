use Rattle.std.proofs.Common.{ℕ, List, Bor}
use Rattle.std.specs.List.{list_any}
use Rattle.std.specs.Str.{bytes_eq}
use Rattle.formula.proofs.Noting.{set_more}
use Rattle.formula.proofs.strange.add_names.Goals as goal

pub loop-name-preserved : goal.loop-name-preserved
loop-name-preserved c bytes =
    let q : Bor (List ℕ) = record c.as_slice.result { now = bytes } in
    set_more (list_any (λ (name : Bor (List ℕ)). bytes_eq bytes name.now) c.args.set.now.keys)
    (list_any (λ (name : Bor (List ℕ)). bytes_eq bytes name.now) c.loop-name.set.keys)
    (list_any (λ (name : Bor
    (List ℕ)). bytes_eq bytes name.now) c.insert.new.self.keys) bytes c.args.names.now c.loop-name.name-index c.name-item.result c.as_slice.result.now
    c.loop-name-test.true c.name-item.is c.as_slice.ensures.value (c.loop-name.invariant bytes) (c.in_ok-insert.ensures.updates.0 q)
