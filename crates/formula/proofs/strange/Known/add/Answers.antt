use Rattle.std.proofs.Common.{◌≡◌, ◌||◌, ℕ, Bool, List, Bor, ◌∙◌}
use Rattle.std.proofs.lemmas.Result.{on_ok_weaker}
use Rattle.std.specs.List.{list_any}
use Rattle.std.specs.Str.{bytes_eq}
use Rattle.formula.specs.Strange.{Atom, Name, has_term}
use Rattle.formula.specs.Noted.{knows}
use Rattle.formula.proofs.Noting.{names_read, no_names_read, or_cond}
use Rattle.formula.proofs.strange.Known.add.Goals as goal

abbrev among : List ℕ → List (Bor (List ℕ)) → Bool
among bytes keys = list_any (λ (key : Bor (List ℕ)). bytes_eq bytes key.now) keys

pub returns-in-Some : goal.returns-in-Some
returns-in-Some c =
    on_ok_weaker c.add_names.result
    (λ so t. elim t as (λ t. knows (record { labels = c.insert.new.self; names = c.add_names.new.set }) t
    ≡ (knows c.args.self.now t || has_term t c.args.label.bytes.now)) [
      | Name bytes ↦ names_read (among bytes c.args.self.now.names.keys)
          (among bytes c.add_names.new.set.keys) bytes c.args.label.bytes.now c.args.label.names c.in-Some.names c.args.label.read c.in-Some.is (so bytes)
      | Atom bytes ↦ c.in_ok-insert.ensures.updates.0 (record c.args.label.bytes { now = bytes })
          ∙ or_cond (among bytes c.args.self.now.labels.keys) (bytes_eq c.args.label.bytes.now bytes)
    ])
    c.add_names.ensures

pub returns-in-None : goal.returns-in-None
returns-in-None c (Name bytes) = no_names_read
    (among bytes c.args.self.now.names.keys) bytes c.args.label.bytes.now c.args.label.names c.args.label.read c.in-None.is
returns-in-None c (Atom bytes) =
    c.in_ok-insert.ensures.updates.0 (record c.args.label.bytes { now = bytes })
    ∙ or_cond (among bytes c.args.self.now.labels.keys) (bytes_eq c.args.label.bytes.now bytes)
