use Rattle.std.proofs.Common.{◌≡◌, ◌∙◌, false, map, option_map, rules, subst, sym, true, true≢false}
use Rattle.std.specs.List.{list_any}
use Rattle.clap.proofs.WalkLemmas.{list_any-map}
use Rattle.command_line.specs.Named.{name_of}
use Rattle.command_line.specs.Names.{IsApart, has_name, is_device}
use Rattle.command_line.proofs.names.apart.Goals as goal

pub returns-then-not-is_among-clause-apart : goal.returns-then-not-is_among-clause-apart
returns-then-not-is_among-clause-apart c =
    let name = c.in-Some.name.now in
    let none : list_any (λ file. has_name name (name_of file)) c.args.others.now ≡ false = search rules in
    subst (λ o. IsApart (option_map (λ name. name.now) o) (map name_of c.args.others.now)) (sym c.in-Some.is)
    (λ device. sym (list_any-map (has_name name) name_of c.args.others.now) ∙ none)

pub returns-clause-only : goal.returns-clause-only
returns-clause-only c = λ apart.
    let name = c.in-Some.name.now in
    let some : list_any (λ file. has_name name (name_of file)) c.args.others.now ≡ true = search rules in
    let device : is_device name ≡ false = search rules in
    let known = subst (λ o. IsApart (option_map (λ name. name.now) o) (map name_of c.args.others.now)) c.in-Some.is apart in
    true≢false (sym some ∙ (list_any-map (has_name name) name_of c.args.others.now ∙ known device))
