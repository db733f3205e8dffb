use Rattle.std.proofs.Common.{◌≡◌, ◌∙◌, ap, rules, sym, true, false, true≢false, List, Some, None}
use Rattle.std.specs.Prelude.{map, option_map}
use Rattle.std.specs.Borrow.{Bor}
use Rattle.std.specs.List.{list_all}
use Rattle.std.proofs.lemmas.List.Folds.{list_all-map}
use Rattle.clap.specs.Words.{Text, found_of}
use Rattle.clap.proofs.WalkLemmas.{raw_values-rows}
use Rattle.command_line.specs.CommandLine.{is_named}
use Rattle.command_line.proofs.line.file_names.Goals as goal

abbrev texts_of : List (Bor Text) → List Text
texts_of files = map (λ f. f.now) files

pub returns-in-None : goal.returns-in-None
returns-in-None c = λ files are.
    let read = sym (raw_values-rows (found_of c.args.matches.now) c.args.id.now) ∙ (sym c.get_strs.ensures
    ∙ ap (option_map (λ (s : Bor (List (Bor Text))). texts_of s.now)) c.in-None.is) in
    let bad : None ≡ Some (texts_of files.items) = sym read ∙ are.stand in
    absurd (cc)

pub returns-then-not-are_named : goal.returns-then-not-are_named
returns-then-not-are_named c = λ files are.
    let names = c.in-Some.names.now in
    let read = sym (raw_values-rows (found_of c.args.matches.now) c.args.id.now) ∙ (sym c.get_strs.ensures
    ∙ ap (option_map (λ (s : Bor (List (Bor Text))). texts_of s.now)) c.in-Some.is) in
    let both : Some (texts_of files.items) ≡ Some (texts_of names) = sym are.stand ∙ read in
    let same : texts_of files.items ≡ texts_of names = cc in
    let unnamed : list_all (λ (name : Bor Text). is_named name.now) names ≡ false = search rules in
    true≢false (sym are.named ∙ (ap (list_all is_named) same ∙ (list_all-map is_named (λ (f : Bor Text). f.now) names ∙ unnamed)))

pub returns-in-Ok : goal.returns-in-Ok
returns-in-Ok c =
    let names = c.in-Some.names.now in
    let read = sym (raw_values-rows (found_of c.args.matches.now) c.args.id.now) ∙ (sym c.get_strs.ensures
    ∙ ap (option_map (λ (s : Bor (List (Bor Text))). texts_of s.now)) c.in-Some.is) in
    let same : names ≡ c.in-Ok.copy.items = search rules in
    let named : list_all (λ (name : Bor Text). is_named name.now) names ≡ true = search rules in
    record {
      stand = read ∙ ap (λ files. Some (texts_of files)) same;
      named = ap (λ files. list_all is_named (texts_of files)) (sym same) ∙ (list_all-map is_named (λ (f : Bor Text). f.now) names ∙ named);
    }
