use Rattle.std.proofs.Common.{◌≡◌, length, rules, sym, ◌∙◌}
use Rattle.evidence.proofs.Places.{long_is}
use Rattle.evidence.proofs.entries.Entries.len.Goals as goal

pub returns : goal.returns
returns c =
    let i = c.self.inside in
    let same : c.len.result ≡ length i.places.items = search rules in
    same ∙ sym (long_is i.width i.places.items i.counts.items c.args.self.now c.self.view_is)
