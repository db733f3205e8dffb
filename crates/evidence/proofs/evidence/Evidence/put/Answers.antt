use Rattle.std.proofs.Common.{◌≡◌, ◌<◌, ◌∙◌, ap, length, subst, sym}
use Rattle.std.specs.Prelude.{IfSome}
use Rattle.evidence.specs.Evidence.{IsEvidence}
use Rattle.evidence.specs.View.{Entries, NamedEvidence, rank_width}
use Rattle.evidence.proofs.Entered.{put_is}
use Rattle.evidence.proofs.evidence.Evidence.put.Goals as goal

pub invariant_of-self : goal.invariant_of-self
invariant_of-self c =
    let inside = c.self.inside in
    let was = c.self.invariant in
    let view = sym c.self.view_is in
    let vertex = subst (λ (p : NamedEvidence). c.args.v < length p.game.vertices) view c.requires.vertex in
    let next = subst (λ (p : NamedEvidence). IfSome c.args.next (λ t. t < length p.game.vertices)) view c.requires.next in
    let rank = subst (λ (p : NamedEvidence). length c.args.rank.now ≡ rank_width p) view c.requires.rank in
    let is = put_is inside.of.value inside.player inside.entries.entries c.args.v c.args.next c.args.rank.now was.0 vertex next rank in (
      subst (λ (e : Entries). IsEvidence inside.of.value (record { player = inside.player; entries = e.entries })) (sym c.set.ensures) is,
      ap (λ (e : Entries). e.width) c.set.ensures ∙ was.1,
    )
