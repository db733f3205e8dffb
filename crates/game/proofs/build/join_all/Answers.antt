use Rattle.game.proofs.Common.{◌≡◌, ◌++◌, List, length, vec_len, rules, ap, ◌∙◌, arith, take_all}
use Rattle.std.specs.List.{flat_map}
use Rattle.std.proofs.lemmas.Iterator.Adapters.{YieldsList-from_vec}
use Rattle.std.proofs.lemmas.Iterator.Consumers.{YieldsList-turn, YieldsList-end}
use Rattle.game.specs.Game.{Vertex}
use Rattle.game.proofs.Parts.{joined_fit}
use Rattle.game.proofs.build.join_all.Goals as goal

pub joined-requires : goal.joined-requires
joined-requires c =
    let parts = c.args.parts.items in
    let gives = c.into_iter-part-iterator.ensures.into_iter_gives in
    let size : vec_len c.args.parts ≡ length parts = search rules in
    let here = YieldsList-turn (YieldsList-from_vec parts gives.0
    (gives.1 ∙ size)) c.loop-part.yielded c.loop-part.part-iterator c.loop-part.yielded_by c.next.result c.next.new.self c.in-Some.part c.in-Some.is
    c.next.ensures.steps in
    joined_fit parts (length c.loop-part.yielded) 16777216 c.args.first c.loop-part.builder c.in-Some.part here c.loop-part.invariant.joined c.requires

pub returns : goal.returns
returns c =
    let parts = c.args.parts.items in
    let gives = c.into_iter-part-iterator.ensures.into_iter_gives in
    let size : vec_len c.args.parts ≡ length parts = search rules in
    let done = YieldsList-end (YieldsList-from_vec parts gives.0
    (gives.1 ∙ size)) c.loop-part.yielded c.loop-part.part-iterator c.loop-part.yielded_by c.next.result c.next.new.self c.in-None.is c.next.ensures.steps in
    c.loop-part.invariant.joined ∙ ap (λ xs. c.args.first ++ flat_map (λ (p : List Vertex). p) xs)
    (take_all (length c.loop-part.yielded) parts (omega (arith, done.1)))
