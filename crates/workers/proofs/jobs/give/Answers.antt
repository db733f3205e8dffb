use Rattle.std.proofs.Common.{◌<◌, [], ◌∷◌, arith, length}
use Rattle.std.proofs.lemmas.List.Elements.{All-cons}
use Rattle.workers.proofs.Moves.{pushes}
use Rattle.workers.proofs.jobs.give.Goals as goal

pub push_as-requires-clause-pushes : goal.push_as-requires-clause-pushes
push_as-requires-clause-pushes g c =
    let game = g.K.GameName.game in
    pushes game _ _ (c.args.v ∷ []) (All-cons (λ v. v < length game.vertices) c.args.v [] c.requires (λ k d l. absurd (omega (arith, l))))
