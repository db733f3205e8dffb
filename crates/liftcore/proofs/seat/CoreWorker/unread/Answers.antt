use Rattle.std.proofs.Common.{length, List, ℕ, ◌<◌, ◌≡◌, ◌∙◌, ap, subst, sym, slice_index, refl}
use Rattle.liftcore.specs.Reading.{successors_read}
use Rattle.liftcore.proofs.Seated.{read_no_more, coded}
use Rattle.liftcore.proofs.seat.CoreWorker.unread.Goals as goal

pub returns-then-is_read : goal.returns-then-is_read
returns-then-is_read c =
    let same : successors_read c.args.self.now.turn
    ≡ c.successors.result.now = coded c.args.game.now c.args.self.now c.requires.seat c.vertex.result c.successors.result.now c.vertex.ensures
    c.successors.ensures in
    read_no_more c.args.game.now c.args.self.now c.requires.seat c.args.v c.in_ok-place.place c.if-not-self.false
    (subst (λ (ts : List ℕ). c.in_ok-place.place < length ts) (sym same) c.in_ok-place.ensures.0)
    (ap (λ (ts : List ℕ). slice_index ts c.in_ok-place.place) same ∙ c.in_ok-place.ensures.1) (c.if-is_read.ensures.0 refl)
