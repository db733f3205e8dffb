use Rattle.std.proofs.Common.{◌≡◌, ◌<◌, ℕ, List, Some, false, length, refl, subst, arith}
use Rattle.calculus.specs.Nodes.{Node}
use Rattle.calculus.specs.Normal.{normal_nodes}
use Rattle.systems.specs.System.{System}
use Rattle.game.specs.Game.{Game}
use Rattle.evidence.specs.Evidence.{Evidence, IsEvidence}
use Rattle.std.specs.Prelude.{IfSome}
use Rattle.why.specs.Telling.{goes_on}
use Rattle.why.specs.Walk.{IsNextKind, IsWalkBy}
use Rattle.why.specs.declared.walk.Walk.{Walk}
use Rattle.why.specs.declared.visit.Way.{Way}
use Rattle.why.proofs.Walking.{has_within, told_branch, told_end, told_on}
use Rattle.why.proofs.walk.tell.Goals as goal

within : (lts : System) (ns : List Node) (g h : Game) (e : Evidence) (root : ℕ) (w : Walk) (way : Way) → h ≡ g → IsEvidence h e
    → IsWalkBy lts ns g e root w (Some way) → way.vertex < length w.told.items
within lts ns g h e root w way same is walk =
    let long = walk.long in
    let lt = has_within g e way.vertex (subst (λ (x : Game). IsEvidence x e) same is) (walk.next way refl).1 in omega (arith, lt, long)

pub go_on-requires : goal.go_on-requires
go_on-requires c =
    within c.args.system.now.system (normal_nodes c.args.form.now) c.args.game.now c.args.evidence.now.game c.args.evidence.now.evidence c.requires.walk.0
    c.args.walk.now c.args.way c.requires.same c.known.ensures c.requires.walk.1

pub branch-way-requires : goal.branch-way-requires
branch-way-requires c =
    within c.args.system.now.system (normal_nodes c.args.form.now) c.args.game.now c.args.evidence.now.game c.args.evidence.now.evidence c.requires.walk.0
    c.args.walk.now c.args.way c.requires.same c.known.ensures c.requires.walk.1

pub returns-in-Some : goal.returns-in-Some
returns-in-Some c =
    let g = c.args.game.now in
    let e = c.args.evidence.now.evidence in
    told_end c.args.system.now.system (normal_nodes c.args.form.now) g e c.args.way c.in-Some.kind c.args.walk.now c.end.new.walk c.end.result
    (subst (λ o. IfSome o (λ kind. goes_on kind ≡ false)) c.in-Some.is c.in_ok-kind.ensures.ends)
    (λ root is. subst (λ o. IfSome o (IsNextKind c.args.system.now.system (normal_nodes c.args.form.now) g e c.args.walk.now c.args.way.vertex)) c.in-Some.is
    (c.in_ok-kind.ensures.kind g e c.ways_from-ways.ensures) root _ is) c.end.ensures.none c.end.ensures.added c.end.ensures.waiting

pub returns-in-One : goal.returns-in-One
returns-in-One c =
    told_on c.args.system.now.system (normal_nodes c.args.form.now) c.args.game.now c.args.evidence.now.evidence c.args.way c.in-One.next
    c.args.walk.now c.go_on.new.walk c.go_on.result c.requires.good (c.in_ok-kind.ensures.high c.in-None.is c.in-One.next c.in-One.is) c.in-One.ensures
    (within c.args.system.now.system (normal_nodes c.args.form.now) c.args.game.now c.args.evidence.now.game c.args.evidence.now.evidence c.requires.walk.0
    c.args.walk.now c.args.way c.requires.same c.known.ensures c.requires.walk.1) (c.in_ok-kind.ensures.fresh c.in-None.is)
    c.go_on.ensures.next c.go_on.ensures.added c.go_on.ensures.waiting

pub returns-in-Many : goal.returns-in-Many
returns-in-Many c =
    told_branch c.args.system.now.system (normal_nodes c.args.form.now) c.args.game.now c.args.evidence.now.evidence c.args.way
    c.in-Many.targets.now c.args.walk.now c.branch-way.new.walk c.branch-way.result c.in-Many.ensures.0 c.in-Many.ensures.1 c.in-Many.ensures.2
    (within c.args.system.now.system (normal_nodes c.args.form.now) c.args.game.now c.args.evidence.now.game c.args.evidence.now.evidence c.requires.walk.0
    c.args.walk.now c.args.way c.requires.same c.known.ensures c.requires.walk.1) (c.in_ok-kind.ensures.fresh c.in-None.is)
    c.branch-way.ensures.none c.branch-way.ensures.added c.branch-way.ensures.waiting
