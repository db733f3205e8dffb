-- Few events raise the table.
use Rattle.std.proofs.Common.{◌≡◌, ◌≢◌, ◌↔◌, ℕ, ◌+◌, ◌*◌, ◌≤◌, Bool, true, false, List, [], ◌∷◌, length, count_by, refl, sym, ◌∙◌, ap, subst, arith, IsTrue}
use Rattle.game.specs.Game.{Game, IsGame}
use Rattle.measures.specs.Lifting.{height, sum_of}
use Rattle.measures.specs.Progress.{IsTable}
use Rattle.measures.proofs.Lifting.{sum_above, sum_least}
use Rattle.measures.proofs.Lists.{count_no, count_yes}
use Rattle.measures.proofs.Settling.{plain_table, sum_limit}
use Rattle.liftcore.specs.Core.{Core, starting_core}
use Rattle.liftcore.specs.Step.{RaisingSteps, Step}
use Rattle.liftcore.specs.declared.event.Event.{Event}
use Rattle.liftcore.proofs.Sound.{Sound, game_does, never_falls, sound_does, sound_start}

sum_in : Game → Core → ℕ
sum_in g c = sum_of g c.table.values

sound_step : (old new : Core) (event : Event) (done : Bool) → Step old event done new → Sound old → Sound new
sound_step old new event true s h = sound_does old new event s h
sound_step old new event false s h = subst Sound (sym s.same) h

game_step : (g : Game) (old new : Core) (event : Event) (done : Bool) → Step old event done new → old.table.game ≡ g → new.table.game ≡ g
game_step g old new event true s e = game_does g old new event s e
game_step g old new event false s e = ap (λ (c : Core). c.table.game) s.same ∙ e

is_table : (g : Game) (c : Core) → Sound c → c.table.game ≡ g → IsTable g c.table.values
is_table g c h e = subst (λ (k : Game). IsTable k c.table.values) e (plain_table c.table.game c.table.values h.plain)

-- one event more
climbs_once : (g : Game) (old new : Core) (event : Event) (done rose : Bool) (rises : List Bool) → Step old event done new → Sound old → Sound new
    → old.table.game ≡ g → new.table.game ≡ g
    → (IsTrue rose ↔ (new.table.values ≢ old.table.values)) → sum_in g old + count_by (λ rose. rose) (rose ∷ rises) ≤ sum_in g new
    + count_by (λ rose. rose) rises
unfolding sum_in
climbs_once g old new event done true rises s h k e d tells =
    let more = sum_above g old.table.values new.table.values (is_table g old h e) (is_table g new k d) (never_falls old new event done s)
    (λ q. tells.0 refl (sym q)) in
    omega (arith, more, count_yes (λ (rose : Bool). rose) true rises refl)
climbs_once g old new event done false rises s h k e d tells =
    let least = sum_least g old.table.values new.table.values (is_table g old h e) (is_table g new k d) (never_falls old new event done s) in
    omega (arith, least, count_no (λ (rose : Bool). rose) false rises refl)

limit : (g : Game) (c : Core) → Sound c → c.table.game ≡ g → sum_in g c ≤ length g.vertices * height g
unfolding sum_in
limit g c h e = subst (λ (k : Game). sum_of k c.table.values ≤ length k.vertices * height k) e (sum_limit c.table.game c.table.values h.plain)

climbs : (g : Game) (old new : Core) (events : List Event) (dones rises : List Bool) → RaisingSteps old events dones rises new → Sound old → old.table.game ≡ g
    → sum_in g old + count_by (λ rose. rose) rises ≤ length g.vertices * height g
climbs g old new [] [] [] s h e = omega (arith, limit g old h e)
climbs g old new [] [] (r ∷ rs) s h e = absurd s
climbs g old new [] (d ∷ ds) rises s h e = absurd s
climbs g old new (v ∷ vs) [] rises s h e = absurd s
climbs g old new (v ∷ vs) (d ∷ ds) [] s h e = absurd s
climbs g old new (v ∷ vs) (d ∷ ds) (r ∷ rs) (c, s, tells, more) h e =
    let k = sound_step old c v d s h in
    let f = game_step g old c v d s e in
    omega (arith, climbs g c new vs ds rs more k f, climbs_once g old c v d r rs s h k e f tells)

pub few_raise : (g : Game) (workers : ℕ) (events : List Event) (dones rises : List Bool) (c : Core) → IsGame g
    → RaisingSteps (starting_core g workers) events dones rises c
    → count_by (λ rose. rose) rises ≤ length g.vertices * height g
few_raise g workers events dones rises c game s = omega (arith, climbs g (starting_core g workers) c events dones rises s (sound_start g workers game) refl)
