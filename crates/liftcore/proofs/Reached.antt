-- What is reached from the start, an event after another.
use Rattle.std.proofs.Common.{◌≡◌, ℕ, ◌+◌, Bool, true, false, List, [], ◌∷◌, ◌++◌, arith, refl, subst, sym, count_by, inl, inr, not}
use Rattle.std.specs.Prelude.{IsTrue}
use Rattle.game.specs.Game.{Game, IsGame}
use Rattle.measures.specs.Progress.{IsProgress}
use Rattle.measures.specs.Tables.{IsSettled}
use Rattle.liftcore.specs.Core.{Core, is_quiet, starting_core}
use Rattle.liftcore.specs.Runs.{Comes, IsReached}
use Rattle.liftcore.specs.Step.{Step, Steps}
use Rattle.liftcore.specs.declared.event.Event.{Event}
use Rattle.liftcore.proofs.Covered.{quiet_is_settled}
use Rattle.measures.proofs.Lists.{count_no, count_yes}
use Rattle.liftcore.proofs.Sets.{cases}
use Rattle.liftcore.proofs.Sound.{game_stays, settled_is_least}

-- one event more
pub steps_last : (a b c : Core) (events : List Event) (dones : List Bool) (event : Event) (done : Bool) → Steps a events dones b → Step b event done c
    → Steps a (events ++ event ∷ []) (dones ++ done ∷ []) c
steps_last a b c [] [] event done s t = (c, subst (λ (k : Core). Step k event done c) s t, refl)
steps_last a b c [] (d ∷ ds) event done s t = absurd s
steps_last a b c (e ∷ es) [] event done s t = absurd s
steps_last a b c (e ∷ es) (d ∷ ds) event done (k, f, r) t = (k, f, steps_last k b c es ds event done r t)

pub reached_start : (g : Game) (workers : ℕ) (c : Core) → c ≡ starting_core g workers → IsReached c
reached_start g workers c e = subst IsReached (sym e) (record { workers = workers; events = []; dones = []; steps = refl })

pub reached_more : (old new : Core) (event : Event) (done : Bool) → IsReached old → Step old event done new → IsReached new
reached_more old new event done r s =
    let more = steps_last (starting_core old.table.game r.workers) old new r.events r.dones event done r.steps s in
    let was = game_stays old.table.game r.workers r.events r.dones old r.steps in
    let is = game_stays old.table.game r.workers (r.events ++ event ∷ []) (r.dones ++ done ∷ []) new more in
    record {
      workers = r.workers;
      events = r.events ++ event ∷ [];
      dones = r.dones ++ done ∷ [];
      steps = subst (λ (g : Game). Steps (starting_core g r.workers) (r.events ++ event ∷ []) (r.dones ++ done ∷ []) new) (sym is) more;
    }

-- ---- the laws, of a state that is reached

pub reached_quiet : (c : Core) → IsGame c.table.game → IsReached c → IsTrue (is_quiet c) → IsSettled c.table
reached_quiet c game r quiet =
    settled_is_least c.table.game r.workers r.events r.dones c game r.steps (quiet_is_settled c.table.game r.workers r.events r.dones c game r.steps quiet)

pub reached_least : (c : Core) → IsGame c.table.game → IsReached c → IsProgress c.table.game c.table.values → IsSettled c.table
reached_least c game r is = settled_is_least c.table.game r.workers r.events r.dones c game r.steps is

-- ---- how many were done

count_last : (p : Bool → Bool) (xs : List Bool) (x : Bool) → count_by p (xs ++ x ∷ []) ≡ count_by p xs + count_by p (x ∷ [])
count_last p [] x = omega arith
count_last p (y ∷ ys) x =
    let rest = count_last p ys x in
    elim (cases (p y)) [
      | inl e ↦ omega (arith, count_yes p y (ys ++ x ∷ []) e, count_yes p y ys e, rest)
      | inr e ↦ omega (arith, count_no p y (ys ++ x ∷ []) e, count_no p y ys e, rest)
    ]

pub done_comes : (a b c : Core) (events all : List Event) (event : Event) (done more skipped left : ℕ) → Comes a events done skipped b → Step b event true c
    → all ≡ events ++ event ∷ [] → more ≡ done + 1
    → left ≡ skipped → Comes a all more left c
done_comes a b c events all event done more skipped left h s e m l = record {
  dones = h.dones ++ true ∷ [];
  steps = subst (λ (es : List Event). Steps a es (h.dones ++ true ∷ []) c) (sym e) (steps_last a b c events h.dones event true h.steps s);
  done_is = (let d = h.done_is in omega (arith, d, m, count_last (λ b. b) h.dones true, count_yes (λ (b : Bool). b) true [] refl));
  skipped_is = (let d = h.skipped_is in omega (arith, d, l, count_last (λ b. not b) h.dones true, count_no (λ (b : Bool). not b) true [] refl));
}

pub skip_comes : (a b c : Core) (events all : List Event) (event : Event) (done left skipped more : ℕ) → Comes a events done skipped b → Step b event false c
    → all ≡ events ++ event ∷ [] → left ≡ done
    → more ≡ skipped + 1 → Comes a all left more c
skip_comes a b c events all event done left skipped more h s e l m = record {
  dones = h.dones ++ false ∷ [];
  steps = subst (λ (es : List Event). Steps a es (h.dones ++ false ∷ []) c) (sym e) (steps_last a b c events h.dones event false h.steps s);
  done_is = (let d = h.done_is in omega (arith, d, l, count_last (λ b. b) h.dones false, count_no (λ (b : Bool). b) false [] refl));
  skipped_is = (let d = h.skipped_is in omega (arith, d, m, count_last (λ b. not b) h.dones false, count_yes (λ (b : Bool). not b) false [] refl));
}
