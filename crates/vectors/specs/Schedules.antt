-- Worked examples of texts that spell no schedule, with the fault that decides and its line.
use Rattle.std.specs.Prelude.{◌∷◌, [], codes, refl}
use Rattle.std.proofs.Common.{arith}
use Rattle.liftcore.specs.Schedule.{HasScheduleFault, IsGoodScheduleLine}
use Rattle.liftcore.specs.declared.error.ScheduleFault.TheVariants.{NoSuchVertex, NoSuchWorker}
use Rattle.liftcore.specs.declared.event.Event.TheVariants.{Raise, Take}

-- raise 1, where there are two workers and five vertices
raise_1 : IsGoodScheduleLine 2 5 (codes "raise 1") (Raise 1)
raise_1 = record { spelled = (codes "1" ∷ [], ((refl, refl), tt), refl); within = record { worker = omega arith; vertex = tt } }

-- the workers are 0 and 1
no_worker : HasScheduleFault 2 5 (codes "raise 1\ntake 2 0\n") NoSuchWorker 2
no_worker = record {
  front = codes "raise 1" ∷ [];
  line = codes "take 2 0";
  back = [];
  before = Raise 1 ∷ [];
  cut = refl;
  fine = (raise_1, tt);
  wrong = (Take 2 0, (codes "2" ∷ codes "0" ∷ [], ((refl, refl), ((refl, refl), tt)), refl), omega arith);
  here = refl;
}

-- the vertices are 0 to 4, and the last line may lack its end
no_vertex : HasScheduleFault 2 5 (codes "take 1 5") NoSuchVertex 1
no_vertex = record {
  front = [];
  line = codes "take 1 5";
  back = [];
  before = [];
  cut = refl;
  fine = tt;
  wrong = (Take 1 5, (codes "1" ∷ codes "5" ∷ [], ((refl, refl), ((refl, refl), tt)), refl), omega arith, omega arith);
  here = refl;
}
