-- What is given to a deque, job after job.
use Rattle.std.proofs.Common.{◌≡◌, ℕ, ◌+◌, ◌<◌, ◌⊎◌, List, [], ◌++◌, Contains, below_more, length, slice_index, ap, append_assoc, arith, inl, inr, sym, ◌∙◌}
use Rattle.std.proofs.lemmas.List.{append-nil}
use Rattle.std.proofs.lemmas.List.Elements.{Contains-append_left, Contains-append_right}
use Rattle.crossbeam_deque.specs.Handles.{worker_view}
use Rattle.crossbeam_deque.specs.declared.handles.Worker.{Worker}
use Rattle.measures.proofs.Common.{get_or_default}
use Rattle.workers.specs.Jobs.{Gave, more_given}
use Rattle.workers.specs.Turns.{first_in_block}
use Rattle.workers.specs.declared.jobs.Given.{Given}

pub given_none : (given : Given) → given ≡ more_given given []
given_none given = ap (λ (jobs : List ℕ). record { jobs = jobs }) (sym (append-nil given.jobs))

module _ {A P : Type 0} where
  pub gave_none : (deque : Worker ℕ A Given P) → Gave deque deque []
  gave_none deque = (given_none (worker_view deque), omega arith)

  pub gave_both : (old middle new : Worker ℕ A Given P) (before after : List ℕ) → Gave old middle before → Gave middle new after → Gave old new (before ++ after)
  gave_both old middle new before after one two = (
    two.0 ∙ (ap (λ (given : Given). more_given given after) one.0 ∙ ap (λ (jobs : List ℕ). record { jobs = jobs }) (append_assoc (worker_view old).jobs before after)),
    (let a = one.1 in let b = two.1 in omega (arith, a, b)),
  )

-- where an item of a list stands
pub place_of : (us : List ℕ) (u : ℕ) → Contains us u → (k : ℕ) × (k < length us) × (slice_index us k ≡ u)
place_of us u (k, l, e) = (k, l, get_or_default us k 0 u l ∙ e)

-- a block begins no later than its vertices
pub block_inside : (u vertices : ℕ) → u < vertices → first_in_block u < vertices
block_inside u vertices inside = omega (arith, inside)

-- the first of some vertices were pending, or their blocks given, and one more
pub offered_next : (was_pending : ℕ → Type 0) (us : List ℕ) (i : ℕ) (jobs more : List ℕ)
    → ((k : ℕ) → k < i → was_pending (slice_index us k) ⊎ Contains jobs (first_in_block (slice_index us k)))
    → was_pending (slice_index us i) ⊎ Contains more (first_in_block (slice_index us i))
    → (k : ℕ) → k < i + 1 → was_pending (slice_index us k) ⊎ Contains (jobs ++ more) (first_in_block (slice_index us k))
offered_next was_pending us i jobs more before here = below_more (λ k. was_pending (slice_index us k)
    ⊎ Contains (jobs ++ more) (first_in_block (slice_index us k))) i
    (λ k l. elim (before k l) [
      | inl w ↦ inl w
      | inr w ↦ inr (Contains-append_left jobs more (first_in_block (slice_index us k)) w)
    ])
    (elim here [
      | inl w ↦ inl w
      | inr w ↦ inr (Contains-append_right jobs more (first_in_block (slice_index us i)) w)
    ])
