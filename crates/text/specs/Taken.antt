-- What a sink has taken.
use Rattle.std.specs.Prelude.{◌≡◌, ℕ, ◌<◌, Bool, true, List, length, Option, None, Result, MatchResult, IsTrue}
use Rattle.std.specs.Io.KnownBytes.{WriteAppends, Appends, Keeps}

-- the bytes, where they are known, and whether a write may have failed
pub record Taken : Type 0 where
  pub contents : Option (List ℕ)
  pub failed : Bool

-- what a sink has taken of which nothing tells whether a write failed
abbrev pub unnoted : Option (List ℕ) → Taken
unnoted contents = record { contents = contents; failed = true }

-- nothing is known of it
abbrev pub unknown : Taken
unknown = unnoted None

-- known bytes grow by these
pub record Adds (old new : Taken) (bytes : List ℕ) : Type 0 where
  pub grown : Appends old.contents new.contents bytes

-- known bytes stay as they were
pub record Stays (old new : Taken) : Type 0 where
  pub kept : Keeps old.contents new.contents

-- One write: a beginning of the bytes is taken, or it fails, and nothing is. That one failed, or took nothing of some bytes, is noted, and stays so.
pub record Receives {E : Type 0} (old new : Taken) (r : Result ℕ E) (bytes : List ℕ) : Type 0 where
  pub appended : WriteAppends old.contents new.contents r bytes
  pub fault : MatchResult r (λ n. n ≡ 0 → 0 < length bytes → IsTrue new.failed) (λ _. IsTrue new.failed)
  pub noted : IsTrue old.failed → IsTrue new.failed
