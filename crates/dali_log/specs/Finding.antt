-- What stands at a place of a log file.
--     BatchAt bytes p body       a batch of this body
--     NoBatch bytes p            an open gate, and no length of 1 to 2^30 with so many bytes behind it
--     IsFound bytes p found      a batch with the place behind it, or a closed gate
--     IsFurther p found          the place behind a batch lies further on, and below 2^62
--     IsBad bytes p at           where that makes the log bad: without a gate at the place itself, else at the length
use Rattle.std.specs.Prelude.{◌<◌, ◌≡◌, ◌⊎◌, ℕ, ◌+◌, ◌≤◌, ◌^◌, ⊤, List, ◌++◌, length, drop}
use Rattle.dali_log.specs.declared.finding.Found.{Found}
use Rattle.dali_log.specs.declared.finding.Found.TheVariants.{Batch, End}
use Rattle.dali_log.specs.Batch.{sized, batch, IsBody, IsOpenAt, IsClosedAt}

abbrev pub BatchAt : List ℕ → ℕ → List ℕ → Type 0
BatchAt bytes p body = IsBody body × (rest : List ℕ) × (drop p bytes ≡ batch body ++ rest)

pub record NoBatch (bytes : List ℕ) (p : ℕ) : Type 0 where
  pub gate : IsOpenAt p bytes
  pub none : (body rest : List ℕ) → IsBody body → drop (p + 1) bytes ≡ sized body ++ rest → ⊥

abbrev pub IsBad : List ℕ → ℕ → ℕ → Type 0
IsBad bytes p at = ((length bytes ≤ p) × (at ≡ p)) ⊎ (NoBatch bytes p × (at ≡ p + 1))

abbrev pub IsFound : List ℕ → ℕ → Found → Type 0
IsFound bytes p (Batch body next) = BatchAt bytes p body × (next ≡ p + 5 + length body)
IsFound bytes p End = IsClosedAt p bytes

abbrev pub IsFurther : ℕ → Found → Type 0
IsFurther p (Batch body next) = (p + 6 ≤ next) × (next < 2 ^ 62)
IsFurther p End = ⊤
