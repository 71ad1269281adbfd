-- The log's part of a run by itself.
--     IsFreeOf L x             whoever made an earlier block of the last epoch that conflicts with the block of x has ended
--     MayBeLogged s L x        x may follow: the rules of the whole log and of each transaction that it concerns allow it, it can be spelled, its block reads
--                              some word, and it is free
--     LogLogs                  such a record keeps the log's part, and only such a one does
--     HeldIsFree               where the owner of its block holds the lock for it, it is free, by what a run says of the locks
--     MovesLog s L x M         what a step does to the log: it adds such a record, or leaves the log
--     SystemHasLog             so does each step of a system
use Rattle.std.specs.Prelude.{◌≡◌, ◌↔◌, ◌⊎◌, ℕ, ◌==◌, true, false, not, List, [], ◌∷◌, ◌++◌, Some, IsSome, length}
use Rattle.dali_geometry.specs.Sizes.{Sizes}
use Rattle.dali_record.specs.declared.records.Record.{Record}
use Rattle.dali_record.specs.Epochs.{last_epoch, separates}
use Rattle.dali_record.specs.Log.{Touch, touch_of, touch_at}
use Rattle.dali_record.specs.Locks.{conflicts, EndedBetween}
use Rattle.dali_record.specs.Legal.{rules_state}
use Rattle.dali_record.specs.Spelling.{CanBeSpelled}
use Rattle.dali_runs.specs.State.{SystemState}
use Rattle.dali_runs.specs.Run.{LogRun, LockRun, holds}
use Rattle.dali_runs.specs.Courses.{Step}
use Rattle.dali_runs.specs.Parts.Systems.{SystemRun, IsSystemStep, adds_record}
use Rattle.dali_runs.specs.Parts.Tables.{IsAllowed}

abbrev pub IsFreeOf : List Record → Record → Type 0
IsFreeOf L x =
    (i : ℕ) (a b : Touch) → touch_at (last_epoch L).records i ≡ Some a → touch_of x ≡ Some b → conflicts a b ≡ true
    → EndedBetween a.owner i (length (last_epoch L).records) (last_epoch L).records

pub record MayBeLogged (s : Sizes) (L : List Record) (x : Record) : Type 0 where
  pub rules : IsSome (rules_state s (L ++ x ∷ []))
  pub allowed : IsAllowed s L x
  pub spelled : CanBeSpelled x
  pub reads : (a : Touch) → touch_of x ≡ Some a → not (a.block.read == 0) ≡ true
  pub free : IsFreeOf L x

abbrev pub LogLogs : Type 0
LogLogs = (s : Sizes) (L : List Record) (x : Record) → LogRun s L → separates x ≡ false → MayBeLogged s L x ↔ LogRun s (L ++ x ∷ [])

abbrev pub HeldIsFree : Type 0
HeldIsFree =
    (s : Sizes) (L : List Record) (x : Record) (y : SystemState) → LockRun s L y
    → ((a : Touch) → touch_of x ≡ Some a → holds y a.owner a.block ≡ true)
    → IsFreeOf L x

abbrev pub MovesLog : Sizes → List Record → Step → List Record → Type 0
MovesLog s L x M =
    ((adds_record x ≡ true) × ((r : Record) × MayBeLogged s L r × (M ≡ L ++ r ∷ []))) ⊎ ((adds_record x ≡ false) × (M ≡ L))

abbrev pub SystemHasLog : Type 0
SystemHasLog =
    (L M : List Record) (y z : SystemState) (x : Step) → SystemRun y.sizes L y
    → IsSystemStep L y x M z
    → MovesLog y.sizes L x M
