-- The log of a crash image: a beginning of the log that a run has, which reaches its last epoch.
--     cut_to m e               the epoch cut off after m records
--     IsCrashLog s base K      K is legal and lock-legal, and its last epoch honest
--     StopsHonest, UnpokedHonest, UnpokedEscapesNone      the last epoch of a log that a stop leaves
--     CrashLogs                the log of a crash image, where no damage escapes
use Rattle.std.specs.Prelude.{◌≡◌, ℕ, ◌≤◌, false, List, Some, take, length, slice_get}
use Rattle.dali_geometry.specs.Sizes.{Sizes}
use Rattle.dali_record.specs.declared.records.Record.{Record}
use Rattle.dali_record.specs.Log.{Touch, touch_at}
use Rattle.dali_record.specs.Epochs.{Epoch, last_epoch}
use Rattle.dali_record.specs.Settled.{IsSoundAt}
use Rattle.dali_record.specs.Locks.{IsLockLegal}
use Rattle.dali_record.specs.Legal.{IsLegalFor}
use Rattle.dali_history.specs.Recovered.{IsHonestIn}
use Rattle.dali_history.specs.History.{AreSpelled}
use Rattle.dali_region.specs.State.{RegionState}
use Rattle.dali_runs.specs.State.{CoreState}
use Rattle.dali_runs.specs.Run.{Bases, base_at, RunsOn}
use Rattle.dali_runs.specs.Crashes.{NoneEscapes}

abbrev pub cut_to : ℕ → Epoch → Epoch
cut_to m e = record { first = e.first; records = take m e.records }

-- where no damage escapes a stop, the last epoch of what it leaves is honest
abbrev pub StopsHonest : Type 0
StopsHonest =
    (bases : Bases) (L : List Record) (c : CoreState) (m : ℕ) → RunsOn bases L c
    → NoneEscapes (cut_to m (last_epoch L)) c
    → IsHonestIn (base_at bases L) (cut_to m (last_epoch L))

-- no stray write came
abbrev pub IsUnpoked : CoreState → Type 0
IsUnpoked c = (r : ℕ) (g : RegionState) → slice_get c.regions r ≡ Some g → (g.poked ≡ false) × (g.missed ≡ false)

-- then every block is sound, and no damage escapes a stop
abbrev pub UnpokedHonest : Type 0
UnpokedHonest =
    (bases : Bases) (L : List Record) (c : CoreState) → RunsOn bases L c
    → IsUnpoked c
    → (i : ℕ) (a : Touch) → touch_at (last_epoch L).records i ≡ Some a → IsSoundAt (base_at bases L) (last_epoch L).records i

abbrev pub UnpokedEscapesNone : Type 0
UnpokedEscapesNone = (bases : Bases) (L : List Record) (c : CoreState) (m : ℕ) → RunsOn bases L c → IsUnpoked c → NoneEscapes (cut_to m (last_epoch L)) c

pub record IsCrashLog (s : Sizes) (base : List (List ℕ)) (K : List Record) : Type 0 where
  pub spelled : AreSpelled K
  pub legal : IsLegalFor s K
  pub locks : IsLockLegal K
  pub honest : IsHonestIn base (last_epoch K)

abbrev pub CrashLogs : Type 0
CrashLogs =
    (bases : Bases) (L : List Record) (c : CoreState) (n : ℕ) → RunsOn bases L c
    → (last_epoch L).first ≤ n → n ≤ length L → NoneEscapes (last_epoch (take n L)) c
    → IsCrashLog c.system.sizes (base_at bases L) (take n L)
