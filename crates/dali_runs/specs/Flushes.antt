-- A flush in two steps, and a fault in one: a frame of the log is taken, under the locks of the system and the vault; then the vault writes it,
-- while others log. One flusher has the vault's lock from the taking to the end of its flush, so at most one frame is in hand.
--     frame_of L c             the frame in hand: what was taken, and isn't flushed
--     Appended old new frame, Appending old new frame     what the store may leave once the batch was added, and while it is
--     TakeKeeps, FlushKeeps, FaultKeeps    the parts of a run that don't look at the store
--     FlushLeaves, FaultLeaves     the part that does
--     EndIsSmall               the log's file ends below 2^62 in every run, also over a store that tells nothing: so a flush may add its frame behind it
use Rattle.std.specs.Prelude.{◌≡◌, ℕ, ◌+◌, ◌<◌, ◌≤◌, ◌^◌, ◌⊎◌, drop, take, true, false, List, [], ◌∷◌, ◌++◌, length}
use Rattle.dali_record.specs.declared.records.Record.{Record}
use Rattle.dali_record.specs.Files.{Files, batch_length}
use Rattle.dali_runs.specs.State.{VaultState, CoreState, taken_to, stable}
use Rattle.dali_runs.specs.Run.{Bases, RunsOn, HasRisen, VaultRun, IsRun, no_image}
use Rattle.dali_runs.specs.Keeps.{with_system}
use Rattle.dali_runs.specs.Steps.{taken}

-- what a flush writes
abbrev pub frame_of : List Record → CoreState → List Record
frame_of L c = drop (stable c) (take (taken_to c.system) L)

-- the batches with one more; an empty frame isn't written
abbrev pub with_batch : List (List Record) → List Record → List (List Record)
with_batch batches [] = batches
with_batch batches (r ∷ rs) = batches ++ (r ∷ rs) ∷ []

-- the other files are left
abbrev pub with_frame : Files → List Record → Files
with_frame F frame = record F { batches = with_batch F.batches frame }

-- each thing that the store may leave once the frame was written is one from before, with the frame
pub record Appended (old new : Files → Type 0) (frame : List Record) : Type 0 where
  pub each : (F : Files) → new F → (D : Files) × old D × (F ≡ with_frame D frame)

-- meanwhile, and after a fault: without it or with it
pub record Appending (old new : Files → Type 0) (frame : List Record) : Type 0 where
  pub each : (F : Files) → new F → (D : Files) × old D × ((F ≡ D) ⊎ (F ≡ with_frame D frame))

abbrev pub with_vault : CoreState → VaultState → CoreState
with_vault c v = record c { vault = v }

-- the vault after the flush of a frame, and after a fault, which counts nothing as flushed: what was taken is lost to the vault
abbrev pub longer : VaultState → List Record → VaultState
longer v [] = v
longer v (r ∷ rs) = record v { end = v.end + batch_length (r ∷ rs); flushed = v.flushed + length (r ∷ rs) }

abbrev pub faulted : VaultState → ℕ → VaultState
faulted v faults = record v { stopped = true; faults = faults }

-- behind a read that failed
abbrev pub read_failed : VaultState → ℕ → VaultState
read_failed v faults = record v { faults = faults }

abbrev pub TakeKeeps : Type 0
TakeKeeps = (bases : Bases) (L : List Record) (c : CoreState) → RunsOn bases L c → RunsOn bases L (with_system c (taken c.system))

abbrev pub FlushKeeps : Type 0
FlushKeeps = (bases : Bases) (L frame : List Record) (c : CoreState) → RunsOn bases L c → RunsOn bases L (with_vault c (longer c.vault frame))

abbrev pub FaultKeeps : Type 0
FaultKeeps = (bases : Bases) (L : List Record) (c : CoreState) (faults : ℕ) → RunsOn bases L c → RunsOn bases L (with_vault c (faulted c.vault faults))

-- n records are flushed, m were taken
abbrev pub FlushLeaves : (Files → Type 0) → (Files → Type 0) → Type 0
FlushLeaves old new =
    (L : List Record) (n m : ℕ) (v : VaultState) → VaultRun old L n v
    → n ≤ m → m ≤ length L → v.stopped ≡ false → Appended old new (drop n (take m L))
    → VaultRun new L m (longer v (drop n (take m L)))

abbrev pub FaultLeaves : (Files → Type 0) → (Files → Type 0) → Type 0
FaultLeaves old new =
    (L : List Record) (n m faults : ℕ) (v : VaultState) → VaultRun old L n v
    → n ≤ m → m ≤ length L → v.stopped ≡ false → HasRisen v.faults faults → Appending old new (drop n (take m L))
    → VaultRun new L n (faulted v faults)

-- also of a vault that has stopped
abbrev pub EndIsSmall : Type 0
EndIsSmall = (bases : Bases) (before : List Record) (c : CoreState) → IsRun bases before no_image c → c.vault.end < 2 ^ 62
