-- The vault's part of a run and of each step, in words of the vault alone.
--     VaultFlushes, VaultFaults     the vault's part once a frame is flushed, and where the flush meets a fault
--     VaultReads               and where a read of the log fails
--     VaultMisses              it stays while others log
--     VaultIsShort             in a legal log it ends below 2^62: so a flush may add its frame behind it
--     BareVaultFlushes, BareVaultFaults, BareVaultReads, BareVaultMisses, BareVaultIsShort    so it is where nothing is said of crashes
--     IsVaultStep frame v x w  what the step x does to the vault, with this frame in hand: it leads from v to w
--     StepHasVault             each step of a core is one of its vault, with the frame that was taken
use Rattle.std.specs.Prelude.{◌≡◌, ℕ, ◌<◌, ◌≤◌, ◌^◌, ◌⊎◌, false, List, ◌++◌, length, drop, take}
use Rattle.dali_geometry.specs.Sizes.{Sizes}
use Rattle.dali_record.specs.declared.records.Record.{Record}
use Rattle.dali_record.specs.Files.{Files}
use Rattle.dali_runs.specs.State.{VaultState, CoreState}
use Rattle.dali_runs.specs.Run.{LogRun, VaultRun, HasRisen, only, no_image}
use Rattle.dali_runs.specs.Flushes.{frame_of, with_frame, longer, faulted, read_failed}
use Rattle.dali_runs.specs.Courses.{Step, IsStep, Flushes, Faults, ReadFails}

-- n records are flushed, m were taken
abbrev pub VaultFlushes : Type 0
VaultFlushes =
    (L : List Record) (n m : ℕ) (v : VaultState) (D : Files) → VaultRun (only D) L n v
    → n ≤ m → m ≤ length L → v.stopped ≡ false
    → VaultRun (only (with_frame D (drop n (take m L)))) L m (longer v (drop n (take m L)))

abbrev pub VaultFaults : Type 0
VaultFaults =
    (L : List Record) (n m faults : ℕ) (v : VaultState) (D F : Files) → VaultRun (only D) L n v
    → n ≤ m → m ≤ length L → v.stopped ≡ false → HasRisen v.faults faults
    → (F ≡ D) ⊎ (F ≡ with_frame D (drop n (take m L)))
    → VaultRun (only F) L n (faulted v faults)

abbrev pub VaultReads : Type 0
VaultReads =
    (L : List Record) (n faults : ℕ) (v : VaultState) (D : Files) → VaultRun (only D) L n v → HasRisen v.faults faults
    → VaultRun (only D) L n (read_failed v faults)

abbrev pub VaultMisses : Type 0
VaultMisses = (L more : List Record) (n : ℕ) (v : VaultState) (D : Files) → VaultRun (only D) L n v → VaultRun (only D) (L ++ more) n v

abbrev pub VaultIsShort : Type 0
VaultIsShort = (s : Sizes) (L : List Record) (n : ℕ) (v : VaultState) (D : Files) → LogRun s L → VaultRun (only D) L n v → v.end < 2 ^ 62

-- ---- where nothing is said of crashes
abbrev pub BareVaultFlushes : Type 0
BareVaultFlushes =
    (L : List Record) (n m : ℕ) (v : VaultState) → VaultRun no_image L n v
    → n ≤ m → m ≤ length L → v.stopped ≡ false
    → VaultRun no_image L m (longer v (drop n (take m L)))

abbrev pub BareVaultFaults : Type 0
BareVaultFaults =
    (L : List Record) (n m faults : ℕ) (v : VaultState) → VaultRun no_image L n v
    → n ≤ m → m ≤ length L → v.stopped ≡ false → HasRisen v.faults faults
    → VaultRun no_image L n (faulted v faults)

abbrev pub BareVaultReads : Type 0
BareVaultReads = (L : List Record) (n faults : ℕ) (v : VaultState) → VaultRun no_image L n v → HasRisen v.faults faults → VaultRun no_image L n (read_failed v faults)

abbrev pub BareVaultMisses : Type 0
BareVaultMisses = (L more : List Record) (n : ℕ) (v : VaultState) → VaultRun no_image L n v → VaultRun no_image (L ++ more) n v

abbrev pub BareVaultIsShort : Type 0
BareVaultIsShort = (s : Sizes) (L : List Record) (n : ℕ) (v : VaultState) → LogRun s L → VaultRun no_image L n v → v.end < 2 ^ 62

-- ---- what steps do to it
abbrev pub IsVaultStep : List Record → VaultState → Step → VaultState → Type 0
IsVaultStep frame v Flushes w = (v.stopped ≡ false) × (w ≡ longer v frame)
IsVaultStep frame v (Faults n) w = (v.stopped ≡ false) × HasRisen v.faults n × (w ≡ faulted v n)
IsVaultStep frame v (ReadFails n) w = HasRisen v.faults n × (w ≡ read_failed v n)
IsVaultStep frame v x w = w ≡ v

abbrev pub StepHasVault : Type 0
StepHasVault = (L M : List Record) (c d : CoreState) (x : Step) → IsStep L c x M d → IsVaultStep (frame_of L c) c.vault x d.vault
