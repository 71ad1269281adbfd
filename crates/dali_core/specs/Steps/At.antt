-- A vault at a point of a run.
--     IsVault v u              a run says u of the vault v
--     IsAt s B p v             a run from the start s has come to the point p with the vault v. Where the store tells what its reads give, each disk
--                              that a crash may leave spells files that came along its steps. While the vault runs they have the batches B, and each
--                              place that was written since the load reads the words that the run says, in both image files
--     Goes s p x B w           the step x leads from the point p to one where the vault is w
use Rattle.std.specs.Prelude.{◌≡◌, ℕ, false, List, Option, IfSome}
use Rattle.dali_record.specs.declared.records.Record.{Record}
use Rattle.dali_store.specs.Store.{Files as Disk}
use Rattle.dali_store.specs.declared.store.Store.{Ghosts}
use Rattle.dali_runs.specs.State.{VaultState}
use Rattle.dali_runs.specs.Run.{no_image}
use Rattle.dali_crash.specs.Checkpoints.{StoreStep, Point, IsPointStep}
use Rattle.dali_crash.specs.StoreRuns.{StoreRun}
use Rattle.dali_crash.specs.Traces.{Start, bases_of}
use Rattle.dali_crash.specs.Disks.Disks.{AllSpell}
use Rattle.dali_crash.specs.Disks.Bridges.{TracedTo}
use Rattle.dali_crash.specs.Disks.NewFiles.{ReadsCopies}
use Rattle.dali_core.specs.Vault.Vaulted.{Vaulted}

pub record IsVault {V : Type 0} (faults : V → ℕ) (v : Vaulted V) (u : VaultState) : Type 0 where
  pub stopped : u.stopped ≡ v.stopped
  pub end : u.end ≡ v.end
  pub flushed : u.flushed ≡ v.flushed
  pub current : u.current ≡ v.current
  pub counted : u.faults ≡ faults v.store

module _ {V : Type 0} (means : Ghosts V) where
  pub record IsAt (s : Start) (B : List (List Record)) (p : Point) (v : Vaulted V) : Type 0 where
    pub run : StoreRun (bases_of s) s.log no_image p
    pub vault : IsVault means.faults v p.core.vault
    pub files : IfSome (means.told v.store) (λ _. AllSpell (means.may_leave v.store) (TracedTo s B p))
    pub reads : v.stopped ≡ false → IfSome (means.told v.store) (ReadsCopies p)

  pub record Goes (s : Start) (p : Point) (x : StoreStep) (B : List (List Record)) (w : Vaulted V) : Type 0 where
    pub to : Point
    pub step : IsPointStep p x to
    pub is : IsAt s B to w
