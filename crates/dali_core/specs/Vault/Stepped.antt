-- A vault as a run sees it, and that what its calls leave are steps of a run. What a flush, a fault or the anchor's move leave of the vault is in the contracts
-- of its calls (`grown`, `faulted`, `moved`); here a run has it.
--     counted_then n           the count of faults that a run takes as the one at the load, where the store handed in had n: it stands still at its
--                              type's end
--     vault_in faults n v      the vault v in a run, since whose load the store had n faults
--     BeginsRight              a vault that was just made may run over a log, where its place and its number are no greater than the log's records allow
--     IsFrameOf f rs           the frame f has these records
--     FlushIsStep              what a flush leaves on Ok is what its step leaves
--     FaultIsStep, ReadFailIsStep      so it is of a fault in a flush, and of a read of the log that fails
--     TurnIsCounted            the anchor's move counts one more
--     OthersLeave              the image's writes, its syncs and a read that succeeds leave the vault as it was, where the store's count stayed; and a fault in
--                              one stops it as one in a flush does
use Rattle.std.specs.Prelude.{◌≡◌, ℕ, ◌+◌, ◌-◌, ◌*◌, ◌^◌, ◌≤◌, min, false, List, length, sum_by}
use Rattle.dali_record.specs.declared.records.Record.{Record}
use Rattle.dali_record.specs.Spelling.{record_length}
use Rattle.dali_store.specs.Faults.{Rose}
use Rattle.dali_log.specs.Batch.{Framed}
use Rattle.dali_log.specs.Log.{body_bytes}
use Rattle.dali_runs.specs.State.{VaultState, CoreState, log_after}
use Rattle.dali_runs.specs.Run.{Bases, IsRun, no_image}
use Rattle.dali_runs.specs.Flushes.{frame_of, with_vault, faulted as faulted_in}
use Rattle.dali_runs.specs.Courses.{IsStep, Flushes, Faults, ReadFails}
use Rattle.dali_crash.specs.Checkpoints.{with_current}
use Rattle.dali_crash.specs.Traces.{MayRun}
use Rattle.dali_core.specs.Vault.Vaulted.{Vaulted, with_store, grown, moved, faulted}

abbrev pub counted_then : ℕ → ℕ
counted_then n = min n (2 ^ 64 - 1)

pub record IsFrameOf (f : Framed) (rs : List Record) : Type 0 where
  pub body : f.body ≡ body_bytes rs
  pub records : f.records ≡ length rs

module _ {V : Type 0} (faults : V → ℕ) where
  abbrev pub vault_in : ℕ → Vaulted V → VaultState
  vault_in n v = record { stopped = v.stopped; end = v.end; flushed = v.flushed; current = v.current; faults_then = counted_then n; faults = faults v.store }

  abbrev pub BeginsRight : Type 0
  BeginsRight =
      (L : List Record) (store : V) (end current : ℕ) → end ≤ sum_by record_length L + 5 * length L → current ≤ length L + 2 ^ 61
      → MayRun L (vault_in (faults store) (record { store = store; end = end; flushed = 0; current = current; stopped = false }))

  -- the core whose log this is has this vault
  abbrev pub FlushIsStep : Type 0
  FlushIsStep =
      (bases : Bases) (before : List Record) (c : CoreState) (n : ℕ) (v : Vaulted V) (store : V) (f : Framed) → IsRun bases before no_image c
      → c.vault ≡ vault_in n v → IsFrameOf f (frame_of (log_after before c.system) c)
      → v.stopped ≡ false → faults store ≡ faults v.store
      → IsStep (log_after before c.system) c Flushes (log_after before c.system) (with_vault c (vault_in n (grown v store f)))

  abbrev pub FaultIsStep : Type 0
  FaultIsStep =
      (L : List Record) (c : CoreState) (n : ℕ) (v : Vaulted V) (store : V) → c.vault ≡ vault_in n v
      → v.stopped ≡ false → Rose (faults v.store) (faults store)
      → IsStep L c (Faults (faults store)) L (with_vault c (vault_in n (faulted v store)))

  abbrev pub ReadFailIsStep : Type 0
  ReadFailIsStep =
      (L : List Record) (c : CoreState) (n : ℕ) (v : Vaulted V) (store : V) → c.vault ≡ vault_in n v → Rose (faults v.store) (faults store)
      → IsStep L c (ReadFails (faults store)) L (with_vault c (vault_in n (with_store v store)))

  abbrev pub TurnIsCounted : Type 0
  TurnIsCounted =
      (c : CoreState) (n : ℕ) (v : Vaulted V) (store : V) → c.vault ≡ vault_in n v → faults store ≡ faults v.store
      → with_vault c (vault_in n (moved v store)) ≡ with_current c

  abbrev pub OthersLeave : Type 0
  OthersLeave =
      (n : ℕ) (v : Vaulted V) (store : V)
      → (faults store ≡ faults v.store → vault_in n (with_store v store) ≡ vault_in n v)
      × (vault_in n (faulted v store) ≡ faulted_in (vault_in n v) (faults store))
