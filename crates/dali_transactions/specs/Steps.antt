-- A commit in steps of its own.
--     LogsCommit t us s B p gs y v     its record is logged, and these removals are left to be freed
--     CommitLogs gs y v t us   so it is, wherever the core stands in a run and t is between two calls
--     Frees t us s B p v hs z  one removal was freed, and these are left
--     RemovalFrees t u gs y v hs z     so it is, wherever the core stands in a run and the rules of its log have t committed, with u the first that is left
--     CommitEnds t gs y v hs z         its end was logged, wherever the core stands in a run and nothing is left to be freed
use Rattle.std.specs.Prelude.{ℕ, List, [], ◌∷◌, Option}
use Rattle.dali_record.specs.declared.operations.Pending.{Pending}
use Rattle.dali_record.specs.declared.records.Record.{Record}
use Rattle.dali_record.specs.declared.records.Record.TheVariants.{Ended}
use Rattle.dali_region.specs.State.{RegionState}
use Rattle.dali_store.specs.Store.{Files as Disk}
use Rattle.dali_store.specs.declared.store.Store.{Ghosts}
use Rattle.dali_runs.specs.State.{SystemState}
use Rattle.dali_crash.specs.Checkpoints.{Point}
use Rattle.dali_crash.specs.Traces.{Start}
use Rattle.dali_core.specs.Vault.Vaulted.{Vaulted}
use Rattle.dali_runs.specs.Facts.Ends.{IsEnding}
use Rattle.dali_calls.specs.Single.Single.{MayCall}
use Rattle.dali_calls.specs.Single.Settling.{IsSoloOf}
use Rattle.dali_transactions.specs.Stands.{StandsAt}
use Rattle.dali_transactions.specs.Ended.{HasCome}
use Rattle.dali_transactions.specs.Left.{none_of}
use Rattle.dali_transactions.specs.Committed.{IsLogged}

module _ {V : Type 0} (means : Ghosts V) where
  pub record LogsCommit (t : ℕ) (us : List Pending) (s : Start) (B : List (List Record)) (p : Point) (gs : List RegionState) (y : SystemState) (v : Vaulted V) : Type 0 where
    pub logged : IsLogged means s B p gs y v t
    pub ending : IsEnding y.sizes logged.to.log t us

  abbrev pub CommitLogs : List RegionState → SystemState → Vaulted V → ℕ → List Pending → Type 0
  CommitLogs gs y v t us = (s : Start) (B : List (List Record)) (p : Point) → StandsAt means s B p gs y v → MayCall p.log p.core t → LogsCommit t us s B p gs y v

  pub record Frees (t : ℕ) (us : List Pending) (s : Start) (B : List (List Record)) (p : Point) (v : Vaulted V) (hs : List RegionState) (z : SystemState) : Type 0 where
    pub come : HasCome means t (IsSoloOf t) [] s B p v hs z
    pub ending : IsEnding z.sizes come.to.log t us

  abbrev pub RemovalFrees : ℕ → Pending → List RegionState → SystemState → Vaulted V → List RegionState → SystemState → Type 0
  RemovalFrees t u gs y v hs z =
      (us : List Pending) (s : Start) (B : List (List Record)) (p : Point) → StandsAt means s B p gs y v → IsEnding y.sizes p.log t (u ∷ us) → Frees t us s B p v hs z

  abbrev pub CommitEnds : ℕ → List RegionState → SystemState → Vaulted V → List RegionState → SystemState → Type 0
  CommitEnds t gs y v hs z =
      (s : Start) (B : List (List Record)) (p : Point) → StandsAt means s B p gs y v → IsEnding y.sizes p.log t [] → HasCome means t none_of (Ended t ∷ []) s B p v hs z
