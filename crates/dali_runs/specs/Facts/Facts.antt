-- What follows from a run about its table, its locks and its counts, in words of the log.
--     HoldsItsKeys             a transaction of the table holds the lock on the key of each of its blocks
--     HasItsUndos              one that isn't committed has the undos that the log leaves
--     HasCounts                the system's counts are those of the list
--     RowsAreOlder             the number of each row is below the next transaction's
--     CommittedIsLogged        a row says Committed exactly where the log has the Commit
--     HoldsTheBegun            the table has just the transactions of the last epoch with a Begin and no Ended
--     RefusalsTell             a transaction that ran was refused; an older one ran then, and is in the request's way until it ends
--     StopTells                what stopped the engine
--     RegionsTell              the words of a region against its codeword and its settled words
use Rattle.std.specs.Prelude.{◌≡◌, ℕ, ◌<◌, ◌≤◌, ◌↔◌, ◌⊎◌, Bool, true, false, not, ◌&&◌, List, Some, None, IsSome, length, sum_by, take, slice_get, slice_index, bit_xor}
use Rattle.dali_record.specs.declared.records.Record.{Record}
use Rattle.dali_record.specs.Log.{Touch, touch_at, undos_of, begun, committed, ended}
use Rattle.dali_record.specs.Damage.{has}
use Rattle.dali_record.specs.Epochs.{last_epoch, failing}
use Rattle.dali_record.specs.Settled.{settled}
use Rattle.dali_record.specs.Spelling.{record_length}
use Rattle.dali_record.specs.Files.{next_after}
use Rattle.dali_words.specs.Words.{parity_of}
use Rattle.dali_region.specs.State.{RegionState, is_written}
use Rattle.dali_locks.specs.Locks.{IsConflict}
use Rattle.dali_runs.specs.declared.refusals.Refusal.{Refusal}
use Rattle.dali_runs.specs.declared.causes.Cause.TheVariants.{Damage, Store}
use Rattle.dali_runs.specs.State.{TxnRow, CoreState, row_of, log_after}
use Rattle.dali_runs.specs.Run.{Bases, base_at, RunsOn, IsRun, holds, is_committed, EndedSince, first_of, HasRisen, no_image}

abbrev pub HoldsItsKeys : Type 0
HoldsItsKeys =
    (bases : Bases) (L : List Record) (c : CoreState) → RunsOn bases L c
    → (i : ℕ) (a : Touch) → touch_at (last_epoch L).records i ≡ Some a → IsSome (row_of c.system a.owner)
    → holds c.system a.owner a.block ≡ true

abbrev pub HasItsUndos : Type 0
HasItsUndos =
    (bases : Bases) (L : List Record) (c : CoreState) → RunsOn bases L c
    → (t : ℕ) (row : TxnRow) → row_of c.system t ≡ Some row → is_committed row.state ≡ false
    → row.undos ≡ undos_of t L

pub record Counts (L : List Record) (c : CoreState) : Type 0 where
  pub records : c.system.records ≡ length L
  pub end : c.system.end ≡ sum_by record_length L
  pub next : c.system.next ≡ next_after L

abbrev pub HasCounts : Type 0
HasCounts = (bases : Bases) (L : List Record) (c : CoreState) → RunsOn bases L c → Counts L c

abbrev pub RowsAreOlder : Type 0
RowsAreOlder =
    (bases : Bases) (L : List Record) (c : CoreState) → RunsOn bases L c
    → (t : ℕ) → IsSome (row_of c.system t) → t < c.system.next

abbrev pub CommittedIsLogged : Type 0
CommittedIsLogged =
    (bases : Bases) (L : List Record) (c : CoreState) → RunsOn bases L c
    → (t : ℕ) (row : TxnRow) → row_of c.system t ≡ Some row
    → is_committed row.state ≡ has (committed L) t

-- the last epoch has the Begin of t, and not its Ended
abbrev pub runs_in : List Record → ℕ → Bool
runs_in L t = has (begun (last_epoch L).records) t && not (has (ended (last_epoch L).records) t)

abbrev pub HoldsTheBegun : Type 0
HoldsTheBegun = (bases : Bases) (L : List Record) (c : CoreState) → RunsOn bases L c → (t : ℕ) → IsSome (row_of c.system t) ↔ (runs_in L t ≡ true)

-- ---- refused requests
pub record RefusalTells (L : List Record) (c : CoreState) (f : Refusal) : Type 0 where
  pub older : f.holder < f.txn
  pub within : f.at ≤ length L
  pub asked : runs_in (take f.at L) f.txn ≡ true
  pub ran : runs_in (take f.at L) f.holder ≡ true
  -- it has ended since, or runs and holds the key in a mode that isn't shared with the one that was asked for
  pub conflict : EndedSince f.holder f.at L ⊎ ((runs_in L f.holder ≡ true) × IsConflict c.system.locks f.txn f.key f.mode f.holder)

abbrev pub RefusalsTell : Type 0
RefusalsTell =
    (bases : Bases) (L : List Record) (c : CoreState) → RunsOn bases L c
    → (n : ℕ) (f : Refusal) → slice_get c.system.refusals n ≡ Some f
    → RefusalTells L c f

-- ---- the stop
pub record CauseTells (L : List Record) (c : CoreState) : Type 0 where
  -- the first region that the epoch's failed audit names
  pub damage : (r : ℕ) → (c.system.stop ≡ Some (Damage r)) ↔ (first_of (failing (last_epoch L)) ≡ Some r)
  -- the store has failed since it was loaded
  pub store : c.system.stop ≡ Some Store → (c.vault.stopped ≡ true) × HasRisen c.vault.faults_then c.vault.faults

-- whatever a crash may leave
abbrev pub StopTells : Type 0
StopTells =
    (bases : Bases) (before : List Record) (c : CoreState) → IsRun bases before no_image c
    → CauseTells (log_after before c.system) c

-- ---- the regions
pub record RegionTells (words : List ℕ) (g : RegionState) : Type 0 where
  pub codeword : bit_xor g.codeword (parity_of g.words) ≡ g.stray
  -- where no stray write came, these are the words, but for those that an open operation has written
  pub settled : g.poked ≡ false → (i : ℕ) → is_written g i ≡ false → slice_index g.words i ≡ slice_index words i
  pub unheld : g.poked ≡ false → g.hold ≡ None → g.words ≡ words

abbrev pub RegionsTell : Type 0
RegionsTell =
    (bases : Bases) (L : List Record) (c : CoreState) → RunsOn bases L c
    → (r : ℕ) (g : RegionState) → slice_get c.regions r ≡ Some g
    → RegionTells (settled (base_at bases L) (last_epoch L).records r) g
