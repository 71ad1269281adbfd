-- What the lists of restarts and the table say, and several lives of a store without stray writes.
--     named_deleted r          the deleted transactions that a Restarted names
--     reported L               those of all Restarted records of the log, and those of its open epoch
--     ReportsAllDeleted        these are just the transactions that are deleted by a chain somewhere, ascending, and so just a replay's list of them
--     kept_row t row           a row of the table, as a checkpoint keeps it
--     TableIsKept              the rows of the table are just those that a checkpoint keeps that starts now
--     Life, IsLife L x M       a core with its store over the log L and files at rest, some steps without a stray write, a crash image that came
--                              along them, and its restart, which leaves the log M
--     AreLives L xs M          these lives, one after another
--     NobodyIsDeleted          from a format on, whatever lives follow, no audit failed in any epoch, and nobody is deleted in any
use Rattle.std.specs.Prelude.{◌≡◌, ℕ, ◌≤◌, Bool, false, List, [], ◌∷◌, ◌++◌, ◌↔◌, flat_map, length, Contains, Some}
use Rattle.std.specs.List.{list_any}
use Rattle.std.specs.List.Sorted.{IsStrictlyIncreasing}
use Rattle.dali_geometry.specs.Sizes.{Sizes}
use Rattle.dali_record.specs.declared.records.Record.{Record}
use Rattle.dali_record.specs.declared.records.Record.TheVariants.{Format, Restarted}
use Rattle.dali_record.specs.Spelling.{CanBeSpelled}
use Rattle.dali_record.specs.Log.{committed}
use Rattle.dali_record.specs.Epochs.{Epoch, epochs, last_epoch, recovered_epoch}
use Rattle.dali_record.specs.Damage.{rolled_list, deleted_list}
use Rattle.dali_record.specs.Legal.{IsLegal, sizes_of, Rules, rules_state}
use Rattle.dali_record.specs.Files.{Files, Row, table_before}
use Rattle.dali_region.specs.declared.Side.{Side}
use Rattle.dali_history.specs.Serial.{survivors}
use Rattle.dali_history.specs.History.{IsHistory}
use Rattle.dali_history.specs.Acknowledged.{IsDeletedByChain}
use Rattle.dali_replay.specs.Replayed.{Replayed, IsReplay}
use Rattle.dali_runs.specs.State.{TxnRow, VaultState, CoreState, row_of}
use Rattle.dali_runs.specs.Run.{Bases, RunsOn, is_committed, log_in}
use Rattle.dali_runs.specs.Images.{Told}
use Rattle.dali_crash.specs.Unpoked.{store_pokes}
use Rattle.dali_crash.specs.Checkpoints.{Head, StoreStep, Point, Traced}
use Rattle.dali_during.specs.During.{NoneFailed}
use Rattle.dali_crash.specs.Traces.{IsRestingImage}
use Rattle.dali_crash.specs.StoreRuns.{point_start}

-- ---- the lists of the deleted
abbrev pub named_deleted : Record → List ℕ
named_deleted (Restarted rs ds) = ds
named_deleted _ = []

abbrev pub reported : List Record → List ℕ
reported L = flat_map named_deleted L ++ deleted_list (last_epoch L)

-- across all epochs the list ascends, and is the one that a replay finds
pub record Reports (L : List Record) : Type 0 where
  pub epoch_by_epoch : reported L ≡ flat_map deleted_list (epochs L)
  pub members : (t : ℕ) → Contains (reported L) t ↔ IsDeletedByChain L t
  pub each_ascends : (e : Epoch) → Contains (epochs L) e → IsStrictlyIncreasing (deleted_list e)
  pub ascends : IsStrictlyIncreasing (reported L)
  pub replayed : (r : Replayed) → IsReplay L r → r.deleted ≡ reported L

abbrev pub ReportsAllDeleted : Type 0
ReportsAllDeleted = (L : List Record) → IsLegal L → Reports L

-- ---- the table
abbrev pub kept_row : ℕ → TxnRow → Row
kept_row t row = record { txn = t; is_committed = is_committed row.state; undos = row.undos }

abbrev pub TableIsKept : Type 0
TableIsKept =
    (bases : Bases) (L : List Record) (c : CoreState) → RunsOn bases L c
    → (w : Row) → Contains (table_before (last_epoch L) (length L)) w ↔ ((row : TxnRow) × (row_of c.system w.txn ≡ Some row) × (w ≡ kept_row w.txn row))

-- ---- several lives
pub record Life : Type 0 where
  pub rules : Rules
  pub limit : ℕ
  pub vault : VaultState
  pub first : Files
  pub told : Told
  pub heads : Side → Head
  pub synced : Side → Bool
  pub steps : List StoreStep
  pub finish : Point
  pub crash : Files

-- a restart adds its record where the log's last epoch has one
abbrev pub restarted : List Record → List Record → List Record
restarted K [] = K
restarted K (r ∷ E) = K ++ Restarted (rolled_list (recovered_epoch K)) (deleted_list (recovered_epoch K)) ∷ []

pub record IsLife (L : List Record) (x : Life) (M : List Record) : Type 0 where
  pub rules : rules_state (sizes_of L) L ≡ Some x.rules
  pub limit : x.limit ≤ 268435456
  pub rests : IsRestingImage L x.vault x.first
  pub unpoked : list_any store_pokes x.steps ≡ false
  pub trace : Traced (point_start L x.rules x.limit x.vault x.told x.heads x.synced) x.first x.steps x.finish x.crash
  pub log : M ≡ restarted (log_in x.crash) (last_epoch (log_in x.crash)).records

abbrev pub AreLives : List Record → List Life → List Record → Type 0
AreLives L [] M = M ≡ L
AreLives L (x ∷ xs) M = (K : List Record) × IsLife L x K × AreLives K xs M

pub record IsWholeLog (L : List Record) : Type 0 where
  pub history : IsHistory L
  pub none_open : (last_epoch L).records ≡ []
  pub none_failed : NoneFailed L
  pub none_deleted : survivors L ≡ committed L

abbrev pub NobodyIsDeleted : Type 0
NobodyIsDeleted = (s : Sizes) (xs : List Life) (M : List Record) → CanBeSpelled (Format s.index s.heap) → AreLives (Format s.index s.heap ∷ []) xs M → IsWholeLog M
