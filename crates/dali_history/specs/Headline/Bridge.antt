-- From a log to what the law of kept records asks.
--     cuts_of e                        the transactions with a corrupt block
--     EpochIsKept s base e             the kept records of an epoch are as the law of kept records asks, and what recovery does with the epoch is what that law speaks of
--     HistoryIsKept                    so it is in each epoch of a history, on a base from which it is honest
use Rattle.std.specs.Prelude.{◌≡◌, ℕ, Bool, false, not, List, if◌then◌else◌, Option, Some, None, filter, filter_map, Contains}
use Rattle.dali_geometry.specs.Sizes.{Sizes}
use Rattle.dali_access.specs.Index.Invariant.{IsImage, IsIndexed, IsTidy}
use Rattle.dali_record.specs.declared.records.Record.{Record}
use Rattle.dali_record.specs.Log.{Touch, touch_of, undos_of, calls_of, committed}
use Rattle.dali_record.specs.Epochs.{Epoch, epochs}
use Rattle.dali_record.specs.Damage.{has_corrupt}
use Rattle.dali_record.specs.Settled.{redo_all}
use Rattle.dali_record.specs.Legal.{sizes_of}
use Rattle.dali_history.specs.Serial.{is_deleted_in}
use Rattle.dali_history.specs.Marked.{marks_of, kept_of}
use Rattle.dali_history.specs.Undos.{undos_in, undone}
use Rattle.dali_history.specs.Recovered.{losers, undos_left, recover, freed, IsHonestIn}
use Rattle.dali_history.specs.History.{IsHistory}
use Rattle.dali_history.specs.Kept.Kept.{AreKept, uncommitted}

abbrev pub txn_in : Option Touch → Option ℕ
txn_in None = None
txn_in (Some a) = Some a.txn

abbrev pub cut_by : Record × Bool → Option ℕ
cut_by m = if m.1 then txn_in (touch_of m.0) else None

abbrev pub cuts_of : Epoch → List ℕ
cuts_of e = filter_map cut_by (marks_of e)

pub record EpochIsKept (s : Sizes) (base : List (List ℕ)) (e : Epoch) : Type 0 where
  pub kept : AreKept s base (cuts_of e) (kept_of e)
  -- the epoch's survivors
  pub committed_are : committed (kept_of e) ≡ filter (λ t. not (is_deleted_in t e)) (committed e.records)
  pub calls_are : (t : ℕ) → has_corrupt (marks_of e) t ≡ false → calls_of t (kept_of e) ≡ calls_of t e.records
  -- those whose undos recovery performs, and these undos
  pub losers_are : losers e (marks_of e) ≡ uncommitted (kept_of e)
  pub undos_are : (t : ℕ) → undos_left (marks_of e) t ≡ undos_of t (kept_of e)
  pub recovered_is : recover s base e ≡ freed s (undone (redo_all base (kept_of e)) (undos_in (uncommitted (kept_of e)) (kept_of e)))

abbrev pub HistoryIsKept : Type 0
HistoryIsKept =
    (L : List Record) (base : List (List ℕ)) (e : Epoch)
    → IsHistory L → Contains (epochs L) e → IsHonestIn base e
    → IsImage (sizes_of L) base → IsIndexed (sizes_of L) base → IsTidy (sizes_of L) base
    → EpochIsKept (sizes_of L) base e
