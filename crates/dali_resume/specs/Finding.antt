-- The undos of a restart find their slots, where it begins with an image.
--     WritesAlike              the records that the scan keeps, written over the image, come to what those that the epoch keeps come to over its base
--     FindsFromImage           there each undo finds its slot as its transaction left it: state and key, and word by word what stood right behind
--                              the block that left it, whichever transaction comes first
--     FindsInLast              so it is in the last epoch of a history, over its base
--     FindsAfterCrash          and in what a crash of a run with its store leaves, where no damage escaped
--     KeepsUndos               these are the undos that the scan keeps
use Rattle.std.specs.Prelude.{◌≡◌, ℕ, true, List, IsPermutation}
use Rattle.dali_geometry.specs.Sizes.{Sizes}
use Rattle.dali_record.specs.declared.records.Record.{Record}
use Rattle.dali_record.specs.Log.{undos_of}
use Rattle.dali_record.specs.Epochs.{Epoch, last_epoch}
use Rattle.dali_record.specs.Damage.{has}
use Rattle.dali_record.specs.Legal.{sizes_of, IsLegalFor}
use Rattle.dali_record.specs.Files.{Files, table_before}
use Rattle.dali_record.specs.Settled.{redo_all}
use Rattle.dali_history.specs.History.{AreSpelled, IsHistory}
use Rattle.dali_history.specs.Marked.{marks_of, kept_of}
use Rattle.dali_history.specs.Recovered.{base_of, losers}
use Rattle.dali_history.specs.Undos.{FindsAll, undos_in}
use Rattle.dali_history.specs.Undone.AsLeft.{FindAsLeft, IsEpochOn}
use Rattle.dali_runs.specs.State.{CoreState}
use Rattle.dali_runs.specs.Run.{log_in}
use Rattle.dali_crash.specs.Fitting.{FitsWhole}
use Rattle.dali_crash.specs.StoreRuns.{CrashIsRightWith}
use Rattle.dali_resume.specs.Resumed.{records_from, losers_by}
use Rattle.dali_resume.specs.Laws.{scan_all}

abbrev pub WritesAlike : Type 0
WritesAlike =
    (s : Sizes) (base : List (List ℕ)) (L : List Record) (F : Files) (e : Epoch) → FitsWhole s base L F e → IsLegalFor s L → AreSpelled L
    → redo_all F.image (scan_all e F.first).kept ≡ redo_all base (kept_of e)

-- what the scan keeps, written over the image
abbrev pub rewritten_from : Epoch → Files → List (List ℕ)
rewritten_from e F = redo_all F.image (scan_all e F.first).kept

abbrev pub FindsFromImage : Type 0
FindsFromImage =
    (L : List Record) (F : Files) (e : Epoch) (base : List (List ℕ)) → IsEpochOn L e base → FitsWhole (sizes_of L) base L F e
    → (order : List ℕ) → IsPermutation order (losers e (marks_of e))
    → FindsAll (rewritten_from e F) (undos_in order (kept_of e)) × FindAsLeft base (kept_of e) (rewritten_from e F) order

abbrev pub FindsInLast : Type 0
FindsInLast =
    (L : List Record) (F : Files) → IsHistory L → FitsWhole (sizes_of L) (base_of (sizes_of L) L) L F (last_epoch L)
    → (order : List ℕ) → IsPermutation order (losers (last_epoch L) (marks_of (last_epoch L)))
    → FindsAll (rewritten_from (last_epoch L) F) (undos_in order (kept_of (last_epoch L)))
    × FindAsLeft (base_of (sizes_of L) L) (kept_of (last_epoch L)) (rewritten_from (last_epoch L) F) order

abbrev pub FindsAfterCrash : Type 0
FindsAfterCrash =
    (before : List Record) (c : CoreState) (F : Files) → CrashIsRightWith before c F
    → (order : List ℕ) → IsPermutation order (losers (last_epoch (log_in F)) (marks_of (last_epoch (log_in F))))
    → FindAsLeft (base_of (sizes_of (log_in F)) (log_in F)) (kept_of (last_epoch (log_in F))) (rewritten_from (last_epoch (log_in F)) F) order

abbrev pub KeepsUndos : Type 0
KeepsUndos =
    (s : Sizes) (base : List (List ℕ)) (L : List Record) (F : Files) (e : Epoch) → FitsWhole s base L F e → IsLegalFor s L → AreSpelled L
    → (t : ℕ) → has (losers_by (table_before e F.first) (records_from F.first e) (scan_all e F.first)) t ≡ true → (scan_all e F.first).undos t ≡ undos_of t (kept_of e)
