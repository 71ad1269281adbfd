-- The head that is kept for an image fits its fields.
--     IsHeadOf L h             it says what is so of the log L: the number of records and the sum of their lengths, the next transaction's number, and
--                              the table of its last epoch, or none, as behind a restart
--     HeadsFit                 where the log is legal, what a file of an image asks for comes to this: its number and place fit, and the words of its
--                              regions do
--     KeptFits                 so does the head that a checkpoint of a run keeps
--     StaysFitting             and it does at every later moment of the run, as long as it is kept
--     NextFits                 once each region has a copy, the words fit too, a region with stray writes among them: so what a checkpoint kept and copied can
--                              be the next image
use Rattle.std.specs.Prelude.{◌≡◌, ◌⊎◌, ◌<◌, ◌+◌, ℕ, List, [], Some, true, is_some, length, sum_by}
use Rattle.dali_geometry.specs.Sizes.{Sizes}
use Rattle.dali_geometry.specs.Places.{regions}
use Rattle.dali_record.specs.declared.records.Record.{Record}
use Rattle.dali_record.specs.Blocks.{AllAreWords}
use Rattle.dali_record.specs.Epochs.{last_epoch}
use Rattle.dali_record.specs.Legal.{IsLegalFor}
use Rattle.dali_record.specs.Files.{table_before, next_after}
use Rattle.dali_record.specs.Spelling.{Is64, record_length}
use Rattle.dali_history.specs.History.{AreSpelled}
use Rattle.dali_runs.specs.State.{CoreState}
use Rattle.dali_runs.specs.Run.{Bases, RunsOn, no_image}
use Rattle.dali_crash.specs.Checkpoints.{Head, Point, head_now, image_in, target}
use Rattle.dali_crash.specs.StoreRuns.{StoreRun}
use Rattle.dali_crash.specs.Disks.Disks.{CanBeImage}

pub record IsHeadOf (L : List Record) (h : Head) : Type 0 where
  pub first : h.first ≡ length L
  pub weight : h.weight ≡ sum_by record_length L
  pub next : h.next ≡ next_after L
  pub table : (h.table ≡ table_before (last_epoch L) (length L)) ⊎ (h.table ≡ [])

abbrev pub HeadsFit : Type 0
HeadsFit =
    (s : Sizes) (L : List Record) (h : Head) (image : List (List ℕ)) → IsLegalFor s L → AreSpelled L → 0 < length L → IsHeadOf L h
    → Is64 h.number → Is64 h.place
    → length image ≡ regions s → AllAreWords image
    → CanBeImage s h image

abbrev pub KeptFits : Type 0
KeptFits =
    (bases : Bases) (L : List Record) (c : CoreState) (image : List (List ℕ)) → RunsOn bases L c
    → Is64 (c.vault.current + 1) → Is64 c.vault.end
    → length image ≡ regions c.system.sizes → AllAreWords image
    → CanBeImage c.system.sizes (head_now L c) image

-- at the writes, the syncs and the anchor's move, however many records were logged since
abbrev pub StaysFitting : Type 0
StaysFitting =
    (bases : Bases) (before : List Record) (p : Point) (h : Head) (image : List (List ℕ)) → StoreRun bases before no_image p
    → p.begun ≡ Some h → Is64 h.number → Is64 h.place
    → length image ≡ regions p.core.system.sizes → AllAreWords image
    → CanBeImage p.core.system.sizes h image

abbrev pub NextFits : Type 0
NextFits =
    (bases : Bases) (before : List Record) (p : Point) (h : Head) → StoreRun bases before no_image p → p.begun ≡ Some h
    → ((r : ℕ) → r < regions p.core.system.sizes → is_some (p.copies (target p) r) ≡ true)
    → CanBeImage p.core.system.sizes h (image_in p.core.system.sizes p.told (target p))
