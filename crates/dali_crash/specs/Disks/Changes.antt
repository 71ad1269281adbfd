-- What a disk spells behind a change of one of its files, whoever made it: no run and no step is asked for.
--     other_file F             the file of the image that the anchor doesn't name
--     SpellsBeside             the same, whatever is written to that file
--     longer F more            the files with more batches in their log
--     SpellsLonger             these, where the log has them
--     SpellsGrown              so it is where the log from before was read as batches, and now has more behind them
--     FlushSpells              a disk that a flush leaves spells whatever one from before spelled, with the frame's batch
--     FaultSpells              and while the flush is under way, or behind a fault in it, with that batch or without it
--     SpellsTurned             the files with the image of that file, where the anchor has one gate more and that file spells it
use Rattle.std.specs.Prelude.{ℕ, ◌+◌, ◌⊎◌, List, ◌++◌}
use Rattle.dali_record.specs.declared.records.Record.{Record}
use Rattle.dali_record.specs.Files.{Files}
use Rattle.dali_store.specs.declared.store.FileName.{FileName}
use Rattle.dali_store.specs.declared.store.FileName.TheVariants.{Log, Anchor}
use Rattle.dali_store.specs.Store.{Files as Disk, SameBut}
use Rattle.dali_log.specs.Appending.{bodies_of, SomeAdded, AllAdded}
use Rattle.dali_log.specs.Log.{body_bytes, AreSpelled, LogOf}
use Rattle.dali_runs.specs.Flushes.{with_frame}
use Rattle.dali_crash.specs.Checkpoints.{Head, side_of, turned}
use Rattle.dali_crash.specs.Disks.Disks.{IsImageOf, Spells, image_file, image_name, sizes_in}
use Rattle.dali_log.specs.Anchors.{IsAnchor}

abbrev pub other_file : Files → FileName
other_file F = image_name (side_of (F.gates + 1))

abbrev pub SpellsBeside : Type 0
SpellsBeside = (c d : Disk) (F : Files) → Spells d F → SameBut (other_file F) d c → Spells c F

abbrev pub longer : Files → List (List Record) → Files
longer F more = record F { batches = F.batches ++ more }

abbrev pub SpellsLonger : Type 0
SpellsLonger =
    (c d : Disk) (F : Files) (more : List (List Record)) (end : ℕ) → Spells d F
    → SameBut Log d c → LogOf c.log (F.batches ++ more) end
    → Spells c (longer F more)

abbrev pub SpellsGrown : Type 0
SpellsGrown =
    (c d : Disk) (F : Files) (made more : List (List Record)) (at end : ℕ) → Spells d F
    → LogOf d.log made at → SameBut Log d c → LogOf c.log (made ++ more) end
    → Spells c (longer F more)

-- the logs from before are one row of batches, and the frame can be spelled
module _ (old : Disk → Type 0) where
  abbrev pub FlushSpells : Type 0
  FlushSpells =
      (made : List (List Record)) (at : ℕ) (frame : List Record) (c : Disk) → ((d : Disk) → old d → LogOf d.log made at) → AreSpelled frame
      → AllAdded old at (bodies_of (body_bytes frame)) c
      → (d : Disk) × old d × ((F : Files) → Spells d F → Spells c (with_frame F frame))

  abbrev pub FaultSpells : Type 0
  FaultSpells =
      (made : List (List Record)) (at : ℕ) (frame : List Record) (c : Disk) → ((d : Disk) → old d → LogOf d.log made at) → AreSpelled frame
      → SomeAdded old at (bodies_of (body_bytes frame)) c
      → (d : Disk) × old d × (((F : Files) → Spells d F → Spells c F) ⊎ ((F : Files) → Spells d F → Spells c (with_frame F frame)))

abbrev pub SpellsTurned : Type 0
SpellsTurned =
    (c d : Disk) (F : Files) (h : Head) (image : List (List ℕ)) → Spells d F
    → SameBut Anchor d c → IsAnchor c.anchor (F.gates + 1) → IsImageOf (sizes_in F) (image_file (side_of (F.gates + 1)) d) h image
    → Spells c (turned F h image)
