-- Where a log ends, and where an image stands in it.
--     EndIsSmall               while the vault runs its log ends below 2^62, where each disk that a crash may leave spells files that came along steps,
--                              and some disk may be left: so a flush may add its frame behind it
--     PlaceIsSmall             and the place that a checkpoint keeps is below 2^62
--     LogIsFramed              a log is no longer than its records, with a frame for each: so whoever reads one knows what a start asks of its end
use Rattle.std.specs.Prelude.{◌≡◌, ◌<◌, ◌≤◌, ◌+◌, ◌*◌, ◌^◌, ℕ, List, Some, false, length, sum_by}
use Rattle.dali_record.specs.declared.records.Record.{Record}
use Rattle.dali_record.specs.Spelling.{record_length}
use Rattle.dali_store.specs.Store.{Files as Disk}
use Rattle.dali_log.specs.Log.{LogOf, records_in}
use Rattle.dali_crash.specs.Checkpoints.{Head, Point}
use Rattle.dali_crash.specs.Traces.{Start}
use Rattle.dali_crash.specs.Disks.Disks.{AllSpell}
use Rattle.dali_crash.specs.Disks.Bridges.{TracedTo}

module _ (may : Disk → Type 0) where
  abbrev pub EndIsSmall : Type 0
  EndIsSmall =
      (s : Start) (B : List (List Record)) (p : Point) → AllSpell may (TracedTo s B p) → (d : Disk) → may d
      → p.core.vault.stopped ≡ false
      → p.core.vault.end < 2 ^ 62

  abbrev pub PlaceIsSmall : Type 0
  PlaceIsSmall =
      (s : Start) (B : List (List Record)) (p : Point) → AllSpell may (TracedTo s B p) → (d : Disk) → may d
      → (h : Head) → p.begun ≡ Some h
      → h.place < 2 ^ 62

abbrev pub LogIsFramed : Type 0
LogIsFramed =
    (bytes : List ℕ) (B : List (List Record)) (end : ℕ) → LogOf bytes B end
    → end ≤ sum_by record_length (records_in B) + 5 * length (records_in B)
