-- A log cut into epochs, by a walk over its records.
--     opens r                    an epoch begins behind r
--     closes r                   an epoch ends before r
--     IsCutAt L n first ds       behind n records of L the open epoch has begun at `first`, and ds are those that are deleted in the closed ones
use Rattle.std.specs.Prelude.{◌≡◌, ◌≤◌, ℕ, Bool, true, false, List, take, drop, flat_map}
use Rattle.dali_record.specs.declared.records.Record.{Record}
use Rattle.dali_record.specs.declared.records.Record.TheVariants.{Format, Restarted}
use Rattle.dali_record.specs.Epochs.{cut}
use Rattle.dali_replay.specs.Marking.{deleted_of}

abbrev pub opens : Record → Bool
opens (Format i h) = true
opens (Restarted rs ds) = true
opens _ = false

abbrev pub closes : Record → Bool
closes (Restarted rs ds) = true
closes _ = false

pub record IsCutAt (L : List Record) (n first : ℕ) (ds : List ℕ) : Type 0 where
  pub within : first ≤ n
  pub number : (cut (take n L)).now.first ≡ first
  pub records : (cut (take n L)).now.records ≡ drop first (take n L)
  pub deleted : ds ≡ flat_map deleted_of (cut (take n L)).closed
