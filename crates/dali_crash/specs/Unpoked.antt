-- Steps that are stray writes, and restarts that delete nobody.
--     pokes x, store_pokes x   whether the step is a stray write, of a core and of a core with its store
--     DeletesNobody F          a restart of the crash image F deletes nobody of its last epoch
use Rattle.std.specs.Prelude.{◌≡◌, Bool, true, false, []}
use Rattle.dali_record.specs.Epochs.{last_epoch}
use Rattle.dali_record.specs.Damage.{deleted_list}
use Rattle.dali_record.specs.Files.{Files}
use Rattle.dali_runs.specs.Run.{log_in}
use Rattle.dali_runs.specs.Regions.{RegionStep, Poke}
use Rattle.dali_runs.specs.Courses.{Step, OnRegion}
use Rattle.dali_crash.specs.Checkpoints.{StoreStep, Does}

abbrev pub is_poke : RegionStep → Bool
is_poke (Poke i m) = true
is_poke _ = false

abbrev pub pokes : Step → Bool
pokes (OnRegion r x) = is_poke x
pokes _ = false

abbrev pub store_pokes : StoreStep → Bool
store_pokes (Does x) = pokes x
store_pokes _ = false

-- a restart of the crash image deletes nobody of its last epoch
abbrev pub DeletesNobody : Files → Type 0
DeletesNobody F = deleted_list (last_epoch (log_in F)) ≡ []
