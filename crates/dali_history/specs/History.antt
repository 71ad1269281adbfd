-- A history, and what a restart of one gives.
--     AreSpelled L             each record of the log has a spelling
--     IsHistory L              a log that a run leaves, from which no damage escaped
--     HasExpected L image      the image has exactly the records that the survivors leave
--     RestartGives L image rolled deleted      the image that a restart hands out, and the two lists that it reports
use Rattle.std.specs.Prelude.{◌≡◌, ◌<◌, ℕ, List, Some, slice_get}
use Rattle.dali_record.specs.declared.records.Record.{Record}
use Rattle.dali_record.specs.Spelling.{CanBeSpelled}
use Rattle.dali_record.specs.Epochs.{recovered_epoch}
use Rattle.dali_record.specs.Locks.{IsLockLegal}
use Rattle.dali_record.specs.Damage.{rolled_list, deleted_list}
use Rattle.dali_record.specs.Legal.{IsLegal, sizes_of}
use Rattle.dali_history.specs.Serial.{Map, expected}
use Rattle.dali_history.specs.Recovered.{IsHonest}
use Rattle.dali_history.specs.Images.{HasRecords}

abbrev pub AreSpelled : List Record → Type 0
AreSpelled L = (i : ℕ) (r : Record) → slice_get L i ≡ Some r → CanBeSpelled r

pub record IsHistory (L : List Record) : Type 0 where
  pub some_index : 0 < (sizes_of L).index
  pub some_heap : 0 < (sizes_of L).heap
  pub spelled : AreSpelled L
  pub legal : IsLegal L
  pub locks : IsLockLegal L
  pub honest : IsHonest (sizes_of L) L

-- the image has exactly the records that the survivors leave
pub record HasExpected (L : List Record) (image : List (List ℕ)) : Type 0 where
  pub map : Map
  pub expected_is : expected L ≡ Some map
  pub records_are : HasRecords (sizes_of L) image map

-- what a restart hands out: an image and the two lists that it reports
pub record RestartGives (L : List Record) (image : List (List ℕ)) (rolled deleted : List ℕ) : Type 0 where
  pub records : HasExpected L image
  pub rolled_is : rolled ≡ rolled_list (recovered_epoch L)
  pub deleted_is : deleted ≡ deleted_list (recovered_epoch L)
