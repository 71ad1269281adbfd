-- An image that stands for a map, and the running logs whose base is one.
--     Holds s image m      the image is a base that the law of kept records takes, and its records are the map m
--     IsFront L F          F is the log L up to its last epoch
--     IsRunning L          L keeps all that a history keeps, but honesty of its last epoch
use Rattle.std.specs.Prelude.{◌≡◌, ◌<◌, ℕ, List, [], ◌++◌}
use Rattle.dali_geometry.specs.Sizes.{Sizes}
use Rattle.dali_geometry.specs.Places.{formatted_image}
use Rattle.dali_access.specs.Index.Invariant.{IsImage, IsIndexed, IsTidy}
use Rattle.dali_record.specs.declared.records.Record.{Record}
use Rattle.dali_record.specs.Epochs.{cut, last_epoch}
use Rattle.dali_record.specs.Locks.{IsLockLegal}
use Rattle.dali_record.specs.Legal.{sizes_of, IsLegal}
use Rattle.dali_history.specs.Serial.{Map}
use Rattle.dali_history.specs.Images.{HasRecords}
use Rattle.dali_history.specs.Recovered.{AreHonest}
use Rattle.dali_history.specs.History.{AreSpelled}

pub record Holds (s : Sizes) (image : List (List ℕ)) (m : Map) : Type 0 where
  pub image_is : IsImage s image
  pub indexed : IsIndexed s image
  pub tidy : IsTidy s image
  pub records_are : HasRecords s image m

pub record IsFront (L F : List Record) : Type 0 where
  pub splits : L ≡ F ++ (last_epoch L).records
  pub empty : (last_epoch F).records ≡ []
  pub same : (cut L).closed ≡ (cut F).closed

pub record IsRunning (L : List Record) : Type 0 where
  pub some_index : 0 < (sizes_of L).index
  pub some_heap : 0 < (sizes_of L).heap
  pub spelled : AreSpelled L
  pub legal : IsLegal L
  pub locks : IsLockLegal L
  pub honest : AreHonest (sizes_of L) (formatted_image (sizes_of L)) (cut L).closed
