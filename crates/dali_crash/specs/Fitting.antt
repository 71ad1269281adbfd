-- Files that fit a log, with images of full length.
--     FitsWhole s base K F e   the files fit the log K at the epoch e, and image and base have all regions
--     ButIsWhole               so they do where they fit but for missed regions, and none is missed
--     recover_from s image n e what a restart makes of an image and of the records of epoch e from number n on
--     RecoversFromImage        that is what it makes of the base and all records of the epoch
--     RedoesTheEpoch           the records from the image's number on, written over the image, come to what the
--                              whole epoch comes to over its base
use Rattle.std.specs.Prelude.{◌≡◌, ℕ, ◌-◌, ◌<◌, Bool, false, List, length, take, drop, fold}
use Rattle.dali_geometry.specs.Sizes.{Sizes}
use Rattle.dali_geometry.specs.Places.{regions}
use Rattle.dali_record.specs.declared.records.Record.{Record}
use Rattle.dali_record.specs.Epochs.{Epoch}
use Rattle.dali_record.specs.Damage.{damage_of, marks, kept_from}
use Rattle.dali_record.specs.Settled.{redo_all}
use Rattle.dali_record.specs.Files.{Files, Fits}
use Rattle.dali_history.specs.Recovered.{roll_back, freed, losers, undos_left, recover}
use Rattle.dali_runs.specs.Run.{Bases}
use Rattle.dali_runs.specs.Images.{FitsBut}

pub record FitsWhole (s : Sizes) (base : List (List ℕ)) (K : List Record) (F : Files) (e : Epoch) : Type 0 where
  pub fits : Fits s base K F e
  pub image_whole : length F.image ≡ regions s
  pub base_whole : length base ≡ regions s

abbrev pub ButIsWhole : Type 0
ButIsWhole =
    (s : Sizes) (bases : Bases) (missed : ℕ → Bool) (K : List Record) (F : Files) (e : Epoch) → FitsBut s bases missed K F e
    → length (bases e.first) ≡ regions s
    → ((r : ℕ) → r < regions s → missed r ≡ false)
    → FitsWhole s (bases e.first) K F e

abbrev pub RedoesTheEpoch : Type 0
RedoesTheEpoch =
    (s : Sizes) (base : List (List ℕ)) (K : List Record) (F : Files) (e : Epoch) → FitsWhole s base K F e
    → redo_all F.image (drop (F.first - e.first) e.records) ≡ redo_all base e.records

-- of the records from number n on, those that damage didn't reach are written over the image; then the undos of
-- the whole epoch are performed, and what is dead is freed
abbrev pub recover_from : Sizes → List (List ℕ) → ℕ → Epoch → List (List ℕ)
recover_from s image n e =
    let ms = marks (damage_of e) e.records in
    let k = n - e.first in
    let redone = redo_all image (kept_from (take k ms) (drop k ms)) in
    freed s (fold (λ im t. roll_back im (undos_left ms t)) redone (losers e ms))

abbrev pub RecoversFromImage : Type 0
RecoversFromImage =
    (s : Sizes) (base : List (List ℕ)) (K : List Record) (F : Files) (e : Epoch) → FitsWhole s base K F e
    → recover_from s F.image F.first e ≡ recover s base e
