-- The parts of a run that look at images. They come with checkpoints: a run has them besides the rest.
--     FilesRun told c          where a region's flag for a side is clear, the file of that side has its words
--     FitsBut s bases missed K F e      the files F fit the log K, but for missed regions
--     ImageRun bases leave told c       each region's clear flags are right, and each crash image fits the log that it has
use Rattle.std.specs.Prelude.{◌≡◌, ℕ, ◌-◌, ◌<◌, ◌≤◌, Bool, true, false, ◌⊎◌, List, [], Option, Some, length, take, drop, slice_get, flat_map, sum_by}
use Rattle.dali_geometry.specs.Sizes.{Sizes}
use Rattle.dali_geometry.specs.Places.{regions, formatted_image}
use Rattle.dali_record.specs.declared.records.Record.{Record}
use Rattle.dali_record.specs.Epochs.{Epoch, last_epoch, recovered_epoch, clean_place}
use Rattle.dali_record.specs.Settled.{words_in, redo_all, settled_before}
use Rattle.dali_record.specs.Spelling.{record_length}
use Rattle.dali_record.specs.Files.{Files, batch_length, is_restarted_first, table_before, next_after, epoch_from}
use Rattle.dali_region.specs.declared.Side.{Side}
use Rattle.dali_region.specs.State.{RegionState}
use Rattle.dali_region.specs.Answers.{is_dirty}
use Rattle.dali_runs.specs.State.{CoreState}
use Rattle.dali_runs.specs.Run.{Bases, log_in}

-- what the file of a side reads in the place of a region
abbrev pub Told : Type 0
Told = Side → ℕ → List ℕ

abbrev pub FilesRun : Told → CoreState → Type 0
FilesRun told c = (side : Side) (r : ℕ) (g : RegionState) → slice_get c.regions r ≡ Some g → g.poked ≡ false → is_dirty g side ≡ false → told side r ≡ g.back

-- The files fit the log K, in the regions that aren't missed. The base is that of epoch e.
pub record FitsBut (s : Sizes) (bases : Bases) (missed : ℕ → Bool) (K : List Record) (F : Files) (e : Epoch) : Type 0 where
  pub log : log_in F ≡ K
  pub batch : (k : ℕ) × (flat_map (λ b. b) (take k F.batches) ≡ take F.first K) × (F.place ≡ sum_by batch_length (take k F.batches)) × ((j : ℕ) (b : List Record) → k ≤ j → slice_get F.batches j ≡ Some b → is_restarted_first b ≡ true)
  pub count : F.first ≤ length K
  pub lengths : F.weight ≡ sum_by record_length (take F.first K)
  pub numbers : F.next ≡ next_after (take F.first K)
  pub fresh : F.gates ≡ 0 → (F.place ≡ 15) × (F.first ≡ 1) × (F.table ≡ []) × (F.image ≡ formatted_image s)
  pub current : 0 < F.gates → F.number ≡ F.gates
  pub whole : length F.image ≡ regions s
  pub epoch : epoch_from F.first K ≡ e
  pub recent : (e ≡ recovered_epoch K) ⊎ (e ≡ last_epoch K)
  pub certified : F.first ≤ clean_place e
  pub table_is : F.table ≡ table_before e F.first
  pub words : (r : ℕ) → r < regions s → missed r ≡ false → words_in (redo_all F.image (drop (F.first - e.first) (take (clean_place e - e.first) e.records))) r ≡ settled_before (bases e.first) e r (clean_place e)

abbrev pub is_missed : Option RegionState → Bool
is_missed (Some g) = g.missed
is_missed _ = false

pub record ImageRun (bases : Bases) (leave : Files → Type 0) (told : Told) (c : CoreState) : Type 0 where
  pub files : FilesRun told c
  -- its epoch is the last one: a restart has written its image before it hands out a core
  pub fits : (F : Files) → leave F → FitsBut c.system.sizes bases (λ r. is_missed (slice_get c.regions r)) (log_in F) F (last_epoch (log_in F))
