-- The parts together are a run, but for what a crash may leave.
--     AreParts bases L c       each part of the core by itself, and that it stopped by the store only where the vault did
--     PartsAreARun             this is just what a run says
use Rattle.std.specs.Prelude.{◌≡◌, ◌↔◌, ℕ, true, List, Some, length, slice_get}
use Rattle.dali_geometry.specs.Places.{regions}
use Rattle.dali_record.specs.declared.records.Record.{Record}
use Rattle.dali_record.specs.Epochs.{last_epoch}
use Rattle.dali_region.specs.State.{RegionState}
use Rattle.dali_runs.specs.declared.causes.Cause.TheVariants.{Store}
use Rattle.dali_runs.specs.State.{CoreState}
use Rattle.dali_runs.specs.Run.{Bases, RunsOn, RegionRun, base_at}
use Rattle.dali_runs.specs.Parts.Systems.{SystemRun}

pub record AreParts (bases : Bases) (L : List Record) (c : CoreState) : Type 0 where
  pub system : SystemRun c.system.sizes L c.system
  pub store : c.system.stop ≡ Some Store → c.vault.stopped ≡ true
  pub whole : length c.regions ≡ regions c.system.sizes
  pub base : length (base_at bases L) ≡ regions c.system.sizes
  pub regions : (r : ℕ) (g : RegionState) → slice_get c.regions r ≡ Some g → RegionRun (base_at bases L) (last_epoch L) r g

abbrev pub PartsAreARun : Type 0
PartsAreARun = (bases : Bases) (L : List Record) (c : CoreState) → AreParts bases L c ↔ RunsOn bases L c
