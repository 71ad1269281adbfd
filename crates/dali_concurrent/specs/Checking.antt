-- What entries of others leave of a checkpoint.
--     StageSees                behind entries of others the client's checkpoint is under way still and as far, and they make no step of one
--     CalmSees                 those that the vault's note hasn't signed either may stand between the copies of a run and its write
use Rattle.std.specs.Prelude.{◌≡◌, ℕ, Some}
use Rattle.dali_runs.specs.Run.{Bases}
use Rattle.dali_crash.specs.Checkpoints.{Point}
use Rattle.dali_transcripts.specs.World.{under_way}
use Rattle.dali_notes.specs.History.{IsSeen}
use Rattle.dali_concurrent.specs.Entries.{vault_note, client_note, deeds_of}
use Rattle.dali_concurrent.specs.Rules.{Outset, count_of}
use Rattle.dali_concurrent.specs.Told.{History, plain}
use Rattle.dali_concurrent.specs.Landing.{Stands}
use Rattle.dali_concurrent.specs.Kept.{AllFollow}
use Rattle.dali_concurrent.specs.Stages.{stage_by, AreCoreSteps, IsBehind}
use Rattle.dali_concurrent.specs.Calls.{AreCalm}

abbrev pub StageSees : Type 0
StageSees =
    (bases : Bases) (p : Point) (o : Outset) (seen new : History) (q : Point) (c : ℕ) → Stands bases p o new q → AllFollow bases p o new
    → (is : IsSeen new (client_note (count_of o) c) seen) → under_way (deeds_of (plain seen)) ≡ Some c
    → (under_way (deeds_of (plain new)) ≡ Some c) × IsBehind (stage_by o seen) (stage_by o new) × AreCoreSteps is.rest

abbrev pub CalmSees : Type 0
CalmSees =
    (bases : Bases) (p : Point) (o : Outset) (seen new : History) → AllFollow bases p o new → (is : IsSeen new vault_note seen) → AreCoreSteps is.rest → AreCalm is.rest
