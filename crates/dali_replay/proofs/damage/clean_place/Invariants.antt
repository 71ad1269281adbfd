use Rattle.std.proofs.Common.{◌≡◌, take, fold}
use Rattle.dali_record.specs.Epochs.{clean_step}
use Rattle.dali_replay.proofs.damage.clean_place.Given as goal

abbrev pub invariant-loop-record : goal.invariant-loop-record
invariant-loop-record l = l.clean ≡ fold clean_step l.first (take l.record-index l.records)
