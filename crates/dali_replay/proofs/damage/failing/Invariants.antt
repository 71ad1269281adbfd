use Rattle.std.proofs.Common.{◌≡◌, [], take, fold}
use Rattle.dali_record.specs.Epochs.{failing_step}
use Rattle.dali_replay.proofs.damage.failing.Given as goal

abbrev pub invariant-loop-record : goal.invariant-loop-record
invariant-loop-record l = l.found ≡ fold failing_step [] (take l.record-index l.records)
