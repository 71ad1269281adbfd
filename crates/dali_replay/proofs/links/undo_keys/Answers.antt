use Rattle.std.proofs.Common.{◌≡◌, ◌≤◌, ◌∙◌, [], ap, length, fold, take, arith, take_all}
use Rattle.dali_replay.specs.Marking.{key_step}
use Rattle.dali_replay.proofs.Keys.{keys_are}
use Rattle.dali_replay.proofs.links.undo_keys.Goals as goal

pub returns : goal.returns
returns c =
    let all : take c.loop-record.record-index c.args.records.now ≡ c.args.records.now = take_all c.loop-record.record-index c.args.records.now (omega (arith, c.loop-record-test.false, c.loop-record.auto)) in
    c.loop-record.invariant ∙ ap (λ L. fold (key_step c.args.txn) [] L) all ∙ keys_are c.args.txn c.args.records.now
