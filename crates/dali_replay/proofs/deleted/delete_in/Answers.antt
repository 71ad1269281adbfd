use Rattle.std.proofs.Common.{◌≡◌, ◌∙◌, ◌++◌, ap, length, take, filter, arith, take_all}
use Rattle.dali_record.specs.Log.{committed}
use Rattle.dali_replay.specs.Seen.{damage_in}
use Rattle.dali_replay.specs.Marking.{corrupted}
use Rattle.dali_replay.proofs.Deletes.{marks_fit, keep_more, damage_is, deleted_is}
use Rattle.dali_replay.proofs.deleted.delete_in.Goals as goal

pub keep_deleted-requires : goal.keep_deleted-requires
keep_deleted-requires c = ap length (c.deref.ensures.value ∙ c.in_ok-marks.ensures) ∙ marks_fit (damage_in c.new-damage.result) c.args.records.now

pub loop-record-preserved : goal.loop-record-preserved
loop-record-preserved c = keep_more (corrupted c.args.records.now c.in_ok-marks.marks.items) c.args.records.now c.loop-record.record-index c.record-item.result c.args.deleted.now.items c.loop-record.deleted.items c.keep_deleted.new.deleted.items (omega arith) c.record-item.is c.loop-record.invariant (rw c.deref.ensures.value at c.in_ok-keep_deleted.ensures)

pub returns : goal.returns
returns c =
    let d = damage_in c.new-damage.result in
    let all : take c.loop-record.record-index c.args.records.now ≡ c.args.records.now = take_all c.loop-record.record-index c.args.records.now (omega (arith, c.loop-record-test.false, c.loop-record.auto)) in
    c.loop-record.invariant
    ∙ ap (λ L. c.args.deleted.now.items ++ filter (corrupted c.args.records.now c.in_ok-marks.marks.items) (committed L)) all
    ∙ ap (λ xs. c.args.deleted.now.items ++ xs) (deleted_is d c.args.first c.args.records.now c.in_ok-marks.marks.items (damage_is d c.args.first c.args.records.now c.new-damage.ensures.first c.new-damage.ensures.clean c.new-damage.ensures.failing) c.in_ok-marks.ensures)
