use Rattle.std.proofs.Common.{arith}
use Rattle.dali_replay.specs.Seen.{damage_in}
use Rattle.dali_replay.proofs.Marks.{marks_step}
use Rattle.dali_replay.proofs.damage.Damage.marks.Goals as goal

pub loop-at-preserved : goal.loop-at-preserved
loop-at-preserved c = marks_step (damage_in c.args.self.now) c.args.records.now c.loop-at.at c.index-records-at.result c.loop-at.marks.items c.push.new.self.items c.in_ok-corrupt.corrupt c.loop-at-test.true c.index-records-at.is c.loop-at.invariant (rw c.deref.ensures.value at c.in_ok-corrupt.ensures) c.in_ok-push.ensures.items
