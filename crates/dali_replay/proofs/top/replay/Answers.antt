use Rattle.dali_replay.proofs.Replays.{replay_is}
use Rattle.dali_replay.proofs.top.replay.Goals as goal

pub returns : goal.returns
returns c = rw c.new.ensures (replay_is c.args.log.now c.in_ok-deleted.deleted.items c.replay_all.new.map.entries c.in_ok-agrees.agrees c.in_ok-deleted.ensures.deleted c.in_ok-deleted.ensures.ascends (rw (c.deref.ensures.value, c.new-map.ensures.empty) at c.in_ok-agrees.ensures))
