use Rattle.std.proofs.Common.{length, ap, arith}
use Rattle.dali_restart.proofs.RenewalLemmas.Bodies.{body_length}
use Rattle.dali_restart.proofs.renewal.logging.restart_frame.Goals as goal

pub frame_of-requires : goal.frame_of-requires
frame_of-requires c =
    omega (
      arith,
      ap length c.deref.ensures.value,
      ap length c.in-Ok.ensures.bytes,
      body_length c.args.rolled_back.now c.args.deleted.now,
      c.if-rolled_back-deleted-gt-MOST.false,
    )
