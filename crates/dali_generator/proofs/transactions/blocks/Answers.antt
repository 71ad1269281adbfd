use Rattle.std.proofs.Common.{◌+◌, arith}
use Rattle.dali_generator.proofs.Parts.{blocks_more, all_made}
use Rattle.dali_generator.proofs.transactions.blocks.Goals as goal
use Rattle.dali_generator.proofs.transactions.blocks.Goals.{else-loop-client-test, then-loop-client-test+in_ok-block+in_ok-push+else-client-clients}

pub loop-client-preserved : goal.loop-client-preserved
loop-client-preserved c = record {
  made = blocks_more c.args.number c.args.size c.loop-client.client c.loop-client.blocks.items c.push.new.self.items c.in_ok-block.field-0 (omega arith) c.loop-client.invariant.made c.in_ok-block.ensures c.in_ok-push.ensures.items;
  within = omega arith;
}

pub returns : goal.returns
returns c =
    elim c.loop-client-test.branch [
      | else-loop-client-test w ↦ rw w.blocks-is (all_made c.args.number c.args.size c.args.clients c.loop-client.client c.loop-client.blocks.items c.loop-client.invariant.made (omega arith))
      | then-loop-client-test+in_ok-block+in_ok-push+else-client-clients w ↦
          rw w.blocks-is
          (all_made c.args.number c.args.size c.args.clients (c.loop-client.client + 1) w.push.new.self.items
          (blocks_more c.args.number c.args.size c.loop-client.client c.loop-client.blocks.items w.push.new.self.items w.in_ok-block.field-0 (omega arith) c.loop-client.invariant.made w.in_ok-block.ensures w.in_ok-push.ensures.items)
          (omega arith))
    ]
