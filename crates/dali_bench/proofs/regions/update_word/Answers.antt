use Rattle.std.proofs.Common.{false}
use Rattle.dali_system.proofs.UnderWays.{latched_unheld}
use Rattle.dali_bench.proofs.Holding.{has_read}
use Rattle.dali_bench.proofs.regions.update_word.Goals as goal

pub update-requires : goal.update-requires
update-requires c = has_read c.args.region.now c.latch.new.self c.note_reads.new.self c.args.txn c.bit.result c.args.word c.in_ok-latch.ensures.taken c.note_reads.ensures.after c.bit.ensures

pub returns-clause-free : goal.returns-clause-free
returns-clause-free c = latched_unheld false c.args.region.now c.in_ok-latch.ensures.answer
