use Rattle.std.proofs.Common.{length}
use Rattle.std.proofs.lemmas.Result.{on_ok_weaker}
use Rattle.dali_memfiles.specs.declared.event.Event.TheVariants.{Wrote}
use Rattle.dali_memfiles.proofs.Events.{wrote_law, wrote_torn, wrote_crash, wrote_going, torn_told, torn_crash, wrote_more, more_same, going_still, elapses_push, elapses_same}
use Rattle.dali_memfiles.proofs.Results.{by_result}
use Rattle.dali_memfiles.proofs.memory.MemoryFilesFiles.write_at.Goals as goal

pub returns-clause-written : goal.returns-clause-written
returns-clause-written c = on_ok_weaker c.write_at.result (wrote_law c.args.file c.args.at c.args.bytes.now _ _) c.write_at.ensures.written

pub returns-clause-torn : goal.returns-clause-torn
returns-clause-torn c =
    by_result c.write_at.result (wrote_torn c.args.file c.args.at c.args.bytes.now _ _ c.requires.place) (torn_told c.args.file c.args.at (length c.args.bytes.now) _ _) c.write_at.ensures.written c.write_at.ensures.unwritten

pub returns-clause-crash : goal.returns-clause-crash
returns-clause-crash c =
    by_result c.write_at.result (wrote_crash c.args.file c.args.at c.args.bytes.now _ _ c.requires.place) (torn_crash c.args.file c.args.at (length c.args.bytes.now) _ _) c.write_at.ensures.written c.write_at.ensures.unwritten

pub returns-clause-more : goal.returns-clause-more
returns-clause-more c =
    by_result c.write_at.result (wrote_more c.args.file c.args.at c.args.bytes.now _ _ c.requires.place) (more_same _ _) c.write_at.ensures.written c.write_at.ensures.unwritten

pub returns-clause-going : goal.returns-clause-going
returns-clause-going c =
    by_result c.write_at.result (wrote_going c.args.file c.args.at c.args.bytes.now _ _) (going_still _ _) c.write_at.ensures.written c.write_at.ensures.unwritten

pub returns-clause-time : goal.returns-clause-time
returns-clause-time c =
    by_result c.write_at.result (elapses_push (Wrote c.args.file c.args.at c.args.bytes.now) _ _) (elapses_same _ _) c.write_at.ensures.written c.write_at.ensures.unwritten
