use Rattle.std.proofs.lemmas.Result.{on_ok_weaker}
use Rattle.dali_memfiles.specs.declared.event.Event.TheVariants.{Synced}
use Rattle.dali_memfiles.proofs.Events.{synced_told, synced_crash, synced_durable, synced_going, synced_gone, told_same, crash_same, going_still, elapses_push, elapses_same}
use Rattle.dali_memfiles.proofs.Results.{by_result}
use Rattle.dali_memfiles.proofs.memory.MemoryFilesFiles.sync.Goals as goal

pub returns-clause-durable : goal.returns-clause-durable
returns-clause-durable c = on_ok_weaker c.sync.result (synced_durable c.args.file _ _) c.sync.ensures.synced

pub returns-clause-told : goal.returns-clause-told
returns-clause-told c = by_result c.sync.result (synced_told c.args.file _ _) (told_same _ _) c.sync.ensures.synced c.sync.ensures.unsynced

pub returns-clause-crash : goal.returns-clause-crash
returns-clause-crash c = by_result c.sync.result (synced_crash c.args.file _ _) (crash_same _ _) c.sync.ensures.synced c.sync.ensures.unsynced

pub returns-clause-going : goal.returns-clause-going
returns-clause-going c = by_result c.sync.result (synced_going c.args.file _ _) (going_still _ _) c.sync.ensures.synced c.sync.ensures.unsynced

pub returns-clause-gone : goal.returns-clause-gone
returns-clause-gone c = on_ok_weaker c.sync.result (synced_gone c.args.file _ _) c.sync.ensures.synced

pub returns-clause-time : goal.returns-clause-time
returns-clause-time c = by_result c.sync.result (elapses_push (Synced c.args.file) _ _) (elapses_same _ _) c.sync.ensures.synced c.sync.ensures.unsynced
