use Rattle.std.proofs.Common.{ap, Some, subst}
use Rattle.std.proofs.lemmas.Result.{on_ok_weaker}
use Rattle.dali_memstore.proofs.Events.{synced_told, synced_crash, synced_durable, elapses_happened, elapses_same}
use Rattle.dali_memstore.specs.Memory.{History, disks, seen_of, IsCrash}
use Rattle.dali_memstore.specs.declared.event.Event.TheVariants.{Synced}
use Rattle.dali_memstore.proofs.Results.{by_result}
use Rattle.dali_memstore.proofs.memory.MemoryStoreStore.sync.Goals as goal

pub returns-clause-durable : goal.returns-clause-durable
returns-clause-durable c = on_ok_weaker c.sync.result (synced_durable c.args.file _ _) c.sync.ensures.synced

pub returns-clause-told : goal.returns-clause-told
returns-clause-told c =
    by_result c.sync.result (λ happened. ap Some (synced_told c.args.file _ _ happened)) (λ same. ap (λ (h : History). Some (seen_of (disks h))) same) c.sync.ensures.synced c.sync.ensures.unsynced

pub returns-clause-crash : goal.returns-clause-crash
returns-clause-crash c =
    by_result c.sync.result (synced_crash c.args.file _ _) (λ same d left. subst (λ (h : History). IsCrash (disks h) d) same left) c.sync.ensures.synced c.sync.ensures.unsynced

pub returns-clause-time : goal.returns-clause-time
returns-clause-time c = by_result c.sync.result (elapses_happened (Synced c.args.file) _ _) (elapses_same _ _) c.sync.ensures.synced c.sync.ensures.unsynced
