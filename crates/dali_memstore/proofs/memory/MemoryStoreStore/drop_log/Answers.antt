use Rattle.dali_store.proofs.Drops.{follows_none}
use Rattle.dali_memstore.specs.Memory.{disks, IsCrash}
use Rattle.dali_memstore.proofs.memory.MemoryStoreStore.drop_log.Goals as goal

pub returns-clause-crash : goal.returns-clause-crash
returns-clause-crash c = follows_none c.args._below (IsCrash (disks c.args.self.now.history))
