use Rattle.dali_filestore.proofs.Naming.{named}
use Rattle.dali_filestore.specs.Folder.{failure_of}
use Rattle.dali_filestore.proofs.store.FileStore.write_at.Goals as goal

pub returns-clause-named : goal.returns-clause-named
returns-clause-named g c = λ here writing. named c.args.file (failure_of c.counted.new.self) c.try_write_at-written.result c.counted.result c.counted.ensures.handed c.counted.ensures.told (c.try_write_at-written.ensures.named here writing)
