use Rattle.dali_filestore.proofs.Naming.{named}
use Rattle.dali_filestore.specs.Folder.{failure_of}
use Rattle.dali_filestore.proofs.store.FileStore.length.Goals as goal

pub returns-clause-named : goal.returns-clause-named
returns-clause-named g c = λ here. named c.args.file (failure_of c.counted.new.self) c.try_length-length.result c.counted.result c.counted.ensures.handed c.counted.ensures.told (c.try_length-length.ensures.named here)
