use Rattle.std.proofs.Common.{refl, arith}
use Rattle.dali_filestore.proofs.folder_files.FolderFilesFiles.write_at.Goals as goal

pub returns-clause-crash : goal.returns-clause-crash
returns-clause-crash g c = λ f left. (f, tt, record { torn = record { before = refl; after = refl; no_shorter = omega arith; no_longer = omega arith }; same = λ other is. refl })
