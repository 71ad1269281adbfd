use Rattle.std.proofs.Common.{refl, inl}
use Rattle.dali_filestore.proofs.folder_files.FolderFilesFiles.remove.Goals as goal

pub returns-clause-crash : goal.returns-clause-crash
returns-clause-crash g c = λ f left. (f, tt, record { either = inl refl; same = λ other is. refl })
