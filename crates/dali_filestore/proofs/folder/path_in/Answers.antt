use Rattle.std.proofs.Common.{List, ℕ, ◌++◌, ◌∙◌, ap}
use Rattle.std.proofs.lemmas.Fmt.{contents_after_writes}
use Rattle.dali_filestore.specs.Folder.{path_of}
use Rattle.dali_filestore.proofs.folder.path_in.Goals as goal

pub returns-in-Ok : goal.returns-in-Ok
returns-in-Ok c =
    contents_after_writes _ (λ path. path.bytes) (λ before text after wrote. wrote) _ _ _ c.in-Ok.ensures.writes
    ∙ ap (λ (l : List ℕ). l ++ path_of c.args.folder.now c.args.file) c.new-path.ensures
