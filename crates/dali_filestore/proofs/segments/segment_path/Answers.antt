use Rattle.std.proofs.Common.{List, ℕ, ◌++◌, ◌∙◌, ap}
use Rattle.std.proofs.lemmas.Fmt.{contents_after_writes}
use Rattle.dali_filestore.specs.Segments.{segment_path}
use Rattle.dali_filestore.proofs.segments.segment_path.Goals as goal

pub returns-in-Ok : goal.returns-in-Ok
returns-in-Ok c =
    contents_after_writes _ (λ path. path.bytes) (λ before text after wrote. wrote) _ _ _ c.in-Ok.ensures.writes
    ∙ ap (λ (l : List ℕ). l ++ segment_path c.args.folder.now c.args.number) c.new-path.ensures
