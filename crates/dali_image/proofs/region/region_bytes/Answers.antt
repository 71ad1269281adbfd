use Rattle.dali_image.proofs.region.region_bytes.Goals as goal

pub returns : goal.returns
unfolding Rattle.dali_bytes.specs.Fields.number64
returns c = c.write_u64_into.ensures
