use Rattle.std.proofs.Common.{◌∙◌, arith}
use Rattle.std.proofs.lemmas.List.{length-set}
use Rattle.dali_image.proofs.Words.{region_more, stay_sized}
use Rattle.dali_image.proofs.reading.words_of.Goals as goal

pub loop-region-preserved : goal.loop-region-preserved
loop-region-preserved c = record { size = length-set c.loop-region.into c.loop-region.region c.read_u64_into.new.dst ∙ c.loop-region.invariant.size; each = stay_sized c.loop-region.into c.read_u64_into.new.dst c.loop-region.region (c.read_u64_into.auto.dst ∙ c.loop-region.invariant.each c.loop-region.region (omega (arith, c.loop-region-test.true, c.loop-region.invariant.size))) c.loop-region.invariant.each; so_far = region_more c.args.bytes.now c.loop-region.into c.read_u64_into.new.dst c.loop-region.region _ _ (omega arith) (omega arith) (omega (arith, c.loop-region-test.true, c.loop-region.invariant.size)) (omega (arith, c.requires, c.loop-region.invariant.size)) (λ i. omega (arith, c.type_inv.bytes i)) (c.read_u64_into.auto.dst ∙ c.loop-region.invariant.each c.loop-region.region (omega (arith, c.loop-region-test.true, c.loop-region.invariant.size))) c.read_u64_into.ensures c.loop-region.invariant.so_far }
