use Rattle.dali_words.proofs.Fields.{packs}
use Rattle.dali_words.proofs.pack.Goals as goal

pub returns : goal.returns
returns c = let h = c.value.invariant in packs c.value.inside.count c.value.inside.bytes c.read_u64_into.new.dst c.args.value.now h.1 h.2 h.3 c.value.view_is c.read_u64_into.auto.dst c.read_u64_into.ensures
