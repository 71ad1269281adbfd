use Rattle.dali_words.proofs.Bytes.{unpacked-packed}
use Rattle.dali_words.proofs.laws.unpacks_what_was_packed.Goals as goal

pub returns : goal.returns
returns c = unpacked-packed
