use Rattle.std.proofs.Common.{◌∙◌, ap, arith}
use Rattle.std.proofs.lemmas.List.{take_rest}
use Rattle.byteorder.specs.Endian.{big_number}
use Rattle.dali_bytes.proofs.Numbers.{number64_read}
use Rattle.dali_image.proofs.header.number64.Goals as goal

pub returns : goal.returns
returns c = number64_read c.args.bytes.now c.args.at _ c.requires (λ i. omega (arith, c.type_inv.bytes i)) (c.read_u64.ensures ∙ ap (big_number 8) (take_rest c.args.bytes.now c.args.at))
