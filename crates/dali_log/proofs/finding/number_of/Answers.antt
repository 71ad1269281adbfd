use Rattle.std.proofs.Common.{◌∙◌, sym, ap, arith}
use Rattle.std.proofs.lemmas.List.{take_all}
use Rattle.dali_bytes.specs.Fields.{number32}
use Rattle.dali_bytes.proofs.Numbers.{number32-big}
use Rattle.dali_log.proofs.finding.number_of.Goals as goal

pub returns : goal.returns
returns c = sym (ap number32 c.read_u32.ensures ∙ number32-big c.args.bytes.now (omega (arith, c.requires)) (λ i. omega (arith, c.type_inv.bytes i)) ∙ take_all 4 c.args.bytes.now (omega (arith, c.requires)))
