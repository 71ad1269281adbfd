use Rattle.std.proofs.Common.{arith}
use Rattle.dali_words.proofs.Widths.{each_word}
use Rattle.dali_restart.proofs.restarting.tell_each.Goals as goal

pub returns : goal.returns
returns c = each_word c.args.words.now (λ i. omega (arith, c.type_inv.words i))
