use Rattle.std.proofs.Common.{sym, ◌∙◌, ap, ◌+◌}
use Rattle.dali_record.specs.declared.records.Record.TheVariants.{Forward, Back}
use Rattle.dali_record.proofs.Lengths.{length-spelling}
use Rattle.dali_record.proofs.codec.lengths.op_record_length.Goals as goal

pub returns-clause-spelled : goal.returns-clause-spelled
returns-clause-spelled c can = ap (λ n. 9 + n) c.block_length.ensures.length ∙ sym (length-spelling (Forward c.args.txn c.args.block.now) can)

pub returns-clause-spelled_back : goal.returns-clause-spelled_back
returns-clause-spelled_back c can = ap (λ n. 9 + n) c.block_length.ensures.length ∙ sym (length-spelling (Back c.args.txn c.args.block.now) can)
