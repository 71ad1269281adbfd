use Rattle.std.proofs.Common.{sym, ◌∙◌, ap, ◌+◌}
use Rattle.dali_record.specs.declared.records.Record.TheVariants.{Solo}
use Rattle.dali_record.proofs.Lengths.{length-spelling}
use Rattle.dali_record.proofs.codec.lengths.solo_record_length.Goals as goal

pub returns-clause-spelled : goal.returns-clause-spelled
returns-clause-spelled c txn parent can = ap (λ n. 17 + n) c.block_length.ensures.length ∙ sym (length-spelling (Solo txn parent c.args.block.now) can)
