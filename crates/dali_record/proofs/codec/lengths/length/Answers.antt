use Rattle.std.proofs.Common.{sym, ◌∙◌}
use Rattle.dali_record.proofs.Lengths.{length-spelling}
use Rattle.dali_record.proofs.codec.lengths.length.Goals as goal

pub returns-clause-spelled : goal.returns-clause-spelled
returns-clause-spelled c = c.record_length.ensures ∙ sym (length-spelling c.args.rec.now c.requires)
