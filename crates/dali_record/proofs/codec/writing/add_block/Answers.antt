use Rattle.std.proofs.Common.{append_assoc}
use Rattle.dali_record.proofs.codec.writing.add_block.Goals as goal

pub returns-clause-added : goal.returns-clause-added
returns-clause-added c =
    rw (c.add_undo.ensures.added, c.add_outcome.ensures.added, c.add_words.ensures.added, c.add64-4.ensures.added, c.add64-3.ensures.added, c.add64-2.ensures.added, c.add_op.ensures.added, c.add32.ensures.added, c.add64.ensures.added, c.as_slice.ensures.words) (simp append_assoc)
