use Rattle.dali_record.proofs.Made.{made_is_block}
use Rattle.dali_record.proofs.laws.operations_make_blocks.Goals as goal

pub returns : goal.returns
returns c = made_is_block
