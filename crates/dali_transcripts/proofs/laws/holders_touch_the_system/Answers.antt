use Rattle.dali_transcripts.proofs.Touches.{holders_touch}
use Rattle.dali_transcripts.proofs.laws.holders_touch_the_system.Goals as goal

pub returns : goal.returns
returns c = holders_touch
