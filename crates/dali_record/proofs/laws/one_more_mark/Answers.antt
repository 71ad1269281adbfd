use Rattle.dali_record.proofs.Pushes.{marks_push}
use Rattle.dali_record.proofs.Chains.{IsCorrupt-old, IsCorrupt-kept}
use Rattle.dali_record.proofs.Keeping.{kept-dropped, kept-kept}
use Rattle.dali_record.proofs.laws.one_more_mark.Goals as goal

pub returns : goal.returns
returns c = record {
  marks = marks_push;
  stays = IsCorrupt-old;
  stood = IsCorrupt-kept;
  dropped = kept-dropped;
  kept = kept-kept;
}
