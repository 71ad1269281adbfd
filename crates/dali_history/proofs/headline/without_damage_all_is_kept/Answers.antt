use Rattle.dali_history.proofs.HeadlineLemmas.Undamaged.{undamaged_kept, undamaged_deleted, undamaged_sound, all_survive}
use Rattle.dali_history.proofs.headline.without_damage_all_is_kept.Goals as goal

pub returns : goal.returns
returns c = record { kept = undamaged_kept; deleted = undamaged_deleted; sound = undamaged_sound; survivors = all_survive }
