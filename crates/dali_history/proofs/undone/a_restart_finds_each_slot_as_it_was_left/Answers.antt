use Rattle.dali_history.proofs.UndoneLemmas.Restarts.{epoch_undos_find, epoch_moments_find, epoch_backs_find, restart_undos_find}
use Rattle.dali_history.proofs.undone.a_restart_finds_each_slot_as_it_was_left.Goals as goal

pub returns : goal.returns
returns c = record { epoch = epoch_undos_find; moments = epoch_moments_find; backs = epoch_backs_find; recovered = restart_undos_find }
