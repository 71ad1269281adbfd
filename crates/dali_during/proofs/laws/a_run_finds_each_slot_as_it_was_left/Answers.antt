use Rattle.dali_during.proofs.UndosFind.{undos_find_in_runs, row_undos_find, last_undo_finds, backs_find_in_runs}
use Rattle.dali_during.proofs.laws.a_run_finds_each_slot_as_it_was_left.Goals as goal

pub returns : goal.returns
returns c = record { any_order = undos_find_in_runs; rows = row_undos_find; last = last_undo_finds; backs = backs_find_in_runs }
