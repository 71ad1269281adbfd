-- The undos of the worked runs that are cut off find their slots.
use Rattle.std.proofs.Common.{◌≡◌, ℕ, false, List, [], ◌∷◌, refl, arith}
use Rattle.std.specs.Prelude.{IsPermutation}
use Rattle.std.specs.List.{list_any}
use Rattle.std.proofs.lemmas.List.Sorted.{IsPermutation-refl}
use Rattle.dali_access.specs.Heap.Cells.{cells}
use Rattle.dali_access.specs.Index.Entries.{entries}
use Rattle.dali_record.specs.declared.operations.Undo.TheVariants.{FreeCell, ReviveCell}
use Rattle.dali_record.specs.declared.records.Record.TheVariants.{Format}
use Rattle.dali_record.specs.Epochs.{last_epoch}
use Rattle.dali_record.specs.Legal.{passes, rules_start}
use Rattle.dali_history.specs.Recovered.{base_of}
use Rattle.dali_history.specs.Kept.Kept.{uncommitted}
use Rattle.dali_history.specs.Undone.AsLeft.{FindAsLeft}
use Rattle.dali_runs.specs.Courses.{Step, Moment, IsCourse}
use Rattle.dali_runs.specs.Worked.{small, first_log, first_vault, look as found, kill_cell}
use Rattle.dali_crash.specs.Worked.{look}
use Rattle.dali_crash.specs.Restarted.{put, add}
use Rattle.dali_crash.specs.Unpoked.{pokes}
use Rattle.dali_crash.proofs.Courses.{format_is_history}
use Rattle.dali_during.specs.During.{image_of}
use Rattle.dali_during.specs.Gaps.{put_so_far, killed_so_far}
use Rattle.dali_during.specs.UndosFind.{FindsInInsert, FindsInDelete, FindsBelow}
use Rattle.dali_during.proofs.UnpokedCourses.{unpoked_courses}
use Rattle.dali_during.proofs.Gaps.{first, cell_put, cell_killed, put_so_far_course, killed_so_far_course}
use Rattle.dali_runs.proofs.Worked.{bare_store}

finds_at : (xs : List Step) (n : Moment) → list_any pokes xs ≡ false → IsCourse first xs n → (order : List ℕ) → IsPermutation order (uncommitted (last_epoch n.log).records) → FindAsLeft (base_of n.core.system.sizes n.log) (last_epoch n.log).records (image_of n.core) order
finds_at xs n quiet course = (unpoked_courses first_log (passes rules_start (Format 1 1)) 1000000 first_vault (format_is_history small (refl, refl)) refl refl (omega arith) bare_store refl xs n quiet course).undos

pub finds_in_insert : FindsInInsert
unfolding look put entries cells
finds_in_insert = record {
  finish = cell_put;
  course = put_so_far_course;
  undo = refl;
  found = finds_at put_so_far cell_put refl put_so_far_course (1 ∷ []) (IsPermutation-refl (1 ∷ [])) [] [] 1 0 (record { key = 5; region = 1; undo = FreeCell 1 }) refl refl;
  slot_is = refl;
}

pub finds_in_delete : FindsInDelete
unfolding look put add found kill_cell entries cells
finds_in_delete = record {
  finish = cell_killed;
  course = killed_so_far_course;
  undo = refl;
  found = finds_at killed_so_far cell_killed refl killed_so_far_course (1 ∷ []) (IsPermutation-refl (1 ∷ [])) [] [] 1 2 (record { key = 5; region = 1; undo = ReviveCell 1 }) refl refl;
  slot_is = refl;
}

pub finds_below : FindsBelow
unfolding look put add found kill_cell entries cells
finds_below = record {
  finish = cell_killed;
  course = killed_so_far_course;
  undo = refl;
  found = finds_at killed_so_far cell_killed refl killed_so_far_course (1 ∷ []) (IsPermutation-refl (1 ∷ [])) [] [] 1 0 (record { key = 5; region = 1; undo = FreeCell 1 }) refl refl;
  slot_is = refl;
}
