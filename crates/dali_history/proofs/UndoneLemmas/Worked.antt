-- The worked undos, by computing.
use Rattle.std.proofs.Common.{ℕ, zero, suc, ◌<◌, ◌≤◌, [], length, take, refl, arith}
use Rattle.dali_access.specs.Heap.Cells as cell
use Rattle.dali_access.specs.Index.Entries as entry
use Rattle.dali_geometry.specs.Places.{formatted_image}
use Rattle.dali_record.specs.Log.{undos_of}
use Rattle.dali_history.specs.Undone.AsLeft.{IsAsLeft, moment}
use Rattle.dali_history.specs.Undone.Worked.{small, add, change, added, changed, first_records, records, image_of, EntryIsAsLeft, ChangeIsAsLeft}

entry_stands : (j : ℕ) → 2 < j → j ≤ 3 → 1 < length (undos_of 1 (take j first_records))
entry_stands zero lt le = absurd (omega (arith, lt))
entry_stands (suc zero) lt le = absurd (omega (arith, lt))
entry_stands (suc (suc zero)) lt le = absurd (omega (arith, lt))
entry_stands (suc (suc (suc zero))) lt le = omega arith
entry_stands (suc (suc (suc (suc j)))) lt le = absurd (omega (arith, le))

change_stands : (j : ℕ) → 5 < j → j ≤ 6 → 0 < length (undos_of 2 (take j records))
change_stands (suc (suc (suc (suc (suc (suc zero)))))) lt le = omega arith
change_stands (suc (suc (suc (suc (suc (suc (suc j))))))) lt le = absurd (omega (arith, le))
change_stands _ lt le = absurd (omega (arith, lt))

entry_left : IsAsLeft (formatted_image small) first_records 1 1 added (moment (image_of first_records) first_records [] 1 1)
unfolding entry.entries cell.cells
entry_left = record {
  place = 2;
  block = add;
  pushed = record { block = refl; adds = refl; below = refl; stands = entry_stands };
  found = refl;
  as_left = refl;
  written = refl;
}

change_left : IsAsLeft (formatted_image small) records 2 0 changed (moment (image_of records) records [] 2 0)
unfolding entry.entries cell.cells
change_left = record {
  place = 5;
  block = change;
  pushed = record { block = refl; adds = refl; below = refl; stands = change_stands };
  found = refl;
  as_left = refl;
  written = refl;
}

pub entry_is_as_left : EntryIsAsLeft
unfolding entry.entries cell.cells
entry_is_as_left = record { left = entry_left; slot = refl; freed = refl }

pub change_is_as_left : ChangeIsAsLeft
unfolding entry.entries cell.cells
change_is_as_left = record { left = change_left; slot = refl; restored = refl }
