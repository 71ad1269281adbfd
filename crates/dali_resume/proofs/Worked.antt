-- The worked restart, by computing.
use Rattle.std.proofs.Common.{refl}
use Rattle.dali_access.specs.Heap.Cells as cell
use Rattle.dali_access.specs.Index.Entries as entry
use Rattle.dali_resume.specs.Worked.{MiddleRestarts, MisfitsInTheMiddle}

pub middle_restarts : MiddleRestarts
unfolding entry.entries cell.cells
middle_restarts = record {
  passes = refl;
  taken_back = refl;
  seen = refl;
  image = refl;
  rolled = refl;
}

pub misfits_in_the_middle : MisfitsInTheMiddle
unfolding entry.entries cell.cells
misfits_in_the_middle = record {
  nobody = refl;
  as_deleted = refl;
  goes_on = refl;
}
