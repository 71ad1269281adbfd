use Rattle.dali_concurrent.proofs.Calls.{run_begins, run_meets, run_copies, run_ends, run_fault_holds}
use Rattle.dali_concurrent.proofs.checkpoints.copied_words_are_written_behind_others.Goals as goal

pub returns : goal.returns
returns g c = record {
  begins = run_begins g.V.Store;
  meets = run_meets g.V.Store;
  copies = run_copies g.V.Store;
  written = run_ends g.V.Store;
  fault = run_fault_holds g.V.Store;
}
