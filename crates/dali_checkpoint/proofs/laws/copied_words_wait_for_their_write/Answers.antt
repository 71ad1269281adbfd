use Rattle.dali_checkpoint.proofs.CopyingOut.{wait_begins, silent_waits, copy_waits, copies_wait, write_ends, write_fails, wait_is_right, wait_write_is_right, late_words_go, late_words_fail}
use Rattle.dali_checkpoint.proofs.laws.copied_words_wait_for_their_write.Goals as goal

pub returns : goal.returns
returns g c = record {
  begins = wait_begins g.V.Store;
  silent = silent_waits g.V.Store;
  copy = copy_waits g.V.Store;
  copies = copies_wait g.V.Store;
  written = write_ends g.V.Store;
  failed = write_fails g.V.Store;
  meanwhile = wait_is_right g.V.Store;
  inside = wait_write_is_right g.V.Store;
  whole = late_words_go g.V.Store;
  fault = late_words_fail g.V.Store;
}
