use Rattle.dali_checkpoint.proofs.WaitingCopies.{out_begins, out_goes, out_stays, out_ends, out_fails, out_is_right}
use Rattle.dali_checkpoint.proofs.laws.a_checkpoint_copies_beside_others.Goals as goal

pub returns : goal.returns
returns g c = record {
  begins = out_begins g.V.Store;
  copied = out_goes g.V.Store;
  others = out_stays g.V.Store;
  written = out_ends g.V.Store;
  failed = out_fails g.V.Store;
  inside = out_is_right g.V.Store;
}
