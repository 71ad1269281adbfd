use Rattle.dali_lists.proofs.Options.{on_err_any}
use Rattle.dali_report.proofs.Fronts.{front_of}
use Rattle.dali_report.proofs.leaves.put_value.Goals as goal

pub returns-in_err-put_byte-clause-err : goal.returns-in_err-put_byte-clause-err
returns-in_err-put_byte-clause-err c =
    on_err_any _ (front_of _ _ _ _ c.loop-byte.invariant c.in_err-put_byte.ensures.err)
