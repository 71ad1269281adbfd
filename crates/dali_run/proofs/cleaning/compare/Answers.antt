use Rattle.std.proofs.Common.{refl}
use Rattle.std.specs.Prelude.{IsErrOf}
use Rattle.dali_lists.proofs.Options.{if_some_then}
use Rattle.dali_verify.specs.declared.error.VerifyError.TheVariants.{Fault}
use Rattle.dali_fuse.specs.Fuse.{inner}
use Rattle.dali_run.proofs.Comparisons.{bad_log}
use Rattle.dali_run.proofs.cleaning.compare.Goals as goal

pub returns-in-Err-BadLog-clause-fails : goal.returns-in-Err-BadLog-clause-fails
returns-in-Err-BadLog-clause-fails g c =
    let no_fault : IsErrOf c.verify.result Fault → ⊥ = bad_log c.verify.result c.in-Err-BadLog.field-0 c.in-Err-BadLog.at c.in-Err-BadLog.is c.in-Err-BadLog.field-0-is in (
      if_some_then _ _ (g.V.Store.told (inner c.args.core.now.vault.store)) (c.in-Err-BadLog.ensures.bad c.in-Err-BadLog.at c.in-Err-BadLog.field-0-is) (λ fs bad. (refl, bad)),
      c.verify.ensures.reads,
      c.verify.ensures.kept no_fault,
    )
