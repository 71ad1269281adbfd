use Rattle.std.proofs.Common.{sym, subst}
use Rattle.std.specs.Prelude.{IsSomeAnd}
use Rattle.dali_runs.specs.State.{state_of}
use Rattle.dali_system.specs.Served.{Served}
use Rattle.dali_calls.specs.TakingBack.{is_claimed}
use Rattle.dali_clean.proofs.CleanupLemmas.Claims.{claimed_now}
use Rattle.dali_clean.proofs.cleanup.cleaning.Cleaning.claim.Goals as goal

pub returns-clause-claimed : goal.returns-clause-claimed
returns-clause-claimed c =
    subst (λ (y : Served). IsSomeAnd (state_of y.state c.args.txn) is_claimed) (sym c.in_ok-latched.ensures.ok.1)
    (claimed_now c.args.system.now.state c.args.txn c.in_ok-latched.latched c.in_ok-latched.ensures.ok.0)
