use Rattle.std.proofs.Common.{◌∙◌, refl, arith}
use Rattle.dali_segments.proofs.Quiets.{cause_err}
use Rattle.dali_segments.proofs.Clearings.{clears_none, clears_on, clears_remove, clears_quiet, gone_none, gone_next, gone_less}
use Rattle.dali_segments.proofs.calls.clear.Goals as goal

pub loop-number-init : goal.loop-number-init
loop-number-init g c = record {
  clears = clears_none _ _ _ _ _ _ _;
  gone = gone_none _ _ _ _;
  faults = refl;
}

pub returns-in_err-remove-clause-clears : goal.returns-in_err-remove-clause-clears
returns-in_err-remove-clause-clears g c =
    clears_on _ _ _ _ _ _ _ _ _ _ _ _ _ _ _ _ _ c.loop-number.invariant.clears
    (clears_remove _ _ c.loop-number.number c.loop-number.auto.number c.loop-number-test.true _ _ _ _ _ _ _ _ _ _ c.remove.ensures.emptied c.remove.ensures.crash c.remove.ensures.going c.remove.ensures.time)

pub returns-in_err-remove-clause-cause : goal.returns-in_err-remove-clause-cause
returns-in_err-remove-clause-cause g c =
    cause_err _ _ _ c.from_residual.result c.loop-number.invariant.faults c.from_residual.ensures.0 c.remove.ensures.cause.later c.in_err-remove.ensures.cause.failed

pub returns-in_err-sync-clause-clears : goal.returns-in_err-sync-clause-clears
returns-in_err-sync-clause-clears g c =
    clears_on _ _ _ _ _ _ _ _ _ _ _ _ _ _ _ _ _
    (
    clears_on _ _ _ _ _ _ _ _ _ _ _ _ _ _ _ _ _ c.loop-number.invariant.clears
    (clears_remove _ _ c.loop-number.number c.loop-number.auto.number c.loop-number-test.true _ _ _ _ _ _ _ _ _ _ c.remove.ensures.emptied c.remove.ensures.crash c.remove.ensures.going c.remove.ensures.time)
    )
    (clears_quiet _ _ _ _ _ _ _ _ _ _ _ _ (record { told = c.sync.ensures.told; crash = c.sync.ensures.crash; going = c.sync.ensures.going; time = c.sync.ensures.time }))

pub returns-in_err-sync-clause-cause : goal.returns-in_err-sync-clause-cause
returns-in_err-sync-clause-cause g c =
    cause_err _ _ _ c.from_residual-in_err-sync.result (c.in_ok-remove.ensures.cause.kept ∙ c.loop-number.invariant.faults) c.from_residual-in_err-sync.ensures.0 c.sync.ensures.cause.later c.in_err-sync.ensures.cause.failed

pub loop-number-preserved : goal.loop-number-preserved
loop-number-preserved g c = record {
  clears = clears_on _ _ _ _ _ _ _ _ _ _ _ _ _ _ _ _ _
      (
      clears_on _ _ _ _ _ _ _ _ _ _ _ _ _ _ _ _ _ c.loop-number.invariant.clears
      (clears_remove _ _ c.loop-number.number c.loop-number.auto.number c.loop-number-test.true _ _ _ _ _ _ _ _ _ _ c.remove.ensures.emptied c.remove.ensures.crash c.remove.ensures.going c.remove.ensures.time)
      )
      (clears_quiet _ _ _ _ _ _ _ _ _ _ _ _ (record { told = c.sync.ensures.told; crash = c.sync.ensures.crash; going = c.sync.ensures.going; time = c.sync.ensures.time }));
  gone = gone_next _ c.loop-number.number _ refl _ _ _ _ _ _ _ _ _ c.loop-number.invariant.gone c.in_ok-remove.ensures.removed c.remove.ensures.crash c.remove.ensures.going
      c.sync.ensures.told c.sync.ensures.crash c.sync.ensures.going c.in_ok-sync.ensures.gone c.in_ok-sync.ensures.durable;
  faults = c.in_ok-sync.ensures.cause.kept ∙ c.in_ok-remove.ensures.cause.kept ∙ c.loop-number.invariant.faults;
}

pub returns-clause-clears : goal.returns-clause-clears
returns-clause-clears g c = c.loop-number.invariant.clears

pub returns-clause-gone : goal.returns-clause-gone
returns-clause-gone g c = gone_less _ _ _ c.loop-number-test.false _ _ _ c.loop-number.invariant.gone

pub returns-clause-cause : goal.returns-clause-cause
returns-clause-cause g c = record { later = omega (arith, c.loop-number.invariant.faults); failed = tt; kept = c.loop-number.invariant.faults }
