use Rattle.std.proofs.Common.{◌∙◌, refl, arith}
use Rattle.dali_segments.proofs.Quiets.{quiet_same, quiet_on, kept_none, kept_next, kept_less, cause_err}
use Rattle.dali_segments.proofs.calls.sync_segments.Goals as goal

pub loop-number-init : goal.loop-number-init
loop-number-init g c = record {
  quiet = quiet_same _ _ _ _ _;
  kept = kept_none _ _ c.args.from c.args.from (omega arith);
  faults = refl;
}

pub returns-in_err-sync-clause-quiet : goal.returns-in_err-sync-clause-quiet
returns-in_err-sync-clause-quiet g c =
    quiet_on _ _ _ _ _ _ _ _ _ _ _ _ _ _ _ (λ t x le. g.met.F.Files.counts_now _ t x le) c.loop-number.invariant.quiet
    (record { told = c.sync.ensures.told; crash = c.sync.ensures.crash; going = c.sync.ensures.going; time = c.sync.ensures.time })

pub returns-in_err-sync-clause-cause : goal.returns-in_err-sync-clause-cause
returns-in_err-sync-clause-cause g c =
    cause_err _ _ _ c.from_residual.result c.loop-number.invariant.faults c.from_residual.ensures.0 c.sync.ensures.cause.later c.in_err-sync.ensures.cause.failed

pub loop-number-preserved : goal.loop-number-preserved
loop-number-preserved g c = record {
  quiet = quiet_on _ _ _ _ _ _ _ _ _ _ _ _ _ _ _ (λ t x le. g.met.F.Files.counts_now _ t x le) c.loop-number.invariant.quiet
      (record { told = c.sync.ensures.told; crash = c.sync.ensures.crash; going = c.sync.ensures.going; time = c.sync.ensures.time });
  kept = kept_next _ _ _ _ c.args.from c.loop-number.number _ refl c.loop-number.invariant.quiet.told c.loop-number.invariant.kept c.in_ok-sync.ensures.durable c.sync.ensures.crash;
  faults = c.in_ok-sync.ensures.cause.kept ∙ c.loop-number.invariant.faults;
}

pub returns-clause-quiet : goal.returns-clause-quiet
returns-clause-quiet g c = c.loop-number.invariant.quiet

pub returns-clause-durable : goal.returns-clause-durable
returns-clause-durable g c = kept_less _ _ _ _ _ c.loop-number-test.false c.loop-number.invariant.kept

pub returns-clause-cause : goal.returns-clause-cause
returns-clause-cause g c = record { later = omega (arith, c.loop-number.invariant.faults); failed = tt; kept = c.loop-number.invariant.faults }
