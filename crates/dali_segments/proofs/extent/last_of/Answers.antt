use Rattle.std.proofs.Common.{◌∙◌, refl, arith}
use Rattle.dali_segments.proofs.Quiets.{quiet_same, quiet_on, cause_err}
use Rattle.dali_segments.proofs.Extents.{last_none, last_next, last_here, last_all}
use Rattle.dali_segments.proofs.extent.last_of.Goals as goal

pub loop-number-init : goal.loop-number-init
loop-number-init g c = record {
  full = last_none c.args.size c.args.dropped _;
  quiet = quiet_same _ _ _ _ _;
  faults = refl;
}

pub loop-number-preserved : goal.loop-number-preserved
loop-number-preserved g c = record {
  full = last_next c.args.size c.args.dropped c.loop-number.number c.in_ok-length.length c.if-length-size.false _ _ c.loop-number.invariant.quiet.told c.loop-number.invariant.full c.in_ok-length.ensures.length;
  quiet = quiet_on _ _ _ _ _ _ _ _ _ _ _ _ _ _ _ (λ t x le. g.met.F.Files.counts_now _ t x le) c.loop-number.invariant.quiet c.length_of.ensures.quiet;
  faults = c.in_ok-length.ensures.cause.kept ∙ c.loop-number.invariant.faults;
}

pub returns-in_err-length-clause-quiet : goal.returns-in_err-length-clause-quiet
returns-in_err-length-clause-quiet g c = quiet_on _ _ _ _ _ _ _ _ _ _ _ _ _ _ _ (λ t x le. g.met.F.Files.counts_now _ t x le) c.loop-number.invariant.quiet c.length_of.ensures.quiet

pub returns-in_err-length-clause-cause : goal.returns-in_err-length-clause-cause
returns-in_err-length-clause-cause g c =
    cause_err _ _ _ c.from_residual.result c.loop-number.invariant.faults c.from_residual.ensures.0 c.length_of.ensures.cause.later c.in_err-length.ensures.cause.failed

pub returns-then-length-size-clause-quiet : goal.returns-then-length-size-clause-quiet
returns-then-length-size-clause-quiet g c = quiet_on _ _ _ _ _ _ _ _ _ _ _ _ _ _ _ (λ t x le. g.met.F.Files.counts_now _ t x le) c.loop-number.invariant.quiet c.length_of.ensures.quiet

pub returns-then-length-size-clause-last : goal.returns-then-length-size-clause-last
returns-then-length-size-clause-last g c =
    last_here c.args.size c.args.dropped c.loop-number.number c.in_ok-length.length c.if-length-size.true _ _ c.loop-number.invariant.quiet.told c.loop-number.invariant.full c.in_ok-length.ensures.length

pub returns-then-length-size-clause-cause : goal.returns-then-length-size-clause-cause
returns-then-length-size-clause-cause g c =
    let same = c.in_ok-length.ensures.cause.kept ∙ c.loop-number.invariant.faults in
    record { later = omega (arith, same); failed = tt; kept = same }

pub returns-clause-quiet : goal.returns-clause-quiet
returns-clause-quiet g c = c.loop-number.invariant.quiet

pub returns-clause-last : goal.returns-clause-last
returns-clause-last g c = last_all c.args.size c.args.dropped c.loop-number.number c.loop-number-test.false _ c.loop-number.invariant.full

pub returns-clause-cause : goal.returns-clause-cause
returns-clause-cause g c = record { later = omega (arith, c.loop-number.invariant.faults); failed = tt; kept = c.loop-number.invariant.faults }
