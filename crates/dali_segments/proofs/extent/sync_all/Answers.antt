use Rattle.std.proofs.Common.{◌∙◌, ◌+◌, refl, sym, subst, arith}
use Rattle.dali_files.specs.Keys.{IsKey}
use Rattle.dali_files.specs.declared.key.FileKey.{FileKey}
use Rattle.dali_segments.proofs.Quiets.{quiet_same, quiet_on, cause_err}
use Rattle.dali_segments.proofs.Fixings.{synced_none, synced_next, synced_less, stays_none, stays_next, all_fixed, key_fits}
use Rattle.dali_segments.proofs.extent.sync_all.Goals as goal

pub loop-number-init : goal.loop-number-init
loop-number-init g c = record {
  synced = synced_none _ _;
  still = stays_none (g.F.Files.is_going c.args.files.now);
  quiet = quiet_same _ _ _ _ _;
  faults = refl;
}

pub sync-requires : goal.sync-requires
sync-requires g c = subst (λ (k : FileKey). IsKey k) (sym c.file_at-file.ensures) (key_fits c.loop-number.number (omega (arith, c.loop-number-test.true, c.requires)))

pub loop-number-preserved : goal.loop-number-preserved
loop-number-preserved g c = record {
  synced = synced_next c.loop-number.number _ c.file_at-file.ensures _ _ _ _ c.loop-number.invariant.quiet.told c.loop-number.invariant.synced c.in_ok-sync.ensures.durable c.sync.ensures.crash;
  still = stays_next c.loop-number.number _ c.file_at-file.ensures _ _ c.sync.ensures.going c.loop-number.invariant.still c.in_ok-sync.ensures.gone;
  quiet = quiet_on _ _ _ _ _ _ _ _ _ _ _ _ _ _ _ (λ t x le. g.met.F.Files.counts_now _ t x le) c.loop-number.invariant.quiet (record { told = c.sync.ensures.told; crash = c.sync.ensures.crash; going = c.sync.ensures.going; time = c.sync.ensures.time });
  faults = c.in_ok-sync.ensures.cause.kept ∙ c.loop-number.invariant.faults;
}

pub returns-in_err-sync-clause-quiet : goal.returns-in_err-sync-clause-quiet
returns-in_err-sync-clause-quiet g c = quiet_on _ _ _ _ _ _ _ _ _ _ _ _ _ _ _ (λ t x le. g.met.F.Files.counts_now _ t x le) c.loop-number.invariant.quiet (record { told = c.sync.ensures.told; crash = c.sync.ensures.crash; going = c.sync.ensures.going; time = c.sync.ensures.time })

pub returns-in_err-sync-clause-cause : goal.returns-in_err-sync-clause-cause
returns-in_err-sync-clause-cause g c =
    cause_err _ _ _ c.from_residual.result c.loop-number.invariant.faults c.from_residual.ensures.0 c.sync.ensures.cause.later c.in_err-sync.ensures.cause.failed

pub returns-in_err-sync_mark-clause-quiet : goal.returns-in_err-sync_mark-clause-quiet
returns-in_err-sync_mark-clause-quiet g c = quiet_on _ _ _ _ _ _ _ _ _ _ _ _ _ _ _ (λ t x le. g.met.F.Files.counts_now _ t x le) c.loop-number.invariant.quiet c.sync_mark.ensures.quiet

pub returns-in_err-sync_mark-clause-cause : goal.returns-in_err-sync_mark-clause-cause
returns-in_err-sync_mark-clause-cause g c =
    cause_err _ _ _ c.from_residual-in_err-sync_mark.result c.loop-number.invariant.faults c.from_residual-in_err-sync_mark.ensures.0 c.sync_mark.ensures.cause.later c.in_err-sync_mark.ensures.cause.failed

pub returns-clause-quiet : goal.returns-clause-quiet
returns-clause-quiet g c = quiet_on _ _ _ _ _ _ _ _ _ _ _ _ _ _ _ (λ t x le. g.met.F.Files.counts_now _ t x le) c.loop-number.invariant.quiet c.sync_mark.ensures.quiet

pub returns-clause-fixed : goal.returns-clause-fixed
returns-clause-fixed g c =
    all_fixed c.args.last _ _ _ _ _ _ c.loop-number.invariant.quiet.told
    (synced_less (c.args.last + 4) c.loop-number.number c.loop-number-test.false _ _ c.loop-number.invariant.synced)
    (λ n lt. c.loop-number.invariant.still n (omega (arith, lt, c.loop-number-test.false)))
    c.in_ok-sync_mark.ensures.durable c.sync_mark.ensures.quiet.crash c.sync_mark.ensures.quiet.going c.in_ok-sync_mark.ensures.gone

pub returns-clause-cause : goal.returns-clause-cause
returns-clause-cause g c =
    let same = c.in_ok-sync_mark.ensures.cause.kept ∙ c.loop-number.invariant.faults in
    record { later = omega (arith, same); failed = tt; kept = same }
