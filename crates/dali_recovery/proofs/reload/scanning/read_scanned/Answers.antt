use Rattle.std.proofs.Common.{◌≡◌, ◌<◌, ◌^◌, true, rules, Err, inl, inr, ap, refl, sym, subst, arith}
use Rattle.std.proofs.lemmas.Result.{err_from_is_err_and}
use Rattle.dali_log.proofs.Finds.{if_some_any, if_some_same, if_some_two}
use Rattle.dali_log.proofs.Readings.{reads_then}
use Rattle.dali_recovery.specs.Standing.{is_unscanned}
use Rattle.dali_recovery.specs.Reload.Counting.{AreUpTo}
use Rattle.dali_recovery.specs.Reload.Reading.{RefusesAt}
use Rattle.dali_recovery.specs.declared.reload.error.ReloadError.TheVariants.{BadLog, Unscanned}
use Rattle.dali_recovery.proofs.ReloadLemmas.Errors.{bad_of}
use Rattle.dali_recovery.proofs.ReloadLemmas.Going.{IsPass, bad_there, end_finds, pass_begins, pass_fails, pass_finds, pass_on, reloaded, up_to_end, window_end, window_here}
use Rattle.dali_recovery.proofs.reload.scanning.read_scanned.Goals as goal

pub records-init : goal.records-init
records-init g c = record {
  read = if_some_any _ (g.V.Store.told c.args.store.now) (λ fs s F at. subst (IsPass fs.log s F c.args.known.now c.args.reader.now c.args.recovery) (sym c.new-counts.ensures) (pass_begins fs.log s F c.args.known.now c.args.reader.now c.args.recovery at));
  ordered = λ s o. o;
  reads = search rules;
  passes = search rules;
  kept = refl;
}

pub returns-in_err-next_into-clause-bad : goal.returns-in_err-next_into-clause-bad
returns-in_err-next_into-clause-bad g c =
    let p = err_from_is_err_and c.from_residual.result c.from_residual.ensures.1 in
    rw (p.1, p.2) (λ at e.
    if_some_two _ _ _ (g.V.Store.told c.args.store.now) c.records.invariant.read (if_some_same _ _ _ c.records.invariant.reads.same (c.in_err-next_into.ensures.bad at (bad_of c.in_err-next_into.field-0.0 at (λ q. c.in_err-next_into.ensures.formatted (ap (λ z. Err z) q)) e)))
    (λ fs pass is s F image. inl (bad_there fs.log s F c.records.reader c.records.reader c.records.recovery c.records.counts (pass s F image).0 at is)))

pub records-preserved : goal.records-preserved
records-preserved g c =
    let goes = c.in_ok-next_into.ensures.read c.if-branch.true in
    let can = c.in_ok-next_into.ensures.spelled c.if-branch.true in
    let further : c.records.reader.at < c.next_into.new.self.at = search rules in
    let small : c.next_into.new.self.at < 2 ^ 62 = omega (arith, c.next_into.ensures.whole.small, c.next_into.ensures.whole.inside, c.next_into.ensures.whole.ordered) in
    record {
      read = if_some_two _ _ _ (g.V.Store.told c.args.store.now) c.records.invariant.read (if_some_same _ _ _ c.records.invariant.reads.same goes)
          (λ fs pass is s F image. pass_on fs.log s F c.args.known.now c.records.reader c.next_into.new.self c.records.recovery c.scan_known.new.recovery c.take_next.new.recovery c.records.counts c.in-Ok.more c.next_into.new.into (pass s F image)
          c.in_ok-scan_known.ensures.ok is c.in-Ok.ensures.ok.0 further small can c.in-Ok.ensures.ok.1);
      ordered = λ s o. c.in-Ok.ensures.ordered s (c.in_ok-scan_known.ensures.ordered s (c.records.invariant.ordered s o));
      reads = reads_then _ _ _ _ _ _ _ c.records.invariant.reads c.next_into.ensures.store.reads;
      passes = search rules;
      kept = search rules;
    }

pub returns-in-Err-Unscanned-clause-damaged : goal.returns-in-Err-Unscanned-clause-damaged
returns-in-Err-Unscanned-clause-damaged g c =
    let goes = c.in_ok-next_into.ensures.read c.if-branch.true in
    let refused : RefusesAt c.scan_known.new.recovery c.take_next.new.recovery c.next_into.new.into Unscanned =
    rw c.in-Err-Unscanned.field-0-is at c.in-Err-Unscanned.ensures.err in
    if_some_two _ _ _ (g.V.Store.told c.args.store.now) c.records.invariant.read (if_some_same _ _ _ c.records.invariant.reads.same goes)
    (λ fs pass is s F image found.
    pass_finds fs.log s F c.args.known.now c.records.reader c.next_into.new.self c.records.recovery c.scan_known.new.recovery c.take_next.new.recovery c.records.counts c.records.counts c.next_into.new.into (pass s F image)
    c.in_ok-scan_known.ensures.ok is refused.0 refused.1 c.into_damage.result c.into_damage.ensures found)

pub returns-in-Err-Unscanned-clause-window : goal.returns-in-Err-Unscanned-clause-window
returns-in-Err-Unscanned-clause-window g c =
    let goes = c.in_ok-next_into.ensures.read c.if-branch.true in
    if_some_two _ _ _ (g.V.Store.told c.args.store.now) c.records.invariant.read (if_some_same _ _ _ c.records.invariant.reads.same goes)
    (λ fs pass is s F image.
    window_here fs.log s F c.args.known.now c.records.reader c.next_into.new.self c.records.recovery c.scan_known.new.recovery c.take_next.new.recovery c.records.counts c.records.counts c.next_into.new.into (pass s F image)
    c.in_ok-scan_known.ensures.ok is)

pub returns-in-Err-clause-bad : goal.returns-in-Err-clause-bad
returns-in-Err-clause-bad g c =
    let goes = c.in_ok-next_into.ensures.read c.if-branch.true in
    λ at e.
    let refused : RefusesAt c.scan_known.new.recovery c.take_next.new.recovery c.next_into.new.into (BadLog at) =
    subst (RefusesAt c.scan_known.new.recovery c.take_next.new.recovery c.next_into.new.into) e c.in-Err.ensures.err in
    if_some_two _ _ _ (g.V.Store.told c.args.store.now) c.records.invariant.read (if_some_same _ _ _ c.records.invariant.reads.same goes)
    (λ fs pass is s F image.
    inr (pass_fails fs.log s F c.args.known.now c.records.reader c.next_into.new.self c.records.recovery c.scan_known.new.recovery c.take_next.new.recovery c.records.counts c.records.counts c.next_into.new.into (pass s F image)
    c.in_ok-scan_known.ensures.ok is at refused.0 refused.1))

pub returns-then-is_unscanned-clause-damaged : goal.returns-then-is_unscanned-clause-damaged
returns-then-is_unscanned-clause-damaged g c =
    let bad : is_unscanned c.records.recovery ≡ true = search rules in
    if_some_two _ _ _ (g.V.Store.told c.args.store.now) c.records.invariant.read (if_some_same _ _ _ c.records.invariant.reads.same (c.in_ok-next_into.ensures.ends c.if-branch.false))
    (λ fs pass is s F image found.
    end_finds fs.log s F c.args.known.now c.records.reader c.next_into.new.self c.records.recovery c.records.counts (pass s F image) is bad c.into_damage-then-is_unscanned.result c.into_damage-then-is_unscanned.ensures found)

pub returns-then-is_unscanned-clause-window : goal.returns-then-is_unscanned-clause-window
returns-then-is_unscanned-clause-window g c =
    if_some_two _ _ _ (g.V.Store.told c.args.store.now) c.records.invariant.read (if_some_same _ _ _ c.records.invariant.reads.same (c.in_ok-next_into.ensures.ends c.if-branch.false))
    (λ fs pass is s F image. window_end fs.log s F c.records.reader c.next_into.new.self c.records.recovery c.records.counts (pass s F image).0 is)

pub returns-clause-ok : goal.returns-clause-ok
returns-clause-ok g c =
    if_some_two _ _ _ (g.V.Store.told c.args.store.now) c.records.invariant.read (if_some_same _ _ _ c.records.invariant.reads.same (c.in_ok-next_into.ensures.ends c.if-branch.false))
    (λ fs pass is s F image.
    reloaded fs.log s F c.records.reader c.next_into.new.self c.records.recovery c.records.counts (pass s F image).0 is _ c.in_ok-recovered.ensures.ok c.at-end.ensures
    (c.up_to.ensures.stays (subst (AreUpTo c.records.counts) (sym c.at-end.ensures) (up_to_end fs.log s F c.records.reader c.next_into.new.self c.records.recovery c.records.counts (pass s F image).0 is))))

pub returns-clause-ordered : goal.returns-clause-ordered
returns-clause-ordered g c = λ s o. c.in_ok-recovered.ensures.ordered s (c.records.invariant.ordered s o)
