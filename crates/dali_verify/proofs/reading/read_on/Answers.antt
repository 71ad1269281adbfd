use Rattle.std.proofs.Common.{rules}
use Rattle.std.proofs.lemmas.Result.{err_from_is_err_and}
use Rattle.dali_log.proofs.Finds.{if_some_two, if_some_same}
use Rattle.dali_log.proofs.Readings.{reads_then}
use Rattle.dali_verify.proofs.Logs.{batch_bad, tail_bad, tail_body_bad, run_more, same_vault}
use Rattle.dali_verify.proofs.reading.read_on.Goals as goal

pub returns-in_err-body-clause-bad : goal.returns-in_err-body-clause-bad
returns-in_err-body-clause-bad g c =
    let p = err_from_is_err_and c.from_residual.result c.from_residual.ensures.1 in
    rw (p.1, p.2) (λ bad e.
    if_some_two _ _ _ (g.V.Store.told c.args.vault.now.store) c.batches.invariant.run (if_some_same _ _ _ c.batches.invariant.reads.same (c.in_err-body.ensures.bad bad (batch_bad c.in_err-body.field-0.0 bad e)))
    (λ fs run is. tail_bad fs.log c.args.start c.batches.at bad run.0 run.1 is))

pub returns-in_err-add_records-clause-bad : goal.returns-in_err-add_records-clause-bad
returns-in_err-add_records-clause-bad g c =
    let p = err_from_is_err_and c.from_residual-in_err-add_records.result c.from_residual-in_err-add_records.ensures.1 in
    let found = if_some_same _ _ _ c.batches.invariant.reads.same (rw c.in-Batch.is at c.in_ok-body.ensures.found) in
    rw (p.1, p.2) (λ bad e.
    if_some_two _ _ _ (g.V.Store.told c.args.vault.now.store) c.batches.invariant.run found
    (λ fs run at. tail_body_bad fs.log c.args.start c.batches.at bad run.0 c.in-Batch.body c.bytes.result.now run.1 at.0 c.bytes.ensures (c.in_err-add_records.ensures.bad bad e)))

pub batches-preserved : goal.batches-preserved
batches-preserved g c =
    let found = if_some_same _ _ _ c.batches.invariant.reads.same (rw c.in-Batch.is at c.in_ok-body.ensures.found) in
    let further = rw c.in-Batch.is at c.in_ok-body.ensures.further in
    record {
      small = further.1;
      run = if_some_two _ _ _ (g.V.Store.told c.args.vault.now.store) c.batches.invariant.run found
          (λ fs run at. run_more fs.log c.args.start c.batches.at c.in-Batch.next run.0 c.in-Batch.body c.bytes.result.now c.args.records.now.items c.batches.records.items c.add_records.new.records.items run.1 at.0 at.1 c.bytes.ensures c.in_ok-add_records.ensures.ok run.2);
      same = same_vault c.args.vault.now c.batches.vault c.read_log.new.self c.batches.invariant.same c.read_log.ensures.same;
      reads = reads_then _ _ _ _ _ _ _ c.batches.invariant.reads c.read_log.ensures.reads;
      kept = search rules;
    }
