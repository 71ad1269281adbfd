use Rattle.std.proofs.Common.{◌≡◌, rules, sym, subst, [], ◌∷◌, ◌++◌}
use Rattle.std.specs.Prelude.{IsNone}
use Rattle.std.proofs.lemmas.Result.{err_from_is_err_and}
use Rattle.dali_log.specs.Log.{LogOf}
use Rattle.dali_log.proofs.Finds.{if_some_two, if_some_same}
use Rattle.dali_log.specs.Stream.{IsReadTo}
use Rattle.dali_log.proofs.Readings.{reads_then}
use Rattle.dali_log.proofs.Streaming.{read_on, read_all, read_bad}
use Rattle.dali_log.proofs.reading.read_log.Goals as goal

pub returns-in_err-next-clause-bad : goal.returns-in_err-next-clause-bad
returns-in_err-next-clause-bad g c =
    let p = err_from_is_err_and c.from_residual-in_err-next.result c.from_residual-in_err-next.ensures.1 in
    rw (p.1, p.2) (λ bad e.
    if_some_two _ _ _ (g.V.Store.told c.args.store.now) c.records.invariant.read (if_some_same _ _ _ c.records.invariant.reads.same (c.in_err-next.ensures.bad bad e))
    (λ fs read is. read_bad fs.log _ bad is c.records.records.items read))

pub returns-clause-log : goal.returns-clause-log
returns-clause-log g c =
    let nothing : IsNone c.in_ok-next.field-0 = search rules in
    if_some_two _ _ _ (g.V.Store.told c.args.store.now) c.records.invariant.read (if_some_same _ _ _ c.records.invariant.reads.same (c.in_ok-next.ensures.ends nothing))
    (λ fs read is. let all = read_all fs.log _ c.next.new.self is c.records.records.items read in (all.0, subst (LogOf fs.log all.0) (sym c.at.ensures) all.1, all.2))

pub records-preserved : goal.records-preserved
records-preserved g c =
    let goes = rw c.in-Some.is at c.in_ok-next.ensures.read in
    let pushed : c.push-in-Some.new.self.items ≡ c.records.records.items ++ c.in-Some.next.entry ∷ [] = search rules in
    record {
      whole = c.next.ensures.whole;
      read = if_some_two _ _ _ (g.V.Store.told c.args.store.now) c.records.invariant.read (if_some_same _ _ _ c.records.invariant.reads.same goes)
          (λ fs read on. subst (IsReadTo fs.log c.next.new.self) (sym pushed) (read_on fs.log c.records.reader c.next.new.self c.in-Some.next on c.records.records.items read));
      reads = reads_then _ _ _ _ _ _ _ c.records.invariant.reads c.next.ensures.store.reads;
      passes = search rules;
      kept = search rules;
    }
