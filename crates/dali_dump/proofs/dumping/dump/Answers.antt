use Rattle.std.proofs.Common.{rules, ◌≡◌, ◌++◌, ◌∙◌, ℕ, List, [], ap, arith}
use Rattle.std.specs.Prelude.{IsNone}
use Rattle.std.proofs.lemmas.Result.{err_from_is_err_and}
use Rattle.dali_lists.proofs.Options.{if_some_then}
use Rattle.dali_log.proofs.Finds.{if_some_two, if_some_same}
use Rattle.dali_dump.proofs.Causes.{log_bad}
use Rattle.dali_dump.proofs.Numbered.{first_dumped, dumps_next, all_dumped, dump_bad}
use Rattle.dali_record.specs.declared.records.Record.TheVariants.{Format}
use Rattle.dali_dump.specs.Lines.{record_line}
use Rattle.dali_dump.proofs.dumping.dump.Goals as goal

pub returns-in_err-next-clause-bad : goal.returns-in_err-next-clause-bad
returns-in_err-next-clause-bad g c =
    let p = err_from_is_err_and c.from_residual-in_err-next.result c.from_residual-in_err-next.ensures.1 in
    rw (p.1, p.2) (λ bad e.
    if_some_two _ _ _ (g.V.Store.told c.args.store.now) c.records.invariant.dumped (if_some_same _ _ _ c.records.invariant.reads.same (c.in_err-next.ensures.bad bad (log_bad c.in_err-next.field-0.0 bad e)))
    (λ fs so_far is. dump_bad fs.log _ _ bad _ is so_far))

pub returns-clause-dump : goal.returns-clause-dump
returns-clause-dump g c =
    let nothing : IsNone c.in_ok-next.field-0 = search rules in
    if_some_two _ _ _ (g.V.Store.told c.args.store.now) c.records.invariant.dumped (if_some_same _ _ _ c.records.invariant.reads.same (c.in_ok-next.ensures.ends nothing))
    (λ fs so_far ends. all_dumped fs.log _ _ _ _ ends so_far)

pub records-preserved : goal.records-preserved
records-preserved g c =
    dumps_next _ _ _ _ _ c.in-Some.next _ _ _ _ _ c.records.invariant c.in_ok-next.ensures.read c.in-Some.is c.in_ok-put_line-2.ensures c.next.ensures.whole (search rules) c.next.ensures.store.reads (search rules) (search rules)

pub records-preserved-in_ok-put_line-2 : goal.records-preserved-in_ok-put_line-2
records-preserved-in_ok-put_line-2 g c =
    dumps_next _ _ _ _ _ c.in-Some.next _ _ _ _ _ c.records.invariant c.in_ok-next.ensures.read c.in-Some.is c.in_ok-put_line-2.ensures c.next.ensures.whole (search rules) c.next.ensures.store.reads (search rules) (search rules)

pub records-preserved-in_ok-put_line-2-2 : goal.records-preserved-in_ok-put_line-2-2
records-preserved-in_ok-put_line-2-2 g c =
    dumps_next _ _ _ _ _ c.in-Some.next _ _ _ _ _ c.records.invariant c.in_ok-next.ensures.read c.in-Some.is c.in_ok-put_line-2.ensures c.next.ensures.whole (search rules) c.next.ensures.store.reads (search rules) (search rules)

pub records-init : goal.records-init
records-init g c =
    let first = c.in_ok-reader.ensures.first in
    let empty : c.new-text.result.items ≡ [] = c.new-text.ensures.items in
    let added : c.put_line.new.into.items ≡ c.new-text.result.items ++ record_line 0 (Format c.in_ok-reader.index c.in_ok-reader.heap) = c.in_ok-put_line.ensures in
    record {
      whole = c.in_ok-reader.ensures.whole;
      few = omega (arith, c.in_ok-reader.ensures.further);
      dumped = if_some_then _ _ (g.V.Store.told c.args.store.now) first
          (λ fs is. first_dumped fs.log c.in_ok-reader.reader c.in_ok-reader.index c.in_ok-reader.heap c.put_line.new.into.items is (added ∙ ap (λ (l : List ℕ). l ++ record_line 0 (Format c.in_ok-reader.index c.in_ok-reader.heap)) empty));
      reads = c.open.ensures.store.reads;
      passes = c.open.ensures.store.passes;
      kept = c.open.ensures.store.kept (search rules);
    }
