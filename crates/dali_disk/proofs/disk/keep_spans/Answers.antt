use Rattle.std.proofs.Common.{List, subst, arith}
use Rattle.std.proofs.lemmas.List.{drop_more, drop_all}
use Rattle.dali_disk.specs.declared.disk.Span.{Span}
use Rattle.dali_disk.specs.State.{Agree}
use Rattle.dali_disk.proofs.Copies.{agree_all}
use Rattle.dali_disk.proofs.disk.keep_spans.Goals as goal

pub loop-number-preserved : goal.loop-number-preserved
loop-number-preserved c = record {
  size = c.keep_span.ensures.size;
  agree = c.keep_span.ensures.agree _ (subst (λ (l : List Span). Agree c.len-old.result l c.loop-number.synced.items c.args.seen.now) (drop_more c.args.spans.now c.loop-number.number _ c.loop-number-test.true) c.loop-number.invariant.agree);
  capacity = omega (arith, c.loop-number.invariant.capacity, c.keep_span.ensures.capacity);
}

pub returns-clause-items : goal.returns-clause-items
returns-clause-items c =
    agree_all c.len-old.result _ _ c.loop-number.invariant.size
    (subst (λ (l : List Span). Agree c.len-old.result l c.loop-number.synced.items c.args.seen.now) (drop_all c.loop-number.number c.args.spans.now c.loop-number-test.false) c.loop-number.invariant.agree)
