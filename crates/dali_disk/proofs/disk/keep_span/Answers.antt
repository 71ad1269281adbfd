use Rattle.std.proofs.Common.{List, ℕ, sym, subst, arith}
use Rattle.dali_disk.specs.State.{Agree}
use Rattle.dali_disk.proofs.Copies.{agree_step}
use Rattle.dali_disk.proofs.disk.keep_span.Goals as goal

pub returns-then-span-end-clause-agree : goal.returns-then-span-end-clause-agree
returns-then-span-end-clause-agree c = λ rest agree.
    subst (λ (l : List ℕ). Agree c.args.old rest l c.args.seen.now) (sym c.copy_range.ensures.items)
    (agree_step c.args.old c.min-end.result c.args.span rest _ _ (omega (arith, c.min-end.ensures, c.saturating_add.ensures, c.ranges.old)) c.if-span-end.true (omega (arith, c.requires.old, c.requires.size)) c.requires.size agree)
