use Rattle.std.proofs.Common.{sym, subst, ap, ◌∙◌}
use Rattle.dali_record.specs.declared.operations.Block.{Block}
use Rattle.dali_record.specs.Blocks.{made}
use Rattle.dali_region.specs.State.{RegionState, with_reads}
use Rattle.dali_system.specs.UnderWay.{IsUnderWay}
use Rattle.dali_system.proofs.UnderWays.{starts, latched_unheld}
use Rattle.dali_system.proofs.operation.OpenOperation.start.Goals as goal

pub returns-clause-under_way : goal.returns-clause-under_way
returns-clause-under_way c =
    let b : Block = c.make.new.self in
    let old : RegionState = c.args.region.now in
    let words = ap (λ (g : RegionState). g.words) c.in_ok-latch.ensures.taken in
    let now = c.note_reads.ensures.after ∙ ap (with_reads b.read) c.in_ok-latch.ensures.taken in
    subst (IsUnderWay c.args.txn b b.write 0) (sym now)
    (starts c.args.txn c.args.number c.args.key c.args.op b old c.in_ok-latch.ensures.was_protected (latched_unheld c.args.precheck old c.in_ok-latch.ensures.answer)
    (c.make.ensures.made ∙ ap (λ ws. made ws c.args.key c.args.number c.args.op) (c.words.ensures.value ∙ words)) c.make.ensures.spelled)
