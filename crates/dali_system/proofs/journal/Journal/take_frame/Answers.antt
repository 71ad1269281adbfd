use Rattle.std.proofs.Common.{arith, ap, ◌∙◌}
use Rattle.dali_log.specs.Batch.{Framed}
use Rattle.dali_system.proofs.Journals.{kept_flushed, view_flushed}
use Rattle.dali_system.proofs.journal.Journal.take_frame.Goals as goal

pub invariant_of-self : goal.invariant_of-self
invariant_of-self c =
    let body = ap (λ (f : Framed). f.body) c.replace.ensures.after ∙ c.in_ok-reserve.ensures.same.0 ∙ c.in_ok-next.ensures.0 in
    let records = ap (λ (f : Framed). f.records) c.replace.ensures.after ∙ c.in_ok-reserve.ensures.same.1 ∙ c.in_ok-next.ensures.1 in
    let room = ap (λ (f : Framed). f.room) c.replace.ensures.after in (
      kept_flushed c.self.inside.since.items c.self.inside.frame c.replace.new.dest c.self.inside.count c.self.inside.taken c.self.inside.bytes body records c.self.invariant.0,
      record { frame = omega (arith, room, c.in_ok-reserve.ensures.ok); few = rw body (omega (arith, c.self.invariant.1.few)); small = c.self.invariant.1.small },
    )

pub returns-clause-ok : goal.returns-clause-ok
returns-clause-ok c = view_flushed c.self.inside.since.items c.self.inside.frame c.self.inside.count c.self.inside.taken c.self.inside.bytes c.self.inside.promises c.args.self.now c.self.invariant.0 c.self.view_is
