use Rattle.std.proofs.Common.{arith, ap}
use Rattle.dali_log.specs.Batch.{Framed}
use Rattle.dali_system.proofs.Journals.{kept_flushed, view_flushed}
use Rattle.dali_system.proofs.journal.Journal.flushed.Goals as goal

pub invariant_of-self : goal.invariant_of-self
invariant_of-self c =
    let body = ap (λ (f : Framed). f.body) c.clear.ensures in
    let room = ap (λ (f : Framed). f.room) c.clear.ensures in (
      kept_flushed c.self.inside.since.items c.self.inside.frame c.clear.new.self c.self.inside.count c.self.inside.taken c.self.inside.bytes body (ap (λ (f : Framed). f.records) c.clear.ensures) c.self.invariant.0,
      record { frame = omega (arith, room, c.self.invariant.1.frame); few = rw body (omega (arith, c.self.invariant.1.few)); small = c.self.invariant.1.small },
    )

pub returns : goal.returns
returns c = view_flushed c.self.inside.since.items c.self.inside.frame c.self.inside.count c.self.inside.taken c.self.inside.bytes c.self.inside.promises c.args.self.now c.self.invariant.0 c.self.view_is
