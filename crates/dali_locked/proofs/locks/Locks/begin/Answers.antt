use Rattle.std.proofs.Common.{subst}
use Rattle.dali_locked.specs.Sights.{ClientSight}
use Rattle.dali_locked.specs.Locking.{HasMet, KeepsAll}
use Rattle.dali_locked.proofs.LockingSteps.{ascends_told, begin_told}
use Rattle.dali_locked.proofs.locks.Locks.begin.Goals as goal

pub returns-in-Ok-clause-ascends : goal.returns-in-Ok-clause-ascends
returns-in-Ok-clause-ascends g c = ascends_told g.B.Beginning.begun c.args.client.now c.seat.ensures.led c.in-Ok.ensures.tells c.in-Ok.given.1.number c.in-Ok.ensures.number.1

pub returns-in-Ok-clause-onward : goal.returns-in-Ok-clause-onward
returns-in-Ok-clause-onward g c = begin_told g.B.Beginning.begun c.args.client.now c.seat.ensures.led c.in-Ok.given.0 c.begin.new.self.served.state c.in-Ok.ensures.tells

pub returns-clause-met : goal.returns-clause-met
returns-clause-met g c =
    subst (λ (v : ClientSight). HasMet g.B.Beginning.begun c.in-Err.cause v c.meet_unbegun.new.client × KeepsAll g.B.Beginning.begun v c.meet_unbegun.new.client) c.in-Err.ensures.err.0
    (c.meet_unbegun.ensures.met, c.meet_unbegun.ensures.onward)
