use Rattle.std.proofs.Common.{◌≡◌, ◌+◌, sym, subst}
use Rattle.dali_transcripts.specs.Words.{Full}
use Rattle.dali_system.specs.declared.error.SystemError.{SystemError}
use Rattle.dali_locked.specs.Locking.{HasMet}
use Rattle.dali_locked.proofs.LockingSteps.{has_met, stop_told, met_told, stop_is}
use Rattle.dali_locked.proofs.calling.meet_unbegun.Goals as goal

pub returns-in-Stopped-clause-met : goal.returns-in-Stopped-clause-met
returns-in-Stopped-clause-met g c =
    has_met g.B.Beginning.begun c.args.client.now c.meet_stop.new.client c.meet_stop.result c.args.system.now.served.state.stop c.args.cause c.in-Stopped.cause c.in-Stopped.is
    (stop_is c.args.system.now.served.state.stop c.args.system.now.served.state.end c.args.system.now.served.state.limit 9 c.args.cause c.in-Stopped.cause c.in-Stopped.is c.requires.cause) c.meet_stop.ensures.cause
    (stop_told g.B.Beginning.begun c.args.client.now c.requires.led c.meet_stop.result c.meet_stop.ensures.meets c.meet_stop.ensures.runs).1

pub returns-in-Stopped-clause-onward : goal.returns-in-Stopped-clause-onward
returns-in-Stopped-clause-onward g c = (stop_told g.B.Beginning.begun c.args.client.now c.requires.led c.meet_stop.result c.meet_stop.ensures.meets c.meet_stop.ensures.runs).0

pub returns-in-LogFull-clause-met : goal.returns-in-LogFull-clause-met
returns-in-LogFull-clause-met g c =
    subst (λ (e : SystemError). HasMet g.B.Beginning.begun e c.args.client.now c.meet_full_begin.new.client) (sym c.in-LogFull.is) (c.args.system.now, c.meet_full_begin.new.self, c.meet_full_begin.ensures.meets)

pub returns-in-LogFull-clause-onward : goal.returns-in-LogFull-clause-onward
returns-in-LogFull-clause-onward g c = met_told g.B.Beginning.begun c.args.client.now c.requires.led (Full c.in-LogFull.end c.in-LogFull.limit) c.meet_full_begin.ensures.meets
