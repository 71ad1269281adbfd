use Rattle.std.proofs.Common.{ap}
use Rattle.dali_round.specs.Leads.{is_done}
use Rattle.dali_run.proofs.RoundCalls.{plays_done, tell_all, was_played}
use Rattle.dali_run.proofs.rounds.play.Goals as goal

pub returns-in-Done-clause-plays : goal.returns-in-Done-clause-plays
returns-in-Done-clause-plays g c =
    plays_done g.V.Store c.args.setting.now.precheck c.args.blocks.now c.args.core c.round-core.result.0 c.round-core.result.2
    c.round-core.result.1.items c.in-Done.is c.round-core.ensures.leads

pub returns-in-Done-clause-tell : goal.returns-in-Done-clause-tell
returns-in-Done-clause-tell g c = tell_all c.args.blocks.now c.round-core.result.1.items c.round-core.ensures.clients

pub returns-in-OutOfMemory-clause-lost : goal.returns-in-OutOfMemory-clause-lost
returns-in-OutOfMemory-clause-lost g c = (
  was_played g.V.Store c.args.setting.now.precheck c.args.blocks.now c.args.core c.round-core.result.0 c.round-core.result.2
      c.round-core.result.1.items c.round-core.ensures.leads c.round-core.ensures.longer c.round-core.ensures.any_moment,
  ap is_done c.in-OutOfMemory.is,
)
