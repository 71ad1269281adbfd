use Rattle.std.proofs.Common.{map}
use Rattle.std.proofs.lemmas.Result.{IfOk-weaker}
use Rattle.dali_run.specs.declared.program.Program.TheVariants.{Up}
use Rattle.dali_run.specs.Steps.{RunsRound, StepsRound}
use Rattle.dali_run.specs.Told.{told_by}
use Rattle.dali_run.proofs.RoundCalls.{steps_round}
use Rattle.dali_run.proofs.rounds.round_of.Goals as goal

pub returns-in-Up-clause-steps : goal.returns-in-Up-clause-steps
returns-in-Up-clause-steps g c =
    IfOk-weaker c.round_over-core.result.1 (λ text. RunsRound g.V.Store c.args.setting.now.precheck (map told_by c.args.told.now) c.in-Up.core text.items c.round_over-core.result.0)
    (λ text. StepsRound g.V.Store c.args.setting.now.precheck c.args.told.now c.args.program text.items (Up c.round_over-core.result.0))
    (λ text runs. steps_round g.V.Store c.args.setting.now.precheck c.args.told.now c.args.program c.in-Up.core c.round_over-core.result.0 text.items c.in-Up.is runs)
    c.round_over-core.ensures.runs
