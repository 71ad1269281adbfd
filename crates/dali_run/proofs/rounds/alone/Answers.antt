use Rattle.std.proofs.lemmas.Result.{IfOk-weaker}
use Rattle.dali_transcripts.specs.Clients.Told.{act_of}
use Rattle.dali_run.specs.declared.program.Program.TheVariants.{Up}
use Rattle.dali_run.specs.Steps.{ActsAlone, StepsAlone}
use Rattle.dali_run.proofs.RoundCalls.{steps_alone}
use Rattle.dali_run.proofs.rounds.alone.Goals as goal

pub returns-in-Up-clause-steps : goal.returns-in-Up-clause-steps
returns-in-Up-clause-steps g c =
    IfOk-weaker c.alone_over-core.result.1 (λ text. ActsAlone g.V.Store c.args.setting.now.precheck (act_of c.args.command.now) c.in-Up.core text.items c.alone_over-core.result.0)
    (λ text. StepsAlone g.V.Store c.args.setting.now.precheck c.args.name (act_of c.args.command.now) c.args.program text.items (Up c.alone_over-core.result.0))
    (λ text acts. steps_alone g.V.Store c.args.setting.now.precheck c.args.name (act_of c.args.command.now) c.args.program c.in-Up.core c.alone_over-core.result.0 text.items c.in-Up.is acts)
    c.alone_over-core.ensures.acts
