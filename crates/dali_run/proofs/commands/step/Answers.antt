use Rattle.std.proofs.Common.{List, map, subst}
use Rattle.std.specs.Prelude.{OnErr}
use Rattle.dali_script.specs.declared.commands.Block.{Block}
use Rattle.dali_script.specs.declared.commands.Command.TheVariants as commands
use Rattle.dali_transcripts.specs.Words.{Audits, Checkpoints}
use Rattle.dali_run.specs.Fails.{AloneEndsIn, Fails, Lost}
use Rattle.dali_run.specs.Program.{store_of}
use Rattle.dali_run.specs.Told.{told_by}
use Rattle.dali_run.proofs.Alone.{audit_ends, checkpoint_ends, ends, memory_fails, open_fails}
use Rattle.dali_run.proofs.commands.step.Goals as goal

pub returns-in-Open-clause-fails : goal.returns-in-Open-clause-fails
returns-in-Open-clause-fails g c =
    rw c.in-Open.is
    (ends g.V.Store c.args.setting.now.precheck
    (λ halt. Fails g.V.Store c.args.setting.now.precheck halt commands.Restart c.args.program (store_of c.open.result.0))
    (λ halt. Fails g.V.Store c.args.setting.now.precheck halt commands.Open c.args.program (store_of c.open.result.0))
    c.open.result.1
    (λ halt. open_fails g.V.Store c.args.setting.now.precheck halt c.args.program (store_of c.open.result.0))
    c.open.ensures.fails)

pub returns-in-Round-clause-fails : goal.returns-in-Round-clause-fails
returns-in-Round-clause-fails g c =
    rw c.in-Round.is
    (memory_fails g.V.Store c.args.setting.now.precheck c.round_of.result.1 (commands.Round c.in-Round.blocks)
    c.args.program (store_of c.round_of.result.0)
    (subst (λ (bs : List Block). OnErr c.round_of.result.1 (Lost g.V.Store c.args.setting.now.precheck (map told_by bs) c.args.program (store_of c.round_of.result.0)))
    c.as_slice.ensures c.round_of.ensures.lost)
    c.round_of.ensures.memory)

pub returns-in-Audit-clause-fails : goal.returns-in-Audit-clause-fails
returns-in-Audit-clause-fails g c =
    rw c.in-Audit.is
    (ends g.V.Store c.args.setting.now.precheck
    (λ halt. AloneEndsIn g.V.Store c.args.setting.now.precheck halt Audits c.args.program (store_of c.alone-in-Audit.result.0))
    (λ halt. Fails g.V.Store c.args.setting.now.precheck halt commands.Audit c.args.program (store_of c.alone-in-Audit.result.0))
    c.alone-in-Audit.result.1
    (λ halt. audit_ends g.V.Store c.args.setting.now.precheck halt c.args.program (store_of c.alone-in-Audit.result.0))
    c.alone-in-Audit.ensures.ends)

pub returns-in-Checkpoint-clause-fails : goal.returns-in-Checkpoint-clause-fails
returns-in-Checkpoint-clause-fails g c =
    rw c.in-Checkpoint.is
    (ends g.V.Store c.args.setting.now.precheck
    (λ halt. AloneEndsIn g.V.Store c.args.setting.now.precheck halt Checkpoints c.args.program (store_of c.alone-in-Checkpoint.result.0))
    (λ halt. Fails g.V.Store c.args.setting.now.precheck halt commands.Checkpoint c.args.program (store_of c.alone-in-Checkpoint.result.0))
    c.alone-in-Checkpoint.result.1
    (λ halt. checkpoint_ends g.V.Store c.args.setting.now.precheck halt c.args.program (store_of c.alone-in-Checkpoint.result.0))
    c.alone-in-Checkpoint.ensures.ends)
