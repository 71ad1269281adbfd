use Rattle.std.proofs.Common.{◌∙◌, sym}
use Rattle.std.proofs.lemmas.Result.{IfOk-weaker}
use Rattle.dali_run.specs.declared.program.Program.TheVariants.{Up}
use Rattle.dali_run.specs.Steps.{EndsComparison, VerifyIn}
use Rattle.dali_run.proofs.Comparisons.{verify_none}
use Rattle.dali_run.proofs.cleaning.verify_of.Goals as goal

pub returns-in_ok-clean_dead-in-None-clause-steps : goal.returns-in_ok-clean_dead-in-None-clause-steps
returns-in_ok-clean_dead-in-None-clause-steps g c =
    IfOk-weaker c.compare.result
    (λ text. EndsComparison g.V.Store c.clean_dead.new.core text.items c.compare.new.core)
    (λ text. VerifyIn g.V.Store c.args.core.now.system.state.stop c.args.core.now text.items (Up c.compare.new.core))
    (λ text ends. verify_none g.V.Store c.args.core.now.system.state.stop c.args.core.now c.clean_dead.new.core c.compare.new.core text.items
    (sym c.stopped.ensures ∙ c.in-None.is) c.in_ok-clean_dead-in-None.ensures.cleaned ends)
    c.compare.ensures.ends
