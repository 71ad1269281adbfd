use Rattle.std.proofs.Common.{◌∙◌, sym}
use Rattle.std.proofs.lemmas.Result.{IfOk-weaker}
use Rattle.dali_run.specs.declared.program.Program.TheVariants.{Up}
use Rattle.dali_run.specs.Steps.{Lists, ShowIn}
use Rattle.dali_run.proofs.Cleaned.{show_none}
use Rattle.dali_run.proofs.cleaning.show_of.Goals as goal

pub returns-in_ok-_dead-in-None-clause-steps : goal.returns-in_ok-_dead-in-None-clause-steps
returns-in_ok-_dead-in-None-clause-steps g c =
    IfOk-weaker c.text_of_core.result (λ text. Lists c.clean_dead.new.core text.items)
    (λ text. ShowIn g.V.Store c.args.core.now.system.state.stop c.args.core.now text.items (Up c.clean_dead.new.core))
    (λ text lists. show_none g.V.Store c.args.core.now.system.state.stop c.args.core.now c.clean_dead.new.core text.items (sym c.stopped.ensures ∙ c.in-None.is) c.in_ok-_dead-in-None.ensures.cleaned lists)
    c.text_of_core.ensures.lists
