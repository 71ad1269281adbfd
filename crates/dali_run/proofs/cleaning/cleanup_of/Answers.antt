use Rattle.std.proofs.Common.{◌≡◌, ◌∙◌, ℕ, List, [], ◌∷◌, sym, ap}
use Rattle.std.proofs.lemmas.Result.{IfOk-weaker}
use Rattle.dali_report.specs.Lines.{texts}
use Rattle.dali_report.specs.declared.printed.Line.TheVariants as lines
use Rattle.dali_run.specs.declared.program.Program.TheVariants.{Up}
use Rattle.dali_run.specs.Steps.{CleanupIn}
use Rattle.dali_run.proofs.Cleaned.{cleanup_none}
use Rattle.dali_run.proofs.cleaning.cleanup_of.Goals as goal

pub returns-in_ok-dead-in-None-clause-steps : goal.returns-in_ok-dead-in-None-clause-steps
returns-in_ok-dead-in-None-clause-steps g c =
    IfOk-weaker c.text_of_line.result (λ text. text.items ≡ texts (lines.Cleaned c.new.result ∷ []))
    (λ text. CleanupIn g.V.Store c.args.core.now.system.state.stop c.args.core.now text.items (Up c.clean_dead.new.core))
    (λ text is. cleanup_none g.V.Store c.args.core.now.system.state.stop c.args.core.now c.clean_dead.new.core c.in_ok-dead-in-None.dead.items text.items (sym c.stopped.ensures ∙ c.in-None.is)
    c.in_ok-dead-in-None.ensures.dead c.in_ok-dead-in-None.ensures.cleaned (is ∙ ap (λ (l : List ℕ). texts (lines.Cleaned l ∷ [])) c.new.ensures))
    c.text_of_line.ensures.text
