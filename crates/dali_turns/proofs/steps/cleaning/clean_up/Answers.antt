use Rattle.std.proofs.Common.{◌≡◌, Err, refl, sym, ◌∙◌}
use Rattle.dali_clean.specs.declared.error.CleanError.TheVariants.{NotDead, Stopped}
use Rattle.dali_turns.proofs.Reasons.{clean_stop, clean_runs}
use Rattle.dali_turns.proofs.steps.cleaning.clean_up.Goals as goal

pub returns-in-Err-Stopped-clause-refused : goal.returns-in-Err-Stopped-clause-refused
returns-in-Err-Stopped-clause-refused g c =
    let e = c.in-Err-Stopped.field-0 in
    let other : e ≡ NotDead → ⊥ = λ same. let both : Stopped c.in-Err-Stopped.cause ≡ NotDead = sym c.in-Err-Stopped.field-0-is ∙ same in absurd (cc) in
    let was = c.in-Err-Stopped.ensures.was (λ same. let one : e ≡ NotDead = cc in absurd (other one)) in (
      c.in-Err-Stopped.cause,
      refl,
      clean_stop c.args.core.now.system.state.stop (Err e) e c.in-Err-Stopped.cause refl c.in-Err-Stopped.field-0-is (c.in-Err-Stopped.ensures.refused was) (λ none. c.in-Err-Stopped.ensures.memory none other),
      λ may. let again = c.in-Err-Stopped.ensures.again may other in record { left = again.0; again = again.1; dead = c.in-Err-Stopped.ensures.dead; others = c.in-Err-Stopped.ensures.only.others },
    )

pub returns-in-Ok-clause-runs : goal.returns-in-Ok-clause-runs
returns-in-Ok-clause-runs g c = λ none. clean_runs c.args.core.now.system.state.stop c.clean.result _ c.in-Ok.is (c.clean.ensures.refused (c.clean.ensures.was (λ same. let both = sym c.in-Ok.is ∙ same in absurd (cc))))
