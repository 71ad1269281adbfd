use Rattle.std.proofs.Common.{refl, sym, ◌∙◌, ◌≡◌, Some, None, ap}
use Rattle.dali_turns.specs.declared.client.State.TheVariants.{Outside}
use Rattle.dali_turns.proofs.Here.{in_no_run}
use Rattle.dali_turns.proofs.Commands.{behind_next}
use Rattle.dali_turns.proofs.Stepping.{none_goes, not_outside, outside_placed}
use Rattle.dali_turns.proofs.Putting.{never_went, outside_put}
use Rattle.dali_turns.proofs.Over.{some_next}
use Rattle.dali_turns.proofs.Placed.{places_still, at_state}
use Rattle.dali_turns.proofs.Moments.{leaves_still}
use Rattle.dali_transcripts.specs.declared.clients.command.Command.TheVariants.{Begin, Poke, Audit, Checkpoint}
use Rattle.dali_turns.proofs.Meeting.{on_no_ok}
use Rattle.dali_turns.proofs.AtOnce.{refuses_next}
use Rattle.dali_turns.proofs.steps.next.Goals as goal

pub returns-in_default-clause-goes : goal.returns-in_default-clause-goes
returns-in_default-clause-goes g c =
    let k = c.args.client.now in
    in_no_run g.V.Store c.args.setting.now.precheck k c.args.core.now.regions.items c.args.core.now.system.state c.args.core.now.vault _ k c.args.core.now.regions.items c.args.core.now.system.state c.args.core.now.vault Outside
    (λ may. not_outside c.in-Some.command (behind_next k) (outside_placed g.V.Store c.args.core.now.regions.items c.args.core.now.system.state c.args.core.now.vault k c.in-Some.command may (sym c.command.ensures ∙ c.in-Some.is))
    (λ e. c.in_default.not-Begin e) (λ r word mask e. c.in_default.not-Poke r word mask e) (λ e. c.in_default.not-Audit e) (λ e. c.in_default.not-Checkpoint e))

pub returns-in-None-clause-goes : goal.returns-in-None-clause-goes
returns-in-None-clause-goes g c =
    none_goes g.V.Store c.args.setting.now.precheck c.args.core.now.regions.items c.args.core.now.system.state c.args.core.now.vault c.args.client.now c.args.client.now (record { rest = refl; stands = c.requires.stands; points = refl; transcript = refl })

pub returns-in_default-clause-places : goal.returns-in_default-clause-places
returns-in_default-clause-places g c = places_still g.V.Store.told Outside c.args.client.now.state c.args.core.now.regions.items c.args.core.now.regions.items c.args.core.now.vault c.args.core.now.vault refl refl (at_state g.V.Store.told _ _ c.args.client.now.state Outside c.args.core.now.vault c.requires.stands tt)

pub returns-in-None-clause-places : goal.returns-in-None-clause-places
returns-in-None-clause-places g c = places_still g.V.Store.told Outside c.args.client.now.state c.args.core.now.regions.items c.args.core.now.regions.items c.args.core.now.vault c.args.core.now.vault refl refl (at_state g.V.Store.told _ _ c.args.client.now.state Outside c.args.core.now.vault c.requires.stands tt)

pub returns-in-Begin-clause-places : goal.returns-in-Begin-clause-places
returns-in-Begin-clause-places g c = c.begin.ensures.places Outside

pub returns-in-None-clause-idle : goal.returns-in-None-clause-idle
returns-in-None-clause-idle g c = λ e. (outside_put c.args.core.now.system.state c.args.client.now c.requires.stands (sym c.command.ensures ∙ c.in-None.is), refl)

pub returns-in-Begin-clause-idle : goal.returns-in-Begin-clause-idle
returns-in-Begin-clause-idle g c = λ e. never_went c.begin.result c.begin.ensures.on e

pub returns-in-Poke-clause-idle : goal.returns-in-Poke-clause-idle
returns-in-Poke-clause-idle g c = λ e. never_went c.poke.result c.poke.ensures.on e

pub returns-in-Audit-clause-idle : goal.returns-in-Audit-clause-idle
returns-in-Audit-clause-idle g c = λ e. never_went c.start.result c.start.ensures.on e

pub returns-in-Checkpoint-clause-idle : goal.returns-in-Checkpoint-clause-idle
returns-in-Checkpoint-clause-idle g c = λ e. never_went c.start-in-Checkpoint.result c.start-in-Checkpoint.ensures.on e

pub returns-in_default-clause-over : goal.returns-in_default-clause-over
returns-in_default-clause-over g c = λ none. some_next c.args.client.now c.in-Some.command (sym c.command.ensures ∙ c.in-Some.is) none

pub returns-in-Begin-clause-over : goal.returns-in-Begin-clause-over
returns-in-Begin-clause-over g c = λ none. some_next c.args.client.now c.in-Some.command (sym c.command.ensures ∙ c.in-Some.is) none

pub returns-in-Poke-clause-over : goal.returns-in-Poke-clause-over
returns-in-Poke-clause-over g c = λ none. some_next c.args.client.now c.in-Some.command (sym c.command.ensures ∙ c.in-Some.is) none

pub returns-in-Audit-clause-over : goal.returns-in-Audit-clause-over
returns-in-Audit-clause-over g c = λ none. some_next c.args.client.now c.in-Some.command (sym c.command.ensures ∙ c.in-Some.is) none

pub returns-in-Checkpoint-clause-over : goal.returns-in-Checkpoint-clause-over
returns-in-Checkpoint-clause-over g c = λ none. some_next c.args.client.now c.in-Some.command (sym c.command.ensures ∙ c.in-Some.is) none

pub returns-in_default-clause-any_moment : goal.returns-in_default-clause-any_moment
returns-in_default-clause-any_moment g c = leaves_still g.V.Store Outside c.args.client.now c.args.core.now.regions.items c.args.core.now.system.state _ c.args.core.now.vault _ (λ d past. g.met.V.Store.only_now c.args.core.now.vault.store d past) refl

pub returns-in-None-clause-any_moment : goal.returns-in-None-clause-any_moment
returns-in-None-clause-any_moment g c = leaves_still g.V.Store Outside c.args.client.now c.args.core.now.regions.items c.args.core.now.system.state _ c.args.core.now.vault _ (λ d past. g.met.V.Store.only_now c.args.core.now.vault.store d past) refl

pub returns-in-Begin-clause-any_moment : goal.returns-in-Begin-clause-any_moment
returns-in-Begin-clause-any_moment g c = leaves_still g.V.Store Outside c.args.client.now c.args.core.now.regions.items c.args.core.now.system.state _ c.args.core.now.vault _ (λ d past. g.met.V.Store.only_now c.args.core.now.vault.store d past) c.begin.ensures.vault

pub returns-in-Poke-clause-any_moment : goal.returns-in-Poke-clause-any_moment
returns-in-Poke-clause-any_moment g c = leaves_still g.V.Store Outside c.args.client.now c.args.core.now.regions.items c.args.core.now.system.state _ c.args.core.now.vault _ (λ d past. g.met.V.Store.only_now c.args.core.now.vault.store d past) c.poke.ensures.vault

pub returns-in-Audit-clause-any_moment : goal.returns-in-Audit-clause-any_moment
returns-in-Audit-clause-any_moment g c = leaves_still g.V.Store Outside c.args.client.now c.args.core.now.regions.items c.args.core.now.system.state _ c.args.core.now.vault _ (λ d past. g.met.V.Store.only_now c.args.core.now.vault.store d past) c.start.ensures.vault

pub returns-in_default-clause-refuses : goal.returns-in_default-clause-refuses
returns-in_default-clause-refuses g c = λ command next why is. on_no_ok _ c.no_run.result c.no_run.ensures

pub returns-in-None-clause-refuses : goal.returns-in-None-clause-refuses
returns-in-None-clause-refuses g c = λ command next. let none : None ≡ Some command = sym c.in-None.is ∙ (c.command.ensures ∙ next) in absurd (cc)

pub returns-in-Begin-clause-refuses : goal.returns-in-Begin-clause-refuses
returns-in-Begin-clause-refuses g c = λ command next. refuses_next c.args.core.now.system.state c.args.client.now c.begin.new.client c.begin.result command Begin next (sym c.command.ensures ∙ (c.in-Some.is ∙ ap Some c.in-Begin.is)) c.begin.ensures.refuses

pub returns-in-Poke-clause-refuses : goal.returns-in-Poke-clause-refuses
returns-in-Poke-clause-refuses g c = λ command next.
    refuses_next c.args.core.now.system.state c.args.client.now c.poke.new.client c.poke.result command (Poke c.in-Poke.region c.in-Poke.word c.in-Poke.mask) next (sym c.command.ensures ∙ (c.in-Some.is ∙ ap Some c.in-Poke.is)) (λ why is. absurd (cc))

pub returns-in-Audit-clause-refuses : goal.returns-in-Audit-clause-refuses
returns-in-Audit-clause-refuses g c = λ command next. refuses_next c.args.core.now.system.state c.args.client.now c.start.new.client c.start.result command Audit next (sym c.command.ensures ∙ (c.in-Some.is ∙ ap Some c.in-Audit.is)) c.start.ensures.refuses

pub returns-in-Checkpoint-clause-refuses : goal.returns-in-Checkpoint-clause-refuses
returns-in-Checkpoint-clause-refuses g c = λ command next.
    refuses_next c.args.core.now.system.state c.args.client.now c.start-in-Checkpoint.new.client c.start-in-Checkpoint.result command Checkpoint next (sym c.command.ensures ∙ (c.in-Some.is ∙ ap Some c.in-Checkpoint.is)) c.start-in-Checkpoint.ensures.refuses
