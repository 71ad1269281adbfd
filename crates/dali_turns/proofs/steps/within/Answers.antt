use Rattle.std.proofs.Common.{◌≡◌, true, Some, Ok, refl, ap, sym, subst, ◌∙◌}
use Rattle.dali_turns.specs.declared.client.State.TheVariants.{Outside, Within}
use Rattle.dali_turns.proofs.Here.{in_no_run}
use Rattle.dali_turns.proofs.Commands.{behind_next}
use Rattle.dali_turns.proofs.Stepping.{armed_goes, not_within, within_placed}
use Rattle.dali_turns.proofs.Putting.{never_went, asked_put}
use Rattle.dali_turns.proofs.Placed.{places_still, at_state}
use Rattle.dali_turns.proofs.Moments.{leaves_still}
use Rattle.dali_turns.specs.Refuses.{RefusesIn}
use Rattle.dali_turns.proofs.AtOnce.{none_in}
use Rattle.dali_turns.proofs.steps.within.Goals as goal

pub returns-in_default-clause-goes : goal.returns-in_default-clause-goes
returns-in_default-clause-goes g c =
    let k = c.args.client.now in
    in_no_run g.V.Store c.args.setting.now.precheck k c.args.core.now.regions.items c.args.core.now.system.state c.args.core.now.vault _ k c.args.core.now.regions.items c.args.core.now.system.state c.args.core.now.vault (Within c.args.transaction)
    (λ may. not_within c.in-Some.command (behind_next k) (within_placed g.V.Store c.args.core.now.regions.items c.args.core.now.system.state c.args.core.now.vault k c.args.transaction c.in-Some.command may (sym c.command.ensures ∙ c.in-Some.is))
    (λ call e. c.in_default.not-Call call e) (λ n e. c.in_default.not-Die n e) (λ e. c.in_default.not-Commit e) (λ e. c.in_default.not-Abort e))

pub returns-in-Die-clause-goes : goal.returns-in-Die-clause-goes
returns-in-Die-clause-goes g c =
    let x = c.args.transaction in
    armed_goes g.V.Store c.args.setting.now.precheck c.args.core.now.regions.items c.args.core.now.system.state c.args.core.now.vault c.args.client.now _ x (record x { deadly = Some c.in-Die.operation }) c.in-Die.operation (sym c.command.ensures ∙ (c.in-Some.is ∙ ap Some c.in-Die.is)) refl
    (record { rest = c.pass_command.ensures.rest; stands = refl; points = c.pass_command.ensures.points; transcript = c.pass_command.ensures.transcript })

pub returns-in_default-clause-places : goal.returns-in_default-clause-places
returns-in_default-clause-places g c = places_still g.V.Store.told (Within c.args.transaction) c.args.client.now.state c.args.core.now.regions.items c.args.core.now.regions.items c.args.core.now.vault c.args.core.now.vault refl refl (at_state g.V.Store.told _ _ c.args.client.now.state Outside c.args.core.now.vault c.requires.stands tt)

pub returns-in-Die-clause-places : goal.returns-in-Die-clause-places
returns-in-Die-clause-places g c = places_still g.V.Store.told (Within c.args.transaction) _ c.args.core.now.regions.items c.args.core.now.regions.items c.args.core.now.vault c.args.core.now.vault refl refl tt

pub returns-in-Call-clause-idle : goal.returns-in-Call-clause-idle
returns-in-Call-clause-idle g c = λ e. asked_put c.args.core.now.system.state c.args.client.now c.ask.new.client c.args.transaction c.in-Call.call c.ask.result (c.ask.new.core ≡ c.args.core.now) c.ask.ensures.waits e

pub returns-in-None-clause-idle : goal.returns-in-None-clause-idle
returns-in-None-clause-idle g c = λ e. never_went c.end.result c.end.ensures.on e

pub returns-in-Commit-clause-idle : goal.returns-in-Commit-clause-idle
returns-in-Commit-clause-idle g c = λ e. never_went c.commit.result c.commit.ensures.on e

pub returns-in-Abort-clause-idle : goal.returns-in-Abort-clause-idle
returns-in-Abort-clause-idle g c = λ e. never_went c.abort.result c.abort.ensures.on e

pub returns-in_default-clause-any_moment : goal.returns-in_default-clause-any_moment
returns-in_default-clause-any_moment g c = leaves_still g.V.Store (Within c.args.transaction) c.args.client.now c.args.core.now.regions.items c.args.core.now.system.state _ c.args.core.now.vault _ (λ d past. g.met.V.Store.only_now c.args.core.now.vault.store d past) refl

pub returns-in-None-clause-any_moment : goal.returns-in-None-clause-any_moment
returns-in-None-clause-any_moment g c = leaves_still g.V.Store (Within c.args.transaction) c.args.client.now c.args.core.now.regions.items c.args.core.now.system.state _ c.args.core.now.vault _ (λ d past. g.met.V.Store.only_now c.args.core.now.vault.store d past) c.end.ensures.vault

pub returns-in-Call-clause-any_moment : goal.returns-in-Call-clause-any_moment
returns-in-Call-clause-any_moment g c = leaves_still g.V.Store (Within c.args.transaction) c.args.client.now c.args.core.now.regions.items c.args.core.now.system.state _ c.args.core.now.vault _ (λ d past. g.met.V.Store.only_now c.args.core.now.vault.store d past) c.ask.ensures.vault

pub returns-in-Die-clause-any_moment : goal.returns-in-Die-clause-any_moment
returns-in-Die-clause-any_moment g c = leaves_still g.V.Store (Within c.args.transaction) c.args.client.now c.args.core.now.regions.items c.args.core.now.system.state _ c.args.core.now.vault _ (λ d past. g.met.V.Store.only_now c.args.core.now.vault.store d past) refl

pub returns-in-Abort-clause-any_moment : goal.returns-in-Abort-clause-any_moment
returns-in-Abort-clause-any_moment g c = leaves_still g.V.Store (Within c.args.transaction) c.args.client.now c.args.core.now.regions.items c.args.core.now.system.state _ c.args.core.now.vault _ (λ d past. g.met.V.Store.only_now c.args.core.now.vault.store d past) c.abort.ensures.vault

pub returns-in-None-clause-refuses : goal.returns-in-None-clause-refuses
returns-in-None-clause-refuses g c = subst (λ o. RefusesIn c.args.core.now.system.state c.args.transaction o c.args.client.now c.end.result c.end.new.client) (sym c.in-None.is ∙ c.command.ensures) c.end.ensures.refuses

pub returns-in-Call-clause-refuses : goal.returns-in-Call-clause-refuses
returns-in-Call-clause-refuses g c = subst (λ o. RefusesIn c.args.core.now.system.state c.args.transaction o c.args.client.now c.ask.result c.ask.new.client) (sym (ap Some c.in-Call.is) ∙ (sym c.in-Some.is ∙ c.command.ensures)) c.ask.ensures.refuses

pub returns-in-Die-clause-refuses : goal.returns-in-Die-clause-refuses
returns-in-Die-clause-refuses g c = subst (λ o. RefusesIn c.args.core.now.system.state c.args.transaction o c.args.client.now (Ok true) (record c.pass_command.new.self { state = Within (record c.args.transaction { deadly = Some c.in-Die.operation }) })) (sym (ap Some c.in-Die.is) ∙ (sym c.in-Some.is ∙ c.command.ensures)) tt

pub returns-in-Commit-clause-refuses : goal.returns-in-Commit-clause-refuses
returns-in-Commit-clause-refuses g c = subst (λ o. RefusesIn c.args.core.now.system.state c.args.transaction o c.args.client.now c.commit.result c.commit.new.client) (sym (ap Some c.in-Commit.is) ∙ (sym c.in-Some.is ∙ c.command.ensures)) c.commit.ensures.refuses

pub returns-in-Abort-clause-refuses : goal.returns-in-Abort-clause-refuses
returns-in-Abort-clause-refuses g c = subst (λ o. RefusesIn c.args.core.now.system.state c.args.transaction o c.args.client.now c.abort.result c.abort.new.client) (sym (ap Some c.in-Abort.is) ∙ (sym c.in-Some.is ∙ c.command.ensures)) c.abort.ensures.refuses

pub returns-in_default-clause-refuses : goal.returns-in_default-clause-refuses
returns-in_default-clause-refuses g c = none_in c.args.core.now.system.state c.args.transaction _ c.args.client.now c.args.client.now c.no_run.result c.no_run.ensures

pub returns-in-Commit-clause-any_moment : goal.returns-in-Commit-clause-any_moment
returns-in-Commit-clause-any_moment g c = leaves_still g.V.Store (Within c.args.transaction) c.args.client.now c.args.core.now.regions.items c.args.core.now.system.state _ c.args.core.now.vault _ (λ d past. g.met.V.Store.only_now c.args.core.now.vault.store d past) c.commit.ensures.vault
