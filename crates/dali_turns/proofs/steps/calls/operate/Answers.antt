use Rattle.std.proofs.Common.{not, is_ok, ap, refl, sym, subst, ◌∙◌, OnOk}
use Rattle.dali_calls.specs.Plans.{Planned, is_back}
use Rattle.dali_turns.specs.Goes.{StepGoes}
use Rattle.dali_turns.specs.declared.client.State.TheVariants.{Calling as IsCalling}
use Rattle.dali_turns.proofs.CallSteps.{operated_goes, some_next, makes_still, refused_still, goes_still, vault_still}
use Rattle.dali_turns.proofs.Placed.{places_beside, places_then}
use Rattle.dali_runs.specs.State.{SystemState}
use Rattle.dali_turns.specs.Refuses.{IsMet}
use Rattle.dali_turns.proofs.Meeting.{further_met, met_by}
use Rattle.dali_turns.proofs.steps.calls.operate.Goals as goal

pub make_next-requires-clause-wants : goal.make_next-requires-clause-wants
make_next-requires-clause-wants g c = some_next g.V.Store c.args.core.now.regions.items c.args.core.now.system.state c.args.core.now.vault c.args.client.now c.args.transaction c.args.plan c.args.region c.requires.makes.wants

pub returns-in-Ok-clause-goes : goal.returns-in-Ok-clause-goes
returns-in-Ok-clause-goes g c =
    vault_still g.V.Store c.args.setting.now.precheck (IsCalling c.args.transaction c.args.plan) c.args.client.now _ c.args.core.now.regions.items c.make_next.new.core.regions.items c.args.core.now.system.state c.make_next.new.core.system.state c.args.core.now.vault c.make_next.new.core.vault _ c.in-Ok.ensures.vault
    (operated_goes g.V.Store c.args.setting.now.precheck c.args.core.now.regions.items c.args.core.now.system.state c.args.core.now.vault c.args.client.now _ c.args.transaction c.args.plan
    c.make_next.new.core.regions.items c.make_next.new.core.system.state c.make_next.new.plan c.further-transaction.result c.args.onward c.requires.makes.whole c.in-Ok.ensures.further c.requires.way c.requires.lives c.further-transaction.ensures refl refl refl)

pub hindered-requires-clause-makes : goal.hindered-requires-clause-makes
hindered-requires-clause-makes g c = makes_still c.args.core.now.regions.items c.make_next.new.core.regions.items c.args.core.now.system.state c.make_next.new.core.system.state c.in-Err.ensures.err.1 c.in-Err.ensures.err.2 c.args.plan c.make_next.new.plan c.in-Err.ensures.err.0 _ c.args.region c.requires.makes

pub hindered-requires-clause-cause : goal.hindered-requires-clause-cause
hindered-requires-clause-cause g c = (c.args.setting.now.precheck, refused_still c.args.core.now.regions.items c.make_next.new.core.regions.items c.args.core.now.system.state c.make_next.new.core.system.state c.in-Err.ensures.err.1 c.in-Err.ensures.err.2 c.args.plan c.make_next.new.plan c.in-Err.ensures.err.0 c.args.setting.now.precheck c.in-Err.error c.in-Err.ensures.cause)

pub hindered-requires-clause-lives : goal.hindered-requires-clause-lives
hindered-requires-clause-lives g c = λ way deadly. absurd (c.requires.lives (c.requires.way ∙ ap not (sym (ap is_back c.in-Err.ensures.err.0) ∙ way)) deadly)

pub returns-in-Err-clause-goes : goal.returns-in-Err-clause-goes
returns-in-Err-clause-goes g c =
    goes_still g.V.Store c.args.client.now c.args.core.now.regions.items c.make_next.new.core.regions.items c.args.core.now.system.state c.make_next.new.core.system.state c.args.core.now.vault c.make_next.new.core.vault c.in-Err.ensures.err.1 c.in-Err.ensures.err.2 c.in-Err.ensures.vault
    c.args.setting.now.precheck (IsCalling c.args.transaction c.args.plan) _ _ _ _ _
    (subst (λ (m : Planned). StepGoes g.V.Store c.args.setting.now.precheck (IsCalling c.args.transaction m) c.args.client.now c.make_next.new.core.regions.items c.make_next.new.core.system.state c.make_next.new.core.vault (is_ok c.hindered.result) c.hindered.new.client c.hindered.new.core.regions.items c.hindered.new.core.system.state c.hindered.new.core.vault) c.in-Err.ensures.err.0
    (c.hindered.ensures.goes c.args.setting.now.precheck (refused_still c.args.core.now.regions.items c.make_next.new.core.regions.items c.args.core.now.system.state c.make_next.new.core.system.state c.in-Err.ensures.err.1 c.in-Err.ensures.err.2 c.args.plan c.make_next.new.plan c.in-Err.ensures.err.0 c.args.setting.now.precheck c.in-Err.error c.in-Err.ensures.cause)))

pub returns-in-Ok-clause-places : goal.returns-in-Ok-clause-places
returns-in-Ok-clause-places g c = places_beside g.V.Store.told (IsCalling c.args.transaction c.args.plan) _ c.args.core.now.regions.items c.make_next.new.core.regions.items c.args.core.now.vault c.make_next.new.core.vault c.in-Ok.ensures.flags c.in-Ok.ensures.vault tt

pub returns-in-Err-clause-places : goal.returns-in-Err-clause-places
returns-in-Err-clause-places g c = places_then g.V.Store.told (IsCalling c.args.transaction c.args.plan) (IsCalling c.args.transaction c.make_next.new.plan) c.hindered.new.client.state c.args.core.now.regions.items c.make_next.new.core.regions.items c.hindered.new.core.regions.items c.args.core.now.vault c.make_next.new.core.vault c.hindered.new.core.vault c.in-Err.ensures.err.1 c.in-Err.ensures.vault tt c.hindered.ensures.places

pub returns-in-Ok-clause-met : goal.returns-in-Ok-clause-met
returns-in-Ok-clause-met g c = λ e why.
    further_met c.args.setting.now.precheck c.args.plan c.args.core.now.system.state c.args.client.now _ c.args.transaction c.args.core.now.regions.items e why c.make_next.new.plan c.make_next.new.core.regions.items c.make_next.new.core.system.state c.in-Ok.ensures.further

pub returns-in-Err-clause-met : goal.returns-in-Err-clause-met
returns-in-Err-clause-met g c = λ e why.
    met_by c.args.setting.now.precheck c.args.plan c.args.core.now.system.state c.args.client.now c.hindered.new.client c.args.transaction c.args.core.now.regions.items e why c.in-Err.error c.hindered.result c.in-Err.ensures.cause
    (subst (λ (y : SystemState). OnOk c.hindered.result (IsMet c.in-Err.error y.stop c.args.client.now c.args.transaction c.args.plan c.hindered.new.client)) c.in-Err.ensures.err.2
    (subst (λ (m : Planned). OnOk c.hindered.result (IsMet c.in-Err.error c.make_next.new.core.system.state.stop c.args.client.now c.args.transaction m c.hindered.new.client)) c.in-Err.ensures.err.0 c.hindered.ensures.met))
