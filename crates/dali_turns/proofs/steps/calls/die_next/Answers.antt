use Rattle.std.proofs.Common.{◌≡◌, ◌∙◌, List, OnOk, length, ap, sym, subst, rules}
use Rattle.dali_calls.specs.Plans.{Planned}
use Rattle.dali_system.specs.Served.{Served}
use Rattle.dali_region.specs.State.{RegionState}
use Rattle.dali_calls.proofs.Flags.{flags_equal}
use Rattle.dali_calls.specs.Stepwise.Stepwise.{IsDeath}
use Rattle.dali_core.proofs.CleanedUp.{put_back}
use Rattle.dali_turns.proofs.CallSteps.{on_err}
use Rattle.dali_turns.proofs.Flags.{flags_of, death_flags}
use Rattle.dali_turns.proofs.steps.calls.die_next.Goals as goal

pub returns-clause-dies : goal.returns-clause-dies
returns-clause-dies g c =
    let size : length c.die.new.regions ≡ c.args.core.now.regions.len = search rules in
    let held : c.deref_mut.result.now ≡ c.args.plan.now = c.deref_mut.ensures.value ∙ c.plan.view_is in
    subst (λ (rs : List RegionState). OnOk c.die.result (IsDeath c.args.setting.now.precheck c.args.plan.now c.args.core.now.regions.items c.args.core.now.system.state rs c.die.new.system.state))
    (sym (put_back c.args.core.now.regions.len c.die.new.regions c.args.core.now.regions.items size))
    (subst (λ (rs : List RegionState). OnOk c.die.result (IsDeath c.args.setting.now.precheck c.args.plan.now rs c.args.core.now.system.state c.die.new.regions c.die.new.system.state)) c.deref_mut-2.ensures.value (subst (λ (p : Planned). OnOk c.die.result (IsDeath c.args.setting.now.precheck p c.deref_mut-2.result.now c.args.core.now.system.state c.die.new.regions c.die.new.system.state)) held c.die.ensures.dies))

pub returns-clause-err : goal.returns-clause-err
returns-clause-err g c =
    let size : length c.die.new.regions ≡ c.args.core.now.regions.len = search rules in
    let held : c.deref_mut.result.now ≡ c.args.plan.now = c.deref_mut.ensures.value ∙ c.plan.view_is in
    on_err c.die.result _ _ (λ h. (h.0 ∙ held, put_back c.args.core.now.regions.len c.die.new.regions c.args.core.now.regions.items size ∙ (h.1 ∙ c.deref_mut-2.ensures.value), ap (λ (z : Served). z.state) h.2)) c.die.ensures.err

pub returns-clause-flags : goal.returns-clause-flags
returns-clause-flags g c =
    flags_of c.die.result c.args.core.now.regions.items _ _ _ (returns-clause-dies g c) (death_flags c.args.setting.now.precheck c.args.plan.now c.args.core.now.regions.items _ c.args.core.now.system.state c.die.new.system.state) (returns-clause-err g c) (λ e. flags_equal c.args.core.now.regions.items _ e.1)
