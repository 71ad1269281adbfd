use Rattle.std.proofs.Common.{◌≡◌, List, Some, None, IfErr, OnOk, IsErrOf, length, rules}
use Rattle.dali_att.specs.declared.state.State.TheVariants.{Dead}
use Rattle.dali_region.specs.State.{RegionState}
use Rattle.dali_runs.specs.State.{state_of}
use Rattle.dali_clean.specs.declared.error.CleanError.TheVariants.{NotDead as IsNotDead}
use Rattle.dali_clean.specs.Cleaned.{AreDead, MayClean, IsDead, Ends, GivesBack}
use Rattle.dali_clean.specs.Others.{CleansOnly}
use Rattle.dali_core.specs.Cleaned.{EndsAt, LeavesAt}
use Rattle.dali_core.proofs.CleanedUp.{of_vector}
use Rattle.dali_core.proofs.cleaning.clean.Goals as goal

pub returns-clause-ok : goal.returns-clause-ok
returns-clause-ok g c =
    let size : length c.clean_up.new.regions ≡ c.args.core.now.regions.len = search rules in
    of_vector (λ (rs hs : List RegionState). OnOk c.clean_up.result (Ends rs c.args.core.now.system.state c.args.txn hs c.clean_up.new.system.state)) c.args.core.now.regions.len c.args.core.now.regions.items c.deref_mut.result.now c.clean_up.new.regions size c.deref_mut.ensures.value c.clean_up.ensures.ok

pub returns-clause-goes : goal.returns-clause-goes
returns-clause-goes g c =
    let size : length c.clean_up.new.regions ≡ c.args.core.now.regions.len = search rules in
    of_vector (λ (rs hs : List RegionState). OnOk c.clean_up.result (EndsAt g.V.Store rs c.args.core.now.system.state c.args.core.now.vault c.args.txn hs c.clean_up.new.system.state)) c.args.core.now.regions.len c.args.core.now.regions.items c.deref_mut.result.now c.clean_up.new.regions size c.deref_mut.ensures.value c.clean_up.ensures.goes

pub returns-clause-not_dead : goal.returns-clause-not_dead
returns-clause-not_dead g c =
    let size : length c.clean_up.new.regions ≡ c.args.core.now.regions.len = search rules in
    of_vector (λ (rs hs : List RegionState). IsErrOf c.clean_up.result IsNotDead → (c.clean_up.new.system ≡ c.args.core.now.system) × (hs ≡ rs) × (IsDead (state_of c.args.core.now.system.state c.args.txn) → ⊥)) c.args.core.now.regions.len c.args.core.now.regions.items c.deref_mut.result.now c.clean_up.new.regions size c.deref_mut.ensures.value c.clean_up.ensures.not_dead

pub returns-clause-again : goal.returns-clause-again
returns-clause-again g c =
    let size : length c.clean_up.new.regions ≡ c.args.core.now.regions.len = search rules in
    of_vector (λ (rs hs : List RegionState). MayClean rs c.args.core.now.system.state c.args.txn → IfErr c.clean_up.result (λ e. (e ≡ IsNotDead → ⊥) → GivesBack rs c.args.core.now.system.state c.args.txn hs c.clean_up.new.system.state × (state_of c.clean_up.new.system.state c.args.txn ≡ Some (Dead None)))) c.args.core.now.regions.len c.args.core.now.regions.items c.deref_mut.result.now c.clean_up.new.regions size c.deref_mut.ensures.value c.clean_up.ensures.again

pub returns-clause-left : goal.returns-clause-left
returns-clause-left g c =
    let size : length c.clean_up.new.regions ≡ c.args.core.now.regions.len = search rules in
    of_vector (λ (rs hs : List RegionState). MayClean rs c.args.core.now.system.state c.args.txn → IfErr c.clean_up.result (λ e. (e ≡ IsNotDead → ⊥) → LeavesAt g.V.Store rs c.args.core.now.system.state c.args.core.now.vault c.args.txn hs c.clean_up.new.system.state)) c.args.core.now.regions.len c.args.core.now.regions.items c.deref_mut.result.now c.clean_up.new.regions size c.deref_mut.ensures.value c.clean_up.ensures.left

pub returns-clause-unfit : goal.returns-clause-unfit
returns-clause-unfit g c =
    let size : length c.clean_up.new.regions ≡ c.args.core.now.regions.len = search rules in
    of_vector (λ (rs hs : List RegionState). (MayClean rs c.args.core.now.system.state c.args.txn → ⊥) → (c.clean_up.new.system ≡ c.args.core.now.system) × (hs ≡ rs)) c.args.core.now.regions.len c.args.core.now.regions.items c.deref_mut.result.now c.clean_up.new.regions size c.deref_mut.ensures.value c.clean_up.ensures.unfit

pub returns-clause-dead : goal.returns-clause-dead
returns-clause-dead g c =
    let size : length c.clean_up.new.regions ≡ c.args.core.now.regions.len = search rules in
    of_vector (λ (rs hs : List RegionState). AreDead rs → AreDead hs) c.args.core.now.regions.len c.args.core.now.regions.items c.deref_mut.result.now c.clean_up.new.regions size c.deref_mut.ensures.value c.clean_up.ensures.dead

pub returns-clause-only : goal.returns-clause-only
returns-clause-only g c =
    let size : length c.clean_up.new.regions ≡ c.args.core.now.regions.len = search rules in
    of_vector (λ (rs hs : List RegionState). CleansOnly rs c.args.core.now.system c.args.txn c.clean_up.result hs c.clean_up.new.system) c.args.core.now.regions.len c.args.core.now.regions.items c.deref_mut.result.now c.clean_up.new.regions size c.deref_mut.ensures.value c.clean_up.ensures.only
