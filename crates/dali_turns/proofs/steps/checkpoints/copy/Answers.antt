use Rattle.std.proofs.Common.{◌≡◌, ◌∙◌, ◌<◌, ◌^◌, true, None, Err, refl, ap, sym, subst, rules, length}
use Rattle.dali_geometry.specs.Places.{regions}
use Rattle.dali_system.specs.Served.{Served}
use Rattle.dali_checkpoint.specs.Kept.{Checkpointed, side_in, given_up, cause_of}
use Rattle.dali_checkpoint.specs.Done.{Reaches}
use Rattle.dali_checkpoint.specs.declared.error.CheckpointError.{CheckpointError}
use Rattle.dali_checkpoint.specs.declared.error.CheckpointError.TheVariants.{Stopped, Fault}
use Rattle.dali_crash.specs.Disks.Places.{place_of}
use Rattle.dali_turns.specs.declared.client.State.TheVariants.{Copying as IsCopying}
use Rattle.dali_turns.specs.Endings.{SaysEnd, Unsaid}
use Rattle.dali_turns.proofs.Putting.{err_on}
use Rattle.dali_turns.proofs.Commands.{err_false, so_left}
use Rattle.dali_turns.proofs.CheckpointSteps.{err_is}
use Rattle.dali_turns.proofs.SettleSteps.{may_settle, certifies_goes, settle_fails_goes, settle_fails_silent_goes, no_audit_goes, no_audit_silent_goes}
use Rattle.dali_turns.proofs.Guarding.{goes_running, never_goes, both, vault_small}
use Rattle.dali_turns.proofs.Placing.{longer_outside, same_vault, ends_outside, unsaid_outside, still_outside, longer_go, longer_vault}
use Rattle.dali_turns.proofs.Moments.{leaves_still}
use Rattle.dali_turns.proofs.CheckpointMoments.{settle_leaves}
use Rattle.dali_record.specs.declared.records.Record.TheVariants.{AuditBegin}
use Rattle.dali_system.specs.Audits.{audit_refusal}
use Rattle.dali_checkpoint.proofs.Results.{has_cause}
use Rattle.dali_turns.proofs.Meeting.{on_no_ok}
use Rattle.dali_turns.proofs.AtOnce.{halts, never_up, gives_up_now, unsettled, unbegun, is_there}
use Rattle.dali_turns.proofs.CopySteps.{stopped_goes, stopped_silent_goes}
use Rattle.dali_turns.proofs.steps.checkpoints.copy.Goals.{then-not-may_settle-via-then-not-may_settle, then-not-may_settle-via-else-not-may_settle+then-not-has_room}
use Rattle.dali_turns.proofs.steps.checkpoints.copy.Goals as goal

-- ---- the engine is stopped
pub returns-in_err-give_up : goal.returns-in_err-give_up
returns-in_err-give_up g c = record {
  goes = λ precheck.
      so_left g.V.Store precheck (IsCopying c.args.checkpoint c.args.next) c.args.client.now c.give_up.new.client c.args.core.now.regions.items c.args.core.now.system.state c.args.core.now.vault _ _ _ _ _ _ _ (ap (λ k. k.regions.items) c.give_up.ensures.system) (ap (λ k. k.system.state) c.give_up.ensures.system) (ap (λ k. k.vault) c.give_up.ensures.system)
      (stopped_silent_goes g.V.Store precheck c.args.client.now c.give_up.new.client c.args.core.now.regions.items c.args.core.now.system.state c.args.core.now.vault c.args.checkpoint c.args.next c.in-Some.cause (sym c.stopped.ensures ∙ c.in-Some.is) _ refl
      _ (err_false c.from_residual.result c.from_residual.ensures.0) c.in_err-give_up.ensures.err);
  places = longer_outside _ _ _ _ _ _ _ (ap (λ k. k.regions.items) c.give_up.ensures.system) (same_vault g.V.Store.told c.args.core.now.vault c.give_up.new.core.vault (ap (λ k. k.vault) c.give_up.ensures.system)) (unsaid_outside _ _ (Err (Stopped c.in-Some.cause)) c.requires.stands c.in_err-give_up.ensures.err);
  on = err_on c.from_residual.result c.from_residual.ensures.0;
  any_moment = leaves_still g.V.Store (IsCopying c.args.checkpoint c.args.next) c.args.client.now c.args.core.now.regions.items c.args.core.now.system.state _ c.args.core.now.vault _ (λ d past. g.met.V.Store.only_now c.args.core.now.vault.store d past) (ap (λ k. k.vault) c.give_up.ensures.system);
  refuses = λ precheck. (λ cause up. on_no_ok _ c.from_residual.result c.from_residual.ensures.0, λ wants. on_no_ok _ c.from_residual.result c.from_residual.ensures.0);
}

pub returns-in-Some : goal.returns-in-Some
returns-in-Some g c = record {
  goes = λ precheck.
      so_left g.V.Store precheck (IsCopying c.args.checkpoint c.args.next) c.args.client.now c.give_up.new.client c.args.core.now.regions.items c.args.core.now.system.state c.args.core.now.vault _ _ _ _ _ _ _ (ap (λ k. k.regions.items) c.give_up.ensures.system) (ap (λ k. k.system.state) c.give_up.ensures.system) (ap (λ k. k.vault) c.give_up.ensures.system)
      (stopped_goes g.V.Store precheck c.args.client.now c.give_up.new.client c.args.core.now.regions.items c.args.core.now.system.state c.args.core.now.vault c.args.checkpoint c.args.next c.in-Some.cause (sym c.stopped.ensures ∙ c.in-Some.is) _ refl c.in_ok-give_up.ensures.ok);
  places = longer_outside _ _ _ _ _ _ _ (ap (λ k. k.regions.items) c.give_up.ensures.system) (same_vault g.V.Store.told c.args.core.now.vault c.give_up.new.core.vault (ap (λ k. k.vault) c.give_up.ensures.system)) (ends_outside _ _ (Err (Stopped c.in-Some.cause)) c.in_ok-give_up.ensures.ok);
  on = refl;
  any_moment = leaves_still g.V.Store (IsCopying c.args.checkpoint c.args.next) c.args.client.now c.args.core.now.regions.items c.args.core.now.system.state _ c.args.core.now.vault _ (λ d past. g.met.V.Store.only_now c.args.core.now.vault.store d past) (ap (λ k. k.vault) c.give_up.ensures.system);
  refuses = λ precheck. (
    λ cause up. halts c.args.client.now c.give_up.new.client c.args.core.now.system.state.stop c.in-Some.cause cause (sym c.stopped.ensures ∙ c.in-Some.is) up c.in_ok-give_up.ensures.ok,
    λ wants. gives_up_now c.args.client.now c.give_up.new.client (Stopped c.in-Some.cause) (λ regions e. absurd (cc)) c.in_ok-give_up.ensures.ok,
  );
}

-- ---- it runs
pub settle-requires-clause-all : goal.settle-requires-clause-all
settle-requires-clause-all g c =
    let both_are = c.may_settle.ensures.all (search rules) in
    sym both_are.0 ∙ both_are.1

pub settle-requires-clause-reaches : goal.settle-requires-clause-reaches
settle-requires-clause-reaches g c =
    let yes : c.may_settle.result ≡ true = search rules in
    subst (λ n. Reaches g.V.Store.told (side_in c.args.checkpoint) n c.args.core.now.vault) (c.may_settle.ensures.all yes).0 c.requires.places.next

-- ---- the store fails
pub returns-in_err-give_up-in-Err : goal.returns-in_err-give_up-in-Err
returns-in_err-give_up-in-Err g c =
    let runs : c.args.core.now.system.state.stop ≡ None = search rules in
    record {
      goes = λ precheck.
          goes_running g.V.Store precheck (IsCopying c.args.checkpoint c.args.next) c.args.client.now c.args.core.now.regions.items c.args.core.now.system.state c.args.core.now.vault runs _ _ _ _ _ (λ running.
          so_left g.V.Store precheck (IsCopying c.args.checkpoint c.args.next) c.args.client.now c.give_up-in-Err.new.client c.args.core.now.regions.items c.args.core.now.system.state c.args.core.now.vault _ _ _ _ _ _ _ (ap (λ k. k.regions.items) c.give_up-in-Err.ensures.system) (ap (λ k. k.system.state) c.give_up-in-Err.ensures.system) (ap (λ k. k.vault) c.give_up-in-Err.ensures.system)
          (settle_fails_silent_goes g.V.Store precheck c.args.client.now c.give_up-in-Err.new.client c.args.core.now.regions.items c.args.core.now.system.state c.args.core.now.vault c.args.checkpoint c.args.next runs c.in-Err.error c.settle.new.system.state _ c.settle.new.vault
          (let said = c.in-Err.ensures.fault (has_cause c.args.core.now.system.state c.args.core.now.vault runs running) in (err_is _ c.in-Err.error Fault refl said.0, ap (λ (x : Served). x.state) said.1, said.2)) (ap (λ (d : Checkpointed). given_up d.faulted c.settle.new.system.state) c.in-Err.ensures.same) c.settle.ensures.files
          _ (err_false c.from_residual-in_err-give_up-in-Err.result c.from_residual-in_err-give_up-in-Err.ensures.0) c.in_err-give_up-in-Err.ensures.err));
      places = longer_outside _ _ _ _ _ _ _ (ap (λ k. k.regions.items) c.give_up-in-Err.ensures.system) (longer_vault g.V.Store.told c.args.core.now.vault c.settle.new.vault c.give_up-in-Err.new.core.vault (ap (λ k. k.vault) c.give_up-in-Err.ensures.system) c.settle.ensures.files) (unsaid_outside _ _ (Err c.in-Err.error) c.requires.stands c.in_err-give_up-in-Err.ensures.err);
      on = err_on c.from_residual-in_err-give_up-in-Err.result c.from_residual-in_err-give_up-in-Err.ensures.0;
      any_moment = settle_leaves g.V.Store c.args.client.now c.args.core.now.regions.items c.args.core.now.system.state _ c.args.core.now.vault _ (λ d past. g.met.V.Store.only_now c.args.core.now.vault.store d past) c.args.checkpoint c.args.next runs (place_of c.args.checkpoint.copied) (length c.args.checkpoint.table) c.settle.new.vault (ap (λ k. k.vault) c.give_up-in-Err.ensures.system) c.settle.ensures.any_moment;
      refuses = λ precheck. (λ cause up. never_up c.args.core.now.system.state.stop cause runs up, λ wants. on_no_ok _ c.from_residual-in_err-give_up-in-Err.result c.from_residual-in_err-give_up-in-Err.ensures.0);
    }

pub returns-in-Err : goal.returns-in-Err
returns-in-Err g c =
    let runs : c.args.core.now.system.state.stop ≡ None = search rules in
    record {
      goes = λ precheck.
          goes_running g.V.Store precheck (IsCopying c.args.checkpoint c.args.next) c.args.client.now c.args.core.now.regions.items c.args.core.now.system.state c.args.core.now.vault runs _ _ _ _ _ (λ running.
          so_left g.V.Store precheck (IsCopying c.args.checkpoint c.args.next) c.args.client.now c.give_up-in-Err.new.client c.args.core.now.regions.items c.args.core.now.system.state c.args.core.now.vault _ _ _ _ _ _ _ (ap (λ k. k.regions.items) c.give_up-in-Err.ensures.system) (ap (λ k. k.system.state) c.give_up-in-Err.ensures.system) (ap (λ k. k.vault) c.give_up-in-Err.ensures.system)
          (settle_fails_goes g.V.Store precheck c.args.client.now c.give_up-in-Err.new.client c.args.core.now.regions.items c.args.core.now.system.state c.args.core.now.vault c.args.checkpoint c.args.next runs c.in-Err.error c.settle.new.system.state _ c.settle.new.vault
          (let said = c.in-Err.ensures.fault (has_cause c.args.core.now.system.state c.args.core.now.vault runs running) in (err_is _ c.in-Err.error Fault refl said.0, ap (λ (x : Served). x.state) said.1, said.2)) (ap (λ (d : Checkpointed). given_up d.faulted c.settle.new.system.state) c.in-Err.ensures.same) c.settle.ensures.files
          c.in_ok-give_up-in-Err.ensures.ok));
      places = longer_outside _ _ _ _ _ _ _ (ap (λ k. k.regions.items) c.give_up-in-Err.ensures.system) (longer_vault g.V.Store.told c.args.core.now.vault c.settle.new.vault c.give_up-in-Err.new.core.vault (ap (λ k. k.vault) c.give_up-in-Err.ensures.system) c.settle.ensures.files) (ends_outside _ _ (Err c.in-Err.error) c.in_ok-give_up-in-Err.ensures.ok);
      on = refl;
      any_moment = settle_leaves g.V.Store c.args.client.now c.args.core.now.regions.items c.args.core.now.system.state _ c.args.core.now.vault _ (λ d past. g.met.V.Store.only_now c.args.core.now.vault.store d past) c.args.checkpoint c.args.next runs (place_of c.args.checkpoint.copied) (length c.args.checkpoint.table) c.settle.new.vault (ap (λ k. k.vault) c.give_up-in-Err.ensures.system) c.settle.ensures.any_moment;
      refuses = λ precheck. (
        λ cause up. never_up c.args.core.now.system.state.stop cause runs up,
        λ wants. unsettled c.args.client.now c.give_up-in-Err.new.client (cause_of c.args.core.now.system.state c.args.core.now.vault) (Err c.in-Err.error) c.in-Err.error refl (c.settle.new.system ≡ c.args.core.now.system) (c.settle.new.vault ≡ c.args.core.now.vault)
            c.in-Err.ensures.stopped (λ none. (c.in-Err.ensures.fault none).0) c.in_ok-give_up-in-Err.ensures.ok,
      );
    }

-- ---- its audit
pub returns-in-Ok-begin : goal.returns-in-Ok-begin
returns-in-Ok-begin g c =
    let runs : c.args.core.now.system.state.stop ≡ None = search rules in
    let both_are = c.may_settle.ensures.all (search rules) in
    record {
      goes = λ precheck.
          certifies_goes g.V.Store precheck c.args.client.now _ c.args.core.now.regions.items c.args.core.now.system.state c.args.core.now.vault c.args.checkpoint c.args.next runs c.settle.new.self c.in-Ok-begin.audit c.settle.new.system.state c.begin.new.system.state c.settle.new.vault
          (sym both_are.0 ∙ both_are.1) c.in-Ok.ensures.ok c.settle.ensures.files
          c.in-Ok.ensures.settled.0 (ap (λ (x : Served). x.state) c.in-Ok.ensures.settled.1) c.in-Ok-begin.ensures.audit c.in-Ok-begin.ensures.room c.begin.ensures.number c.begin.ensures.count (ap (λ (x : Served). x.state) c.in-Ok-begin.ensures.ok) refl;
      places = longer_go _ _ _ _ _ _ c.settle.ensures.files tt;
      on = refl;
      any_moment = settle_leaves g.V.Store c.args.client.now c.args.core.now.regions.items c.args.core.now.system.state _ c.args.core.now.vault _ (λ d past. g.met.V.Store.only_now c.args.core.now.vault.store d past) c.args.checkpoint c.args.next runs (place_of c.args.checkpoint.copied) (length c.args.checkpoint.table) c.settle.new.vault refl c.settle.ensures.any_moment;
      refuses = λ precheck. (λ cause up. never_up c.args.core.now.system.state.stop cause runs up, λ wants. is_there (audit_refusal c.args.core.now.system.state AuditBegin) (ap (λ (x : Served). audit_refusal x.state AuditBegin) (sym c.in-Ok.ensures.settled.1) ∙ c.in-Ok-begin.ensures.room) wants.1);
    }

pub returns-in_err-give_up-in-Err-begin : goal.returns-in_err-give_up-in-Err-begin
returns-in_err-give_up-in-Err-begin g c =
    let runs : c.args.core.now.system.state.stop ≡ None = search rules in
    let both_are = c.may_settle.ensures.all (search rules) in
    record {
      goes = λ precheck.
          so_left g.V.Store precheck (IsCopying c.args.checkpoint c.args.next) c.args.client.now c.give_up-in-Err-begin.new.client c.args.core.now.regions.items c.args.core.now.system.state c.args.core.now.vault _ _ _ _ _ _ _ (ap (λ k. k.regions.items) c.give_up-in-Err-begin.ensures.system) (ap (λ k. k.system.state) c.give_up-in-Err-begin.ensures.system) (ap (λ k. k.vault) c.give_up-in-Err-begin.ensures.system)
          (no_audit_silent_goes g.V.Store precheck c.args.client.now c.give_up-in-Err-begin.new.client c.args.core.now.regions.items c.args.core.now.system.state c.args.core.now.vault c.args.checkpoint c.args.next runs
          c.settle.new.self c.begin.result c.in-Err-begin.error c.settle.new.system.state c.begin.new.system.state _ c.settle.new.vault (sym both_are.0 ∙ both_are.1) c.in-Ok.ensures.ok c.settle.ensures.files
          c.in-Ok.ensures.settled.0 (ap (λ (x : Served). x.state) c.in-Ok.ensures.settled.1) c.in-Err-begin.is c.begin.ensures.memory c.begin.ensures.refused (ap (λ (x : Served). x.state) c.in-Err-begin.ensures.err) refl
          _ (err_false c.from_residual-in_err-give_up-in-Err-begin.result c.from_residual-in_err-give_up-in-Err-begin.ensures.0) (subst (λ (e : CheckpointError). Unsaid c.args.client.now (Err e) c.give_up-in-Err-begin.new.client) c.into.ensures c.in_err-give_up-in-Err-begin.ensures.err));
      places = longer_outside _ _ _ _ _ _ _ (ap (λ k. k.regions.items) c.give_up-in-Err-begin.ensures.system) (longer_vault g.V.Store.told c.args.core.now.vault c.settle.new.vault c.give_up-in-Err-begin.new.core.vault (ap (λ k. k.vault) c.give_up-in-Err-begin.ensures.system) c.settle.ensures.files) (unsaid_outside _ _ (Err c.into.result) c.requires.stands c.in_err-give_up-in-Err-begin.ensures.err);
      on = err_on c.from_residual-in_err-give_up-in-Err-begin.result c.from_residual-in_err-give_up-in-Err-begin.ensures.0;
      any_moment = settle_leaves g.V.Store c.args.client.now c.args.core.now.regions.items c.args.core.now.system.state _ c.args.core.now.vault _ (λ d past. g.met.V.Store.only_now c.args.core.now.vault.store d past) c.args.checkpoint c.args.next runs (place_of c.args.checkpoint.copied) (length c.args.checkpoint.table) c.settle.new.vault (ap (λ k. k.vault) c.give_up-in-Err-begin.ensures.system) c.settle.ensures.any_moment;
      refuses = λ precheck. (λ cause up. never_up c.args.core.now.system.state.stop cause runs up, λ wants. on_no_ok _ c.from_residual-in_err-give_up-in-Err-begin.result c.from_residual-in_err-give_up-in-Err-begin.ensures.0);
    }

pub returns-in_ok-give_up-in-Err-begin : goal.returns-in_ok-give_up-in-Err-begin
returns-in_ok-give_up-in-Err-begin g c =
    let runs : c.args.core.now.system.state.stop ≡ None = search rules in
    let both_are = c.may_settle.ensures.all (search rules) in
    record {
      goes = λ precheck.
          so_left g.V.Store precheck (IsCopying c.args.checkpoint c.args.next) c.args.client.now c.give_up-in-Err-begin.new.client c.args.core.now.regions.items c.args.core.now.system.state c.args.core.now.vault _ _ _ _ _ _ _ (ap (λ k. k.regions.items) c.give_up-in-Err-begin.ensures.system) (ap (λ k. k.system.state) c.give_up-in-Err-begin.ensures.system) (ap (λ k. k.vault) c.give_up-in-Err-begin.ensures.system)
          (no_audit_goes g.V.Store precheck c.args.client.now c.give_up-in-Err-begin.new.client c.args.core.now.regions.items c.args.core.now.system.state c.args.core.now.vault c.args.checkpoint c.args.next runs
          c.settle.new.self c.begin.result c.in-Err-begin.error c.settle.new.system.state c.begin.new.system.state _ c.settle.new.vault (sym both_are.0 ∙ both_are.1) c.in-Ok.ensures.ok c.settle.ensures.files
          c.in-Ok.ensures.settled.0 (ap (λ (x : Served). x.state) c.in-Ok.ensures.settled.1) c.in-Err-begin.is c.begin.ensures.memory c.begin.ensures.refused (ap (λ (x : Served). x.state) c.in-Err-begin.ensures.err) refl
          (subst (λ (e : CheckpointError). SaysEnd c.args.client.now (Err e) c.give_up-in-Err-begin.new.client) c.into.ensures c.in_ok-give_up-in-Err-begin.ensures.ok));
      places = longer_outside _ _ _ _ _ _ _ (ap (λ k. k.regions.items) c.give_up-in-Err-begin.ensures.system) (longer_vault g.V.Store.told c.args.core.now.vault c.settle.new.vault c.give_up-in-Err-begin.new.core.vault (ap (λ k. k.vault) c.give_up-in-Err-begin.ensures.system) c.settle.ensures.files) (ends_outside _ _ (Err c.into.result) c.in_ok-give_up-in-Err-begin.ensures.ok);
      on = refl;
      any_moment = settle_leaves g.V.Store c.args.client.now c.args.core.now.regions.items c.args.core.now.system.state _ c.args.core.now.vault _ (λ d past. g.met.V.Store.only_now c.args.core.now.vault.store d past) c.args.checkpoint c.args.next runs (place_of c.args.checkpoint.copied) (length c.args.checkpoint.table) c.settle.new.vault (ap (λ k. k.vault) c.give_up-in-Err-begin.ensures.system) c.settle.ensures.any_moment;
      refuses = λ precheck. (λ cause up. never_up c.args.core.now.system.state.stop cause runs up, λ wants. unbegun c.args.client.now c.give_up-in-Err-begin.new.client c.into.result c.in-Err-begin.error c.into.ensures c.in_ok-give_up-in-Err-begin.ensures.ok);
    }

pub returns-then-not-may_settle : goal.returns-then-not-may_settle
returns-then-not-may_settle g c =
    let runs : c.args.core.now.system.state.stop ≡ None = search rules in
    record {
      goes = λ precheck.
          never_goes g.V.Store precheck (IsCopying c.args.checkpoint c.args.next) c.args.client.now c.args.core.now.regions.items c.args.core.now.system.state c.args.core.now.vault (((c.args.next ≡ c.args.checkpoint.copied) × (c.args.next ≡ regions c.args.checkpoint.header.geometry)) × ((c.args.core.now.vault.end < 2 ^ 62) × (c.args.core.now.vault.current < 2 ^ 62))) _ _ _ _ _
          (both g.V.Store precheck (IsCopying c.args.checkpoint c.args.next) c.args.client.now c.args.core.now.regions.items c.args.core.now.system.state c.args.core.now.vault _ _ (may_settle g.V.Store precheck c.args.client.now c.args.client.now c.args.core.now.regions.items c.args.core.now.system.state c.args.core.now.vault c.args.checkpoint c.args.next runs (c.requires.all runs)) (vault_small g.V.Store precheck (IsCopying c.args.checkpoint c.args.next) c.args.client.now c.args.core.now.regions.items c.args.core.now.system.state c.args.core.now.vault))
          (λ h. elim c.then-not-may_settle.branch as (λ x. ⊥) [ then-not-may_settle-via-then-not-may_settle w ↦ let all : c.may_settle.result ≡ true = c.may_settle.ensures.told h.0 in search rules | then-not-may_settle-via-else-not-may_settle+then-not-has_room w ↦ let room : w.has_room.result ≡ true = w.has_room.ensures.told h.1 in search rules ]);
      places = still_outside _ _ _ _ _ c.requires.stands;
      on = err_on _ c.no_run.ensures;
      any_moment = leaves_still g.V.Store (IsCopying c.args.checkpoint c.args.next) c.args.client.now c.args.core.now.regions.items c.args.core.now.system.state _ c.args.core.now.vault _ (λ d past. g.met.V.Store.only_now c.args.core.now.vault.store d past) refl;
      refuses = λ precheck. (λ cause up. never_up c.args.core.now.system.state.stop cause runs up, λ wants. on_no_ok _ _ c.no_run.ensures);
    }
