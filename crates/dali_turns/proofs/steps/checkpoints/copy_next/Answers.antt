use Rattle.std.proofs.Common.{◌≡◌, ◌+◌, ◌<◌, ◌^◌, true, false, length, None, is_some, is_ok, Err, refl, ap, rules}
use Rattle.dali_lists.proofs.Options.{none_of_test}
use Rattle.dali_geometry.specs.Places.{regions}
use Rattle.dali_record.specs.Spelling.{words_bytes}
use Rattle.dali_crash.specs.Disks.Places.{place_of}
use Rattle.dali_checkpoint.specs.declared.error.CheckpointError.TheVariants.{Fault}
use Rattle.dali_turns.specs.declared.client.State.TheVariants.{Outside as IsOutside, Copying as IsCopying}
use Rattle.dali_turns.proofs.Commands.{lent_there, so_left}
use Rattle.dali_turns.proofs.CheckpointSteps.{err_is}
use Rattle.dali_turns.proofs.CopySteps.{never_ok, may_copy, copied_goes, copy_fails_goes, copy_fails_silent_goes}
use Rattle.dali_turns.proofs.Guarding.{goes_running, never_goes}
use Rattle.dali_turns.proofs.Placing.{gave_up_outside, copied_go, ends_outside, unsaid_outside}
use Rattle.dali_turns.proofs.Stepping.{stepped}
use Rattle.dali_turns.proofs.Moments.{leaves_still}
use Rattle.dali_turns.proofs.CheckpointMoments.{region_leaves}
use Rattle.dali_turns.proofs.AtOnce.{copies_on, refuses_none}
use Rattle.dali_turns.proofs.steps.checkpoints.copy_next.Goals as goal

pub overflow_add-next : goal.overflow_add-next
overflow_add-next g c =
    let yes : c.may_copy.result ≡ true = search rules in
    let small : c.in-Copying.next + 1 < 2 ^ 32 = c.may_copy.ensures.few yes in
    search rules

-- ---- the copy
pub returns-in-Ok-clause-step : goal.returns-in-Ok-clause-step
returns-in-Ok-clause-step g c = λ precheck.
    let here : (c.args.client.now.state ≡ IsCopying c.in-Copying.checkpoint c.in-Copying.next) × (c.in-Copying.next < length c.args.core.now.regions.items) × (c.args.core.now.system.state.stop ≡ None) =
    (search rules, search rules, none_of_test c.args.core.now.system.state.stop (search rules)) in
    record {
      goes =
          stepped g.V.Store precheck true c.args.core.now.regions.items _ c.args.core.now.system.state c.args.core.now.system.state c.args.core.now.vault c.copy.new.vault
          c.args.client.now c.args.client.now _ (IsCopying c.in-Copying.checkpoint c.in-Copying.next) here.0 (record { rest = refl; client = refl; lines = refl })
          (copied_goes g.V.Store precheck c.args.client.now _ c.args.core.now.regions.items c.args.core.now.system.state c.args.core.now.vault c.in-Copying.checkpoint c.in-Copying.next c.index_mut.result.now c.copy.new.region (lent_there c.args.core.now.regions.items c.in-Copying.next c.index_mut.result.now here.1 c.index_mut.ensures.value) here.2 _ refl
          c.copy.new.self c.copy.new.vault c.in-Ok.ensures.ok.0 c.in-Ok.ensures.ok.1 c.in-Ok.ensures.reaches (λ clean. let same = c.in-Ok.ensures.clean clean in (same.1, same.2)) c.in-Ok.ensures.written c.copy.ensures.files refl);
      places = copied_go _ _ c.in-Copying.checkpoint c.copy.new.self _ c.in-Copying.next c.index_mut.result.now c.copy.new.region _ _ (lent_there c.args.core.now.regions.items c.in-Copying.next c.index_mut.result.now here.1 c.index_mut.ensures.value) c.in-Ok.ensures.ok.1 c.in-Ok.ensures.ok.0 c.copy.ensures.files c.in-Ok.ensures.reaches;
      any_moment = region_leaves g.V.Store c.args.client.now c.args.core.now.regions.items c.args.core.now.system.state c.args.core.now.system.state c.args.core.now.vault c.copy.new.vault (λ d past. g.met.V.Store.only_now c.args.core.now.vault.store d past) c.args.client.now.state c.in-Copying.checkpoint c.in-Copying.next here.0 (ap is_some here.2) c.index_mut.result.now (place_of c.in-Copying.next) (length (words_bytes c.index_mut.result.now.back)) c.copy.new.vault refl (λ clean. let same = c.in-Ok.ensures.clean clean in same.2) c.in-Ok.ensures.any_moment;
      refuses = copies_on _ _ precheck c.args.client.now _ c.args.core.now.regions.items c.args.core.now.system.state _ c.in-Copying.checkpoint c.in-Copying.next here.0 here.2 here.1;
    }

-- ---- it fails
pub returns-in-Ok-fail_copy-clause-step : goal.returns-in-Ok-fail_copy-clause-step
returns-in-Ok-fail_copy-clause-step g c = λ precheck.
    let here : (c.args.client.now.state ≡ IsCopying c.in-Copying.checkpoint c.in-Copying.next) × (c.in-Copying.next < length c.args.core.now.regions.items) × (c.args.core.now.system.state.stop ≡ None) =
    (search rules, search rules, none_of_test c.args.core.now.system.state.stop (search rules)) in
    let ended = c.fail_copy.ensures.system c.copy.new.self c.in-Copying.next refl in
    record {
      goes =
          stepped g.V.Store precheck true c.args.core.now.regions.items c.fail_copy.new.core.regions.items c.args.core.now.system.state c.fail_copy.new.core.system.state c.args.core.now.vault c.fail_copy.new.core.vault
          c.args.client.now (record c.args.client.now { state = IsOutside }) c.fail_copy.new.client (IsCopying c.in-Copying.checkpoint c.in-Copying.next) here.0 (record { rest = refl; client = refl; lines = refl })
          (goes_running g.V.Store precheck (IsCopying c.in-Copying.checkpoint c.in-Copying.next) (record c.args.client.now { state = IsOutside }) c.args.core.now.regions.items c.args.core.now.system.state c.args.core.now.vault here.2 _ _ _ _ _ (λ running.
          so_left g.V.Store precheck (IsCopying c.in-Copying.checkpoint c.in-Copying.next) (record c.args.client.now { state = IsOutside }) c.fail_copy.new.client c.args.core.now.regions.items c.args.core.now.system.state c.args.core.now.vault _ _ _ _ _ _ _ (ap (λ k. k.regions.items) ended) (ap (λ k. k.system.state) ended) (ap (λ k. k.vault) ended)
          (copy_fails_goes g.V.Store precheck (record c.args.client.now { state = IsOutside }) c.fail_copy.new.client c.args.core.now.regions.items c.args.core.now.system.state c.args.core.now.vault c.in-Copying.checkpoint c.in-Copying.next c.index_mut.result.now c.copy.new.region (lent_there c.args.core.now.regions.items c.in-Copying.next c.index_mut.result.now here.1 c.index_mut.ensures.value) here.2 _ refl
          c.copy.new.self _ c.copy.new.vault c.in-Err.error (λ clean. never_ok _ _ (c.in-Err.ensures.clean clean).0)
          (λ ran. let h = c.in-Err.ensures.fault ran in (err_is _ c.in-Err.error Fault refl h.0, h.1, h.2)) c.in-Err.ensures.region c.copy.ensures.files refl
          running c.in-Ok-fail_copy.ensures.ok)));
      places =
          gave_up_outside _ _ _ _ _ c.in-Copying.next c.index_mut.result.now c.copy.new.region _ _ _ (ap (λ k. k.regions.items) ended) (ap (λ k. k.vault) ended) (lent_there c.args.core.now.regions.items c.in-Copying.next c.index_mut.result.now here.1 c.index_mut.ensures.value) c.in-Err.ensures.region c.copy.ensures.files
          (ends_outside (record c.args.client.now { state = IsOutside }) c.fail_copy.new.client (Err c.in-Err.error) c.in-Ok-fail_copy.ensures.ok);
      any_moment = region_leaves g.V.Store c.args.client.now c.args.core.now.regions.items c.args.core.now.system.state c.fail_copy.new.core.system.state c.args.core.now.vault c.fail_copy.new.core.vault (λ d past. g.met.V.Store.only_now c.args.core.now.vault.store d past) c.args.client.now.state c.in-Copying.checkpoint c.in-Copying.next here.0 (ap is_some here.2) c.index_mut.result.now (place_of c.in-Copying.next) (length (words_bytes c.index_mut.result.now.back)) c.copy.new.vault (ap (λ k. k.vault) ended) (λ clean. absurd (never_ok _ _ (c.in-Err.ensures.clean clean).0)) c.in-Err.ensures.any_moment;
      refuses = copies_on _ _ precheck c.args.client.now _ c.args.core.now.regions.items c.args.core.now.system.state _ c.in-Copying.checkpoint c.in-Copying.next here.0 here.2 here.1;
    }

pub returns-in-Err-fail_copy-clause-step : goal.returns-in-Err-fail_copy-clause-step
returns-in-Err-fail_copy-clause-step g c = λ precheck.
    let here : (c.args.client.now.state ≡ IsCopying c.in-Copying.checkpoint c.in-Copying.next) × (c.in-Copying.next < length c.args.core.now.regions.items) × (c.args.core.now.system.state.stop ≡ None) =
    (search rules, search rules, none_of_test c.args.core.now.system.state.stop (search rules)) in
    let ended = c.fail_copy.ensures.system c.copy.new.self c.in-Copying.next refl in
    record {
      goes =
          stepped g.V.Store precheck false c.args.core.now.regions.items c.fail_copy.new.core.regions.items c.args.core.now.system.state c.fail_copy.new.core.system.state c.args.core.now.vault c.fail_copy.new.core.vault
          c.args.client.now (record c.args.client.now { state = IsOutside }) c.fail_copy.new.client (IsCopying c.in-Copying.checkpoint c.in-Copying.next) here.0 (record { rest = refl; client = refl; lines = refl })
          (goes_running g.V.Store precheck (IsCopying c.in-Copying.checkpoint c.in-Copying.next) (record c.args.client.now { state = IsOutside }) c.args.core.now.regions.items c.args.core.now.system.state c.args.core.now.vault here.2 _ _ _ _ _ (λ running.
          so_left g.V.Store precheck (IsCopying c.in-Copying.checkpoint c.in-Copying.next) (record c.args.client.now { state = IsOutside }) c.fail_copy.new.client c.args.core.now.regions.items c.args.core.now.system.state c.args.core.now.vault _ _ _ _ _ _ _ (ap (λ k. k.regions.items) ended) (ap (λ k. k.system.state) ended) (ap (λ k. k.vault) ended)
          (copy_fails_silent_goes g.V.Store precheck (record c.args.client.now { state = IsOutside }) c.fail_copy.new.client c.args.core.now.regions.items c.args.core.now.system.state c.args.core.now.vault c.in-Copying.checkpoint c.in-Copying.next c.index_mut.result.now c.copy.new.region (lent_there c.args.core.now.regions.items c.in-Copying.next c.index_mut.result.now here.1 c.index_mut.ensures.value) here.2 _ refl
          c.copy.new.self _ c.copy.new.vault c.in-Err.error (λ clean. never_ok _ _ (c.in-Err.ensures.clean clean).0)
          (λ ran. let h = c.in-Err.ensures.fault ran in (err_is _ c.in-Err.error Fault refl h.0, h.1, h.2)) c.in-Err.ensures.region c.copy.ensures.files refl
          false refl running c.in-Err-fail_copy.ensures.err)));
      places =
          gave_up_outside _ _ _ _ _ c.in-Copying.next c.index_mut.result.now c.copy.new.region _ _ _ (ap (λ k. k.regions.items) ended) (ap (λ k. k.vault) ended) (lent_there c.args.core.now.regions.items c.in-Copying.next c.index_mut.result.now here.1 c.index_mut.ensures.value) c.in-Err.ensures.region c.copy.ensures.files
          (unsaid_outside (record c.args.client.now { state = IsOutside }) c.fail_copy.new.client (Err c.in-Err.error) refl c.in-Err-fail_copy.ensures.err);
      any_moment = region_leaves g.V.Store c.args.client.now c.args.core.now.regions.items c.args.core.now.system.state c.fail_copy.new.core.system.state c.args.core.now.vault c.fail_copy.new.core.vault (λ d past. g.met.V.Store.only_now c.args.core.now.vault.store d past) c.args.client.now.state c.in-Copying.checkpoint c.in-Copying.next here.0 (ap is_some here.2) c.index_mut.result.now (place_of c.in-Copying.next) (length (words_bytes c.index_mut.result.now.back)) c.copy.new.vault (ap (λ k. k.vault) ended) (λ clean. absurd (never_ok _ _ (c.in-Err.ensures.clean clean).0)) c.in-Err.ensures.any_moment;
      refuses = refuses_none _ _ precheck c.args.client.now _ c.args.core.now.regions.items c.args.core.now.system.state _ refl c.args.client.now.state;
    }

pub returns-then-not-may_copy-clause-step : goal.returns-then-not-may_copy-clause-step
returns-then-not-may_copy-clause-step g c = λ precheck.
    let here : (c.args.client.now.state ≡ IsCopying c.in-Copying.checkpoint c.in-Copying.next) × (c.in-Copying.next < length c.args.core.now.regions.items) × (c.args.core.now.system.state.stop ≡ None) =
    (search rules, search rules, none_of_test c.args.core.now.system.state.stop (search rules)) in
    record {
      goes =
          stepped g.V.Store precheck (is_ok c.no_run.result) c.args.core.now.regions.items _ c.args.core.now.system.state _ c.args.core.now.vault _
          c.args.client.now c.args.client.now _ (IsCopying c.in-Copying.checkpoint c.in-Copying.next) here.0 (record { rest = refl; client = refl; lines = refl })
          (never_goes g.V.Store precheck (IsCopying c.in-Copying.checkpoint c.in-Copying.next) c.args.client.now c.args.core.now.regions.items c.args.core.now.system.state c.args.core.now.vault ((c.in-Copying.next ≡ c.in-Copying.checkpoint.copied) × (c.in-Copying.next < regions c.in-Copying.checkpoint.header.geometry)) _ _ _ _ _
          (may_copy g.V.Store precheck c.args.client.now c.args.client.now c.args.core.now.regions.items c.args.core.now.system.state c.args.core.now.vault c.in-Copying.checkpoint c.in-Copying.next here.2 here.1)
          (λ is. let may : c.may_copy.result ≡ true = c.may_copy.ensures.told is in search rules));
      places = search rules;
      any_moment = leaves_still g.V.Store c.args.client.now.state c.args.client.now c.args.core.now.regions.items c.args.core.now.system.state _ c.args.core.now.vault _ (λ d past. g.met.V.Store.only_now c.args.core.now.vault.store d past) refl;
      refuses = refuses_none _ _ precheck c.args.client.now _ c.args.core.now.regions.items c.args.core.now.system.state c.no_run.result c.no_run.ensures c.args.client.now.state;
    }
