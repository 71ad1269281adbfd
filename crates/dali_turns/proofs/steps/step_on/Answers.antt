use Rattle.std.proofs.Common.{true, is_ok, refl, sym, Ok, false}
use Rattle.dali_turns.specs.declared.client.State.TheVariants.{Outside, LeftOut, Within, Calling, TakingBack, Committing, Waiting, Auditing, Copying, Certifying, Gone}
use Rattle.dali_turns.proofs.Stepping.{stepped, left_goes, gone_goes}
use Rattle.dali_turns.proofs.Over.{over_in, not_over, none_next}
use Rattle.dali_turns.proofs.Putting.{never_went, put_from, gone_put, left_out_put}
use Rattle.dali_turns.proofs.Placed.{places_from, holds_from, places_still, left_reaches}
use Rattle.dali_turns.proofs.Moments.{leaves_still, leaves_stepped}
use Rattle.dali_turns.proofs.AtOnce.{refuses_from}
use Rattle.dali_turns.proofs.steps.step_on.Goals as goal

pub returns-in-Within-clause-step : goal.returns-in-Within-clause-step
returns-in-Within-clause-step g c = record {
  goes =
      stepped g.V.Store c.args.setting.now.precheck (is_ok c.within.result) c.args.core.now.regions.items c.within.new.core.regions.items c.args.core.now.system.state c.within.new.core.system.state c.args.core.now.vault c.within.new.core.vault
      c.args.client.now (record c.args.client.now { state = c.replace.new.dest }) c.within.new.client (Within c.in-Within.transaction) (sym c.in-Within.ensures.value) (record { rest = refl; client = refl; lines = refl }) c.within.ensures.goes;
  places = places_from g.V.Store.told c.args.client.now.state (Within c.in-Within.transaction) c.within.new.client.state c.args.core.now.regions.items c.within.new.core.regions.items c.args.core.now.vault c.within.new.core.vault (sym c.in-Within.ensures.value) c.within.ensures.places;
  any_moment =
      leaves_stepped g.V.Store c.args.core.now.regions.items c.args.core.now.system.state c.within.new.core.system.state c.args.core.now.vault c.within.new.core.vault c.args.client.now (record c.args.client.now { state = c.replace.new.dest }) (Within c.in-Within.transaction) (sym c.in-Within.ensures.value) (record { rest = refl; client = refl; lines = refl }) c.within.ensures.any_moment;
  refuses = refuses_from c.args.core.now.vault.flushed c.within.new.core.vault.stopped c.args.setting.now.precheck c.args.client.now c.within.new.client c.args.core.now.regions.items c.args.core.now.system.state c.within.result (Within c.in-Within.transaction) c.replace.new.dest c.in-Within.ensures.value c.within.ensures.refuses;
}

pub returns-in-Calling-clause-step : goal.returns-in-Calling-clause-step
returns-in-Calling-clause-step g c = record {
  goes =
      stepped g.V.Store c.args.setting.now.precheck (is_ok c.call.result) c.args.core.now.regions.items c.call.new.core.regions.items c.args.core.now.system.state c.call.new.core.system.state c.args.core.now.vault c.call.new.core.vault
      c.args.client.now (record c.args.client.now { state = c.replace.new.dest }) c.call.new.client (Calling c.in-Calling.transaction c.in-Calling.plan) (sym c.in-Calling.ensures.value) (record { rest = refl; client = refl; lines = refl }) c.call.ensures.goes;
  places = places_from g.V.Store.told c.args.client.now.state (Calling c.in-Calling.transaction c.in-Calling.plan) c.call.new.client.state c.args.core.now.regions.items c.call.new.core.regions.items c.args.core.now.vault c.call.new.core.vault (sym c.in-Calling.ensures.value) c.call.ensures.places;
  any_moment = leaves_still g.V.Store c.args.client.now.state c.args.client.now c.args.core.now.regions.items c.args.core.now.system.state _ c.args.core.now.vault _ (λ d past. g.met.V.Store.only_now c.args.core.now.vault.store d past) c.call.ensures.vault;
  refuses = refuses_from c.args.core.now.vault.flushed c.call.new.core.vault.stopped c.args.setting.now.precheck c.args.client.now c.call.new.client c.args.core.now.regions.items c.args.core.now.system.state c.call.result (Calling c.in-Calling.transaction c.in-Calling.plan) c.replace.new.dest c.in-Calling.ensures.value c.call.ensures.refuses;
}

pub returns-in-TakingBack-clause-step : goal.returns-in-TakingBack-clause-step
returns-in-TakingBack-clause-step g c = record {
  goes =
      stepped g.V.Store c.args.setting.now.precheck (is_ok c.take_back.result) c.args.core.now.regions.items c.take_back.new.core.regions.items c.args.core.now.system.state c.take_back.new.core.system.state c.args.core.now.vault c.take_back.new.core.vault
      c.args.client.now (record c.args.client.now { state = c.replace.new.dest }) c.take_back.new.client (TakingBack c.in-TakingBack.transaction c.in-TakingBack.plan c.in-TakingBack.why) (sym c.in-TakingBack.ensures.value) (record { rest = refl; client = refl; lines = refl }) c.take_back.ensures.goes;
  places = places_from g.V.Store.told c.args.client.now.state (TakingBack c.in-TakingBack.transaction c.in-TakingBack.plan c.in-TakingBack.why) c.take_back.new.client.state c.args.core.now.regions.items c.take_back.new.core.regions.items c.args.core.now.vault c.take_back.new.core.vault (sym c.in-TakingBack.ensures.value) c.take_back.ensures.places;
  any_moment = leaves_still g.V.Store c.args.client.now.state c.args.client.now c.args.core.now.regions.items c.args.core.now.system.state _ c.args.core.now.vault _ (λ d past. g.met.V.Store.only_now c.args.core.now.vault.store d past) c.take_back.ensures.vault;
  refuses = refuses_from c.args.core.now.vault.flushed c.take_back.new.core.vault.stopped c.args.setting.now.precheck c.args.client.now c.take_back.new.client c.args.core.now.regions.items c.args.core.now.system.state c.take_back.result (TakingBack c.in-TakingBack.transaction c.in-TakingBack.plan c.in-TakingBack.why) c.replace.new.dest c.in-TakingBack.ensures.value c.take_back.ensures.refuses;
}

pub returns-in-Committing-clause-step : goal.returns-in-Committing-clause-step
returns-in-Committing-clause-step g c = record {
  goes =
      stepped g.V.Store c.args.setting.now.precheck (is_ok c.go_on.result) c.args.core.now.regions.items c.go_on.new.core.regions.items c.args.core.now.system.state c.go_on.new.core.system.state c.args.core.now.vault c.go_on.new.core.vault
      c.args.client.now (record c.args.client.now { state = c.replace.new.dest }) c.go_on.new.client (Committing c.in-Committing.transaction c.in-Committing.number c.in-Committing.removals c.in-Committing.next) (sym c.in-Committing.ensures.value) (record { rest = refl; client = refl; lines = refl }) (c.go_on.ensures.goes c.args.setting.now.precheck);
  places = places_from g.V.Store.told c.args.client.now.state (Committing c.in-Committing.transaction c.in-Committing.number c.in-Committing.removals c.in-Committing.next) c.go_on.new.client.state c.args.core.now.regions.items c.go_on.new.core.regions.items c.args.core.now.vault c.go_on.new.core.vault (sym c.in-Committing.ensures.value) c.go_on.ensures.places;
  any_moment =
      leaves_stepped g.V.Store c.args.core.now.regions.items c.args.core.now.system.state c.go_on.new.core.system.state c.args.core.now.vault c.go_on.new.core.vault c.args.client.now (record c.args.client.now { state = c.replace.new.dest }) (Committing c.in-Committing.transaction c.in-Committing.number c.in-Committing.removals c.in-Committing.next) (sym c.in-Committing.ensures.value) (record { rest = refl; client = refl; lines = refl }) c.go_on.ensures.any_moment;
  refuses = refuses_from c.args.core.now.vault.flushed c.go_on.new.core.vault.stopped c.args.setting.now.precheck c.args.client.now c.go_on.new.client c.args.core.now.regions.items c.args.core.now.system.state c.go_on.result (Committing c.in-Committing.transaction c.in-Committing.number c.in-Committing.removals c.in-Committing.next) c.replace.new.dest c.in-Committing.ensures.value c.go_on.ensures.refuses;
}

pub returns-in-Waiting-clause-step : goal.returns-in-Waiting-clause-step
returns-in-Waiting-clause-step g c = record {
  goes =
      stepped g.V.Store c.args.setting.now.precheck (is_ok c.wait.result) c.args.core.now.regions.items c.wait.new.core.regions.items c.args.core.now.system.state c.wait.new.core.system.state c.args.core.now.vault c.wait.new.core.vault
      c.args.client.now (record c.args.client.now { state = c.replace.new.dest }) c.wait.new.client (Waiting c.in-Waiting.tries c.in-Waiting.holder) (sym c.in-Waiting.ensures.value) (record { rest = refl; client = refl; lines = refl }) (c.wait.ensures.goes c.args.setting.now.precheck);
  places = places_from g.V.Store.told c.args.client.now.state (Waiting c.in-Waiting.tries c.in-Waiting.holder) c.wait.new.client.state c.args.core.now.regions.items c.wait.new.core.regions.items c.args.core.now.vault c.wait.new.core.vault (sym c.in-Waiting.ensures.value) c.wait.ensures.places;
  any_moment = leaves_still g.V.Store c.args.client.now.state c.args.client.now c.args.core.now.regions.items c.args.core.now.system.state _ c.args.core.now.vault _ (λ d past. g.met.V.Store.only_now c.args.core.now.vault.store d past) c.wait.ensures.vault;
  refuses = refuses_from c.args.core.now.vault.flushed c.wait.new.core.vault.stopped c.args.setting.now.precheck c.args.client.now c.wait.new.client c.args.core.now.regions.items c.args.core.now.system.state c.wait.result (Waiting c.in-Waiting.tries c.in-Waiting.holder) c.replace.new.dest c.in-Waiting.ensures.value (c.wait.ensures.refuses c.args.setting.now.precheck);
}

pub returns-in-Auditing-clause-step : goal.returns-in-Auditing-clause-step
returns-in-Auditing-clause-step g c = record {
  goes =
      stepped g.V.Store c.args.setting.now.precheck (is_ok c.end.result) c.args.core.now.regions.items c.end.new.core.regions.items c.args.core.now.system.state c.end.new.core.system.state c.args.core.now.vault c.end.new.core.vault
      c.args.client.now (record c.args.client.now { state = c.replace.new.dest }) c.end.new.client (Auditing c.in-Auditing.audit c.in-Auditing.next) (sym c.in-Auditing.ensures.value) (record { rest = refl; client = refl; lines = refl }) (c.end.ensures.goes c.args.setting.now.precheck);
  places = places_from g.V.Store.told c.args.client.now.state (Auditing c.in-Auditing.audit c.in-Auditing.next) c.end.new.client.state c.args.core.now.regions.items c.end.new.core.regions.items c.args.core.now.vault c.end.new.core.vault (sym c.in-Auditing.ensures.value) c.end.ensures.places;
  any_moment =
      leaves_stepped g.V.Store c.args.core.now.regions.items c.args.core.now.system.state c.end.new.core.system.state c.args.core.now.vault c.end.new.core.vault c.args.client.now (record c.args.client.now { state = c.replace.new.dest }) (Auditing c.in-Auditing.audit c.in-Auditing.next) (sym c.in-Auditing.ensures.value) (record { rest = refl; client = refl; lines = refl }) c.end.ensures.any_moment;
  refuses = refuses_from c.args.core.now.vault.flushed c.end.new.core.vault.stopped c.args.setting.now.precheck c.args.client.now c.end.new.client c.args.core.now.regions.items c.args.core.now.system.state c.end.result (Auditing c.in-Auditing.audit c.in-Auditing.next) c.replace.new.dest c.in-Auditing.ensures.value (λ all. c.end.ensures.refuses);
}

pub returns-in-Copying-clause-step : goal.returns-in-Copying-clause-step
returns-in-Copying-clause-step g c = record {
  goes =
      stepped g.V.Store c.args.setting.now.precheck (is_ok c.copy.result) c.args.core.now.regions.items c.copy.new.core.regions.items c.args.core.now.system.state c.copy.new.core.system.state c.args.core.now.vault c.copy.new.core.vault
      c.args.client.now (record c.args.client.now { state = c.replace.new.dest }) c.copy.new.client (Copying c.in-Copying.checkpoint c.in-Copying.next) (sym c.in-Copying.ensures.value) (record { rest = refl; client = refl; lines = refl }) (c.copy.ensures.goes c.args.setting.now.precheck);
  places = places_from g.V.Store.told c.args.client.now.state (Copying c.in-Copying.checkpoint c.in-Copying.next) c.copy.new.client.state c.args.core.now.regions.items c.copy.new.core.regions.items c.args.core.now.vault c.copy.new.core.vault (sym c.in-Copying.ensures.value) c.copy.ensures.places;
  any_moment =
      leaves_stepped g.V.Store c.args.core.now.regions.items c.args.core.now.system.state c.copy.new.core.system.state c.args.core.now.vault c.copy.new.core.vault c.args.client.now (record c.args.client.now { state = c.replace.new.dest }) (Copying c.in-Copying.checkpoint c.in-Copying.next) (sym c.in-Copying.ensures.value) (record { rest = refl; client = refl; lines = refl }) c.copy.ensures.any_moment;
  refuses = refuses_from c.args.core.now.vault.flushed c.copy.new.core.vault.stopped c.args.setting.now.precheck c.args.client.now c.copy.new.client c.args.core.now.regions.items c.args.core.now.system.state c.copy.result (Copying c.in-Copying.checkpoint c.in-Copying.next) c.replace.new.dest c.in-Copying.ensures.value (c.copy.ensures.refuses c.args.setting.now.precheck);
}

pub returns-in-Certifying-clause-step : goal.returns-in-Certifying-clause-step
returns-in-Certifying-clause-step g c = record {
  goes =
      stepped g.V.Store c.args.setting.now.precheck (is_ok c.finish_audit.result) c.args.core.now.regions.items c.finish_audit.new.core.regions.items c.args.core.now.system.state c.finish_audit.new.core.system.state c.args.core.now.vault c.finish_audit.new.core.vault
      c.args.client.now (record c.args.client.now { state = c.replace.new.dest }) c.finish_audit.new.client (Certifying c.in-Certifying.checkpoint c.in-Certifying.audit c.in-Certifying.next) (sym c.in-Certifying.ensures.value) (record { rest = refl; client = refl; lines = refl }) (c.finish_audit.ensures.goes c.args.setting.now.precheck);
  places = places_from g.V.Store.told c.args.client.now.state (Certifying c.in-Certifying.checkpoint c.in-Certifying.audit c.in-Certifying.next) c.finish_audit.new.client.state c.args.core.now.regions.items c.finish_audit.new.core.regions.items c.args.core.now.vault c.finish_audit.new.core.vault (sym c.in-Certifying.ensures.value) c.finish_audit.ensures.places;
  any_moment =
      leaves_stepped g.V.Store c.args.core.now.regions.items c.args.core.now.system.state c.finish_audit.new.core.system.state c.args.core.now.vault c.finish_audit.new.core.vault c.args.client.now (record c.args.client.now { state = c.replace.new.dest }) (Certifying c.in-Certifying.checkpoint c.in-Certifying.audit c.in-Certifying.next) (sym c.in-Certifying.ensures.value) (record { rest = refl; client = refl; lines = refl }) c.finish_audit.ensures.any_moment;
  refuses = refuses_from c.args.core.now.vault.flushed c.finish_audit.new.core.vault.stopped c.args.setting.now.precheck c.args.client.now c.finish_audit.new.client c.args.core.now.regions.items c.args.core.now.system.state c.finish_audit.result (Certifying c.in-Certifying.checkpoint c.in-Certifying.audit c.in-Certifying.next) c.replace.new.dest c.in-Certifying.ensures.value (λ all. c.finish_audit.ensures.refuses);
}

pub returns-in-Outside-clause-step : goal.returns-in-Outside-clause-step
returns-in-Outside-clause-step g c = record {
  goes =
      stepped g.V.Store c.args.setting.now.precheck (is_ok c.next.result) c.args.core.now.regions.items c.next.new.core.regions.items c.args.core.now.system.state c.next.new.core.system.state c.args.core.now.vault c.next.new.core.vault
      c.args.client.now (record c.args.client.now { state = c.replace.new.dest }) c.next.new.client Outside (sym c.in-Outside.ensures.value) (record { rest = refl; client = refl; lines = refl }) c.next.ensures.goes;
  places = places_from g.V.Store.told c.args.client.now.state Outside c.next.new.client.state c.args.core.now.regions.items c.next.new.core.regions.items c.args.core.now.vault c.next.new.core.vault (sym c.in-Outside.ensures.value) c.next.ensures.places;
  any_moment =
      leaves_stepped g.V.Store c.args.core.now.regions.items c.args.core.now.system.state c.next.new.core.system.state c.args.core.now.vault c.next.new.core.vault c.args.client.now (record c.args.client.now { state = c.replace.new.dest }) Outside (sym c.in-Outside.ensures.value) (record { rest = refl; client = refl; lines = refl }) c.next.ensures.any_moment;
  refuses = refuses_from c.args.core.now.vault.flushed c.next.new.core.vault.stopped c.args.setting.now.precheck c.args.client.now c.next.new.client c.args.core.now.regions.items c.args.core.now.system.state c.next.result Outside c.replace.new.dest c.in-Outside.ensures.value c.next.ensures.refuses;
}

pub returns-in-LeftOut-clause-step : goal.returns-in-LeftOut-clause-step
returns-in-LeftOut-clause-step g c = record {
  goes =
      stepped g.V.Store c.args.setting.now.precheck (is_ok c.left_out.result) c.args.core.now.regions.items c.args.core.now.regions.items c.args.core.now.system.state c.args.core.now.system.state c.args.core.now.vault c.args.core.now.vault
      c.args.client.now (record c.args.client.now { state = c.replace.new.dest }) c.left_out.new.client LeftOut (sym c.in-LeftOut.ensures.value) (record { rest = refl; client = refl; lines = refl })
      (left_goes g.V.Store c.args.setting.now.precheck c.args.core.now.regions.items c.args.core.now.system.state c.args.core.now.vault (record c.args.client.now { state = c.replace.new.dest }) c.left_out.new.client c.left_out.result c.left_out.ensures.done c.left_out.ensures.passed);
  places =
      places_still g.V.Store.told c.args.client.now.state c.left_out.new.client.state c.args.core.now.regions.items c.args.core.now.regions.items c.args.core.now.vault c.args.core.now.vault refl refl (left_reaches g.V.Store.told _ _ (record c.args.client.now { state = c.replace.new.dest }) c.left_out.new.client c.left_out.result c.args.core.now.vault c.left_out.ensures.done c.left_out.ensures.passed);
  any_moment = leaves_still g.V.Store c.args.client.now.state c.args.client.now c.args.core.now.regions.items c.args.core.now.system.state _ c.args.core.now.vault _ (λ d past. g.met.V.Store.only_now c.args.core.now.vault.store d past) refl;
  refuses = refuses_from c.args.core.now.vault.flushed c.args.core.now.vault.stopped c.args.setting.now.precheck c.args.client.now c.left_out.new.client c.args.core.now.regions.items c.args.core.now.system.state c.left_out.result LeftOut c.replace.new.dest c.in-LeftOut.ensures.value tt;
}

pub returns-in-Gone-clause-step : goal.returns-in-Gone-clause-step
returns-in-Gone-clause-step g c = record {
  goes =
      stepped g.V.Store c.args.setting.now.precheck true c.args.core.now.regions.items c.args.core.now.regions.items c.args.core.now.system.state c.args.core.now.system.state c.args.core.now.vault c.args.core.now.vault
      c.args.client.now (record c.args.client.now { state = c.replace.new.dest }) (record c.args.client.now { state = Gone }) Gone (sym c.in-Gone.ensures.value) (record { rest = refl; client = refl; lines = refl })
      (gone_goes g.V.Store c.args.setting.now.precheck c.args.core.now.regions.items c.args.core.now.system.state c.args.core.now.vault (record c.args.client.now { state = c.replace.new.dest }) (record c.args.client.now { state = Gone }) (record { rest = refl; stands = refl; points = refl; transcript = refl }));
  places = places_still g.V.Store.told c.args.client.now.state Gone c.args.core.now.regions.items c.args.core.now.regions.items c.args.core.now.vault c.args.core.now.vault refl refl tt;
  any_moment = leaves_still g.V.Store c.args.client.now.state c.args.client.now c.args.core.now.regions.items c.args.core.now.system.state _ c.args.core.now.vault _ (λ d past. g.met.V.Store.only_now c.args.core.now.vault.store d past) refl;
  refuses = refuses_from c.args.core.now.vault.flushed c.args.core.now.vault.stopped c.args.setting.now.precheck c.args.client.now (record c.args.client.now { state = Gone }) c.args.core.now.regions.items c.args.core.now.system.state (Ok false) Gone c.replace.new.dest c.in-Gone.ensures.value tt;
}

pub copy-requires-clause-places : goal.copy-requires-clause-places
copy-requires-clause-places g c = holds_from g.V.Store.told c.args.client.now.state (Copying c.in-Copying.checkpoint c.in-Copying.next) c.args.core.now.regions.items c.args.core.now.vault (sym c.in-Copying.ensures.value) c.requires.places

pub returns-in-Within-clause-idle : goal.returns-in-Within-clause-idle
returns-in-Within-clause-idle g c = λ e.
    let put = c.within.ensures.idle e in
    (put_from c.args.core.now.system.state c.args.client.now c.within.new.client (Within c.in-Within.transaction) c.replace.new.dest c.in-Within.ensures.value put.0, put.1)

pub returns-in-Waiting-clause-idle : goal.returns-in-Waiting-clause-idle
returns-in-Waiting-clause-idle g c = λ e.
    let put = c.wait.ensures.idle e in
    (put_from c.args.core.now.system.state c.args.client.now c.wait.new.client (Waiting c.in-Waiting.tries c.in-Waiting.holder) c.replace.new.dest c.in-Waiting.ensures.value put.0, put.1)

pub returns-in-Outside-clause-idle : goal.returns-in-Outside-clause-idle
returns-in-Outside-clause-idle g c = λ e.
    let put = c.next.ensures.idle e in
    (put_from c.args.core.now.system.state c.args.client.now c.next.new.client (Outside) c.replace.new.dest c.in-Outside.ensures.value put.0, put.1)

pub returns-in-Calling-clause-idle : goal.returns-in-Calling-clause-idle
returns-in-Calling-clause-idle g c = λ e. never_went c.call.result c.call.ensures.on e

pub returns-in-TakingBack-clause-idle : goal.returns-in-TakingBack-clause-idle
returns-in-TakingBack-clause-idle g c = λ e. never_went c.take_back.result c.take_back.ensures.on e

pub returns-in-Committing-clause-idle : goal.returns-in-Committing-clause-idle
returns-in-Committing-clause-idle g c = λ e. never_went c.go_on.result c.go_on.ensures.on e

pub returns-in-Auditing-clause-idle : goal.returns-in-Auditing-clause-idle
returns-in-Auditing-clause-idle g c = λ e. never_went c.end.result c.end.ensures.on e

pub returns-in-Copying-clause-idle : goal.returns-in-Copying-clause-idle
returns-in-Copying-clause-idle g c = λ e. never_went c.copy.result c.copy.ensures.on e

pub returns-in-Certifying-clause-idle : goal.returns-in-Certifying-clause-idle
returns-in-Certifying-clause-idle g c = λ e. never_went c.finish_audit.result c.finish_audit.ensures.on e

pub returns-in-LeftOut-clause-idle : goal.returns-in-LeftOut-clause-idle
returns-in-LeftOut-clause-idle g c = λ e. (
  put_from c.args.core.now.system.state c.args.client.now c.left_out.new.client LeftOut c.replace.new.dest c.in-LeftOut.ensures.value
      (left_out_put c.args.core.now.system.state (record c.args.client.now { state = c.replace.new.dest }) c.left_out.new.client c.left_out.result c.left_out.ensures.done c.left_out.ensures.passed e),
  refl,
)

pub returns-in-Gone-clause-idle : goal.returns-in-Gone-clause-idle
returns-in-Gone-clause-idle g c = λ e.
    (put_from c.args.core.now.system.state c.args.client.now (record c.args.client.now { state = Gone }) Gone c.replace.new.dest c.in-Gone.ensures.value (gone_put c.args.core.now.system.state c.args.client.now c.replace.new.dest), refl)

pub returns-in-Within-clause-over : goal.returns-in-Within-clause-over
returns-in-Within-clause-over g c = λ over. not_over (Within c.in-Within.transaction) c.args.client.now.state _ c.in-Within.ensures.value refl over

pub returns-in-Calling-clause-over : goal.returns-in-Calling-clause-over
returns-in-Calling-clause-over g c = λ over. not_over (Calling c.in-Calling.transaction c.in-Calling.plan) c.args.client.now.state _ c.in-Calling.ensures.value refl over

pub returns-in-TakingBack-clause-over : goal.returns-in-TakingBack-clause-over
returns-in-TakingBack-clause-over g c = λ over. not_over (TakingBack c.in-TakingBack.transaction c.in-TakingBack.plan c.in-TakingBack.why) c.args.client.now.state _ c.in-TakingBack.ensures.value refl over

pub returns-in-Committing-clause-over : goal.returns-in-Committing-clause-over
returns-in-Committing-clause-over g c = λ over. not_over (Committing c.in-Committing.transaction c.in-Committing.number c.in-Committing.removals c.in-Committing.next) c.args.client.now.state _ c.in-Committing.ensures.value refl over

pub returns-in-Waiting-clause-over : goal.returns-in-Waiting-clause-over
returns-in-Waiting-clause-over g c = λ over. not_over (Waiting c.in-Waiting.tries c.in-Waiting.holder) c.args.client.now.state _ c.in-Waiting.ensures.value refl over

pub returns-in-Auditing-clause-over : goal.returns-in-Auditing-clause-over
returns-in-Auditing-clause-over g c = λ over. not_over (Auditing c.in-Auditing.audit c.in-Auditing.next) c.args.client.now.state _ c.in-Auditing.ensures.value refl over

pub returns-in-Copying-clause-over : goal.returns-in-Copying-clause-over
returns-in-Copying-clause-over g c = λ over. not_over (Copying c.in-Copying.checkpoint c.in-Copying.next) c.args.client.now.state _ c.in-Copying.ensures.value refl over

pub returns-in-Certifying-clause-over : goal.returns-in-Certifying-clause-over
returns-in-Certifying-clause-over g c = λ over. not_over (Certifying c.in-Certifying.checkpoint c.in-Certifying.audit c.in-Certifying.next) c.args.client.now.state _ c.in-Certifying.ensures.value refl over

pub returns-in-Outside-clause-over : goal.returns-in-Outside-clause-over
returns-in-Outside-clause-over g c = λ over. c.next.ensures.over (over_in Outside c.args.client.now.state _ c.in-Outside.ensures.value over)

pub returns-in-LeftOut-clause-over : goal.returns-in-LeftOut-clause-over
returns-in-LeftOut-clause-over g c = λ over. (c.left_out.ensures.done (none_next (record c.args.client.now { state = c.replace.new.dest }) (over_in LeftOut c.args.client.now.state _ c.in-LeftOut.ensures.value over))).0
