use Rattle.std.proofs.Common.{◌≡◌, Some, Ok, inl, inr, ap, refl, subst}
use Rattle.dali_runs.specs.declared.causes.Cause.{Cause as IsCause}
use Rattle.dali_clean.specs.Cleaned.{MayClean}
use Rattle.dali_transcripts.specs.declared.clients.line.Why.{Why}
use Rattle.dali_transcripts.specs.declared.clients.line.Why.TheVariants.{Stopped as IsStopped}
use Rattle.dali_turns.specs.Clients.{RefusesCall}
use Rattle.dali_turns.specs.Ends.{IsLeftDead}
use Rattle.dali_turns.proofs.CleanSteps.{is_some_at, clears_half, clears_silently}
use Rattle.dali_turns.proofs.steps.calls.clear_way.Goals as goal

pub returns-in_err-clean_up-clause-clears : goal.returns-in_err-clean_up-clause-clears
returns-in_err-clean_up-clause-clears g c = clears_half c.args.dead c.args.transaction c.args.state c.args.client.now c.args.client.now c.args.core.now.regions.items c.clean_up.new.core.regions.items c.args.core.now.system.state c.clean_up.new.core.system.state c.from_residual.result c.from_residual.ensures.0 c.in_err-clean_up.ensures.memory refl

pub returns-in_err-refuse_call-in-Some-clause-clears : goal.returns-in_err-refuse_call-in-Some-clause-clears
returns-in_err-refuse_call-in-Some-clause-clears g c =
    let r = is_some_at c.in_ok-clean_up.field-0 c.in-Some.why (λ (o : Why). (stop : IsCause) × (o ≡ IsStopped stop) × (c.args.core.now.system.state.stop ≡ Some stop) × (MayClean c.args.core.now.regions.items c.args.core.now.system.state c.args.dead → IsLeftDead c.args.dead c.args.core.now.regions.items c.args.core.now.system.state c.clean_up.new.core.regions.items c.clean_up.new.core.system.state)) c.in-Some.is c.in_ok-clean_up.ensures.refused in
    clears_silently c.args.dead c.args.transaction c.args.state c.args.client.now c.refuse_call.new.self c.args.core.now.regions.items c.clean_up.new.core.regions.items c.args.core.now.system.state c.clean_up.new.core.system.state c.from_residual-in_err-refuse_call-in-Some.result c.from_residual-in_err-refuse_call-in-Some.ensures.0 r.0 r.2 r.3 c.in_err-refuse_call-in-Some.ensures.err

pub returns-in_ok-refuse_call-in-Some-clause-clears : goal.returns-in_ok-refuse_call-in-Some-clause-clears
returns-in_ok-refuse_call-in-Some-clause-clears g c =
    let r = is_some_at c.in_ok-clean_up.field-0 c.in-Some.why (λ (o : Why). (stop : IsCause) × (o ≡ IsStopped stop) × (c.args.core.now.system.state.stop ≡ Some stop) × (MayClean c.args.core.now.regions.items c.args.core.now.system.state c.args.dead → IsLeftDead c.args.dead c.args.core.now.regions.items c.args.core.now.system.state c.clean_up.new.core.regions.items c.clean_up.new.core.system.state)) c.in-Some.is c.in_ok-clean_up.ensures.refused in
    inr (r.0, r.2, r.3, subst (λ (o : Why). RefusesCall c.args.client.now c.args.transaction o c.refuse_call.new.self) r.1 c.in_ok-refuse_call-in-Some.ensures.ok)

pub returns-in-None-clause-clears : goal.returns-in-None-clause-clears
returns-in-None-clause-clears g c = inl (c.in_ok-clean_up.ensures.runs (ap Ok c.in-None.is), c.in_ok-clean_up.ensures.cleaned (ap Ok c.in-None.is), record { rest = refl; stands = refl; points = refl; transcript = refl })
