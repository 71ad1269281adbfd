use Rattle.std.proofs.Common.{refl, ap, subst}
use Rattle.dali_system.specs.Served.{Served}
use Rattle.dali_transcripts.specs.declared.clients.line.Line.{Line}
use Rattle.dali_turns.specs.declared.client.State.TheVariants.{Outside as IsOutside}
use Rattle.dali_turns.specs.Clients.{Finishes}
use Rattle.dali_turns.proofs.Putting.{err_on}
use Rattle.dali_turns.proofs.Commands.{err_false}
use Rattle.dali_turns.proofs.AuditSteps.{begins_goes, refused_goes, silent_goes, no_begin_goes}
use Rattle.dali_turns.proofs.Placing.{still, still_outside}
use Rattle.dali_record.specs.declared.records.Record.TheVariants.{AuditBegin}
use Rattle.dali_system.specs.Audits.{audit_refusal}
use Rattle.dali_transcripts.specs.declared.clients.command.Command.TheVariants.{Audit as IsAudit}
use Rattle.dali_turns.proofs.Meeting.{on_no_ok}
use Rattle.dali_turns.proofs.AtOnce.{never_refused, says_why}
use Rattle.dali_turns.proofs.steps.audits.start.Goals as goal

pub returns-in_err-why-in-Err : goal.returns-in_err-why-in-Err
returns-in_err-why-in-Err g c = record {
  goes = λ precheck.
      no_begin_goes g.V.Store precheck c.args.client.now _ c.args.core.now.regions.items c.args.core.now.system.state c.args.core.now.vault c.requires.next _ _ (err_false c.from_residual.result c.from_residual.ensures.0) refl
      (ap (λ (s : Served). s.state) c.in-Err.ensures.err);
  places = still_outside _ _ _ _ _ c.requires.stands;
  on = err_on c.from_residual.result c.from_residual.ensures.0;
  vault = refl;
  refuses = λ why is. on_no_ok _ c.from_residual.result c.from_residual.ensures.0;
}

pub returns-in_err-finish-in-Err : goal.returns-in_err-finish-in-Err
returns-in_err-finish-in-Err g c = record {
  goes = λ precheck.
      silent_goes g.V.Store precheck c.args.client.now c.finish.new.self c.args.core.now.regions.items c.args.core.now.system.state c.args.core.now.vault c.requires.next _
      c.begin.result c.in-Err.error c.in-Err.is c.begin.ensures.memory c.begin.ensures.refused (ap (λ (s : Served). s.state) c.in-Err.ensures.err)
      _ (err_false c.from_residual-in_err-finish-in-Err.result c.from_residual-in_err-finish-in-Err.ensures.0) c.in_ok-why-in-Err.why c.in_ok-why-in-Err.ensures.given c.in_err-finish-in-Err.ensures.err;
  places = still_outside _ _ _ _ _ c.in_err-finish-in-Err.ensures.err.stands;
  on = err_on c.from_residual-in_err-finish-in-Err.result c.from_residual-in_err-finish-in-Err.ensures.0;
  vault = refl;
  refuses = λ why is. on_no_ok _ c.from_residual-in_err-finish-in-Err.result c.from_residual-in_err-finish-in-Err.ensures.0;
}

pub returns-in-Ok : goal.returns-in-Ok
returns-in-Ok g c = record {
  goes = λ precheck.
      begins_goes g.V.Store precheck c.args.client.now _ c.args.core.now.regions.items c.args.core.now.system.state c.args.core.now.vault c.requires.next _
      c.in-Ok.audit c.in-Ok.ensures.audit c.in-Ok.ensures.room c.in-Ok.ensures.number c.in-Ok.ensures.count refl (ap (λ (s : Served). s.state) c.in-Ok.ensures.ok);
  places = still _ _ _ _ _ tt;
  on = refl;
  vault = refl;
  refuses = λ why is. never_refused (audit_refusal c.args.core.now.system.state AuditBegin) c.begin.result _ why c.in-Ok.is c.begin.ensures.refused is;
}

pub returns-in_ok-finish-in-Err : goal.returns-in_ok-finish-in-Err
returns-in_ok-finish-in-Err g c = record {
  goes = λ precheck.
      refused_goes g.V.Store precheck c.args.client.now c.finish.new.self c.args.core.now.regions.items c.args.core.now.system.state c.args.core.now.vault c.requires.next _
      c.begin.result c.in-Err.error c.in-Err.is c.begin.ensures.memory c.begin.ensures.refused (ap (λ (s : Served). s.state) c.in-Err.ensures.err)
      c.in_ok-why-in-Err.why c.in_ok-why-in-Err.ensures.given (subst (λ (l : Line). Finishes c.args.client.now IsOutside l c.finish.new.self) c.refused.ensures c.in_ok-finish-in-Err.ensures.ok);
  places = still_outside _ _ _ _ _ c.in_ok-finish-in-Err.ensures.ok.stands;
  on = refl;
  vault = refl;
  refuses = λ why is.
      says_why c.args.client.now c.finish.new.self IsOutside IsAudit (audit_refusal c.args.core.now.system.state AuditBegin) c.begin.result c.in-Err.error c.in_ok-why-in-Err.why why c.in-Err.is c.begin.ensures.refused c.in_ok-why-in-Err.ensures.given
      (subst (λ (l : Line). Finishes c.args.client.now IsOutside l c.finish.new.self) c.refused.ensures c.in_ok-finish-in-Err.ensures.ok) is;
}
