-- The step function that settles an image, by what the calls in it say.
use Rattle.std.proofs.Common.{◌≡◌, ℕ, ◌+◌, ◌<◌, ◌≤◌, ◌^◌, Bool, true, false, List, length, replicate, Option, Some, None, IfSome, IfErr, is_some, Result, Err, refl, ap, sym, subst, ◌∙◌, ◌⊎◌, inl, inr, arith}
use Rattle.std.specs.Prelude.{nat_lt, if◌then◌else◌}
use Rattle.std.proofs.lemmas.Bool.{ltb-true}
use Rattle.std.proofs.lemmas.Option.{same_Some}
use Rattle.dali_geometry.specs.Places.{regions}
use Rattle.dali_record.specs.declared.records.Record.{Record}
use Rattle.dali_record.specs.declared.records.Record.TheVariants.{AuditBegin}
use Rattle.dali_region.specs.State.{RegionState}
use Rattle.dali_store.specs.Store.{Files as Disk}
use Rattle.dali_store.specs.declared.store.Store.{Ghosts}
use Rattle.dali_runs.specs.declared.causes.Cause.{Cause}
use Rattle.dali_runs.specs.State.{SystemState}
use Rattle.dali_runs.specs.Steps.{taken, store_stopped, in_checkpoint, audit_begun}
use Rattle.dali_system.specs.declared.error.SystemError.{SystemError}
use Rattle.dali_system.specs.declared.error.SystemError.TheVariants.{LogFull as IsFull, OutOfMemory as IsMemory}
use Rattle.dali_system.specs.Refused.{room_of}
use Rattle.dali_system.specs.Audits.{audit_refusal}
use Rattle.dali_crash.specs.Checkpoints.{Point}
use Rattle.dali_crash.specs.Traces.{Start}
use Rattle.dali_crash.specs.Disks.Disks.{image_name}
use Rattle.dali_crash.specs.Disks.Places.{place_of}
use Rattle.dali_core.specs.Vault.Vaulted.{Vaulted}
use Rattle.dali_image.specs.declared.header.Header.{Header}
use Rattle.dali_audit.specs.declared.audit.Finding.TheVariants.{Waiting}
use Rattle.dali_audit.specs.Findings.{Audited}
use Rattle.dali_checkpoint.specs.Kept.{Checkpointed, side_in, given_up}
use Rattle.dali_checkpoint.specs.Done.{Writes, FailsToWrite}
use Rattle.dali_core.specs.Cores.{IsNoShorter}
use Rattle.dali_checkpoint.specs.Making.{checkpoint_error}
use Rattle.dali_checkpoint.specs.declared.error.CheckpointError.{CheckpointError}
use Rattle.dali_checkpoint.specs.declared.error.CheckpointError.TheVariants.{Fault}
use Rattle.dali_transcripts.specs.declared.clients.command.Command.TheVariants.{Checkpoint as IsCheckpoint}
use Rattle.dali_transcripts.specs.declared.clients.line.Line.TheVariants.{Refused as IsRefused}
use Rattle.dali_transcripts.specs.declared.clients.line.Why.TheVariants.{LogFull as IsFullLog, StoreStopped}
use Rattle.dali_transcripts.specs.Words.{Checkpoints as CheckpointAct}
use Rattle.dali_transcripts.specs.World.{World}
use Rattle.dali_transcripts.specs.Rounds.{Standing}
use Rattle.dali_turns.specs.declared.client.Client.{Client}
use Rattle.dali_turns.specs.declared.client.State.TheVariants.{Outside, Copying, Certifying}
use Rattle.dali_turns.specs.Stood.{Stood}
use Rattle.dali_turns.specs.Clients.{Finishes}
use Rattle.dali_turns.specs.Endings.{line_in, SaysEnd, Unsaid}
use Rattle.dali_turns.specs.Fits.{rest_of}
use Rattle.dali_turns.specs.Goes.{Went, StepGoes}
use Rattle.dali_turns.proofs.Commands.{unsaid_goes, finished_rest, finished_lines, finished_client}
use Rattle.dali_turns.proofs.AuditSteps.{behind_is, of_told, in_err}
use Rattle.dali_turns.proofs.Auditing.{has_room}
use Rattle.dali_turns.proofs.Guarding.{Always}
use Rattle.dali_turns.proofs.Ending.{vault_runs}
use Rattle.dali_turns.proofs.Settling.{full_settle, full_silent, no_audit, certifies, flush_fails_settle, flush_fails_silent, table_fails_settle, table_fails_silent}

module _ {V : Type 0} (means : Ghosts V) (precheck : Bool) (k j : Client) (gs : List RegionState) (y : SystemState) (v : Vaulted V)
    (c : Checkpointed) (next : ℕ) (stop : y.stop ≡ None) where
  -- ---- what a settlement asks for
  pub may_settle : length gs ≤ next → Always means precheck (Copying c next) k gs y v ((next ≡ c.copied) × (next ≡ regions c.header.geometry))
  may_settle all s B p w a stood of fits =
      let runs : v.stopped ≡ false = vault_runs v.stopped (is_some y.stop) stood.stops (ap is_some stop) in (
        sym fits.copied,
        omega (arith, all, fits.upto, stood.stands.whole.regions, ap length stood.stands.at.regions, ap (λ (h : Header). regions h.geometry) (fits.copying runs).is.header),
      )

  runs_here : (s : Start) (B : List (List Record)) (p : Point) (w : World) → Stood means s B p w precheck gs y v → v.stopped ≡ false
  runs_here s B p w stood = vault_runs v.stopped (is_some y.stop) stood.stops (ap is_some stop)

  -- ---- Ok, and the audit begins
  pub certifies_goes : (d : Checkpointed) (audit : Audited) (x z : SystemState) (u : Vaulted V) → c.copied ≡ regions c.header.geometry → Writes means y v (image_name (side_in c)) (place_of c.copied) c.table u → IsNoShorter means.told v u
      → d ≡ record c { settled = Some y.records } → x ≡ taken y → audit ≡ record { begin = x.records; findings = replicate (regions x.sizes) Waiting } → audit_refusal x AuditBegin ≡ None → x.records < 2 ^ 64 → regions x.sizes < 2 ^ 32
      → z ≡ audit_begun x → j ≡ record k { state = Certifying d audit 0 } → StepGoes means precheck (Copying c next) k gs y v true j gs z u
  certifies_goes d audit x z u all said longer is took audit_is free number count begun now s B p w a stood of fits =
      let room = has_room y.stop y.end (y.limit + 1048576) 1 (ap (λ (m : SystemState). audit_refusal m AuditBegin) (sym took) ∙ free) in
      subst (λ (m : SystemState). Went means precheck s B p w a (Copying c next) gs y v true j gs m u) (sym (begun ∙ ap audit_begun took))
      (certifies means precheck s B p w a gs y v k j stood of c next fits (runs_here s B p w stood) u all said longer stop room.1 audit
      (ap (λ (m : Audited). m.begin) audit_is ∙ ap (λ (m : SystemState). m.records) took)
      (ap (λ (m : Audited). m.findings) audit_is ∙ ap (λ (m : SystemState). replicate (regions m.sizes) Waiting) took)
      (subst (λ (m : SystemState). m.records < 2 ^ 64) took number) (subst (λ (m : SystemState). regions m.sizes < 2 ^ 32) took count)
      (ap (λ (m : Client). m.transcript) now) (ap rest_of now) (ap (λ (m : Client). m.state) now ∙ ap (λ (m : Checkpointed). Certifying m audit 0) is))

  -- ---- the store fails
  module _ (e : CheckpointError) (x z : SystemState) (u : Vaulted V)
      (said : (e ≡ Fault) × (x ≡ store_stopped (taken y)) × FailsToWrite means y v (image_name (side_in c)) (place_of c.copied) (length c.table) u) (ends : z ≡ given_up c.faulted x) (longer : IsNoShorter means.told v u) where
    to_end : (ok : Bool) (s : Start) (B : List (List Record)) (p : Point) (w : World) (a : Standing) → c.faulted ≡ false
        → Went means precheck s B p w a (Copying c next) gs y v ok j gs (in_checkpoint (store_stopped (taken y)) false) u → Went means precheck s B p w a (Copying c next) gs y v ok j gs z u
    to_end ok s B p w a sound went = subst (λ (m : SystemState). Went means precheck s B p w a (Copying c next) gs y v ok j gs m u) (sym (ends ∙ (ap (λ (b : Bool). given_up b x) sound ∙ ap (λ (m : SystemState). in_checkpoint m false) said.1))) went

    pub settle_fails_goes : SaysEnd k (Err e) j → StepGoes means precheck (Copying c next) k gs y v true j gs z u
    settle_fails_goes (line, given, f) = by_fault said.2
      where
        g : Finishes k Outside (IsRefused IsCheckpoint StoreStopped) j
        g = subst (λ l. Finishes k Outside l j) (same_Some line (IsRefused IsCheckpoint StoreStopped) (sym given ∙ ap (λ (m : CheckpointError). line_in (Err m)) said.0)) f

        by_fault : FailsToWrite means y v (image_name (side_in c)) (place_of c.copied) (length c.table) u → StepGoes means precheck (Copying c next) k gs y v true j gs z u
        by_fault (inl h) s B p w a stood of fits = to_end true s B p w a fits.sound (flush_fails_settle means precheck s B p w a gs y v k j stood of c next fits (runs_here s B p w stood) u longer h
            (finished_client k j Outside _ g) (finished_lines k j Outside _ g) (finished_rest k j Outside _ g ∙ behind_is k fits.making.more CheckpointAct fits.making.makes) g.stands)
        by_fault (inr h) s B p w a stood of fits = to_end true s B p w a fits.sound (table_fails_settle means precheck s B p w a gs y v k j stood of c next fits (runs_here s B p w stood) u longer (place_of c.copied) (length c.table) h
            (finished_client k j Outside _ g) (finished_lines k j Outside _ g) (finished_rest k j Outside _ g ∙ behind_is k fits.making.more CheckpointAct fits.making.makes) g.stands)

    settle_fails_silent_there : Unsaid k (Err e) j → StepGoes means precheck (Copying c next) k gs y v false j gs z u
    settle_fails_silent_there (inl (none, is_same)) = let never : Some (IsRefused IsCheckpoint StoreStopped) ≡ None = ap (λ (m : CheckpointError). line_in (Err m)) (sym said.0) ∙ none in absurd (cc)
    settle_fails_silent_there (inr (line, given, f)) = by_fault said.2
      where
        by_fault : FailsToWrite means y v (image_name (side_in c)) (place_of c.copied) (length c.table) u → StepGoes means precheck (Copying c next) k gs y v false j gs z u
        by_fault (inl h) s B p w a stood of fits = to_end false s B p w a fits.sound (flush_fails_silent means precheck s B p w a gs y v k j stood of c next fits (runs_here s B p w stood) u longer h f.transcript)
        by_fault (inr h) s B p w a stood of fits = to_end false s B p w a fits.sound (table_fails_silent means precheck s B p w a gs y v k j stood of c next fits (runs_here s B p w stood) u longer (place_of c.copied) (length c.table) h f.transcript)

    pub settle_fails_silent_goes : (ok : Bool) → ok ≡ false → Unsaid k (Err e) j → StepGoes means precheck (Copying c next) k gs y v ok j gs z u
    settle_fails_silent_goes ok err f = unsaid_goes means precheck (Copying c next) k j gs gs y z v u ok err (settle_fails_silent_there f)

  -- ---- the audit can't begin
  module _ {T : Type 0} (d : Checkpointed) (r : Result T SystemError) (f : SystemError) (x m z : SystemState) (u : Vaulted V) (all : c.copied ≡ regions c.header.geometry)
      (said : Writes means y v (image_name (side_in c)) (place_of c.copied) c.table u) (longer : IsNoShorter means.told v u) (is : d ≡ record c { settled = Some y.records }) (took : x ≡ taken y)
      (refused : r ≡ Err f) (memory : audit_refusal x AuditBegin ≡ None → IfErr r (λ e. e ≡ IsMemory)) (told_is : IfSome (audit_refusal x AuditBegin) (λ e. r ≡ Err e)) (same : m ≡ x) (ends : z ≡ given_up d.faulted m) where
    -- the log is full, or memory was refused
    abbrev Case : Type 0
    Case = ((f ≡ IsFull y.end (y.limit + 1048576)) × (y.limit + 1048576 < y.end + 1)) ⊎ (f ≡ IsMemory)

    case : Case
    case = by_test (nat_lt (y.limit + 1048576) (y.end + 1)) refl
      where
        refusal_is : (b : Bool) → nat_lt (y.limit + 1048576) (y.end + 1) ≡ b → audit_refusal x AuditBegin ≡ (if b then Some (IsFull y.end (y.limit + 1048576)) else None)
        refusal_is b e = ap (λ (n : SystemState). audit_refusal n AuditBegin) took ∙ (ap (λ (o : Option Cause). room_of o y.end (y.limit + 1048576) 1) stop ∙ ap (λ (t : Bool). if t then Some (IsFull y.end (y.limit + 1048576)) else None) e)

        by_test : (b : Bool) → nat_lt (y.limit + 1048576) (y.end + 1) ≡ b → Case
        by_test true e = inl (of_told r (audit_refusal x AuditBegin) f refused told_is (IsFull y.end (y.limit + 1048576)) (refusal_is true e), ltb-true (y.limit + 1048576) (y.end + 1) e)
        by_test false e = inr (in_err (λ g. g ≡ IsMemory) r f refused (memory (refusal_is false e)))

    to_rest : (ok : Bool) (s : Start) (B : List (List Record)) (p : Point) (w : World) (a : Standing) → c.faulted ≡ false
        → Went means precheck s B p w a (Copying c next) gs y v ok j gs (in_checkpoint (taken y) false) u → Went means precheck s B p w a (Copying c next) gs y v ok j gs z u
    to_rest ok s B p w a sound went = subst (λ (n : SystemState). Went means precheck s B p w a (Copying c next) gs y v ok j gs n u)
        (sym (ends ∙ (ap (λ (b : Bool). given_up b m) (ap (λ (n : Checkpointed). n.faulted) is ∙ sound) ∙ ap (λ (n : SystemState). in_checkpoint n false) (same ∙ took)))) went

    pub no_audit_goes : SaysEnd k (Err (checkpoint_error f)) j → StepGoes means precheck (Copying c next) k gs y v true j gs z u
    no_audit_goes (line, given, h) = by_case case
      where
        by_case : Case → StepGoes means precheck (Copying c next) k gs y v true j gs z u
        by_case (inl full) = λ s B p w a stood of fits.
            let g : Finishes k Outside (IsRefused IsCheckpoint (IsFullLog y.end (y.limit + 1048576))) j = subst (λ l. Finishes k Outside l j) (same_Some line (IsRefused IsCheckpoint (IsFullLog y.end (y.limit + 1048576))) (sym given ∙ ap (λ (n : SystemError). line_in (Err (checkpoint_error n))) full.0)) h in
            to_rest true s B p w a fits.sound (full_settle means precheck s B p w a gs y v k j stood of c next fits (runs_here s B p w stood) u all said longer stop full.1
            (finished_client k j Outside _ g) (finished_lines k j Outside _ g) (finished_rest k j Outside _ g ∙ behind_is k fits.making.more CheckpointAct fits.making.makes) g.stands)
        by_case (inr none) = let never : None ≡ Some line = ap (λ (n : SystemError). line_in (Err (checkpoint_error n))) (sym none) ∙ given in absurd (cc)

    no_audit_silent_there : Unsaid k (Err (checkpoint_error f)) j → StepGoes means precheck (Copying c next) k gs y v false j gs z u
    no_audit_silent_there unsaid = by_case case unsaid
      where
        by_case : Case → Unsaid k (Err (checkpoint_error f)) j → StepGoes means precheck (Copying c next) k gs y v false j gs z u
        by_case (inl full) (inl (none, is_same)) = let never : Some (IsRefused IsCheckpoint (IsFullLog y.end (y.limit + 1048576))) ≡ None = ap (λ (n : SystemError). line_in (Err (checkpoint_error n))) (sym full.0) ∙ none in absurd (cc)
        by_case (inl full) (inr (line, given, h)) = λ s B p w a stood of fits.
            to_rest false s B p w a fits.sound (full_silent means precheck s B p w a gs y v k j stood of c next fits (runs_here s B p w stood) u all said longer stop full.1 h.transcript)
        by_case (inr memory_is) (inl (none, is_same)) = λ s B p w a stood of fits.
            to_rest false s B p w a fits.sound (no_audit means precheck s B p w a gs y v k j stood of c next fits (runs_here s B p w stood) u all said longer (ap (λ (n : Client). n.transcript) is_same))
        by_case (inr memory_is) (inr (line, given, h)) = let never : None ≡ Some line = ap (λ (n : SystemError). line_in (Err (checkpoint_error n))) (sym memory_is) ∙ given in absurd (cc)

    pub no_audit_silent_goes : (ok : Bool) → ok ≡ false → Unsaid k (Err (checkpoint_error f)) j → StepGoes means precheck (Copying c next) k gs y v ok j gs z u
    no_audit_silent_goes ok err f = unsaid_goes means precheck (Copying c next) k j gs gs y z v u ok err (no_audit_silent_there f)
