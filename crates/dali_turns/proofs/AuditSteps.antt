-- The step functions of an audit, by what the calls in them say.
use Rattle.std.proofs.Common.{◌≡◌, ℕ, ◌+◌, ◌<◌, ◌≤◌, ◌^◌, Bool, true, false, List, [], ◌∷◌, length, replicate, map, drop, Option, Some, None, Result, Ok, Err, IfErr, IfSome, refl, ap, sym, subst, ◌∙◌, arith}
use Rattle.std.specs.Prelude.{slice_get, slice_set}
use Rattle.std.proofs.lemmas.Option.{same_Some}
use Rattle.dali_geometry.specs.Places.{regions}
use Rattle.dali_record.specs.declared.records.Record.TheVariants.{AuditBegin}
use Rattle.dali_region.specs.State.{RegionState, checked}
use Rattle.dali_store.specs.Store.{Files as Disk}
use Rattle.dali_store.specs.declared.store.Store.{Ghosts}
use Rattle.dali_runs.specs.declared.causes.Cause.{Cause}
use Rattle.dali_runs.specs.State.{SystemState}
use Rattle.dali_runs.specs.Steps.{audit_begun, audit_ended, taken, store_stopped}
use Rattle.dali_system.specs.declared.error.SystemError.{SystemError}
use Rattle.dali_system.specs.declared.error.SystemError.TheVariants.{Stopped, OutOfMemory}
use Rattle.dali_system.specs.Refused.{stop_of}
use Rattle.dali_system.specs.Audits.{audit_refusal}
use Rattle.dali_core.specs.Vault.Vaulted.{Vaulted}
use Rattle.dali_core.specs.Cores.{IsWholeCore}
use Rattle.dali_core.specs.Flushed.{FlushesAll, FlushFails}
use Rattle.dali_audit.specs.declared.audit.Finding.TheVariants.{Waiting}
use Rattle.dali_audit.specs.Findings.{Audited, finding_of, damaged, AllPassed}
use Rattle.dali_transcripts.specs.declared.clients.command.Command.{Command}
use Rattle.dali_transcripts.specs.declared.clients.command.Command.TheVariants.{Audit as IsAudit}
use Rattle.dali_transcripts.specs.declared.clients.line.Line.TheVariants.{Refused as IsRefused, Audited as IsAudited}
use Rattle.dali_transcripts.specs.declared.clients.line.Why.{Why}
use Rattle.dali_transcripts.specs.declared.clients.line.Why.TheVariants.{Stopped as IsStopped, StoreStopped}
use Rattle.dali_transcripts.specs.Clients.Told.{act_of, reason_of}
use Rattle.dali_transcripts.specs.Words.{Act, Audits as AuditAct}
use Rattle.dali_turns.specs.declared.client.Client.{Client}
use Rattle.dali_turns.specs.declared.client.State.{State}
use Rattle.dali_turns.specs.declared.client.State.TheVariants.{Outside, Auditing}
use Rattle.dali_turns.specs.Whys.{why_in}
use Rattle.dali_turns.specs.Clients.{next_of, Passes, Finishes}
use Rattle.dali_turns.specs.Fits.{rest_of}
use Rattle.dali_turns.specs.Goes.{Went, StepGoes}
use Rattle.dali_turns.proofs.Commands.{unsaid_goes, behind_next, next_act, finished_rest, finished_lines, finished_client}
use Rattle.dali_turns.proofs.Guarding.{Always}
use Rattle.dali_turns.proofs.Passing.{all_passed}
use Rattle.dali_turns.proofs.Auditing.{has_room, RefusesAudit, audit_why, begins, refusal, refused_begin, silent_begin, no_begin, passes}
use Rattle.dali_turns.proofs.Ending.{ends, ends_silent, fails_end, fails_silent, stops_end, stops_silent, no_end}

same_error : {T : Type 0} (r : Result T SystemError) (a b : SystemError) → r ≡ Err a → r ≡ Err b → a ≡ b
same_error r a b e f = cc

pub of_told : {T : Type 0} (r : Result T SystemError) (o : Option SystemError) (e : SystemError) → r ≡ Err e → IfSome o (λ f. r ≡ Err f) → (f : SystemError) → o ≡ Some f → e ≡ f
of_told r None e is told f some = absurd (cc)
of_told r (Some g) e is told f some = same_error r e g is told ∙ same_Some g f some

pub in_err : {T : Type 0} (P : SystemError → Type 0) (r : Result T SystemError) (e : SystemError) → r ≡ Err e → IfErr r P → P e
in_err P (Err f) e is h = subst P (error_same f e is) h
  where
    error_same : {T : Type 0} (a b : SystemError) → (let r : Result T SystemError = Err a in r ≡ Err b) → a ≡ b
    error_same a b same = cc
in_err P (Ok x) e is h = absurd (cc)

-- the commands behind the one under way
pub behind_is : (k : Client) (more : List Act) (act : Act) → rest_of k ≡ act ∷ more → behind_next k ≡ more
behind_is k more act next = by_rest k.rest.now next
  where
    tail_same : (b c : Act) (xs ys : List Act) → b ∷ xs ≡ c ∷ ys → xs ≡ ys
    tail_same b c xs ys same = cc

    by_rest : (xs : List Command) → map act_of xs ≡ act ∷ more → map act_of (drop 1 xs) ≡ more
    by_rest [] e = absurd (cc)
    by_rest (x ∷ xs) e = tail_same (act_of x) act (map act_of xs) more e

module _ {V : Type 0} (means : Ghosts V) (precheck : Bool) (k j : Client) (gs : List RegionState) (y : SystemState) (v : Vaulted V) where
  -- the system that is left is this one
  to_system : (state : State) (ok : Bool) (hs : List RegionState) (x z : SystemState) (u : Vaulted V) → z ≡ x → StepGoes means precheck state k gs y v ok j hs x u → StepGoes means precheck state k gs y v ok j hs z u
  to_system state ok hs x z u is goes = subst (λ (m : SystemState). StepGoes means precheck state k gs y v ok j hs m u) (sym is) goes

  -- ---- the begin
  module _ (next : next_of k ≡ Some IsAudit) (z : SystemState) where
    pub begins_goes : (audit : Audited) → audit ≡ record { begin = y.records; findings = replicate (regions y.sizes) Waiting } → audit_refusal y AuditBegin ≡ None → y.records < 2 ^ 64 → regions y.sizes < 2 ^ 32
        → j ≡ record k { state = Auditing audit 0 } → z ≡ audit_begun y → StepGoes means precheck Outside k gs y v true j gs z v
    begins_goes audit is free number count now left = to_system Outside true gs (audit_begun y) z v left (λ s B p w a stood of fits.
        let room = has_room y.stop y.end (y.limit + 1048576) 1 free in
        begins means precheck s B p w a gs y v k j stood of fits (behind_next k) (next_act k IsAudit next) room.0 room.1 audit (ap (λ (x : Audited). x.begin) is) (ap (λ (x : Audited). x.findings) is) number count
        (ap (λ (x : Client). x.transcript) now) (ap rest_of now) (ap (λ (x : Client). x.state) now))

    module _ {T : Type 0} (r : Result T SystemError) (e : SystemError) (is : r ≡ Err e) (memory : audit_refusal y AuditBegin ≡ None → IfErr r (λ f. f ≡ OutOfMemory)) (told_is : IfSome (audit_refusal y AuditBegin) (λ f. r ≡ Err f)) (left : z ≡ y) where
      why_is : (why : Why) → why_in e ≡ Some why → RefusesAudit y why
      why_is why given = audit_why y e why (λ none. in_err (λ f. f ≡ OutOfMemory) r e is (memory none)) (of_told r (audit_refusal y AuditBegin) e is told_is) given

      pub refused_goes : (why : Why) → why_in e ≡ Some why → Finishes k Outside (IsRefused IsAudit why) j → StepGoes means precheck Outside k gs y v true j gs z v
      refused_goes why given f = to_system Outside true gs y z v left (λ s B p w a stood of fits.
          refused_begin means precheck s B p w a gs y v k j stood of fits (behind_next k) (next_act k IsAudit next) (reason_of why)
          (refusal means precheck s B p w a gs y v k j stood of fits (behind_next k) (next_act k IsAudit next) why (why_is why given))
          (finished_client k j Outside (IsRefused IsAudit why) f) (finished_lines k j Outside (IsRefused IsAudit why) f) (finished_rest k j Outside (IsRefused IsAudit why) f) f.stands)

      silent_there : (why : Why) → why_in e ≡ Some why → Passes k Outside j → StepGoes means precheck Outside k gs y v false j gs z v
      silent_there why given f = to_system Outside false gs y z v left (λ s B p w a stood of fits.
          silent_begin means precheck s B p w a gs y v k j stood of fits (behind_next k) (next_act k IsAudit next) (reason_of why)
          (refusal means precheck s B p w a gs y v k j stood of fits (behind_next k) (next_act k IsAudit next) why (why_is why given))
          f.transcript)

      pub silent_goes : (ok : Bool) → ok ≡ false → (why : Why) → why_in e ≡ Some why → Passes k Outside j → StepGoes means precheck Outside k gs y v ok j gs z v
      silent_goes ok err why given f = unsaid_goes means precheck Outside k j gs gs y z v v ok err (silent_there why given f)

    no_begin_there : j ≡ k → z ≡ y → StepGoes means precheck Outside k gs y v false j gs z v
    no_begin_there same left = to_system Outside false gs y z v left (λ s B p w a stood of fits.
        no_begin means precheck s B p w a gs y v k j stood of fits (behind_next k) (next_act k IsAudit next) (ap (λ (x : Client). x.transcript) same))

    pub no_begin_goes : (ok : Bool) → ok ≡ false → j ≡ k → z ≡ y → StepGoes means precheck Outside k gs y v ok j gs z v
    no_begin_goes ok err same left = unsaid_goes means precheck Outside k j gs gs y z v v ok err (no_begin_there same left)

  -- ---- a pass, and the end
  module _ (audit : Audited) (next : ℕ) where
    pub may_pass : next < length gs → Always means precheck (Auditing audit next) k gs y v (slice_get audit.findings next ≡ Some Waiting)
    may_pass less s B p w a stood of fits = fits.passing.waits next (omega arith) (omega (arith, less, fits.passing.count, stood.stands.whole.regions, ap length stood.stands.at.regions))

    pub passes_goes : (g h : RegionState) → slice_get gs next ≡ Some g → h ≡ checked g → (later : Audited) → later ≡ record audit { findings = slice_set audit.findings next (finding_of g.stray) } → j ≡ record k { state = Auditing later (next + 1) }
        → (hs : List RegionState) → hs ≡ slice_set gs next h → StepGoes means precheck (Auditing audit next) k gs y v true j hs y v
    passes_goes g h at is later passes_is now hs left s B p w a stood of fits =
        subst (λ (l : List RegionState). Went means precheck s B p w a (Auditing audit next) gs y v true j l y v) (sym (left ∙ ap (slice_set gs next) is))
        (passes means precheck s B p w a gs y v k j stood of audit next fits g at (ap (λ (x : Client). x.transcript) now) (ap rest_of now)
        (ap (λ (x : Client). x.state) now ∙ ap (λ (x : Audited). Auditing x (next + 1)) passes_is))

    pub may_end : length gs ≤ next → Always means precheck (Auditing audit next) k gs y v (AllPassed audit.findings)
    may_end all s B p w a stood of fits = all_passed p w audit next fits.passing (omega (arith, all, stood.stands.whole.regions, ap length stood.stands.at.regions))

    module _ (all : length gs ≤ next) (hs : List RegionState) (left : hs ≡ gs) (x z : SystemState) (u : Vaulted V) (runs : y.stop ≡ None) (logs : z ≡ audit_ended y audit.begin (damaged audit.findings)) (whole : IsWholeCore means.told gs z v → IsWholeCore means.told hs x u) where
      abbrev ending : SystemState
      ending = audit_ended y audit.begin (damaged audit.findings)

      whole_is : IsWholeCore means.told gs ending v → IsWholeCore means.told gs x u
      whole_is = subst (λ (rs : List RegionState). IsWholeCore means.told gs ending v → IsWholeCore means.told rs x u) left (subst (λ (m : SystemState). IsWholeCore means.told gs m v → IsWholeCore means.told hs x u) logs whole)

      to_regions : (ok : Bool) → StepGoes means precheck (Auditing audit next) k gs y v ok j gs x u → StepGoes means precheck (Auditing audit next) k gs y v ok j hs x u
      to_regions ok goes = subst (λ (rs : List RegionState). StepGoes means precheck (Auditing audit next) k gs y v ok j rs x u) (sym left) goes

      module _ (is : x ≡ taken z) (same : u.stopped ≡ v.stopped) (flushes : FlushesAll means gs z v x u) where
        flushes_is : FlushesAll means gs ending v x u
        flushes_is = subst (λ (m : SystemState). FlushesAll means gs m v x u) logs flushes

        pub ends_goes : (found : List ℕ) → found ≡ damaged audit.findings → Finishes k Outside (IsAudited found) j → StepGoes means precheck (Auditing audit next) k gs y v true j hs x u
        ends_goes found found_is g = to_regions true (λ s B p w a stood of fits.
            let f : Finishes k Outside (IsAudited (damaged audit.findings)) j = subst (λ l. Finishes k Outside (IsAudited l) j) found_is g in
            ends means precheck s B p w a gs y v k j stood of audit next fits all runs x u (is ∙ ap taken logs) same whole_is flushes_is
            (finished_client k j Outside (IsAudited (damaged audit.findings)) f) (finished_lines k j Outside (IsAudited (damaged audit.findings)) f)
            (finished_rest k j Outside (IsAudited (damaged audit.findings)) f ∙ behind_is k fits.more AuditAct fits.audits) f.stands)

        ends_silent_there : Passes k Outside j → StepGoes means precheck (Auditing audit next) k gs y v false j gs x u
        ends_silent_there f s B p w a stood of fits = ends_silent means precheck s B p w a gs y v k j stood of audit next fits all runs x u (is ∙ ap taken logs) same whole_is flushes_is f.transcript

        pub ends_silent_goes : (ok : Bool) → ok ≡ false → Passes k Outside j → StepGoes means precheck (Auditing audit next) k gs y v ok j hs x u
        ends_silent_goes ok err f = unsaid_goes means precheck (Auditing audit next) k j gs hs y x v u ok err (to_regions false (ends_silent_there f))

      module _ (is : x ≡ store_stopped (taken z)) (stopped : u.stopped ≡ true) (fails : FlushFails means gs z v x u) where
        fails_is : FlushFails means gs ending v x u
        fails_is = subst (λ (m : SystemState). FlushFails means gs m v x u) logs fails

        pub fails_goes : Finishes k Outside (IsRefused IsAudit StoreStopped) j → StepGoes means precheck (Auditing audit next) k gs y v true j hs x u
        fails_goes f = to_regions true (λ s B p w a stood of fits.
            fails_end means precheck s B p w a gs y v k j stood of audit next fits all runs x u (is ∙ ap (λ (m : SystemState). store_stopped (taken m)) logs) stopped whole_is fails_is
            (finished_client k j Outside (IsRefused IsAudit StoreStopped) f) (finished_lines k j Outside (IsRefused IsAudit StoreStopped) f)
            (finished_rest k j Outside (IsRefused IsAudit StoreStopped) f ∙ behind_is k fits.more AuditAct fits.audits) f.stands)

        fails_silent_there : Passes k Outside j → StepGoes means precheck (Auditing audit next) k gs y v false j gs x u
        fails_silent_there f s B p w a stood of fits =
            fails_silent means precheck s B p w a gs y v k j stood of audit next fits all runs x u (is ∙ ap (λ (m : SystemState). store_stopped (taken m)) logs) stopped whole_is fails_is f.transcript

        pub fails_silent_goes : (ok : Bool) → ok ≡ false → Passes k Outside j → StepGoes means precheck (Auditing audit next) k gs y v ok j hs x u
        fails_silent_goes ok err f = unsaid_goes means precheck (Auditing audit next) k j gs hs y x v u ok err (to_regions false (fails_silent_there f))

    -- the end is refused
    module _ {T : Type 0} (z : SystemState) (r : Result T SystemError) (e : SystemError) (is : r ≡ Err e) (memory : y.stop ≡ None → IfErr r (λ f. f ≡ OutOfMemory)) (told_is : IfSome (stop_of y.stop) (λ f. r ≡ Err f)) (left : z ≡ y) where
      stopped_why : (why : Why) → why_in e ≡ Some why → (cause : Cause) × (y.stop ≡ Some cause) × (why ≡ IsStopped cause)
      stopped_why why given = by_stop y.stop refl
        where
          why_same : (a b : Why) → Some a ≡ Some b → a ≡ b
          why_same a b same = cc

          by_stop : (o : Option Cause) → y.stop ≡ o → (cause : Cause) × (y.stop ≡ Some cause) × (why ≡ IsStopped cause)
          by_stop (Some cause) stop = (cause, stop, why_same why (IsStopped cause) (sym given ∙ ap why_in (of_told r (stop_of y.stop) e is told_is (Stopped cause) (ap stop_of stop))))
          by_stop None stop = let none : Some why ≡ None = sym given ∙ ap why_in (in_err (λ f. f ≡ OutOfMemory) r e is (memory stop)) in absurd (cc)

      pub stops_goes : (why : Why) → why_in e ≡ Some why → Finishes k Outside (IsRefused IsAudit why) j → StepGoes means precheck (Auditing audit next) k gs y v true j gs z v
      stops_goes why given f = to_system (Auditing audit next) true gs y z v left (λ s B p w a stood of fits.
          let h = stopped_why why given in
          let g : Finishes k Outside (IsRefused IsAudit (IsStopped h.0)) j = subst (λ (x : Why). Finishes k Outside (IsRefused IsAudit x) j) h.2 f in
          stops_end means precheck s B p w a gs y v k j stood of audit next fits h.0 h.1
          (finished_client k j Outside (IsRefused IsAudit (IsStopped h.0)) g) (finished_lines k j Outside (IsRefused IsAudit (IsStopped h.0)) g)
          (finished_rest k j Outside (IsRefused IsAudit (IsStopped h.0)) g ∙ behind_is k fits.more AuditAct fits.audits) f.stands)

      stops_silent_there : (why : Why) → why_in e ≡ Some why → Passes k Outside j → StepGoes means precheck (Auditing audit next) k gs y v false j gs z v
      stops_silent_there why given f = to_system (Auditing audit next) false gs y z v left (λ s B p w a stood of fits.
          let h = stopped_why why given in
          stops_silent means precheck s B p w a gs y v k j stood of audit next fits h.0 h.1 f.transcript)

      pub stops_silent_goes : (ok : Bool) → ok ≡ false → (why : Why) → why_in e ≡ Some why → Passes k Outside j → StepGoes means precheck (Auditing audit next) k gs y v ok j gs z v
      stops_silent_goes ok err why given f = unsaid_goes means precheck (Auditing audit next) k j gs gs y z v v ok err (stops_silent_there why given f)

    no_end_there : (z : SystemState) → j ≡ k → z ≡ y → StepGoes means precheck (Auditing audit next) k gs y v false j gs z v
    no_end_there z same left = to_system (Auditing audit next) false gs y z v left (λ s B p w a stood of fits.
        no_end means precheck s B p w a gs y v k j stood of audit next fits (ap (λ (x : Client). x.transcript) same))

    pub no_end_goes : (ok : Bool) → ok ≡ false → (z : SystemState) → j ≡ k → z ≡ y → StepGoes means precheck (Auditing audit next) k gs y v ok j gs z v
    no_end_goes ok err z same left = unsaid_goes means precheck (Auditing audit next) k j gs gs y z v v ok err (no_end_there z same left)
