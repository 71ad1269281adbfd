-- The step functions of a checkpoint, by what the calls in them say.
use Rattle.std.proofs.Common.{◌≡◌, ℕ, ◌+◌, Bool, true, false, List, Option, Some, None, is_some, Result, Ok, Err, IfErr, IfSome, IsErrOf, refl, ap, sym, subst, ◌∙◌, ◌⊎◌, inl, inr}
use Rattle.std.proofs.lemmas.Option.{same_Some}
use Rattle.dali_region.specs.State.{RegionState}
use Rattle.dali_store.specs.Store.{Files as Disk}
use Rattle.dali_store.specs.declared.store.Store.{Ghosts}
use Rattle.dali_runs.specs.declared.causes.Cause.{Cause}
use Rattle.dali_runs.specs.State.{SystemState}
use Rattle.dali_runs.specs.Steps.{taken, store_stopped, in_checkpoint}
use Rattle.dali_crash.specs.Checkpoints.{side_of}
use Rattle.dali_crash.specs.Disks.Disks.{image_name}
use Rattle.dali_core.specs.Vault.Vaulted.{Vaulted}
use Rattle.dali_checkpoint.specs.Kept.{Checkpointed, cause_of, cause_in}
use Rattle.dali_checkpoint.specs.Done.{FailsToWrite, HasStarted}
use Rattle.dali_core.specs.Cores.{IsNoShorter}
use Rattle.dali_checkpoint.specs.declared.error.CheckpointError.{CheckpointError}
use Rattle.dali_checkpoint.specs.declared.error.CheckpointError.TheVariants.{InProgress, Stopped, Fault, OutOfMemory}
use Rattle.dali_transcripts.specs.declared.clients.command.Command.TheVariants.{Checkpoint as IsCheckpoint}
use Rattle.dali_transcripts.specs.declared.clients.line.Line.{Line}
use Rattle.dali_transcripts.specs.declared.clients.line.Line.TheVariants.{Refused as IsRefused}
use Rattle.dali_transcripts.specs.declared.clients.line.Why.TheVariants.{Stopped as IsStopped, StoreStopped, InProgress as IsInProgress}
use Rattle.dali_transcripts.specs.Words.{StoppedBy, UnderWay}
use Rattle.dali_checkpoint.proofs.Results.{has_cause}
use Rattle.dali_turns.specs.declared.client.Client.{Client}
use Rattle.dali_turns.specs.declared.client.State.TheVariants.{Outside, Copying}
use Rattle.dali_turns.specs.Clients.{next_of, Finishes}
use Rattle.dali_turns.specs.Endings.{line_in, SaysEnd, Unsaid}
use Rattle.dali_turns.specs.Fits.{rest_of}
use Rattle.dali_turns.specs.Goes.{Went, StepGoes}
use Rattle.dali_turns.proofs.Commands.{unsaid_goes, behind_next, next_act, finished_rest, finished_lines, finished_client}
use Rattle.dali_turns.proofs.Ending.{vault_runs}
use Rattle.dali_turns.proofs.Starting.{starts, refusal_stop, refusal_under_way, refused_start, silent_start, no_start}
use Rattle.dali_turns.proofs.Unstarted.{flush_fails_start, flush_fails_start_silent, header_fails_start, header_fails_start_silent}

-- ---- answers
same_error : {T : Type 0} (a b : CheckpointError) → (let r : Result T CheckpointError = Err a in r ≡ Err b) → a ≡ b
same_error a b e = cc

one_cause : {V : Type 0} (y : SystemState) (v : Vaulted V) (cause : Cause) → y.stop ≡ Some cause → cause_of y v ≡ Some cause
one_cause y v cause stop = ap (λ (o : Option Cause). cause_in o v.stopped) stop

-- who answers Ok isn't stopped
no_stop : {T : Type 0} (r : Result T CheckpointError) (x : T) → r ≡ Ok x → (o : Option Cause) → IfSome o (λ cause. r ≡ Err (Stopped cause)) → o ≡ None
no_stop r x is None h = refl
no_stop r x is (Some cause) h = absurd (cc)

pub err_is : {T : Type 0} (r : Result T CheckpointError) (e f : CheckpointError) → r ≡ Err e → r ≡ Err f → e ≡ f
err_is r e f is there = cc

if_err : {T : Type 0} (P : CheckpointError → Type 0) (r : Result T CheckpointError) (e : CheckpointError) → r ≡ Err e → IfErr r P → P e
if_err P (Err f) e is h = subst P (err_is (Err f) f e refl is) h
if_err P (Ok x) e is h = absurd (cc)

module _ {V : Type 0} (means : Ghosts V) (precheck : Bool) (k j : Client) (gs : List RegionState) (y : SystemState) (v : Vaulted V) where
  -- ---- a start
  module _ (next : next_of k ≡ Some IsCheckpoint) where
    pub starts_goes : {T : Type 0} (r : Result T CheckpointError) (x : T) → r ≡ Ok x → (c : Checkpointed) (z : SystemState) (u : Vaulted V) → HasStarted means y v c u → IsNoShorter means.told v u → y.checking ≡ false
        → (y.checking ≡ false → IfSome (cause_of y v) (λ cause. r ≡ Err (Stopped cause))) → z ≡ in_checkpoint (taken y) true
        → j ≡ record k { state = Copying c 0 } → StepGoes means precheck Outside k gs y v true j gs z u
    starts_goes r x is c z u started longer clear stopped left now s B p w a stood of fits =
        subst (λ (m : SystemState). Went means precheck s B p w a Outside gs y v true j gs m u) (sym left)
        (starts means precheck s B p w a gs y v k j stood of fits (behind_next k) (next_act k IsCheckpoint next) (none_by y.stop (no_stop r x is (cause_of y v) (stopped clear))) clear c u started longer
        (ap (λ (m : Client). m.transcript) now) (ap rest_of now) (ap (λ (m : Client). m.state) now))
      where
        none_by : (o : Option Cause) → cause_in o v.stopped ≡ None → o ≡ None
        none_by None e = refl
        none_by (Some cause) e = absurd (cc)

    -- it is refused
    module _ {T : Type 0} (r : Result T CheckpointError) (e : CheckpointError) (is_err : r ≡ Err e) (z : SystemState) (u : Vaulted V)
        (in_progress_is : y.checking ≡ true → r ≡ Err InProgress) (alone_is : IsErrOf r InProgress → y.checking ≡ true)
        (stopped_is : y.checking ≡ false → IfSome (cause_of y v) (λ cause. r ≡ Err (Stopped cause))) (runs_is : cause_of y v ≡ None → IfErr r (λ f. (f ≡ InProgress) ⊎ ((f ≡ Fault) ⊎ (f ≡ OutOfMemory))))
        (stops_is : IsErrOf r Fault → z ≡ store_stopped (taken y)) (fault_is : IsErrOf r Fault → FailsToWrite means y v (image_name (side_of (v.current + 1))) 0 64 u)
        (same_is : (IsErrOf r Fault → ⊥) → (z ≡ y) × (u ≡ v)) (longer : IsNoShorter means.told v u) where
      in_progress : y.checking ≡ true → e ≡ InProgress
      in_progress set = err_is r e InProgress is_err (in_progress_is set)

      alone : e ≡ InProgress → y.checking ≡ true
      alone is = alone_is (is_err ∙ ap Err is)

      stopped : y.checking ≡ false → IfSome (cause_of y v) (λ cause. e ≡ Stopped cause)
      stopped clear = by_cause (cause_of y v) (stopped_is clear)
        where
          by_cause : (o : Option Cause) → IfSome o (λ cause. r ≡ Err (Stopped cause)) → IfSome o (λ cause. e ≡ Stopped cause)
          by_cause None h = tt
          by_cause (Some cause) h = err_is r e (Stopped cause) is_err h

      runs : cause_of y v ≡ None → (e ≡ InProgress) ⊎ ((e ≡ Fault) ⊎ (e ≡ OutOfMemory))
      runs none = if_err (λ f. (f ≡ InProgress) ⊎ ((f ≡ Fault) ⊎ (f ≡ OutOfMemory))) r e is_err (runs_is none)

      stops : e ≡ Fault → z ≡ store_stopped (taken y)
      stops is = stops_is (is_err ∙ ap Err is)

      fault : e ≡ Fault → FailsToWrite means y v (image_name (side_of (v.current + 1))) 0 64 u
      fault is = fault_is (is_err ∙ ap Err is)

      same : (e ≡ Fault → ⊥) → (z ≡ y) × (u ≡ v)
      same other = same_is (λ is. other (err_is r e Fault is_err is))

      -- which of the four it is
      abbrev Case : Type 0
      Case = ((e ≡ InProgress) × (y.checking ≡ true)) ⊎ (((cause : Cause) × (e ≡ Stopped cause) × (cause_of y v ≡ Some cause) × (y.checking ≡ false)) ⊎ (((e ≡ Fault) × (y.checking ≡ false) × (cause_of y v ≡ None)) ⊎ (e ≡ OutOfMemory)))

      case : Case
      case = by_flag y.checking refl (cause_of y v) refl
        where
          by_flag : (b : Bool) → y.checking ≡ b → (o : Option Cause) → cause_of y v ≡ o → Case
          by_flag true set o is = inl (in_progress set, set)
          by_flag false clear (Some cause) is = inr (inl (cause, subst (λ (p : Option Cause). IfSome p (λ c. e ≡ Stopped c)) is (stopped clear), is, clear))
          by_flag false clear None is = by_error (runs is)
            where
              by_error : (e ≡ InProgress) ⊎ ((e ≡ Fault) ⊎ (e ≡ OutOfMemory)) → Case
              by_error (inl f) = let set : y.checking ≡ true = alone f in let never : true ≡ false = sym set ∙ clear in absurd (cc)
              by_error (inr (inl f)) = inr (inr (inl (f, clear, is)))
              by_error (inr (inr f)) = inr (inr (inr f))

      apart : (f : CheckpointError) → e ≡ f → (f ≡ Fault → ⊥) → (z ≡ y) × (u ≡ v)
      apart f is other = same (λ g. other (sym is ∙ g))

      -- nothing has changed
      unchanged : (ok : Bool) → (z ≡ y) × (u ≡ v) → StepGoes means precheck Outside k gs y v ok j gs y v → StepGoes means precheck Outside k gs y v ok j gs z u
      unchanged ok left goes = subst (λ (m : SystemState). StepGoes means precheck Outside k gs y v ok j gs m u) (sym left.0) (subst (λ (n : Vaulted V). StepGoes means precheck Outside k gs y v ok j gs y n) (sym left.1) goes)

      told_line : (f : CheckpointError) (line other : Line) → e ≡ f → line_in (Err e) ≡ Some line → line_in (Err f) ≡ Some other → line ≡ other
      told_line f line other is given there = same_Some line other (sym given ∙ (ap (λ (x : CheckpointError). line_in (Err x)) is ∙ there))

      stop_none : (stops : v.stopped ≡ true → is_some y.stop ≡ true) → cause_of y v ≡ None → y.stop ≡ None
      stop_none stops is = by_stop y.stop refl
        where
          by_stop : (o : Option Cause) → y.stop ≡ o → y.stop ≡ None
          by_stop None stop = stop
          by_stop (Some cause) stop = let never : Some cause ≡ None = sym (one_cause y v cause stop) ∙ is in absurd (cc)

      stop_some : (stops : v.stopped ≡ true → is_some y.stop ≡ true) (cause : Cause) → cause_of y v ≡ Some cause → y.stop ≡ Some cause
      stop_some stops cause is = by_stop y.stop refl
        where
          by_stop : (o : Option Cause) → y.stop ≡ o → y.stop ≡ Some cause
          by_stop (Some c) stop = stop ∙ (sym (one_cause y v c stop) ∙ is)
          by_stop None stop = let never : None ≡ Some cause = sym (has_cause y v stop (vault_runs v.stopped (is_some y.stop) stops (ap is_some stop))) ∙ is in absurd (cc)

      said_none : (o : Option Cause) (said : Bool) → o ≡ None → (said ≡ true → is_some o ≡ true) → said ≡ false
      said_none o true none may = let some : is_some o ≡ true = may refl in let never : is_some o ≡ false = ap is_some none in absurd (cc)
      said_none o false none may = refl

      pub refused_start_goes : SaysEnd k (Err e) j → StepGoes means precheck Outside k gs y v true j gs z u
      refused_start_goes (line, given, f) = by_case case
        where
          by_case : Case → StepGoes means precheck Outside k gs y v true j gs z u
          by_case (inl h) =
              let g : Finishes k Outside (IsRefused IsCheckpoint IsInProgress) j = subst (λ l. Finishes k Outside l j) (told_line InProgress line (IsRefused IsCheckpoint IsInProgress) h.0 given refl) f in
              unchanged true (apart InProgress h.0 (λ x. absurd (cc))) (λ s B p w a stood of fits.
              refused_start means precheck s B p w a gs y v k j stood of fits (behind_next k) (next_act k IsCheckpoint next) UnderWay
              (refusal_under_way means precheck s B p w a gs y v k j stood of fits (behind_next k) (next_act k IsCheckpoint next) h.1)
              (finished_client k j Outside _ g) (finished_lines k j Outside _ g) (finished_rest k j Outside _ g) g.stands)
          by_case (inr (inl (cause, is, there, clear))) =
              let g : Finishes k Outside (IsRefused IsCheckpoint (IsStopped cause)) j = subst (λ l. Finishes k Outside l j) (told_line (Stopped cause) line (IsRefused IsCheckpoint (IsStopped cause)) is given refl) f in
              unchanged true (apart (Stopped cause) is (λ x. absurd (cc))) (λ s B p w a stood of fits.
              refused_start means precheck s B p w a gs y v k j stood of fits (behind_next k) (next_act k IsCheckpoint next) (StoppedBy cause)
              (refusal_stop means precheck s B p w a gs y v k j stood of fits (behind_next k) (next_act k IsCheckpoint next) cause (stop_some stood.stops cause there) clear)
              (finished_client k j Outside _ g) (finished_lines k j Outside _ g) (finished_rest k j Outside _ g) g.stands)
          by_case (inr (inr (inl (is, clear, none)))) =
              let g : Finishes k Outside (IsRefused IsCheckpoint StoreStopped) j = subst (λ l. Finishes k Outside l j) (told_line Fault line (IsRefused IsCheckpoint StoreStopped) is given refl) f in
              subst (λ (m : SystemState). StepGoes means precheck Outside k gs y v true j gs m u) (sym (stops is)) (by_fault g (fault is))
            where
              by_fault : Finishes k Outside (IsRefused IsCheckpoint StoreStopped) j → FailsToWrite means y v (image_name (side_of (v.current + 1))) 0 64 u → StepGoes means precheck Outside k gs y v true j gs (store_stopped (taken y)) u
              by_fault g (inl said) s B p w a stood of fits =
                  flush_fails_start means precheck s B p w a gs y v u k j stood of fits (behind_next k) (next_act k IsCheckpoint next) (said_none y.stop fits.said (stop_none stood.stops none) fits.may) clear longer said
                  (finished_client k j Outside _ g) (finished_lines k j Outside _ g) (finished_rest k j Outside _ g) g.stands
              by_fault g (inr said) s B p w a stood of fits =
                  header_fails_start means precheck s B p w a gs y v u k j stood of fits (behind_next k) (next_act k IsCheckpoint next) (said_none y.stop fits.said (stop_none stood.stops none) fits.may) clear longer said
                  (finished_client k j Outside _ g) (finished_lines k j Outside _ g) (finished_rest k j Outside _ g) g.stands
          by_case (inr (inr (inr is))) = let never : None ≡ Some line = ap (λ (x : CheckpointError). line_in (Err x)) (sym is) ∙ given in absurd (cc)

      unsaid_start_there : Unsaid k (Err e) j → StepGoes means precheck Outside k gs y v false j gs z u
      unsaid_start_there (inl (none, is_same)) = by_case case
        where
          by_case : Case → StepGoes means precheck Outside k gs y v false j gs z u
          by_case (inl h) = let never : Some (IsRefused IsCheckpoint IsInProgress) ≡ None = ap (λ (x : CheckpointError). line_in (Err x)) (sym h.0) ∙ none in absurd (cc)
          by_case (inr (inl (cause, is, there, clear))) = let never : Some (IsRefused IsCheckpoint (IsStopped cause)) ≡ None = ap (λ (x : CheckpointError). line_in (Err x)) (sym is) ∙ none in absurd (cc)
          by_case (inr (inr (inl (is, clear, free)))) = let never : Some (IsRefused IsCheckpoint StoreStopped) ≡ None = ap (λ (x : CheckpointError). line_in (Err x)) (sym is) ∙ none in absurd (cc)
          by_case (inr (inr (inr is))) = unchanged false (apart OutOfMemory is (λ x. absurd (cc))) (λ s B p w a stood of fits.
              no_start means precheck s B p w a gs y v k j stood of fits (behind_next k) (next_act k IsCheckpoint next) (ap (λ (x : Client). x.transcript) is_same))
      unsaid_start_there (inr (line, given, f)) = by_case case
        where
          by_case : Case → StepGoes means precheck Outside k gs y v false j gs z u
          by_case (inl h) = unchanged false (apart InProgress h.0 (λ x. absurd (cc))) (λ s B p w a stood of fits.
              silent_start means precheck s B p w a gs y v k j stood of fits (behind_next k) (next_act k IsCheckpoint next) UnderWay
              (refusal_under_way means precheck s B p w a gs y v k j stood of fits (behind_next k) (next_act k IsCheckpoint next) h.1) f.transcript)
          by_case (inr (inl (cause, is, there, clear))) = unchanged false (apart (Stopped cause) is (λ x. absurd (cc))) (λ s B p w a stood of fits.
              silent_start means precheck s B p w a gs y v k j stood of fits (behind_next k) (next_act k IsCheckpoint next) (StoppedBy cause)
              (refusal_stop means precheck s B p w a gs y v k j stood of fits (behind_next k) (next_act k IsCheckpoint next) cause (stop_some stood.stops cause there) clear) f.transcript)
          by_case (inr (inr (inl (is, clear, none)))) = subst (λ (m : SystemState). StepGoes means precheck Outside k gs y v false j gs m u) (sym (stops is)) (by_fault (fault is))
            where
              by_fault : FailsToWrite means y v (image_name (side_of (v.current + 1))) 0 64 u → StepGoes means precheck Outside k gs y v false j gs (store_stopped (taken y)) u
              by_fault (inl said) s B p w a stood of fits =
                  flush_fails_start_silent means precheck s B p w a gs y v u k j stood of fits (behind_next k) (next_act k IsCheckpoint next) (said_none y.stop fits.said (stop_none stood.stops none) fits.may) clear longer said f.transcript
              by_fault (inr said) s B p w a stood of fits =
                  header_fails_start_silent means precheck s B p w a gs y v u k j stood of fits (behind_next k) (next_act k IsCheckpoint next) (said_none y.stop fits.said (stop_none stood.stops none) fits.may) clear longer said f.transcript
          by_case (inr (inr (inr is))) = let never : None ≡ Some line = ap (λ (x : CheckpointError). line_in (Err x)) (sym is) ∙ given in absurd (cc)

      pub unsaid_start_goes : (ok : Bool) → ok ≡ false → Unsaid k (Err e) j → StepGoes means precheck Outside k gs y v ok j gs z u
      unsaid_start_goes ok err f = unsaid_goes means precheck Outside k j gs gs y z v u ok err (unsaid_start_there f)
