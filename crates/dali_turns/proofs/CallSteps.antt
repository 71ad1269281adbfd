-- The steps of a call, by what their functions call.
use Rattle.std.proofs.Common.{◌≡◌, ℕ, Bool, true, false, not, List, [], ◌∷◌, map, Option, Some, None, is_some, IfSome, IfErr, Result, Ok, Err, OnErr, is_ok, refl, ap, sym, subst, ◌∙◌, ◌⊎◌, inl, inr}
use Rattle.std.specs.Prelude.{◌&&◌, if◌then◌else◌}
use Rattle.dali_bytes.specs.declared.error.OutOfMemory.{OutOfMemory as NoMemory}
use Rattle.dali_runs.proofs.CountsLemmas.Lists.{some_same}
use Rattle.dali_record.specs.declared.operations.Op.{Op}
use Rattle.dali_record.specs.declared.records.Answer.{Answer}
use Rattle.dali_record.specs.declared.records.Call.{Call}
use Rattle.dali_record.specs.declared.records.Record.{Record}
use Rattle.dali_record.specs.declared.records.Record.TheVariants.{Forward}
use Rattle.dali_record.specs.Log.{last_of}
use Rattle.dali_record.specs.Spelling.{record_length}
use Rattle.dali_region.specs.State.{RegionState}
use Rattle.dali_region.specs.declared.LatchError.TheVariants.{Latched, Damaged as LatchDamaged}
use Rattle.dali_locks.specs.declared.mode.LockAnswer.TheVariants.{Granted}
use Rattle.dali_store.specs.Store.{Files as Disk}
use Rattle.dali_store.specs.declared.store.Store.{Ghosts}
use Rattle.dali_runs.specs.declared.causes.Cause.{Cause}
use Rattle.dali_runs.specs.State.{SystemState, VaultState}
use Rattle.dali_runs.specs.Steps.{done_logged, granted}
use Rattle.dali_core.specs.Vault.Vaulted.{Vaulted}
use Rattle.dali_system.specs.Refused.{stop_of, stop_refusal}
use Rattle.dali_system.specs.declared.error.SystemError.{SystemError}
use Rattle.dali_system.specs.declared.error.SystemError.TheVariants.{Stopped, LogFull, OutOfMemory}
use Rattle.dali_system.specs.declared.want.Want.TheVariants.{Region, Done as AnswerIsNext, Nothing}
use Rattle.dali_calls.specs.Steps.{call_key, answer_of, next_op}
use Rattle.dali_calls.specs.declared.plan.Phase.{Phase}
use Rattle.dali_calls.specs.declared.plan.Phase.TheVariants.{Calling as GoesOn, Refused as GoesBack, Answered}
use Rattle.dali_calls.specs.Plans.{Planned, is_answered, is_back, is_back_in, undo_next, onward_next, commit_refusal, mode_of, plan_next, want_in, want_of, IsWhole}
use Rattle.dali_calls.specs.declared.single.error.StepError.{StepError}
use Rattle.dali_calls.specs.declared.single.error.StepError.TheVariants.{Latch, System}
use Rattle.dali_calls.specs.Single.Refusals.{IsAnswerTo, IsLatched, IsUnanswered, IsRefusedIn, IsRefusal}
use Rattle.dali_calls.specs.Single.Single.{MayCall}
use Rattle.dali_calls.proofs.SingleLemmas.Reaching.{wanted}
use Rattle.dali_calls.specs.Single.Stands.{core, IsAtRest, AtPlan}
use Rattle.dali_calls.specs.Stepwise.Stepwise.{IsNew, IsAsked, OneFurther, IsDeath, AnswersNow}
use Rattle.dali_transcripts.specs.Clients.Said.{said as with_lines}
use Rattle.dali_transcripts.specs.declared.clients.command.Command.{Command}
use Rattle.dali_transcripts.specs.declared.clients.command.Command.TheVariants.{Call as IsCall}
use Rattle.dali_transcripts.specs.declared.clients.line.Line.TheVariants.{Answered, Died as DiedLine}
use Rattle.dali_transcripts.specs.declared.clients.line.Why.{Why}
use Rattle.dali_transcripts.specs.declared.clients.line.Why.TheVariants.{Stopped as IsStopped, Damaged as IsDamaged}
use Rattle.dali_turns.specs.declared.client.Client.{Client}
use Rattle.dali_turns.specs.declared.client.State.{State}
use Rattle.dali_turns.specs.declared.client.State.TheVariants.{Within, Calling, TakingBack, Gone}
use Rattle.dali_turns.specs.declared.client.Transaction.{Transaction}
use Rattle.dali_turns.specs.Clients.{next_of, Passes, Finishes, RefusesCall, Stays}
use Rattle.dali_turns.specs.Calls.{TurnsBack, IsRefusedBy, IsDeadly, IsFurther, MakesNext, call_in}
use Rattle.dali_transcripts.specs.Clients.Told.{act_of, said_of}
use Rattle.dali_turns.specs.Fits.{Fits}
use Rattle.dali_turns.specs.Goes.{Went, StepGoes}
use Rattle.dali_turns.specs.Whys.{why_in}
use Rattle.dali_turns.proofs.Here.{MayStep}
use Rattle.dali_turns.proofs.Commands.{next_act, behind_next}
use Rattle.dali_turns.proofs.Calling.{answer_said, answer_unsaid}
use Rattle.dali_turns.proofs.Operating.{operate_on, back_on}
use Rattle.dali_turns.proofs.Asking.{new_plan, ask_nowhere, waits_on, unasked_said, unasked_unsaid, grants_on}
use Rattle.dali_turns.proofs.Dying.{dies_said, dies_unsaid}
use Rattle.dali_turns.proofs.Hindered.{operation_goes, answer_goes, damaged_goes}
use Rattle.dali_turns.proofs.Reasons.{StopSays, stop_cases, refused_on, damaged_latch, never_latched, command_is}
use Rattle.dali_turns.proofs.Turned.{next_command, back_nowhere, ended_said, ended_unsaid, stuck_said, stuck_unsaid}

pub back_way : (onward back : Bool) → onward ≡ not back → not onward ≡ back
back_way onward true e = ap not e
back_way onward false e = ap not e

pub onward_now : (onward back : Bool) → onward ≡ not back → back ≡ false → onward ≡ true
onward_now onward back e f = e ∙ ap not f

-- why a record that uses no room is refused
pub stop_why : (o : Option Cause) (e : SystemError) (why : Why) → StopSays o e → why_in e ≡ Some why → (stop : Cause) × (why ≡ IsStopped stop) × (o ≡ Some stop)
stop_why o e why (inl (stop, same, up)) given = (stop, some_why (sym (ap why_in same) ∙ given), up)
  where
    some_why : Some (IsStopped stop) ≡ Some why → why ≡ IsStopped stop
    some_why f = cc
stop_why o e why (inr same) given = let both : None ≡ Some why = sym (ap why_in same) ∙ given in absurd (cc)

-- a request that is refused
pub asked_says : {T : Type 0} (y : SystemState) (r : Result T SystemError) (e : SystemError) → r ≡ Err e → IfSome (stop_refusal y) (λ f. r ≡ Err f) → (stop_refusal y ≡ None → IfErr r (λ f. f ≡ OutOfMemory)) → StopSays y.stop e
asked_says {T} y r e is some none = by_stop y.stop refl
  where
    same : (f : SystemError) → r ≡ Err f → e ≡ f
    same f g = let both : Err e ≡ Err f = sym is ∙ g in cc

    by_stop : (o : Option Cause) → y.stop ≡ o → StopSays y.stop e
    by_stop (Some stop) up = inl (stop, same (Stopped stop) (subst (λ (m : Option Cause). IfSome (stop_of m) (λ f. r ≡ Err f)) up some), up)
    by_stop None up = inr (subst (λ (q : Result T SystemError). IfErr q (λ f. f ≡ OutOfMemory)) is (none (ap stop_of up)))

-- and one that is answered
pub ran_there : {T : Type 0} (y : SystemState) (r : Result T SystemError) (a : T) → r ≡ Ok a → IfSome (stop_refusal y) (λ f. r ≡ Err f) → y.stop ≡ None
ran_there {T} y r a is some = by_stop y.stop refl
  where
    never : (f : SystemError) → r ≡ Err f → ⊥
    never f g = let both : Ok a ≡ Err f = sym is ∙ g in absurd (cc)

    by_stop : (o : Option Cause) → y.stop ≡ o → y.stop ≡ None
    by_stop (Some stop) up = absurd (never (Stopped stop) (subst (λ (m : Option Cause). IfSome (stop_of m) (λ f. r ≡ Err f)) up some))
    by_stop None up = up

module _ {V : Type 0} (means : Ghosts V) (precheck : Bool) (gs : List RegionState) (y : SystemState) (v : Vaulted V) (k j : Client) (x : Transaction) where
  -- ---- a call that has its lock
  module _ (plan : Planned) where
    abbrev Answering : Answer → SystemState → Type 0
    Answering given z = (L : List Record) (rs : List RegionState) (o : VaultState) → IsAtRest rs y plan → AtPlan L (core rs y o) plan → AnswersNow L (core rs y o) plan given (core rs z o)

    pub answered_goes : (call : Call) (given : Answer) (z : SystemState) → call_in (next_of k) ≡ Some call → z ≡ done_logged y plan.txn plan.call given → Answering given z → Finishes k (Within x) (Answered call given) j
        → StepGoes means precheck (Calling x plan) k gs y v true j gs z v
    answered_goes call given z next logged answers f s B p w a stood is fits =
        answer_said means precheck s B p w a gs y v k j x plan stood is fits given z logged answers
        (subst (λ c. Finishes k (Within x) (Answered c given) j) (some_same (sym next ∙ ap call_in (command_is k.rest.now fits.call fits.more fits.calls))) f)

    pub answered_silently : (given : Answer) (z : SystemState) (ok : Bool) → ok ≡ false → z ≡ done_logged y plan.txn plan.call given → Answering given z → Passes k (Within x) j
        → StepGoes means precheck (Calling x plan) k gs y v ok j gs z v
    answered_silently given z ok no_line logged answers f s B p w a stood is fits =
        subst (λ b. Went means precheck s B p w a (Calling x plan) gs y v b j gs z v) (sym no_line)
        (answer_unsaid means precheck s B p w a gs y v k j x plan stood is fits given z logged answers f)

    pub unanswered_goes : (q : Planned) (z : SystemState) (e : SystemError) (r : Result Bool NoMemory) → q ≡ plan → z ≡ y → IsWhole plan → want_of plan ≡ AnswerIsNext → IsUnanswered plan y (System e) → IsRefusedBy e k x q r j
        → StepGoes means precheck (Calling x plan) k gs y v (is_ok r) j gs z v
    unanswered_goes q z e r same still whole want why h s B p w a stood is fits =
        subst (λ m. Went means precheck s B p w a (Calling x plan) gs y v (is_ok r) j gs m v) (sym still)
        (answer_goes means precheck s B p w a gs y v k j x plan stood is fits whole e r want why (subst (λ m. IsRefusedBy e k x m r j) same h))

    pub operated_goes : (hs : List RegionState) (z : SystemState) (q : Planned) (x' : Transaction) (onward : Bool) → IsWhole plan → OneFurther precheck plan gs y q hs z → onward ≡ not (is_back plan) → (onward ≡ true → IsDeadly x → ⊥) → IsFurther x (not onward) x'
        → j.transcript ≡ k.transcript → j.rest.now ≡ k.rest.now → j.state ≡ Calling x' q → StepGoes means precheck (Calling x plan) k gs y v true j hs z v
    operated_goes hs z q x' onward whole further way lives f transcript rest state s B p w a stood is fits =
        operate_on means precheck s B p w a gs hs y z v k j x x' plan q stood is fits whole further
        (subst (λ b. IsFurther x b x') (back_way onward (is_back plan) way) f) (λ back deadly. lives (onward_now onward (is_back plan) way back) deadly) transcript rest state

    pub dies_goes : (hs : List RegionState) (z : SystemState) → IsWhole plan → is_back plan ≡ false → IsDeadly x → IsDeath precheck plan gs y hs z → j.transcript ≡ with_lines k.transcript (DiedLine ∷ []) → j.state ≡ Gone
        → StepGoes means precheck (Calling x plan) k gs y v true j hs z v
    dies_goes hs z whole way deadly death line state s B p w a stood is fits =
        dies_said means precheck s B p w a gs hs y z v k j x plan stood is fits whole way deadly death line state

    pub dies_silently : (hs : List RegionState) (z : SystemState) (ok : Bool) → ok ≡ false → IsWhole plan → is_back plan ≡ false → IsDeadly x → IsDeath precheck plan gs y hs z → j.transcript ≡ k.transcript
        → StepGoes means precheck (Calling x plan) k gs y v ok j hs z v
    dies_silently hs z ok no_line whole way deadly death line s B p w a stood is fits =
        subst (λ b. Went means precheck s B p w a (Calling x plan) gs y v b j hs z v) (sym no_line)
        (dies_unsaid means precheck s B p w a gs hs y z v k j x plan stood is fits whole way deadly death line)

    -- its next operation is refused
    pub system_refuses : (region : ℕ) (e : SystemError) (r : Result Bool NoMemory) → IsWhole plan → want_of plan ≡ Region region → IsRefusal precheck plan gs y (System e) → (is_back plan ≡ false → IsDeadly x → IsLatched (System e)) → IsRefusedBy e k x plan r j
        → StepGoes means precheck (Calling x plan) k gs y v (is_ok r) j gs y v
    system_refuses region e r whole want why lives h s B p w a stood is fits = operation_goes means precheck s B p w a gs y v k j x plan stood is fits whole region e r want why lives h

    pub damage_refuses : (region codeword found : ℕ) → IsWhole plan → want_of plan ≡ Region region → IsRefusal precheck plan gs y (Latch (LatchDamaged codeword found)) → TurnsBack k x plan (IsDamaged region codeword found) j
        → StepGoes means precheck (Calling x plan) k gs y v true j gs y v
    damage_refuses region codeword found whole want why h s B p w a stood is fits = damaged_goes means precheck s B p w a gs y v k j x plan stood is fits whole region codeword found want why h

  -- ---- a call that goes back
  module _ (plan : Planned) (why : Why) where
    pub ends_back : IsWhole plan → want_of plan ≡ Nothing → RefusesCall k x why j → StepGoes means precheck (TakingBack x plan why) k gs y v true j gs y v
    ends_back whole none f s B p w a stood is fits =
        ended_said means precheck s B p w a gs y v k j x plan why stood is fits whole none
        (f (IsCall fits.call) (next_command means precheck s B p w a gs y v k j x plan why stood is fits))

    pub ends_back_silently : (ok : Bool) → IsWhole plan → want_of plan ≡ Nothing → ok ≡ false → j.transcript ≡ k.transcript → StepGoes means precheck (TakingBack x plan why) k gs y v ok j gs y v
    ends_back_silently ok whole none no_line same s B p w a stood is fits =
        subst (λ b. Went means precheck s B p w a (TakingBack x plan why) gs y v b j gs y v) (sym no_line)
        (ended_unsaid means precheck s B p w a gs y v k j x plan why stood is fits whole none same)

    pub goes_back : (hs : List RegionState) (z : SystemState) (q : Planned) → OneFurther precheck plan gs y q hs z → j.transcript ≡ k.transcript → j.rest.now ≡ k.rest.now → j.state ≡ TakingBack x q why
        → StepGoes means precheck (TakingBack x plan why) k gs y v true j hs z v
    goes_back hs z q further transcript rest state s B p w a stood is fits =
        back_on means precheck s B p w a gs hs y z v k j x plan q why stood is fits further transcript rest state

    -- a stop in between
    pub stuck_goes : (stop : Cause) → y.stop ≡ Some stop → RefusesCall k x (IsStopped stop) j → StepGoes means precheck (TakingBack x plan why) k gs y v true j gs y v
    stuck_goes stop up f s B p w a stood is fits =
        stuck_said means precheck s B p w a gs y v k j x plan why stood is fits stop up
        (f (IsCall fits.call) (next_command means precheck s B p w a gs y v k j x plan why stood is fits))

    pub stuck_silently : (ok : Bool) (stop : Cause) → ok ≡ false → y.stop ≡ Some stop → j.transcript ≡ k.transcript → StepGoes means precheck (TakingBack x plan why) k gs y v ok j gs y v
    stuck_silently ok stop no_line up same s B p w a stood is fits =
        subst (λ b. Went means precheck s B p w a (TakingBack x plan why) gs y v b j gs y v) (sym no_line)
        (stuck_unsaid means precheck s B p w a gs y v k j x plan why stood is fits stop up same)

    pub stuck_nowhere : (ok : Bool) → ok ≡ false → j.transcript ≡ k.transcript → StepGoes means precheck (TakingBack x plan why) k gs y v ok j gs y v
    stuck_nowhere ok no_line same s B p w a stood is fits =
        subst (λ b. Went means precheck s B p w a (TakingBack x plan why) gs y v b j gs y v) (sym no_line)
        (back_nowhere means precheck s B p w a gs y v k j x plan why stood is fits same)

  -- ---- a request
  module _ (call : Call) (next : next_of k ≡ Some (IsCall call)) where
    pub granted_goes : (z : SystemState) (plan : Planned) → plan ≡ new_plan y.sizes x.txn call
        → ((L : List Record) (rs : List RegionState) (o : VaultState) → IsNew plan → IsAtRest rs y plan → MayCall L (core rs y o) x.txn → IsAsked Granted L (core rs y o) plan (core rs z o))
        → z ≡ granted y x.txn (call_key call) (mode_of call) → y.stop ≡ None → Stays k (Calling x plan) j → StepGoes means precheck (Within x) k gs y v true j gs z v
    granted_goes z plan same asks system runs f s B p w a stood is fits =
        grants_on means precheck s B p w a gs y v k j x call (behind_next k) stood is fits (next_act k (IsCall call) next) z
        (subst (λ (m : Planned). (L : List Record) (rs : List RegionState) (o : VaultState) → IsNew m → IsAtRest rs y m → MayCall L (core rs y o) x.txn → IsAsked Granted L (core rs y o) m (core rs z o)) same asks) system runs (subst (λ m. Stays k (Calling x m) j) same f)

    pub waits_goes : (z : SystemState) → z ≡ y → Stays k (Within x) j → StepGoes means precheck (Within x) k gs y v true j gs z v
    waits_goes z same f s B p w a stood is fits =
        subst (λ m. Went means precheck s B p w a (Within x) gs y v true j gs m v) (sym same)
        (waits_on means precheck s B p w a gs y v k j x call (behind_next k) stood is fits (next_act k (IsCall call) next) f)

    pub unasked_goes : (z : SystemState) (stop : Cause) → z ≡ y → y.stop ≡ Some stop → RefusesCall k x (IsStopped stop) j → StepGoes means precheck (Within x) k gs y v true j gs z v
    unasked_goes z stop same up f s B p w a stood is fits =
        subst (λ m. Went means precheck s B p w a (Within x) gs y v true j gs m v) (sym same)
        (unasked_said means precheck s B p w a gs y v k j x call (behind_next k) stood is fits (next_act k (IsCall call) next) stop up (f (IsCall call) next))

    pub unasked_silently : (z : SystemState) (ok : Bool) (stop : Cause) → z ≡ y → ok ≡ false → y.stop ≡ Some stop → j.transcript ≡ k.transcript → StepGoes means precheck (Within x) k gs y v ok j gs z v
    unasked_silently z ok stop still no_line up same s B p w a stood is fits =
        subst (λ m. Went means precheck s B p w a (Within x) gs y v ok j gs m v) (sym still)
        (subst (λ b. Went means precheck s B p w a (Within x) gs y v b j gs y v) (sym no_line)
        (unasked_unsaid means precheck s B p w a gs y v k j x call (behind_next k) stood is fits (next_act k (IsCall call) next) stop up same))

    pub unasked_nowhere : (z : SystemState) (ok : Bool) → z ≡ y → ok ≡ false → j.transcript ≡ k.transcript → StepGoes means precheck (Within x) k gs y v ok j gs z v
    unasked_nowhere z ok still no_line same s B p w a stood is fits =
        subst (λ m. Went means precheck s B p w a (Within x) gs y v ok j gs m v) (sym still)
        (subst (λ b. Went means precheck s B p w a (Within x) gs y v b j gs y v) (sym no_line)
        (ask_nowhere means precheck s B p w a gs y v k j x call (behind_next k) stood is fits (next_act k (IsCall call) next) same))

-- ---- what they ask for, as a run has it
module _ {V : Type 0} (means : Ghosts V) (gs : List RegionState) (y : SystemState) (v : Vaulted V) (k : Client) (x : Transaction) where
  module _ (plan : Planned) where
    pub at_rest : MayStep means (Calling x plan) k gs y v → IsAtRest gs y plan
    at_rest may =
        subst (λ rs. IsAtRest rs y plan) may.stood.stands.at.regions (subst (λ m. IsAtRest may.point.core.regions m plan) may.stood.stands.at.system may.fits.plan_is.rest)

    pub command_there : MayStep means (Calling x plan) k gs y v → (call : Call) × (next_of k ≡ Some (IsCall call))
    command_there may = (may.fits.call, command_is k.rest.now may.fits.call may.fits.more may.fits.calls)

    pub not_held : MayStep means (Calling x plan) k gs y v → (precheck : Bool) (region t : ℕ) → want_of plan ≡ Region region → IsRefusal precheck plan gs y (Latch (Latched t)) → ⊥
    not_held may precheck region t want why =
        let on = refused_on precheck plan gs y (Latch (Latched t)) region want why in never_latched _ on.0 t (may.stood.stands.dead region on.0 on.1) on.2

  module _ (plan : Planned) (why : Why) where
    pub back_at_rest : MayStep means (TakingBack x plan why) k gs y v → IsAtRest gs y plan
    back_at_rest may =
        subst (λ rs. IsAtRest rs y plan) may.stood.stands.at.regions (subst (λ m. IsAtRest may.point.core.regions m plan) may.stood.stands.at.system may.fits.plan_is.rest)

    pub back_command : MayStep means (TakingBack x plan why) k gs y v → (call : Call) × (next_of k ≡ Some (IsCall call))
    back_command may = (may.fits.call, command_is k.rest.now may.fits.call may.fits.more may.fits.calls)

  -- the plan wants an operation
  pub some_next : (plan : Planned) (region : ℕ) → want_of plan ≡ Region region → is_some (plan_next plan) ≡ true
  some_next plan region want = ap is_some (wanted plan region (sym want)).1

-- a plan whose answer is logged wants nothing
answered_wants : (plan : Planned) → plan.phase ≡ Answered → want_of plan ≡ Nothing
answered_wants plan e =
    let onward : is_back plan ≡ false = ap (λ (f : Phase). is_back_in f (answer_of plan.geometry plan.call plan.stage) plan.changes) e in
    let none : plan_next plan ≡ None = ap (λ (b : Bool). if b then undo_next (last_of plan.changes) else onward_next plan.phase (next_op plan.geometry plan.txn plan.call plan.stage)) onward
    ∙ ap (λ (f : Phase). onward_next f (next_op plan.geometry plan.txn plan.call plan.stage)) e in
    ap (λ (f : Phase). want_in f (plan_next plan)) e ∙ ap (want_in Answered) none

pub wants_more : (plan : Planned) → (want_of plan ≡ Nothing → ⊥) → is_answered plan.phase ≡ false
wants_more plan more = by_phase plan.phase refl
  where
    by_phase : (f : Phase) → plan.phase ≡ f → is_answered plan.phase ≡ false
    by_phase Answered e = absurd (more (answered_wants plan e))
    by_phase GoesOn e = ap is_answered e
    by_phase GoesBack e = ap is_answered e

pub before_operation : (plan : Planned) (r : ℕ) → want_of plan ≡ Region r → is_answered plan.phase ≡ false
before_operation plan r want = wants_more plan (λ e. let both : Region r ≡ Nothing = sym want ∙ e in absurd (cc))

pub before_answer : (plan : Planned) → want_of plan ≡ AnswerIsNext → is_answered plan.phase ≡ false
before_answer plan want = wants_more plan (λ e. let both : AnswerIsNext ≡ Nothing = sym want ∙ e in absurd (cc))

-- a call is a command
pub some_command : (o : Option Command) → is_some (call_in o) ≡ true → is_some o ≡ true
some_command (Some command) e = refl
some_command None e = absurd (cc)

-- a call that is refused by the system passes no point
pub points_there : (e : SystemError) (k j : Client) (x : Transaction) (plan : Planned) (r : Result Bool NoMemory) → is_some (next_of k) ≡ true → IsRefusedBy e k x plan r j → j.points ≡ k.points
points_there (LogFull end limit) k j x plan r some h = h.1.points
points_there (Stopped cause) k j x plan (Ok b) some h = by_next (next_of k) refl some
  where
    by_next : (o : Option Command) → next_of k ≡ o → is_some o ≡ true → j.points ≡ k.points
    by_next (Some command) e f = (h.1 command e).points
    by_next None e f = absurd (cc)
points_there (Stopped cause) k j x plan (Err e) some h = h.2.points
points_there OutOfMemory k j x plan (Ok b) some h = absurd h.1
points_there OutOfMemory k j x plan (Err e) some h = ap (λ (n : Client). n.points) h.0

pub command_of_call : (o : Option Command) (call : Call) → call_in o ≡ Some call → is_some o ≡ true
command_of_call o call e = some_command o (ap is_some e)

-- one that makes its call wants an operation, or its answer
pub calling_more : (plan : Planned) → plan.phase ≡ GoesOn → want_of plan ≡ Nothing → ⊥
calling_more plan phase none = by_next (plan_next plan) (sym none ∙ ap (λ (f : Phase). want_in f (plan_next plan)) phase)
  where
    by_next : (o : Option (ℕ × Op)) → Nothing ≡ want_in GoesOn o → ⊥
    by_next (Some n) e = absurd (cc)
    by_next None e = absurd (cc)

-- a plan that goes back wants an operation, or nothing
pub back_wants : (plan : Planned) → plan.phase ≡ GoesBack → (want_of plan ≡ Nothing) ⊎ ((r : ℕ) × (want_of plan ≡ Region r))
back_wants plan phase = by_next (plan_next plan) (ap (λ (f : Phase). want_in f (plan_next plan)) phase)
  where
    by_next : (o : Option (ℕ × Op)) → want_of plan ≡ want_in GoesBack o → (want_of plan ≡ Nothing) ⊎ ((r : ℕ) × (want_of plan ≡ Region r))
    by_next None e = inl e
    by_next (Some n) e = inr (n.0, e)

pub on_err : {T E : Type 0} (r : Result T E) (P Q : Type 0) → (P → Q) → OnErr r P → OnErr r Q
on_err (Ok t) P Q f h = tt
on_err (Err e) P Q f h = f h

-- ---- where a call left plan and core as they were
module _ (gs rs : List RegionState) (y m : SystemState) (regions : rs ≡ gs) (system : m ≡ y) (plan q : Planned) (same : q ≡ plan) where
  pub makes_still : (command : Option Command) (region : ℕ) → MakesNext gs y plan command region → MakesNext rs m q command region
  makes_still command region makes = record {
    rest = subst (λ (p : Planned). IsAtRest rs m p) (sym same) (subst (λ (l : List RegionState). IsAtRest l m plan) (sym regions) (subst (λ (n : SystemState). IsAtRest gs n plan) (sym system) makes.rest));
    called = makes.called;
    wants = ap want_of same ∙ makes.wants;
    whole = subst IsWhole (sym same) makes.whole;
  }

  pub refused_still : (precheck : Bool) (e : StepError) → IsRefusal precheck plan gs y e → IsRefusal precheck q rs m e
  refused_still precheck e why =
      subst (λ (p : Planned). IsRefusal precheck p rs m e) (sym same) (subst (λ (l : List RegionState). IsRefusal precheck plan l m e) (sym regions) (subst (λ (n : SystemState). IsRefusal precheck plan gs n e) (sym system) why))

module _ {V : Type 0} (means : Ghosts V) (k : Client) (gs rs : List RegionState) (y m : SystemState) (v u : Vaulted V) (regions : rs ≡ gs) (system : m ≡ y) (vault : u ≡ v) where
  pub goes_still : (precheck : Bool) (state : State) (ok : Bool) (j : Client) (hs : List RegionState) (z : SystemState) (o : Vaulted V) → StepGoes means precheck state k rs m u ok j hs z o → StepGoes means precheck state k gs y v ok j hs z o
  goes_still precheck state ok j hs z o goes =
      subst (λ l. StepGoes means precheck state k l y v ok j hs z o) regions (subst (λ n. StepGoes means precheck state k rs n v ok j hs z o) system (subst (λ n. StepGoes means precheck state k rs m n ok j hs z o) vault goes))

module _ {V : Type 0} (means : Ghosts V) (precheck : Bool) (state : State) (k j : Client) (gs hs : List RegionState) (y z : SystemState) (v u : Vaulted V) (ok : Bool) (vault : u ≡ v) where
  -- the vault is as it was
  pub vault_still : StepGoes means precheck state k gs y v ok j hs z v → StepGoes means precheck state k gs y v ok j hs z u
  vault_still goes = subst (λ o. StepGoes means precheck state k gs y v ok j hs z o) (sym vault) goes

module _ {V : Type 0} (means : Ghosts V) (precheck : Bool) (state : State) (k m j : Client) (gs hs : List RegionState) (y z : SystemState) (v u : Vaulted V) (ok : Bool) where
  -- of a client that differs in its points alone
  pub by_lines : m.transcript ≡ k.transcript → m.rest.now ≡ k.rest.now → StepGoes means precheck state m gs y v ok j hs z u → StepGoes means precheck state k gs y v ok j hs z u
  by_lines same rest goes s B p w a stood is fits =
      goes s B p w a stood (record { client = is.client ∙ ap (λ t. t.client) (sym same); lines = is.lines ∙ ap (λ t. map said_of t.lines) (sym same); stands = is.stands; others = is.others })
      (subst (λ r. Fits means s B p w gs y v a r state) (ap (map act_of) (sym rest)) fits)

-- the system refuses what takes back for a stop alone
pub back_says : (precheck : Bool) (plan : Planned) (gs : List RegionState) (y : SystemState) (e : SystemError) → plan.phase ≡ GoesBack → is_some (plan_next plan) ≡ true → IsRefusal precheck plan gs y (System e) → StopSays y.stop e
back_says precheck plan gs y e phase next why = by_wants (back_wants plan phase)
  where
    back : is_back plan ≡ true
    back = ap (λ f. is_back_in f (answer_of plan.geometry plan.call plan.stage) plan.changes) phase

    by_wants : (want_of plan ≡ Nothing) ⊎ ((r : ℕ) × (want_of plan ≡ Region r)) → StopSays y.stop e
    by_wants (inl none) = absurd (subst (λ m. IsRefusedIn m precheck plan gs y (System e)) none why)
    by_wants (inr (r, want)) =
        let on = refused_on precheck plan gs y (System e) r want why in
        stop_cases y.stop e (subst (λ b. IsAnswerTo (commit_refusal b y (record_length (Forward plan.txn on.2.1))) e) back on.2.4)

-- and compares nothing
pub back_clean : (precheck : Bool) (plan : Planned) (gs : List RegionState) (y : SystemState) (codeword found : ℕ) → plan.phase ≡ GoesBack → IsRefusal precheck plan gs y (Latch (LatchDamaged codeword found)) → ⊥
back_clean precheck plan gs y codeword found phase why = by_wants (back_wants plan phase)
  where
    back : is_back plan ≡ true
    back = ap (λ f. is_back_in f (answer_of plan.geometry plan.call plan.stage) plan.changes) phase

    by_wants : (want_of plan ≡ Nothing) ⊎ ((r : ℕ) × (want_of plan ≡ Region r)) → ⊥
    by_wants (inl none) = subst (λ m. IsRefusedIn m precheck plan gs y (Latch (LatchDamaged codeword found))) none why
    by_wants (inr (r, want)) =
        let on = refused_on precheck plan gs y (Latch (LatchDamaged codeword found)) r want why in
        let checks = (damaged_latch (not (is_back plan) && precheck) on.0 codeword found on.2).checks in
        let none : (not (is_back plan) && precheck) ≡ false = ap (λ b. not b && precheck) back in
        let both : true ≡ false = sym checks ∙ none in absurd (cc)

module _ {V : Type 0} (means : Ghosts V) (gs : List RegionState) (y : SystemState) (v : Vaulted V) (k : Client) (x : Transaction) (plan : Planned) (why : Why) (may : MayStep means (TakingBack x plan why) k gs y v) where
  pub goes_back_now : plan.phase ≡ GoesBack
  goes_back_now = may.fits.plan_is.phase_is

  pub back_not_held : (precheck : Bool) (t : ℕ) → IsRefusal precheck plan gs y (Latch (Latched t)) → ⊥
  back_not_held precheck t refused = by_wants (back_wants plan may.fits.plan_is.phase_is)
    where
      by_wants : (want_of plan ≡ Nothing) ⊎ ((r : ℕ) × (want_of plan ≡ Region r)) → ⊥
      by_wants (inl none) = subst (λ m. IsRefusedIn m precheck plan gs y (Latch (Latched t))) none refused
      by_wants (inr (r, want)) = let on = refused_on precheck plan gs y (Latch (Latched t)) r want refused in never_latched _ on.0 t (may.stood.stands.dead r on.0 on.1) on.2

  pub never_done : want_of plan ≡ AnswerIsNext → ⊥
  never_done done = by_wants (back_wants plan may.fits.plan_is.phase_is)
    where
      by_wants : (want_of plan ≡ Nothing) ⊎ ((r : ℕ) × (want_of plan ≡ Region r)) → ⊥
      by_wants (inl none) = let both : Nothing ≡ AnswerIsNext = sym none ∙ done in absurd (cc)
      by_wants (inr (r, want)) = let both : Region r ≡ AnswerIsNext = sym want ∙ done in absurd (cc)
