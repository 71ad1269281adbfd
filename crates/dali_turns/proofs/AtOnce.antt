-- What is refused is said in the step that meets it, by where the client stands.
use Rattle.std.proofs.Common.{◌≡◌, ℕ, ◌<◌, ◌≤◌, ◌+◌, OnOk, Bool, true, false, if◌then◌else◌, List, [], ◌∷◌, ◌++◌, drop, length, Option, Some, None, IfSome, IsSome, is_some, Result, Ok, Err, IsErr, refl, ap, sym, subst, ◌∙◌, ◌⊎◌, inl, inr, arith}
use Rattle.std.specs.Prelude.{slice_get}
use Rattle.std.proofs.lemmas.Result.{on_ok_weaker}
use Rattle.dali_bytes.specs.declared.error.OutOfMemory.{OutOfMemory as NoMemory}
use Rattle.dali_region.specs.State.{RegionState}
use Rattle.dali_region.specs.declared.LatchError.TheVariants.{Latched, DeadHolder, Damaged}
use Rattle.dali_runs.specs.State.{SystemState}
use Rattle.dali_runs.specs.declared.causes.Cause.{Cause}
use Rattle.dali_system.specs.Refused.{stop_of}
use Rattle.dali_system.specs.declared.error.SystemError.{SystemError}
use Rattle.dali_system.specs.declared.error.SystemError.TheVariants.{Stopped, LogFull, OutOfMemory}
use Rattle.dali_audit.specs.Findings.{Audited}
use Rattle.dali_calls.specs.Plans.{Planned}
use Rattle.dali_checkpoint.specs.declared.error.CheckpointError.{CheckpointError}
use Rattle.dali_checkpoint.specs.declared.error.CheckpointError.TheVariants.{InProgress as IsRunning, Failed, Stopped as IsHalted, LogFull as HasNoRoom, Fault, OutOfMemory as WantsMemory}
use Rattle.dali_checkpoint.specs.Kept.{Checkpointed}
use Rattle.dali_checkpoint.specs.Making.{checkpoint_error}
use Rattle.dali_calls.specs.declared.single.error.StepError.{StepError}
use Rattle.dali_calls.specs.declared.single.error.StepError.TheVariants.{Latch, System}
use Rattle.dali_transcripts.specs.declared.clients.command.Command.{Command}
use Rattle.dali_transcripts.specs.declared.clients.command.Command.TheVariants.{Begin, Call, Commit, Abort, Audit, Checkpoint}
use Rattle.dali_transcripts.specs.declared.clients.line.Line.{Line}
use Rattle.dali_transcripts.specs.declared.clients.line.Line.TheVariants.{CommitOk, LeftOpen, Refused}
use Rattle.dali_transcripts.specs.declared.clients.line.Why.{Why}
use Rattle.dali_transcripts.specs.declared.clients.line.Why.TheVariants.{InProgress, Stopped as IsStopped, LogFull as IsFull, StoreStopped}
use Rattle.dali_turns.specs.declared.client.Client.{Client}
use Rattle.dali_turns.specs.declared.client.State.{State}
use Rattle.dali_turns.specs.declared.client.State.TheVariants.{Outside, Within, Calling, TakingBack, Committing, Waiting, Auditing, Copying, Certifying}
use Rattle.dali_turns.specs.declared.client.Transaction.{Transaction}
use Rattle.dali_turns.specs.Clients.{next_of, Finishes}
use Rattle.dali_turns.specs.Endings.{line_in, SaysEnd}
use Rattle.dali_turns.specs.Ends.{abort_line, end_line}
use Rattle.dali_turns.specs.Refuses.{TurnsNow, SaysLine, SaysNow, SaysStop, SaysCall, IsHeld, IsMet, IsMetBack, said_of, RefusesIn, RefusesNow, GivesUp, SaysOk, EndsCommit, MayBegin, Refuses}
use Rattle.dali_turns.specs.Outside.{HasGone}
use Rattle.dali_turns.specs.Whys.{why_in}
use Rattle.dali_turns.proofs.Reasons.{StopSays}
use Rattle.dali_turns.proofs.Meeting.{on_no_ok}

-- ---- of clients that differ in what no refusal speaks of
module _ (k m j i : Client) (rest : m.rest.now ≡ k.rest.now) (lines : m.transcript.lines ≡ k.transcript.lines) (stands : i.state ≡ j.state) (left : i.rest.now ≡ j.rest.now) (said : i.transcript.lines ≡ j.transcript.lines) where
  turns : (x : Transaction) (plan : Planned) (why : Why) → TurnsNow m x plan why j → TurnsNow k x plan why i
  turns x plan why h = (stands ∙ h.0, left ∙ (h.1 ∙ rest), said ∙ (h.2 ∙ lines))

  says_one : (state : State) (line : Line) → SaysLine m state line j → SaysLine k state line i
  says_one state line h = (stands ∙ h.0, left ∙ (h.1 ∙ ap (drop 1) rest), said ∙ (h.2 ∙ ap (λ l. l ++ line ∷ []) lines))

  says : (state : State) (command : Command) (why : Why) → SaysNow m state command why j → SaysNow k state command why i
  says state command why h = says_one state (Refused command why) h

  says_stop : (y : SystemState) (state : State) (command : Command) (r : Result Bool NoMemory) → SaysStop y state command m r j → SaysStop y state command k r i
  says_stop y state command r h = λ cause up. on_ok_weaker r (says state command (IsStopped cause)) (h cause up)

  next_there : next_of m ≡ next_of k
  next_there = ap (λ l. slice_get l 0) rest

  says_call : (x : Transaction) (why : Why) → SaysCall m x why j → SaysCall k x why i
  says_call x why h = λ command next. says (Within x) command why (h command (next_there ∙ next))

  held : (stop : Option Cause) (x : Transaction) → IsHeld stop m x j → IsHeld stop k x i
  held stop x h = λ cause up. says_call x (IsStopped cause) (h cause up)

  pub met : (e : StepError) (stop : Option Cause) (x : Transaction) (plan : Planned) → IsMet e stop m x plan j → IsMet e stop k x plan i
  met (Latch (Damaged codeword found)) stop x plan h = λ r want. turns x plan _ (h r want)
  met (Latch (Latched t)) stop x plan h = tt
  met (Latch (DeadHolder t)) stop x plan h = held stop x h
  met (System (LogFull end limit)) stop x plan h = turns x plan _ h
  met (System (Stopped cause)) stop x plan h = says_call x _ h
  met (System OutOfMemory) stop x plan h = tt

  met_back : (e : StepError) (stop : Option Cause) (x : Transaction) → IsMetBack e stop m x j → IsMetBack e stop k x i
  met_back (System (Stopped cause)) stop x h = says_call x _ h
  met_back (System (LogFull end limit)) stop x h = tt
  met_back (System OutOfMemory) stop x h = tt
  met_back (Latch (Damaged codeword found)) stop x h = tt
  met_back (Latch (Latched t)) stop x h = tt
  met_back (Latch (DeadHolder t)) stop x h = held stop x h

  refuses_now : (y : SystemState) (command : Command) (r : Result Bool NoMemory) → RefusesNow y command m r j → RefusesNow y command k r i
  refuses_now y command r h = λ why is. on_ok_weaker r (says _ command why) (h why is)

  refuses_in : (y : SystemState) (x : Transaction) (o : Option Command) (r : Result Bool NoMemory) → RefusesIn y x o m r j → RefusesIn y x o k r i
  refuses_in y x None r h = λ up. on_ok_weaker r (says_one Outside LeftOpen) (h up)
  refuses_in y x (Some (Call call)) r h = says_stop y (Within x) (Call call) r h
  refuses_in y x (Some Commit) r h = says_stop y Outside Commit r h
  refuses_in y x (Some Abort) r h = says_stop y Outside Abort r h
  refuses_in y x (Some command) r h = tt

  gives_up : GivesUp m j → GivesUp k i
  gives_up h = (h.0, says Outside Checkpoint h.0 h.1)

  pub refuses_alike : (flushed : ℕ) (stopped : Bool) (precheck : Bool) (gs : List RegionState) (y : SystemState) (r : Result Bool NoMemory) (s : State) → Refuses precheck s m gs y flushed r j stopped → Refuses precheck s k gs y flushed r i stopped
  refuses_alike flushed stopped precheck gs y r (Calling x plan) h = λ e why lives. on_ok_weaker r (met e y.stop x plan) (h e why lives)
  refuses_alike flushed stopped precheck gs y r (TakingBack x plan why) h = (λ e is. on_ok_weaker r (met_back e y.stop x) (h.0 e is), λ done. on_ok_weaker r (says_call x why) (h.1 done))
  refuses_alike flushed stopped precheck gs y r (Committing x number removals next) h = record {
    done = λ below up. on_ok_weaker r (says_one Outside CommitOk) (h.done below up);
    lost = λ above up. on_ok_weaker r (says Outside Commit StoreStopped) (h.lost above up);
  }
  refuses_alike flushed stopped precheck gs y r (Within x) h = subst (λ o. RefusesIn y x o k r i) next_there (refuses_in y x (next_of m) r h)
  refuses_alike flushed stopped precheck gs y r Outside h = λ command next. refuses_now y command r (h command (next_there ∙ next))
  refuses_alike flushed stopped precheck gs y r (Waiting tries holder) h = λ may next. refuses_now y Begin r (h may (next_there ∙ next))
  refuses_alike flushed stopped precheck gs y r (Auditing audit next) h = λ all. says_stop y Outside Audit r (h all)
  refuses_alike flushed stopped precheck gs y r (Copying c next) h = (says_stop y Outside Checkpoint r h.0, λ wants. on_ok_weaker r gives_up (h.1 wants))
  refuses_alike flushed stopped precheck gs y r (Certifying c audit next) h = λ all. says_stop y Outside Checkpoint r (h all)
  refuses_alike flushed stopped precheck gs y r s h = tt

-- its state was taken out of it for the step
pub refuses_from : (flushed : ℕ) (stopped : Bool) (precheck : Bool) (k j : Client) (gs : List RegionState) (y : SystemState) (r : Result Bool NoMemory) (taken dest : State) → taken ≡ k.state → Refuses precheck taken (record k { state = dest }) gs y flushed r j stopped → Refuses precheck k.state k gs y flushed r j stopped
refuses_from flushed stopped precheck k j gs y r taken dest e h = subst (λ s. Refuses precheck s k gs y flushed r j stopped) e (refuses_alike k (record k { state = dest }) j j refl refl refl refl refl flushed stopped precheck gs y r taken h)

-- memory was wanted
pub none_in : (y : SystemState) (x : Transaction) (o : Option Command) (k j : Client) (r : Result Bool NoMemory) → IsErr r → RefusesIn y x o k r j
none_in y x None k j r err = λ up. on_no_ok _ r err
none_in y x (Some (Call call)) k j r err = λ cause up. on_no_ok _ r err
none_in y x (Some Commit) k j r err = λ cause up. on_no_ok _ r err
none_in y x (Some Abort) k j r err = λ cause up. on_no_ok _ r err
none_in y x (Some command) k j r err = tt

pub refuses_none : (flushed : ℕ) (stopped : Bool) (precheck : Bool) (k j : Client) (gs : List RegionState) (y : SystemState) (r : Result Bool NoMemory) → IsErr r → (s : State) → Refuses precheck s k gs y flushed r j stopped
refuses_none flushed stopped precheck k j gs y r err (Calling x plan) = λ e why lives. on_no_ok _ r err
refuses_none flushed stopped precheck k j gs y r err Outside = λ command next why is. on_no_ok _ r err
refuses_none flushed stopped precheck k j gs y r err (Within x) = none_in y x (next_of k) k j r err
refuses_none flushed stopped precheck k j gs y r err (TakingBack x plan why) = (λ e is. on_no_ok _ r err, λ done. on_no_ok _ r err)
refuses_none flushed stopped precheck k j gs y r err (Committing x number removals next) = record { done = λ below up. on_no_ok _ r err; lost = λ above up. on_no_ok _ r err }
refuses_none flushed stopped precheck k j gs y r err (Waiting tries holder) = λ may next why is. on_no_ok _ r err
refuses_none flushed stopped precheck k j gs y r err (Auditing audit next) = λ all cause up. on_no_ok _ r err
refuses_none flushed stopped precheck k j gs y r err (Copying c next) = (λ cause up. on_no_ok _ r err, λ wants. on_no_ok _ r err)
refuses_none flushed stopped precheck k j gs y r err (Certifying c audit next) = λ all cause up. on_no_ok _ r err
refuses_none flushed stopped precheck k j gs y r err s = tt

-- ---- by the next command
pub refuses_next : (y : SystemState) (k j : Client) (r : Result Bool NoMemory) (command other : Command) → next_of k ≡ Some command → next_of k ≡ Some other → RefusesNow y other k r j → RefusesNow y command k r j
refuses_next y k j r command other next is h =
    let both : Some other ≡ Some command = sym is ∙ next in
    let same : other ≡ command = cc in
    subst (λ n. RefusesNow y n k r j) same h

-- ---- by the system
pub never_refused : {T X : Type 0} (o : Option SystemError) (r : Result T SystemError) (t : T) (why : Why) → r ≡ Ok t → IfSome o (λ e. r ≡ Err e) → said_of o ≡ Some why → X
never_refused None r t why ok h is = absurd (cc)
never_refused (Some e) r t why ok h is = let both : Ok t ≡ Err e = sym ok ∙ h in absurd (cc)

module _ (k j : Client) (state : State) (command : Command) where
  pub says_line : (said why : Why) → said ≡ why → Finishes k state (Refused command said) j → SaysNow k state command why j
  says_line said why same h = (h.stands, h.rest, ap (λ t. t.lines) h.transcript ∙ ap (λ w. k.transcript.lines ++ Refused command w ∷ []) same)

  pub says_why : {T : Type 0} (o : Option SystemError) (r : Result T SystemError) (error : SystemError) (said why : Why) → r ≡ Err error → IfSome o (λ e. r ≡ Err e) → why_in error ≡ Some said → Finishes k state (Refused command said) j → said_of o ≡ Some why → SaysNow k state command why j
  says_why None r error said why err h given f is = absurd (cc)
  says_why (Some e) r error said why err h given f is =
      let both : Err error ≡ Err e = sym err ∙ h in
      let same : error ≡ e = cc in
      let told : Some said ≡ Some why = sym given ∙ (ap why_in same ∙ is) in
      let one : said ≡ why = cc in
      says_line said why one f

-- ---- by a commit
pub says_commit : (k j : Client) → Finishes k Outside CommitOk j → SaysOk k j
says_commit k j f = (f.stands, f.rest, ap (λ t. t.lines) f.transcript)

-- the record is flushed: the store is asked no more
pub ends_flushed : (number : ℕ) (k : Client) (y : SystemState) (flushed : ℕ) (r : Result Bool NoMemory) (j : Client) (stopped : Bool) → number < y.first + flushed → (IsSome y.stop → OnOk r (SaysOk k j)) → EndsCommit number k y flushed r j stopped
ends_flushed number k y flushed r j stopped less says = record { done = λ there stop. says stop; lost = λ before failed. absurd (omega (arith, less, before)) }

-- it isn't
pub ends_waiting : (number : ℕ) (k : Client) (y : SystemState) (flushed : ℕ) (r : Result Bool NoMemory) (j : Client) (stopped : Bool) → y.first + flushed ≤ number → (stopped ≡ true → OnOk r (SaysNow k Outside Commit StoreStopped j)) → EndsCommit number k y flushed r j stopped
ends_waiting number k y flushed r j stopped more says = record { done = λ there stop. absurd (omega (arith, there, more)); lost = λ before failed. says failed }

-- ---- by a checkpoint that is under way, or a stop
pub start_refused : (b : Bool) (o : Option Cause) (why : Why) → (if b then Some InProgress else said_of (stop_of o)) ≡ Some why → ((b ≡ true) × (why ≡ InProgress)) ⊎ ((b ≡ false) × ((cause : Cause) × (o ≡ Some cause) × (why ≡ IsStopped cause)))
start_refused true o why e = let same : why ≡ InProgress = cc in inl (refl, same)
start_refused false None why e = absurd (cc)
start_refused false (Some cause) why e = let same : why ≡ IsStopped cause = cc in inr (refl, (cause, refl, same))

pub never_both_ways : {X : Type 0} (b : Bool) → b ≡ true → b ≡ false → X
never_both_ways b set unset = let both : true ≡ false = sym set ∙ unset in absurd (cc)

pub one_error : {T : Type 0} (r : Result T CheckpointError) (error other : CheckpointError) → r ≡ Err error → r ≡ Err other → error ≡ other
one_error r error other is so = let both : Err error ≡ Err other = sym is ∙ so in cc

-- a checkpoint that ended with this line
ended : (k j : Client) (why : Why) (l : Line) → Some (Refused Checkpoint why) ≡ Some l → Finishes k Outside l j → SaysNow k Outside Checkpoint why j
ended k j why l e h = let line : Refused Checkpoint why ≡ l = cc in says_line k j Outside Checkpoint why why refl (subst (λ (n : Line). Finishes k Outside n j) (sym line) h)

pub says_running : (k j : Client) (error : CheckpointError) (why : Why) → error ≡ IsRunning → why ≡ InProgress → SaysEnd k (Err error) j → SaysNow k Outside Checkpoint why j
says_running k j error why is told h =
    let end : SaysEnd k (Err IsRunning) j = subst (λ e. SaysEnd k (Err e) j) is h in
    subst (λ w. SaysNow k Outside Checkpoint w j) (sym told) (ended k j InProgress end.0 end.1 end.2)

pub says_halted : (k j : Client) (error : CheckpointError) (cause : Cause) (why : Why) → error ≡ IsHalted cause → why ≡ IsStopped cause → SaysEnd k (Err error) j → SaysNow k Outside Checkpoint why j
says_halted k j error cause why is told h =
    let end : SaysEnd k (Err (IsHalted cause)) j = subst (λ e. SaysEnd k (Err e) j) is h in
    subst (λ w. SaysNow k Outside Checkpoint w j) (sym told) (ended k j (IsStopped cause) end.0 end.1 end.2)

-- ---- by a checkpoint that goes no further
pub gives_up_now : (k j : Client) (e : CheckpointError) → ((regions : List ℕ) → e ≡ Failed regions → ⊥) → SaysEnd k (Err e) j → GivesUp k j
gives_up_now k j (Failed regions) never h = absurd (never regions refl)
gives_up_now k j IsRunning never h = (InProgress, ended k j InProgress h.0 h.1 h.2)
gives_up_now k j (IsHalted cause) never h = (IsStopped cause, ended k j (IsStopped cause) h.0 h.1 h.2)
gives_up_now k j (HasNoRoom end limit) never h = (IsFull end limit, ended k j (IsFull end limit) h.0 h.1 h.2)
gives_up_now k j Fault never h = (StoreStopped, ended k j StoreStopped h.0 h.1 h.2)
gives_up_now k j WantsMemory never h = absurd (no_line h.0 h.1)
  where
    no_line : (l : Line) → line_in (Err WantsMemory) ≡ Some l → ⊥
    no_line l e = absurd (cc)

-- of a stop
pub halts : (k j : Client) (o : Option Cause) (met cause : Cause) → o ≡ Some met → o ≡ Some cause → SaysEnd k (Err (IsHalted met)) j → SaysNow k Outside Checkpoint (IsStopped cause) j
halts k j o met cause is up h =
    let both : Some met ≡ Some cause = sym is ∙ up in
    let same : met ≡ cause = cc in
    subst (λ n. SaysNow k Outside Checkpoint (IsStopped n) j) same (ended k j (IsStopped met) h.0 h.1 h.2)

-- of what the system says
pub no_system_failed : (s : SystemError) (regions : List ℕ) → checkpoint_error s ≡ Failed regions → ⊥
no_system_failed (Stopped cause) regions e = absurd (cc)
no_system_failed (LogFull end limit) regions e = absurd (cc)
no_system_failed OutOfMemory regions e = absurd (cc)

pub unbegun : (k j : Client) (e : CheckpointError) (s : SystemError) → e ≡ checkpoint_error s → SaysEnd k (Err e) j → GivesUp k j
unbegun k j e s is h = gives_up_now k j e (λ regions f. no_system_failed s regions (sym is ∙ f)) h

-- of a settlement
pub unsettled : (k j : Client) (o : Option Cause) (r : Result (Unit {0}) CheckpointError) (e : CheckpointError) → r ≡ Err e → (A B : Type 0) → IfSome o (λ cause. (r ≡ Err (IsHalted cause)) × A × B) → (o ≡ None → r ≡ Err Fault) → SaysEnd k (Err e) j → GivesUp k j
unsettled k j (Some cause) r e is A B halted faults h =
    let both : Err e ≡ Err (IsHalted cause) = sym is ∙ halted.0 in
    let same : e ≡ IsHalted cause = cc in
    gives_up_now k j e (λ regions f. let never : IsHalted cause ≡ Failed regions = sym same ∙ f in absurd (cc)) h
unsettled k j None r e is A B halted faults h =
    let both : Err e ≡ Err Fault = sym is ∙ faults refl in
    let same : e ≡ Fault = cc in
    gives_up_now k j e (λ regions f. let never : Fault ≡ Failed regions = sym same ∙ f in absurd (cc)) h

pub is_there : {T X : Type 0} (o : Option T) → o ≡ None → IsSome o → X
is_there None e some = absurd (cc)
is_there (Some t) e some = absurd (cc)

-- the engine runs
pub never_up : {X : Type 0} (o : Option Cause) (cause : Cause) → o ≡ None → o ≡ Some cause → X
never_up o cause runs up = let both : None ≡ Some cause = sym runs ∙ up in absurd (cc)

-- the engine runs, and there is a region left
pub copies_on : (flushed : ℕ) (stopped : Bool) (precheck : Bool) (k j : Client) (gs : List RegionState) (y : SystemState) (r : Result Bool NoMemory) (c : Checkpointed) (next : ℕ) → k.state ≡ Copying c next → y.stop ≡ None → next < length gs → Refuses precheck k.state k gs y flushed r j stopped
copies_on flushed stopped precheck k j gs y r c next at runs left =
    subst (λ s. Refuses precheck s k gs y flushed r j stopped) (sym at) (λ cause up. never_up y.stop cause runs up, λ wants. let most = wants.0 in absurd (omega (arith, left, most)))

-- there is one left to pass
pub passes_on : (flushed : ℕ) (stopped : Bool) (precheck : Bool) (k j : Client) (gs : List RegionState) (y : SystemState) (r : Result Bool NoMemory) (audit : Audited) (next : ℕ) → k.state ≡ Auditing audit next → next < length gs → Refuses precheck k.state k gs y flushed r j stopped
passes_on flushed stopped precheck k j gs y r audit next at left = subst (λ s. Refuses precheck s k gs y flushed r j stopped) (sym at) (λ all cause up. absurd (omega (arith, left, all)))

pub certifies_on : (flushed : ℕ) (stopped : Bool) (precheck : Bool) (k j : Client) (gs : List RegionState) (y : SystemState) (r : Result Bool NoMemory) (c : Checkpointed) (audit : Audited) (next : ℕ) → k.state ≡ Certifying c audit next → next < length gs → Refuses precheck k.state k gs y flushed r j stopped
certifies_on flushed stopped precheck k j gs y r c audit next at left = subst (λ s. Refuses precheck s k gs y flushed r j stopped) (sym at) (λ all cause up. absurd (omega (arith, left, all)))

-- ---- by a begin that waits
pub not_yet : (y : SystemState) (holder : ℕ) → (HasGone y holder → ⊥) → is_some y.stop ≡ false → MayBegin y holder → ⊥
not_yet y holder never runs (inl gone) = never gone
not_yet y holder never runs (inr stopped) = let both : true ≡ false = sym stopped ∙ runs in absurd (cc)

-- ---- by a stop
pub one_stop : (o : Option Cause) (met cause : Cause) → o ≡ Some met → o ≡ Some cause → met ≡ cause
one_stop o met cause is up = let both : Some met ≡ Some cause = sym is ∙ up in cc

pub stop_told : (y : SystemState) (state : State) (command : Command) (k j : Client) (met : Cause) (why : Why) → y.stop ≡ Some met → why ≡ IsStopped met → Finishes k state (Refused command why) j → (cause : Cause) → y.stop ≡ Some cause → SaysNow k state command (IsStopped cause) j
stop_told y state command k j met why is same f cause up = says_line k j state command why (IsStopped cause) (same ∙ ap IsStopped (one_stop y.stop met cause is up)) f

-- the audit of a checkpoint doesn't end
pub unended : (y : SystemState) (k j : Client) (error : SystemError) (e : CheckpointError) → e ≡ checkpoint_error error → StopSays y.stop error → SaysEnd k (Err e) j → (cause : Cause) → y.stop ≡ Some cause → SaysNow k Outside Checkpoint (IsStopped cause) j
unended y k j error e is (inl (met, same, there)) h cause up =
    halts k j y.stop met cause there up (subst (λ n. SaysEnd k (Err n) j) (is ∙ ap checkpoint_error same) h)
unended y k j error e is (inr same) h cause up =
    let end : SaysEnd k (Err WantsMemory) j = subst (λ n. SaysEnd k (Err n) j) (is ∙ ap checkpoint_error same) h in
    absurd (no_line end.0 end.1)
  where
    no_line : (l : Line) → line_in (Err WantsMemory) ≡ Some l → ⊥
    no_line l e = absurd (cc)

-- the line of a transaction that isn't taken back
pub abort_told : (y : SystemState) (k j : Client) (left : Option Cause) → left ≡ y.stop → Finishes k Outside (abort_line left) j → (cause : Cause) → y.stop ≡ Some cause → SaysNow k Outside Abort (IsStopped cause) j
abort_told y k j left is f cause up =
    let line : Finishes k Outside (abort_line (Some cause)) j = subst (λ o. Finishes k Outside (abort_line o) j) (is ∙ up) f in
    says_line k j Outside Abort (IsStopped cause) (IsStopped cause) refl line

pub open_told : (y : SystemState) (k j : Client) (left : Option Cause) → left ≡ y.stop → Finishes k Outside (end_line left) j → IsSome y.stop → SaysLine k Outside LeftOpen j
open_told y k j left is f up = by_stop y.stop is up
  where
    by_stop : (o : Option Cause) → left ≡ o → IsSome o → SaysLine k Outside LeftOpen j
    by_stop None e some = absurd (cc)
    by_stop (Some cause) e some =
        let line : Finishes k Outside LeftOpen j = subst (λ n. Finishes k Outside (end_line n) j) e f in
        (line.stands, line.rest, ap (λ t. t.lines) line.transcript)
