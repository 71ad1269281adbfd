-- The audit of a client's checkpoint failed, or the store fails behind it.
use Rattle.std.proofs.Common.{◌≡◌, ℕ, ◌+◌, ◌<◌, ◌≤◌, Bool, true, false, List, [], ◌∷◌, ◌++◌, length, Option, Some, None, is_some, refl, ap, sym, subst, ◌∙◌, ◌⊎◌, inl, inr, arith, length-append}
use Rattle.std.specs.List.{list_all}
use Rattle.dali_record.specs.declared.records.Record.{Record}
use Rattle.dali_record.specs.declared.records.Record.TheVariants.{AuditBegin}
use Rattle.dali_region.specs.State.{RegionState}
use Rattle.dali_store.specs.Store.{Files as Disk}
use Rattle.dali_store.specs.declared.store.Store.{Ghosts}
use Rattle.dali_runs.specs.State.{SystemState, stable}
use Rattle.dali_runs.specs.Steps.{audit_ended, audit_record, taken, store_stopped, in_checkpoint}
use Rattle.dali_runs.specs.Courses.{Takes, Flushes, Faults, Stops}
use Rattle.dali_crash.specs.Checkpoints.{StoreStep, Does, Syncs, SyncFails, TurnFails, Finishes, Point, IsPointStep, IsPointCourse}
use Rattle.dali_crash.specs.Traces.{Start}
use Rattle.dali_core.specs.Vault.Vaulted.{Vaulted}
use Rattle.dali_core.specs.Steps.At.{Goes}
use Rattle.dali_core.proofs.StepsLemmas.Steps.{sync_faults, turn_faults}
use Rattle.dali_core.specs.Cores.{IsCoreAt}
use Rattle.dali_core.specs.Flushed.{FlushesFrame, FailsFrame, AllFlushed, HasStopped}
use Rattle.dali_core.proofs.Flushing.{flushes_all, flush_fails}
use Rattle.dali_audit.specs.Findings.{Audited, damaged}
use Rattle.dali_checkpoint.specs.Kept.{Checkpointed, side_in}
use Rattle.dali_checkpoint.specs.Done.{SyncFails as FailsToSync, TurnFails as FailsToMove}
use Rattle.dali_core.specs.Cores.{IsNoShorter}
use Rattle.dali_checkpoint.specs.Running.{IsSettled, IsCertifiedAt}
use Rattle.dali_checkpoint.proofs.Calls.{settled_flushed, SettledFlushed, certify_turn, CertifyTurn}
use Rattle.dali_checkpoint.proofs.Lengths.{places_stay}
use Rattle.dali_transcripts.specs.Words.{Checkpoints as CheckpointAct, StoreFailed, CheckpointFailed, Refused}
use Rattle.dali_transcripts.specs.World.{Deed, Logs, Meets, StartsCheckpoint, EndsCheckpoint, World, log_of, IsLost, under_way}
use Rattle.dali_transcripts.specs.Moves.{Receipt, Move, FailsCheckpoint, spanned, own}
use Rattle.dali_transcripts.specs.Causes.{IsCutAudit, MetCause}
use Rattle.dali_transcripts.specs.Laws.{receipts_from}
use Rattle.dali_transcripts.specs.Rounds.{Standing}
use Rattle.dali_transcripts.specs.Telling.Tells.{after}
use Rattle.dali_transcripts.specs.Telling.Laws.{AreOfCourse}
use Rattle.dali_turns.specs.declared.client.Client.{Client}
use Rattle.dali_turns.specs.declared.client.State.{State}
use Rattle.dali_turns.specs.declared.client.State.TheVariants.{Outside, Certifying}
use Rattle.dali_turns.specs.Stood.{Stood}
use Rattle.dali_turns.specs.Checkpoints.{FitsCertifying}
use Rattle.dali_turns.specs.Fits.{rest_of, lines_of, IsOf, Fits}
use Rattle.dali_turns.specs.Goes.{Went}
use Rattle.dali_turns.proofs.Auditing.{rows_same}
use Rattle.dali_turns.proofs.Flushing.{has_stop}
use Rattle.dali_turns.proofs.Beside.{is_beside, is_out_of, course_longer}
use Rattle.dali_turns.proofs.Doing.{Did, did_then, ended, outside_by, went_by, went_silent}
use Rattle.dali_turns.proofs.Coursing.{did_course}
use Rattle.dali_turns.proofs.Ending.{ended_point, one_then, flushed_within, same_stable}
use Rattle.dali_turns.proofs.Finishing.{stop_point, finish_point, stops_there, stopped_at, finishes_there, finished_at, faulted_at}
use Rattle.dali_turns.proofs.Starting.{under_then, making_spot, making_placed}
use Rattle.dali_turns.proofs.Copies.{store_failed, store_failed_silent, met_store}
use Rattle.dali_turns.proofs.Settling.{quiet_failed}
use Rattle.dali_turns.proofs.Certified as its

-- an audit that was cut behind its end: a clean one may be flushed
pub cut_late : (w : World) (b n : ℕ) (found : List ℕ) → (found ≡ []) ⊎ IsLost w n → IsCutAudit w true ((b, Logs AuditBegin) ∷ (n, Logs (audit_record b found)) ∷ [])
cut_late w b n [] h = (refl, inl refl)
cut_late w b n (r ∷ rs) (inr lost) = (refl, lost)
cut_late w b n (r ∷ rs) (inl e) = absurd (cc)

module _ {V : Type 0} (means : Ghosts V)
    (precheck : Bool) (s : Start) (B : List (List Record)) (p : Point) (w : World) (a : Standing) (gs : List RegionState) (y : SystemState) (v : Vaulted V) (k j : Client)
    (stood : Stood means s B p w precheck gs y v) (is : IsOf w a k)
    (c : Checkpointed) (audit : Audited) (next : ℕ) (fits : FitsCertifying means s B p w gs y v a (rest_of k) c audit next) (all : length gs ≤ next) (runs : y.stop ≡ None) where
  abbrev state : State
  state = Certifying c audit next

  abbrev count : ℕ
  count = length (log_of w)

  abbrev found : List ℕ
  found = damaged audit.findings

  abbrev q : Point
  q = ended_point p audit.begin found

  abbrev z : SystemState
  z = audit_ended y audit.begin found

  one : Did means precheck s B p w a.client state gs y v (Logs (audit_record audit.begin found) ∷ []) B q gs z v
  one = its.one means precheck s B p w a gs y v k j stood is c audit next fits all runs

  ran : v.stopped ≡ false
  ran = its.ran means precheck s B p w a gs y v k j stood is c audit next fits all runs

  abbrev mid : World
  mid = after w a.client (Logs (audit_record audit.begin found) ∷ []) q.core

  mid_number : length (log_of mid) ≡ count + 1
  mid_number = its.mid_number means precheck s B p w a gs y v k j stood is c audit next fits all runs

  under_mid : under_way mid.happened ≡ Some a.client
  under_mid = its.under_mid means precheck s B p w a gs y v k j stood is c audit next fits all runs

  settled : IsSettled means s B q gs z v c fits.head fits.number
  settled = its.settled means precheck s B p w a gs y v k j stood is c audit next fits all runs

  set : z.checking ≡ true
  set = its.set_there means precheck s B p w a gs y v k j stood is c audit next fits all runs

  -- ---- it failed, and that is flushed
  module _ (r : ℕ) (rs : List ℕ) (bad : found ≡ r ∷ rs) (u : Vaulted V) (said : FlushesFrame means z v u) (longer : IsNoShorter means.told v u) where
    f : AllFlushed means s q gs v (taken z) u
    f = flushes_all means gs z (taken z) v u ran said refl s B q one.stood.stands.at

    abbrev x : SystemState
    x = in_checkpoint (taken z) false

    abbrev to : Point
    to = finish_point f.to

    finishes : IsPointStep f.course.2.0 Finishes to
    finishes = subst (λ (m : Point). IsPointStep m Finishes to) (sym f.course.2.2) (finishes_there means s f.batches f.to gs (taken z) u f.at set)

    abbrev w1 : World
    w1 = after mid a.client [] f.course.0.core

    abbrev w2 : World
    w2 = after w1 a.client [] f.course.2.0.core

    under : under_way w2.happened ≡ Some a.client
    under = under_then w1 a.client [] f.course.2.0.core ∙ (under_then mid a.client [] f.course.0.core ∙ under_mid)

    ends : Did means precheck s B q mid a.client state gs z v (EndsCheckpoint ∷ []) f.batches to gs x u
    ends = did_course means precheck s B q mid gs z v one.stood a.client state (Does Takes ∷ Does Flushes ∷ Finishes ∷ []) (EndsCheckpoint ∷ []) f.batches to gs x u
        (f.course.0, f.course.1, (f.course.2.0, f.course.2.1, (to, finishes, refl)))
        (f.course.0, [], EndsCheckpoint ∷ [], f.course.1, refl, tt, (f.course.2.0, [], EndsCheckpoint ∷ [], f.course.2.1, refl, tt, (to, EndsCheckpoint ∷ [], [], finishes, (refl, under), (tt, tt), (refl, refl), refl), refl), refl)
        (finished_at means s f.batches f.to gs (taken z) u f.at set) stood.stands.dead (places_stay (means.told v.store) (means.told u.store) gs longer stood.files)
        (record { unclaimed = one.stood.quiet.unclaimed })
        (λ e. let no : true ≡ false = sym e ∙ said.2.ok.runs in absurd (cc)) (λ n lives other. refl) (λ b other. refl) (λ flag other. absurd (other tt))

    abbrev ds : List Deed
    ds = Logs (audit_record audit.begin found) ∷ EndsCheckpoint ∷ []

    whole : Did means precheck s B p w a.client state gs y v ds f.batches to gs x u
    whole = did_then means precheck s B B f.batches p q to w a.client state gs gs gs y z x v v u (Logs (audit_record audit.begin found) ∷ []) (EndsCheckpoint ∷ []) stood (λ _. ran) one ends

    abbrev move : Move
    move = FailsCheckpoint fits.making.since audit.begin count (count + 1) r rs None fits.making.more

    own_is : a.pending ++ receipts_from count ds ≡ own move
    own_is = ap (λ xs. xs ++ (count, Logs (audit_record audit.begin found)) ∷ (count + 1, EndsCheckpoint) ∷ []) fits.making.pending
        ∙ ap (λ l. (fits.making.since, StartsCheckpoint) ∷ (audit.begin, Logs AuditBegin) ∷ (count, Logs (audit_record audit.begin l)) ∷ (count + 1, EndsCheckpoint) ∷ []) bad

    flushed : count < stable to.core
    flushed = omega (arith, f.all, course_longer q f.to (Does Takes ∷ Does Flushes ∷ []) f.course, length-append p.log (audit_record audit.begin found ∷ []), ap length stood.tells.log)

    pub verdict_fails : j.transcript.client ≡ k.transcript.client → lines_of j ≡ lines_of k ++ CheckpointFailed (r ∷ rs) ∷ [] → rest_of j ≡ fits.making.more → j.state ≡ Outside → Went means precheck s B p w a state gs y v true j gs x u
    verdict_fails client lines rest now =
        went_by means precheck s B f.batches p to w a state gs gs y x v u ds k j is whole move (making_spot fits.making) own_is flushed client lines
        (subst (λ (m : State). Fits means s f.batches to (after w a.client ds to.core) gs x u (ended a move) (rest_of j) m) (sym now) (outside_by x a move false fits.making.more (rest_of j) rest (λ e. absurd (cc)) refl (making_placed fits.making)))
        (rows_same state j.state y x refl (λ n none. none))

    pub verdict_silent : j.transcript ≡ k.transcript → Went means precheck s B p w a state gs y v false j gs x u
    verdict_silent same = went_silent means precheck s B f.batches p to w a state gs gs y x v u ds k j is whole move (making_spot fits.making) own_is flushed same

  -- ---- the flush fails
  module _ (u : Vaulted V) (said : FailsFrame means z v u) (longer : IsNoShorter means.told v u) where
    flush_f : HasStopped means s B q gs (store_stopped (taken z)) u
    flush_f = flush_fails means gs z (store_stopped (taken z)) v u said refl s B q one.stood.stands.at

    flush_stopped : u.stopped ≡ true
    flush_stopped = ap (λ (m : Vaulted V). m.stopped) said.2.vault

    abbrev flush_x : SystemState
    flush_x = in_checkpoint (store_stopped (taken z)) false

    abbrev flush_to : Point
    flush_to = finish_point flush_f.to

    flush_finishes : IsPointStep flush_f.course.2.2.0 Finishes flush_to
    flush_finishes = subst (λ (m : Point). IsPointStep m Finishes flush_to) (sym flush_f.course.2.2.2) (finishes_there means s B flush_f.to gs (store_stopped (taken z)) u flush_f.at set)

    abbrev flush_w1 : World
    flush_w1 = after mid a.client [] flush_f.course.0.core

    abbrev flush_w2 : World
    flush_w2 = after flush_w1 a.client (Meets StoreFailed ∷ []) flush_f.course.2.0.core

    abbrev flush_w3 : World
    flush_w3 = after flush_w2 a.client [] flush_f.course.2.2.0.core

    flush_under : under_way flush_w3.happened ≡ Some a.client
    flush_under = under_then flush_w2 a.client [] flush_f.course.2.2.0.core ∙ (under_then flush_w1 a.client (Meets StoreFailed ∷ []) flush_f.course.2.0.core ∙ (under_then mid a.client [] flush_f.course.0.core ∙ under_mid))

    abbrev flush_es : List Deed
    flush_es = Meets StoreFailed ∷ EndsCheckpoint ∷ []

    flush_failing : Did means precheck s B q mid a.client state gs z v flush_es B flush_to gs flush_x u
    flush_failing = did_course means precheck s B q mid gs z v one.stood a.client state (Does Takes ∷ Does (Faults (means.faults u.store)) ∷ Does Stops ∷ Finishes ∷ []) flush_es B flush_to gs flush_x u
        (flush_f.course.0, flush_f.course.1, (flush_f.course.2.0, flush_f.course.2.1, (flush_f.course.2.2.0, flush_f.course.2.2.1, (flush_to, flush_finishes, refl))))
        (flush_f.course.0, [], flush_es, flush_f.course.1, refl, tt, (flush_f.course.2.0, Meets StoreFailed ∷ [], EndsCheckpoint ∷ [], flush_f.course.2.1, refl, (tt, tt), (flush_f.course.2.2.0, [], EndsCheckpoint ∷ [], flush_f.course.2.2.1, refl, tt, (flush_to, EndsCheckpoint ∷ [], [], flush_finishes, (refl, flush_under), (tt, tt), (refl, refl), refl), refl), refl), refl)
        (finished_at means s B flush_f.to gs (store_stopped (taken z)) u flush_f.at set) stood.stands.dead (places_stay (means.told v.store) (means.told u.store) gs longer stood.files) (quiet_failed z one.stood.quiet)
        (λ e. has_stop z.stop) (λ n lives other. refl) (λ b other. refl) (λ flag other. absurd (other tt))

    abbrev flush_ds : List Deed
    flush_ds = Logs (audit_record audit.begin found) ∷ Meets StoreFailed ∷ EndsCheckpoint ∷ []

    flush_whole : Did means precheck s B p w a.client state gs y v flush_ds B flush_to gs flush_x u
    flush_whole = did_then means precheck s B B B p q flush_to w a.client state gs gs gs y z flush_x v v u (Logs (audit_record audit.begin found) ∷ []) flush_es stood (λ _. ran) one flush_failing

    abbrev flush_work : List Receipt
    flush_work = (audit.begin, Logs AuditBegin) ∷ (count, Logs (audit_record audit.begin found)) ∷ []

    flush_own_is : a.pending ++ receipts_from count flush_ds ≡ spanned (Some (fits.making.since, count + 1)) (flush_work ++ (count + 1, Meets StoreFailed) ∷ [])
    flush_own_is = ap (λ xs. xs ++ (count, Logs (audit_record audit.begin found)) ∷ (count + 1, Meets StoreFailed) ∷ (count + 1, EndsCheckpoint) ∷ []) fits.making.pending

    flush_lost : IsLost (after w a.client flush_ds flush_to.core) count
    flush_lost = (flush_f.at.vault.vault.stopped ∙ flush_stopped, omega (arith, same_stable means s B q gs (store_stopped (taken z)) u flush_f, flushed_within means s B p w precheck gs y v stood, ap length stood.tells.log))

    flush_met : MetCause (after w a.client flush_ds flush_to.core) a.client (count + 1) CheckpointAct None StoreFailed
    flush_met = subst (λ (l : World). MetCause l a.client (count + 1) CheckpointAct None StoreFailed) (one_then w a.client (Logs (audit_record audit.begin found)) flush_es q.core flush_to.core) (met_store mid a.client (count + 1) flush_f.to flush_to (sym mid_number))

    pub last_flush_fails : j.transcript.client ≡ k.transcript.client → lines_of j ≡ lines_of k ++ Refused CheckpointAct StoreFailed ∷ [] → rest_of j ≡ fits.making.more → j.state ≡ Outside → Went means precheck s B p w a state gs y v true j gs flush_x u
    last_flush_fails = store_failed means precheck s B B p flush_to w a state gs gs y flush_x v u k j flush_ds is flush_whole (λ n none. none) flush_stopped refl fits.making.more fits.making.since (count + 1) (count + 1) flush_work (making_spot fits.making) (making_placed fits.making) flush_own_is
        (cut_late (after w a.client flush_ds flush_to.core) audit.begin count found (inr flush_lost)) flush_met

    pub last_flush_fails_silent : j.transcript ≡ k.transcript → Went means precheck s B p w a state gs y v false j gs flush_x u
    last_flush_fails_silent = store_failed_silent means precheck s B B p flush_to w a state gs gs y flush_x v u k j flush_ds is flush_whole (λ n none. none) flush_stopped refl fits.making.more fits.making.since (count + 1) (count + 1) flush_work (making_spot fits.making) (making_placed fits.making) flush_own_is
        (cut_late (after w a.client flush_ds flush_to.core) audit.begin count found (inr flush_lost)) flush_met

  -- ---- behind a clean audit the image's sync fails, or the anchor's move
  module _ (clean : found ≡ []) (u : Vaulted V) (longer : IsNoShorter means.told v u) where
    abbrev last : SystemState
    last = in_checkpoint (store_stopped (taken z)) false

    abbrev fs : List Deed
    fs = Meets StoreFailed ∷ EndsCheckpoint ∷ []

    abbrev both : List Deed
    both = Logs (audit_record audit.begin found) ∷ fs

    abbrev done : List Receipt
    done = (audit.begin, Logs AuditBegin) ∷ (count, Logs (audit_record audit.begin found)) ∷ []

    both_own : a.pending ++ receipts_from count both ≡ spanned (Some (fits.making.since, count + 1)) (done ++ (count + 1, Meets StoreFailed) ∷ [])
    both_own = ap (λ xs. xs ++ (count, Logs (audit_record audit.begin found)) ∷ (count + 1, Meets StoreFailed) ∷ (count + 1, EndsCheckpoint) ∷ []) fits.making.pending

    both_met : (m r : Point) → MetCause (after w a.client both r.core) a.client (count + 1) CheckpointAct None StoreFailed
    both_met m r = subst (λ (l : World). MetCause l a.client (count + 1) CheckpointAct None StoreFailed) (one_then w a.client (Logs (audit_record audit.begin found)) fs q.core r.core) (met_store mid a.client (count + 1) m r (sym mid_number))

    -- behind a step that met the fault: the engine stops, and the checkpoint ends
    module _ (C : List (List Record)) (m : Point) (at_fault : IsCoreAt means s C m gs (taken z) u) (stopped : u.stopped ≡ true) where
      abbrev pub behind_fault : Point
      behind_fault = finish_point (stop_point m)

      pub stops_now : IsPointStep m (Does Stops) (stop_point m)
      stops_now = stops_there means s C m gs (taken z) u at_fault stopped

      pub at_stop : IsCoreAt means s C (stop_point m) gs (store_stopped (taken z)) u
      at_stop = stopped_at means s C m gs (taken z) u at_fault stopped

      pub finishes_now : IsPointStep (stop_point m) Finishes behind_fault
      finishes_now = finishes_there means s C (stop_point m) gs (store_stopped (taken z)) u at_stop set

      module _ (xs : List StoreStep) (course : IsPointCourse q xs behind_fault) (are : AreOfCourse mid a.client q xs behind_fault fs) (beside : (n : ℕ) → list_all (is_beside n) xs ≡ true) (out : (b : ℕ) → list_all (is_out_of b) xs ≡ true) where
        late_failing : Did means precheck s B q mid a.client state gs z v fs C behind_fault gs last u
        late_failing = did_course means precheck s B q mid gs z v one.stood a.client state xs fs C behind_fault gs last u course are
            (finished_at means s C (stop_point m) gs (store_stopped (taken z)) u at_stop set) stood.stands.dead (places_stay (means.told v.store) (means.told u.store) gs longer stood.files) (quiet_failed z one.stood.quiet)
            (λ e. has_stop z.stop) (λ n lives other. beside n) (λ b other. out b) (λ flag other. absurd (other tt))

        late_whole : Did means precheck s B p w a.client state gs y v both C behind_fault gs last u
        late_whole = did_then means precheck s B B C p q behind_fault w a.client state gs gs gs y z last v v u (Logs (audit_record audit.begin found) ∷ []) fs stood (λ _. ran) one late_failing

        pub store_fails : j.transcript.client ≡ k.transcript.client → lines_of j ≡ lines_of k ++ Refused CheckpointAct StoreFailed ∷ [] → rest_of j ≡ fits.making.more → j.state ≡ Outside → Went means precheck s B p w a state gs y v true j gs last u
        store_fails = store_failed means precheck s B C p behind_fault w a state gs gs y last v u k j both is late_whole (λ n none. none) stopped refl fits.making.more fits.making.since (count + 1) (count + 1) done (making_spot fits.making) (making_placed fits.making) both_own
            (cut_late (after w a.client both behind_fault.core) audit.begin count found (inl clean)) (both_met m behind_fault)

        pub store_fails_silent : j.transcript ≡ k.transcript → Went means precheck s B p w a state gs y v false j gs last u
        store_fails_silent = store_failed_silent means precheck s B C p behind_fault w a state gs gs y last v u k j both is late_whole (λ n none. none) stopped refl fits.making.more fits.making.since (count + 1) (count + 1) done (making_spot fits.making) (making_placed fits.making) both_own
            (cut_late (after w a.client both behind_fault.core) audit.begin count found (inl clean)) (both_met m behind_fault)

    -- the sync
    module _ (said : FailsToSync means z v u) where
      sync_f : SettledFlushed means s q gs (taken z) said.mid c fits.head fits.number
      sync_f = settled_flushed means s B q gs z (taken z) v said.mid c fits.head fits.number settled said.flushed refl

      sync_goes : Goes means s sync_f.to (SyncFails (means.faults u.store)) sync_f.batches u
      sync_goes = sync_faults means s sync_f.batches sync_f.to said.mid u sync_f.is.at.vault (ap is_some sync_f.is.is.begun) said.failed

      sync_at_goes : IsCoreAt means s sync_f.batches sync_goes.to gs (taken z) u
      sync_at_goes = faulted_at means s sync_f.batches sync_f.to gs (taken z) said.mid u (SyncFails (means.faults u.store)) sync_f.is.at sync_goes (ap (λ (x : Point). x.core.regions) sync_goes.step.1) (ap (λ (x : Point). x.core.system) sync_goes.step.1) said.failed.vault

      sync_stopped : u.stopped ≡ true
      sync_stopped = ap (λ (x : Vaulted V). x.stopped) said.failed.vault

      abbrev sync_to : Point
      sync_to = finish_point (stop_point sync_goes.to)

      sync_step : IsPointStep sync_f.course.2.0 (SyncFails (means.faults u.store)) sync_goes.to
      sync_step = subst (λ (m : Point). IsPointStep m (SyncFails (means.faults u.store)) sync_goes.to) (sym sync_f.course.2.2) sync_goes.step

      abbrev sync_w1 : World
      sync_w1 = after mid a.client [] sync_f.course.0.core

      abbrev sync_w2 : World
      sync_w2 = after sync_w1 a.client [] sync_f.course.2.0.core

      abbrev sync_w3 : World
      sync_w3 = after sync_w2 a.client (Meets StoreFailed ∷ []) sync_goes.to.core

      abbrev sync_w4 : World
      sync_w4 = after sync_w3 a.client [] (stop_point sync_goes.to).core

      sync_under : under_way sync_w4.happened ≡ Some a.client
      sync_under = under_then sync_w3 a.client [] (stop_point sync_goes.to).core ∙ (under_then sync_w2 a.client (Meets StoreFailed ∷ []) sync_goes.to.core ∙ (under_then sync_w1 a.client [] sync_f.course.2.0.core ∙ (under_then mid a.client [] sync_f.course.0.core ∙ under_mid)))

      abbrev sync_xs : List StoreStep
      sync_xs = Does Takes ∷ Does Flushes ∷ SyncFails (means.faults u.store) ∷ Does Stops ∷ Finishes ∷ []

      sync_course : IsPointCourse q sync_xs sync_to
      sync_course = (sync_f.course.0, sync_f.course.1, (sync_f.course.2.0, sync_f.course.2.1, (sync_goes.to, sync_step, (stop_point sync_goes.to, stops_now sync_f.batches sync_goes.to sync_at_goes sync_stopped, (sync_to, finishes_now sync_f.batches sync_goes.to sync_at_goes sync_stopped, refl)))))

      sync_are : AreOfCourse mid a.client q sync_xs sync_to fs
      sync_are = (
        sync_f.course.0,
        [],
        fs,
        sync_f.course.1,
        refl,
        tt,
        (
          sync_f.course.2.0,
          [],
          fs,
          sync_f.course.2.1,
          refl,
          tt,
          (
            sync_goes.to,
            Meets StoreFailed ∷ [],
            EndsCheckpoint ∷ [],
            sync_step,
            refl,
            (tt, tt),
            (stop_point sync_goes.to, [], EndsCheckpoint ∷ [], stops_now sync_f.batches sync_goes.to sync_at_goes sync_stopped, refl, tt, (sync_to, EndsCheckpoint ∷ [], [], finishes_now sync_f.batches sync_goes.to sync_at_goes sync_stopped, (refl, sync_under), (tt, tt), (refl, refl), refl), refl),
            refl,
          ),
          refl,
        ),
        refl,
      )

      pub sync_fails : j.transcript.client ≡ k.transcript.client → lines_of j ≡ lines_of k ++ Refused CheckpointAct StoreFailed ∷ [] → rest_of j ≡ fits.making.more → j.state ≡ Outside → Went means precheck s B p w a state gs y v true j gs last u
      sync_fails = store_fails sync_f.batches sync_goes.to sync_at_goes sync_stopped sync_xs sync_course sync_are (λ n. refl) (λ b. refl)

      pub sync_fails_silent : j.transcript ≡ k.transcript → Went means precheck s B p w a state gs y v false j gs last u
      sync_fails_silent = store_fails_silent sync_f.batches sync_goes.to sync_at_goes sync_stopped sync_xs sync_course sync_are (λ n. refl) (λ b. refl)

    -- the anchor's move
    module _ (said : FailsToMove means z v (side_in c) u) where
      move_certified : IsCertifiedAt q fits.number audit.begin
      move_certified = its.certified_by means precheck s B p w a gs y v k j stood is c audit next fits all runs clean

      move_f : CertifyTurn means s q gs (taken z) said.late fits.head audit.begin
      move_f = certify_turn means s B q gs z v said.mid said.late c fits.head fits.number audit.begin settled move_certified said.flushed said.synced

      move_goes : Goes means s move_f.to (TurnFails (means.faults u.store)) move_f.batches u
      move_goes = turn_faults means s move_f.batches move_f.to said.late u fits.head audit.begin move_f.end move_f.at.vault (ap is_some move_f.may.begun) move_f.may move_f.held said.failed

      move_at_goes : IsCoreAt means s move_f.batches move_goes.to gs (taken z) u
      move_at_goes = faulted_at means s move_f.batches move_f.to gs (taken z) said.late u (TurnFails (means.faults u.store)) move_f.at move_goes (ap (λ (x : Point). x.core.regions) move_goes.step.5) (ap (λ (x : Point). x.core.system) move_goes.step.5) said.failed.vault

      move_stopped : u.stopped ≡ true
      move_stopped = ap (λ (x : Vaulted V). x.stopped) said.failed.vault

      abbrev move_to : Point
      move_to = finish_point (stop_point move_goes.to)

      move_step : IsPointStep move_f.course.2.2.0 (TurnFails (means.faults u.store)) move_goes.to
      move_step = subst (λ (m : Point). IsPointStep m (TurnFails (means.faults u.store)) move_goes.to) (sym move_f.course.2.2.2) move_goes.step

      abbrev move_w1 : World
      move_w1 = after mid a.client [] move_f.course.0.core

      abbrev move_w2 : World
      move_w2 = after move_w1 a.client [] move_f.course.2.0.core

      abbrev move_w3 : World
      move_w3 = after move_w2 a.client [] move_f.course.2.2.0.core

      abbrev move_w4 : World
      move_w4 = after move_w3 a.client (Meets StoreFailed ∷ []) move_goes.to.core

      abbrev move_w5 : World
      move_w5 = after move_w4 a.client [] (stop_point move_goes.to).core

      move_under : under_way move_w5.happened ≡ Some a.client
      move_under = under_then move_w4 a.client [] (stop_point move_goes.to).core ∙ (under_then move_w3 a.client (Meets StoreFailed ∷ []) move_goes.to.core ∙ (under_then move_w2 a.client [] move_f.course.2.2.0.core ∙ (under_then move_w1 a.client [] move_f.course.2.0.core ∙ (under_then mid a.client [] move_f.course.0.core ∙ under_mid))))

      abbrev move_xs : List StoreStep
      move_xs = Does Takes ∷ Does Flushes ∷ Syncs ∷ TurnFails (means.faults u.store) ∷ Does Stops ∷ Finishes ∷ []

      move_course : IsPointCourse q move_xs move_to
      move_course = (move_f.course.0, move_f.course.1, (move_f.course.2.0, move_f.course.2.1, (move_f.course.2.2.0, move_f.course.2.2.1, (move_goes.to, move_step, (stop_point move_goes.to, stops_now move_f.batches move_goes.to move_at_goes move_stopped, (move_to, finishes_now move_f.batches move_goes.to move_at_goes move_stopped, refl))))))

      move_are : AreOfCourse mid a.client q move_xs move_to fs
      move_are = (
        move_f.course.0,
        [],
        fs,
        move_f.course.1,
        refl,
        tt,
        (
          move_f.course.2.0,
          [],
          fs,
          move_f.course.2.1,
          refl,
          tt,
          (
            move_f.course.2.2.0,
            [],
            fs,
            move_f.course.2.2.1,
            refl,
            tt,
            (
              move_goes.to,
              Meets StoreFailed ∷ [],
              EndsCheckpoint ∷ [],
              move_step,
              refl,
              (tt, tt),
              (stop_point move_goes.to, [], EndsCheckpoint ∷ [], stops_now move_f.batches move_goes.to move_at_goes move_stopped, refl, tt, (move_to, EndsCheckpoint ∷ [], [], finishes_now move_f.batches move_goes.to move_at_goes move_stopped, (refl, move_under), (tt, tt), (refl, refl), refl), refl),
              refl,
            ),
            refl,
          ),
          refl,
        ),
        refl,
      )

      pub move_fails : j.transcript.client ≡ k.transcript.client → lines_of j ≡ lines_of k ++ Refused CheckpointAct StoreFailed ∷ [] → rest_of j ≡ fits.making.more → j.state ≡ Outside → Went means precheck s B p w a state gs y v true j gs last u
      move_fails = store_fails move_f.batches move_goes.to move_at_goes move_stopped move_xs move_course move_are (λ n. refl) (λ b. refl)

      pub move_fails_silent : j.transcript ≡ k.transcript → Went means precheck s B p w a state gs y v false j gs last u
      move_fails_silent = store_fails_silent move_f.batches move_goes.to move_at_goes move_stopped move_xs move_course move_are (λ n. refl) (λ b. refl)
