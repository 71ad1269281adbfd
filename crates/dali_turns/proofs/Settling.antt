-- The image of a client's checkpoint is settled, and its audit begins; or the store fails in it.
use Rattle.std.proofs.Common.{◌≡◌, ℕ, ◌+◌, ◌<◌, ◌≤◌, ◌^◌, Bool, true, false, List, [], ◌∷◌, ◌++◌, length, replicate, Option, Some, None, is_some, refl, ap, sym, subst, ◌∙◌, arith}
use Rattle.std.proofs.lemmas.List.{append-nil}
use Rattle.dali_geometry.specs.Places.{regions}
use Rattle.dali_record.specs.declared.records.Record.{Record}
use Rattle.dali_record.specs.declared.records.Record.TheVariants.{AuditBegin}
use Rattle.dali_region.specs.declared.Side.{Side}
use Rattle.dali_region.specs.State.{RegionState}
use Rattle.dali_store.specs.Store.{Files as Disk}
use Rattle.dali_store.specs.declared.store.Store.{Ghosts}
use Rattle.dali_runs.specs.State.{SystemState, CoreState}
use Rattle.dali_runs.specs.Steps.{taken, store_stopped, in_checkpoint, audit_begun}
use Rattle.dali_runs.specs.Courses.{Takes, Flushes, Faults, Stops, AuditBegins}
use Rattle.dali_crash.specs.Checkpoints.{Does, WritesHead, HeadFails, Finishes, Point, IsPointStep}
use Rattle.dali_crash.specs.Traces.{Start}
use Rattle.dali_crash.specs.Disks.Disks.{image_name}
use Rattle.dali_crash.specs.Disks.Places.{place_of}
use Rattle.dali_core.specs.Vault.Vaulted.{Vaulted}
use Rattle.dali_core.specs.Steps.At.{Goes}
use Rattle.dali_core.specs.Steps.Said.{WriteHasFailed}
use Rattle.dali_core.proofs.StepsLemmas.Steps.{head_faults}
use Rattle.dali_core.specs.Cores.{IsCoreAt}
use Rattle.dali_core.specs.Flushed.{FailsFrame, HasStopped}
use Rattle.dali_core.proofs.Flushing.{flush_fails}
use Rattle.dali_audit.specs.declared.audit.Finding.TheVariants.{Waiting}
use Rattle.dali_audit.specs.Findings.{Audited}
use Rattle.dali_checkpoint.specs.Kept.{Checkpointed, side_in}
use Rattle.dali_checkpoint.specs.Done.{Writes, WriteFails}
use Rattle.dali_core.specs.Cores.{IsNoShorter}
use Rattle.dali_checkpoint.specs.Running.{PassesTell, IsCopying, IsSettled}
use Rattle.dali_checkpoint.specs.Laws.{HasSettled}
use Rattle.dali_checkpoint.proofs.Audited.{begins_telling}
use Rattle.dali_checkpoint.proofs.Calls.{side_is_next, settle_goes_on, copying_flushed, CopyingFlushed}
use Rattle.dali_checkpoint.proofs.Lengths.{places_stay}
use Rattle.dali_transcripts.specs.Words.{Checkpoints as CheckpointAct, Full, StoreFailed, Refused}
use Rattle.dali_transcripts.specs.World.{Deed, Logs, Meets, StartsCheckpoint, EndsCheckpoint, World, log_of, under_way}
use Rattle.dali_transcripts.specs.Moves.{Outside as IsOutside, at, spanned}
use Rattle.dali_transcripts.specs.Laws.{receipts_from}
use Rattle.dali_transcripts.specs.Rounds.{Standing, IsPlaced}
use Rattle.dali_transcripts.specs.Telling.Tells.{after}
use Rattle.dali_turns.specs.declared.client.Client.{Client}
use Rattle.dali_turns.specs.declared.client.State.{State}
use Rattle.dali_turns.specs.declared.client.State.TheVariants.{Outside, Copying, Certifying}
use Rattle.dali_turns.specs.Stood.{IsQuiet, Stood}
use Rattle.dali_turns.specs.Audits.{IsPassing}
use Rattle.dali_turns.specs.Checkpoints.{IsMaking, FitsCopying}
use Rattle.dali_turns.specs.Fits.{rest_of, lines_of, IsOf, Fits}
use Rattle.dali_turns.specs.Others.{ImageStays}
use Rattle.dali_turns.specs.Goes.{Went}
use Rattle.dali_turns.proofs.Locking.{others_on}
use Rattle.dali_turns.proofs.Auditing.{rows_same, begun_point, begun_step, did_begin, begun_passing, numbers}
use Rattle.dali_turns.proofs.Flushing.{has_stop}
use Rattle.dali_turns.proofs.Beside.{step_image}
use Rattle.dali_turns.proofs.Doing.{Did, did_then, did_went, behind, so_far, went_on}
use Rattle.dali_turns.proofs.Coursing.{did_course}
use Rattle.dali_turns.proofs.Finishing.{Refusal, refusal_full, given_up, given_up_silent, given_up_none, stop_point, finish_point, stops_there, stopped_at, finishes_there, finished_at, faulted_at}
use Rattle.dali_turns.proofs.Starting.{under_then, making_spot, making_placed}
use Rattle.dali_turns.proofs.Copies.{store_failed, store_failed_silent, met_store}

-- rows are left
pub quiet_failed : (y : SystemState) → IsQuiet y → IsQuiet (in_checkpoint (store_stopped (taken y)) false)
quiet_failed y quiet = record { unclaimed = quiet.unclaimed }

module _ {V : Type 0} (means : Ghosts V)
    (precheck : Bool) (s : Start) (B : List (List Record)) (p : Point) (w : World) (a : Standing) (gs : List RegionState) (y : SystemState) (v : Vaulted V) (k j : Client)
    (stood : Stood means s B p w precheck gs y v) (is : IsOf w a k)
    (c : Checkpointed) (next : ℕ) (fits : FitsCopying means s B p w gs y v a (rest_of k) c next) (runs : v.stopped ≡ false) where
  abbrev state : State
  state = Copying c next

  abbrev number : ℕ
  number = length (log_of w)

  copying : IsCopying means s B p gs y v c fits.head
  copying = fits.copying runs

  set : y.checking ≡ true
  set = ap (λ (x : SystemState). x.checking) (sym stood.stands.at.system) ∙ fits.making.flag

  -- ---- Ok
  module _ (u : Vaulted V) (all : c.copied ≡ regions c.header.geometry) (said : Writes means y v (image_name (side_in c)) (place_of c.copied) c.table u) (longer : IsNoShorter means.told v u) where
    pub st : HasSettled means s p gs (taken y) u (record c { settled = Some y.records }) fits.head y.records
    st = settle_goes_on means s B p gs y (taken y) v u c fits.head copying all said refl

    ran : u.stopped ≡ false
    ran = said.written.ok.runs

    abbrev mid : World
    mid = after w a.client [] st.to.core

    pub did_settle : Did means precheck s B p w a.client state gs y v [] st.batches st.to gs (taken y) u
    did_settle = did_course means precheck s B p w gs y v stood a.client state (Does Takes ∷ Does Flushes ∷ WritesHead fits.head ∷ []) [] st.batches st.to gs (taken y) u st.course
        (st.course.0, [], [], st.course.1, refl, tt, (st.course.2.0, [], [], st.course.2.1, refl, tt, (st.course.2.2.0, [], [], st.course.2.2.1, refl, tt, (st.course.2.2.2, refl), refl), refl), refl)
        st.is.at stood.stands.dead (places_stay (means.told v.store) (means.told u.store) gs longer stood.files) (record { unclaimed = stood.quiet.unclaimed })
        (λ e. let no : true ≡ false = sym e ∙ ran in absurd (cc)) (λ t lives other. refl) (λ b other. refl) (λ flag other. absurd (other tt))

    pub under_mid : under_way mid.happened ≡ Some a.client
    under_mid = under_then w a.client [] st.to.core ∙ fits.making.under

    module _ (stop : y.stop ≡ None) (room : y.end + 1 ≤ y.limit + 1048576) (audit : Audited) (begin : audit.begin ≡ y.records) (findings : audit.findings ≡ replicate (regions y.sizes) Waiting) (small : y.records < 2 ^ 64) (few : regions y.sizes < 2 ^ 32) where
      abbrev q : Point
      q = begun_point st.to

      abbrev late : World
      late = after mid a.client (Logs AuditBegin ∷ []) q.core

      begins : Did means precheck s st.batches st.to mid a.client state gs (taken y) u (Logs AuditBegin ∷ []) st.batches q gs (audit_begun (taken y)) u
      begins = did_begin means precheck s st.batches st.to mid gs (taken y) u did_settle.stood a.client state stop room

      begun : Did means precheck s B p w a.client state gs y v (Logs AuditBegin ∷ []) st.batches q gs (audit_begun (taken y)) u
      begun = did_then means precheck s B st.batches st.batches p st.to q w a.client state gs gs gs y (taken y) (audit_begun (taken y)) v u u [] (Logs AuditBegin ∷ []) stood (λ e. e) did_settle begins

      step : IsPointStep st.to (Does AuditBegins) q
      step = begun_step means precheck s st.batches st.to mid gs (taken y) u did_settle.stood a.client state stop room

      image : ImageStays means s st.batches st.to gs (taken y) u st.batches q q.core.regions q.core.system u
      image = step_image means s st.batches st.to q AuditBegins gs (taken y) u refl step refl st.is.at.system

      -- the two ways to the same world
      same_world : late ≡ after w a.client (Logs AuditBegin ∷ []) q.core
      same_world = ap (λ h. record w { happened = h ++ (Logs AuditBegin, a.client) ∷ []; core = q.core }) (append-nil w.happened)

      number_is : number ≡ audit.begin
      number_is = sym (numbers means precheck s B p w gs y v stood a.client state) ∙ sym begin

      pub certifies : j.transcript ≡ k.transcript → rest_of j ≡ rest_of k → j.state ≡ Certifying (record c { settled = Some y.records }) audit 0
          → Went means precheck s B p w a state gs y v true j gs (audit_begun (taken y)) u
      certifies same rest now =
          went_on means precheck s B st.batches p q w a state gs gs y (audit_begun (taken y)) v u (Logs AuditBegin ∷ []) k j is begun true same
          (subst (λ (x : State). Fits means s st.batches q (after w a.client (Logs AuditBegin ∷ []) q.core) gs (audit_begun (taken y)) u (behind a w (Logs AuditBegin ∷ [])) (rest_of j) x) (sym now) (record {
            making = record {
              more = fits.making.more;
              makes = rest ∙ fits.making.makes;
              spot = fits.making.spot ∙ ap (at (IsOutside false)) (sym rest);
              since = fits.making.since;
              pending = ap (λ xs. xs ++ (number, Logs AuditBegin) ∷ []) fits.making.pending ∙ ap (λ (n : ℕ). (fits.making.since, StartsCheckpoint) ∷ (n, Logs AuditBegin) ∷ []) number_is;
              placed = subst (IsPlaced false) (sym rest) fits.making.placed;
              flag = ap (λ (m : SystemState). m.checking) st.is.at.system ∙ set;
              under = under_then w a.client (Logs AuditBegin ∷ []) q.core ∙ fits.making.under;
            };
            head = fits.head;
            number = y.records;
            settled = λ _. subst (λ (rs : List RegionState). IsSettled means s st.batches q rs (audit_begun (taken y)) u (record c { settled = Some y.records }) fits.head y.records) st.is.at.regions
                (subst (λ (m : SystemState). IsSettled means s st.batches q q.core.regions m u (record c { settled = Some y.records }) fits.head y.records) (ap audit_begun st.is.at.system) (image.settled ran (record c { settled = Some y.records }) fits.head y.records st.is));
            passes = λ _. subst (λ (n : ℕ). PassesTell q n) (ap (λ (m : SystemState). m.records) st.is.at.system ∙ sym begin) (begins_telling st.to q step);
            settled_at = refl;
            behind = omega (arith, begin);
            sound = fits.sound;
            passing = subst (λ (l : World). IsPassing q l audit 0) same_world (begun_passing means precheck s st.batches st.to mid gs (taken y) u did_settle.stood a.client state stop room audit begin findings small few);
          }))
          (λ e. rows_same state j.state y (audit_begun (taken y)) refl (λ t none. none))

    -- ---- its audit can't begin
    abbrev making_mid : IsMaking st.to mid (behind a w []) (rest_of k) []
    making_mid = record {
      more = fits.making.more;
      makes = fits.making.makes;
      spot = fits.making.spot;
      since = fits.making.since;
      pending = ap (λ xs. xs ++ []) fits.making.pending;
      placed = fits.making.placed;
      flag = ap (λ (m : SystemState). m.checking) st.is.at.system ∙ set;
      under = under_mid;
    }

    is_mid : IsOf mid (behind a w []) k
    is_mid = record {
      client = is.client;
      lines = is.lines;
      stands = so_far means precheck s B st.batches p st.to w a state gs gs y (taken y) v u [] k j is did_settle;
      others = others_on w mid a (behind a w []) did_settle.goes.grows y (taken y) (ap (λ (c : CoreState). c.system) stood.tells.core ∙ stood.stands.at.system) st.is.at.system refl refl (λ up. up) (λ t lives. (lives, λ n. refl)) is.others;
    }

    goes_on_with : (ok : Bool) → Went means precheck s st.batches st.to mid (behind a w []) state gs (taken y) u ok j gs (in_checkpoint (taken y) false) u → Went means precheck s B p w a state gs y v ok j gs (in_checkpoint (taken y) false) u
    goes_on_with ok went = did_went means precheck s B st.batches p st.to w a state gs gs gs y (taken y) (in_checkpoint (taken y) false) v u u [] ok j stood (λ e. e) refl did_settle went

    full_there : y.stop ≡ None → y.limit + 1048576 < y.end + 1 → Refusal means precheck s st.batches st.to mid (behind a w []) state gs (taken y) u k j did_settle.stood is_mid tt (λ t none. none) [] making_mid (Full y.end (y.limit + 1048576))
    full_there stop above = refusal_full means precheck s st.batches st.to mid (behind a w []) state gs (taken y) u k j did_settle.stood is_mid tt (λ t none. none) [] making_mid stop above refl

    pub full_settle : y.stop ≡ None → y.limit + 1048576 < y.end + 1 → j.transcript.client ≡ k.transcript.client → lines_of j ≡ lines_of k ++ Refused CheckpointAct (Full y.end (y.limit + 1048576)) ∷ [] → rest_of j ≡ fits.making.more → j.state ≡ Outside
        → Went means precheck s B p w a state gs y v true j gs (in_checkpoint (taken y) false) u
    full_settle stop above client lines rest now = goes_on_with true (given_up means precheck s st.batches st.to mid (behind a w []) state gs (taken y) u k j did_settle.stood is_mid tt (λ t none. none) [] making_mid (Full y.end (y.limit + 1048576)) (full_there stop above) client lines rest now)

    pub full_silent : y.stop ≡ None → y.limit + 1048576 < y.end + 1 → j.transcript ≡ k.transcript → Went means precheck s B p w a state gs y v false j gs (in_checkpoint (taken y) false) u
    full_silent stop above same = goes_on_with false (given_up_silent means precheck s st.batches st.to mid (behind a w []) state gs (taken y) u k j did_settle.stood is_mid tt (λ t none. none) [] making_mid (Full y.end (y.limit + 1048576)) (full_there stop above) same)

    pub no_audit : j.transcript ≡ k.transcript → Went means precheck s B p w a state gs y v false j gs (in_checkpoint (taken y) false) u
    no_audit same = goes_on_with false (given_up_none means precheck s st.batches st.to mid (behind a w []) state gs (taken y) u k j did_settle.stood is_mid tt (λ t none. none) [] making_mid (λ m n. tt) same)

  -- ---- the store fails
  module _ (u : Vaulted V) (longer : IsNoShorter means.told v u) where
    abbrev z : SystemState
    z = in_checkpoint (store_stopped (taken y)) false

    abbrev ds : List Deed
    ds = Meets StoreFailed ∷ EndsCheckpoint ∷ []

    own_is : a.pending ++ receipts_from number ds ≡ spanned (Some (fits.making.since, number)) ([] ++ (number, Meets StoreFailed) ∷ [])
    own_is = ap (λ l. l ++ (number, Meets StoreFailed) ∷ (number, EndsCheckpoint) ∷ []) fits.making.pending

    -- in the flush
    module _ (said : FailsFrame means y v u) where
      flush_f : HasStopped means s B p gs (store_stopped (taken y)) u
      flush_f = flush_fails means gs y (store_stopped (taken y)) v u said refl s B p stood.stands.at

      flush_stopped : u.stopped ≡ true
      flush_stopped = ap (λ (x : Vaulted V). x.stopped) said.2.vault

      abbrev flush_q : Point
      flush_q = finish_point flush_f.to

      flush_finishes : IsPointStep flush_f.course.2.2.0 Finishes flush_q
      flush_finishes = subst (λ (m : Point). IsPointStep m Finishes flush_q) (sym flush_f.course.2.2.2) (finishes_there means s B flush_f.to gs (store_stopped (taken y)) u flush_f.at set)

      abbrev flush_w1 : World
      flush_w1 = after w a.client [] flush_f.course.0.core

      abbrev flush_w2 : World
      flush_w2 = after flush_w1 a.client (Meets StoreFailed ∷ []) flush_f.course.2.0.core

      abbrev flush_w3 : World
      flush_w3 = after flush_w2 a.client [] flush_f.course.2.2.0.core

      flush_under : under_way flush_w3.happened ≡ Some a.client
      flush_under = under_then flush_w2 a.client [] flush_f.course.2.2.0.core ∙ (under_then flush_w1 a.client (Meets StoreFailed ∷ []) flush_f.course.2.0.core ∙ (under_then w a.client [] flush_f.course.0.core ∙ fits.making.under))

      flush_failing : Did means precheck s B p w a.client state gs y v ds B flush_q gs z u
      flush_failing = did_course means precheck s B p w gs y v stood a.client state (Does Takes ∷ Does (Faults (means.faults u.store)) ∷ Does Stops ∷ Finishes ∷ []) ds B flush_q gs z u
          (flush_f.course.0, flush_f.course.1, (flush_f.course.2.0, flush_f.course.2.1, (flush_f.course.2.2.0, flush_f.course.2.2.1, (flush_q, flush_finishes, refl))))
          (flush_f.course.0, [], ds, flush_f.course.1, refl, tt, (flush_f.course.2.0, Meets StoreFailed ∷ [], EndsCheckpoint ∷ [], flush_f.course.2.1, refl, (tt, tt), (flush_f.course.2.2.0, [], EndsCheckpoint ∷ [], flush_f.course.2.2.1, refl, tt, (flush_q, EndsCheckpoint ∷ [], [], flush_finishes, (refl, flush_under), (tt, tt), (refl, refl), refl), refl), refl), refl)
          (finished_at means s B flush_f.to gs (store_stopped (taken y)) u flush_f.at set) stood.stands.dead (places_stay (means.told v.store) (means.told u.store) gs longer stood.files) (quiet_failed y stood.quiet)
          (λ e. has_stop y.stop) (λ t lives other. refl) (λ b other. refl) (λ flag other. absurd (other tt))

      pub flush_fails_settle : j.transcript.client ≡ k.transcript.client → lines_of j ≡ lines_of k ++ Refused CheckpointAct StoreFailed ∷ [] → rest_of j ≡ fits.making.more → j.state ≡ Outside → Went means precheck s B p w a state gs y v true j gs z u
      flush_fails_settle = store_failed means precheck s B B p flush_q w a state gs gs y z v u k j ds is flush_failing (λ t none. none) flush_stopped refl fits.making.more fits.making.since number number [] (making_spot fits.making) (making_placed fits.making) own_is tt (met_store w a.client number flush_f.to flush_q refl)

      pub flush_fails_silent : j.transcript ≡ k.transcript → Went means precheck s B p w a state gs y v false j gs z u
      flush_fails_silent = store_failed_silent means precheck s B B p flush_q w a state gs gs y z v u k j ds is flush_failing (λ t none. none) flush_stopped refl fits.making.more fits.making.since number number [] (making_spot fits.making) (making_placed fits.making) own_is tt (met_store w a.client number flush_f.to flush_q refl)

    -- in the table's write
    module _ (at_place n : ℕ) (said : WriteFails means y v (image_name (side_in c)) at_place n u) where
      table_f : CopyingFlushed means s p gs (taken y) said.mid c fits.head
      table_f = copying_flushed means s B p gs y (taken y) v said.mid c fits.head copying said.flushed refl

      table_stopped : u.stopped ≡ true
      table_stopped = ap (λ (x : Vaulted V). x.stopped) said.failed.vault

      table_goes : Goes means s table_f.to (HeadFails fits.head (means.faults u.store)) table_f.batches u
      table_goes = head_faults means s table_f.batches table_f.to said.mid u fits.head at_place n table_f.is.at.vault (ap is_some table_f.is.is.begun)
          (subst (λ (side : Side). WriteHasFailed means said.mid (image_name side) at_place n u) (side_is_next means s table_f.batches table_f.to gs (taken y) said.mid c fits.head table_f.is.at.vault.run table_f.is.is) said.failed)

      table_one : IsCoreAt means s table_f.batches table_goes.to gs (taken y) u
      table_one = faulted_at means s table_f.batches table_f.to gs (taken y) said.mid u (HeadFails fits.head (means.faults u.store)) table_f.is.at table_goes (ap (λ (x : Point). x.core.regions) table_goes.step.1) (ap (λ (x : Point). x.core.system) table_goes.step.1) said.failed.vault

      table_two : IsCoreAt means s table_f.batches (stop_point table_goes.to) gs (store_stopped (taken y)) u
      table_two = stopped_at means s table_f.batches table_goes.to gs (taken y) u table_one table_stopped

      abbrev table_q : Point
      table_q = finish_point (stop_point table_goes.to)

      table_fails : IsPointStep table_f.course.2.0 (HeadFails fits.head (means.faults u.store)) table_goes.to
      table_fails = subst (λ (m : Point). IsPointStep m (HeadFails fits.head (means.faults u.store)) table_goes.to) (sym table_f.course.2.2) table_goes.step

      table_stops : IsPointStep table_goes.to (Does Stops) (stop_point table_goes.to)
      table_stops = stops_there means s table_f.batches table_goes.to gs (taken y) u table_one table_stopped

      table_finishes : IsPointStep (stop_point table_goes.to) Finishes table_q
      table_finishes = finishes_there means s table_f.batches (stop_point table_goes.to) gs (store_stopped (taken y)) u table_two set

      abbrev table_w1 : World
      table_w1 = after w a.client [] table_f.course.0.core

      abbrev table_w2 : World
      table_w2 = after table_w1 a.client [] table_f.course.2.0.core

      abbrev table_w3 : World
      table_w3 = after table_w2 a.client (Meets StoreFailed ∷ []) table_goes.to.core

      abbrev table_w4 : World
      table_w4 = after table_w3 a.client [] (stop_point table_goes.to).core

      table_under : under_way table_w4.happened ≡ Some a.client
      table_under = under_then table_w3 a.client [] (stop_point table_goes.to).core ∙ (under_then table_w2 a.client (Meets StoreFailed ∷ []) table_goes.to.core ∙ (under_then table_w1 a.client [] table_f.course.2.0.core ∙ (under_then w a.client [] table_f.course.0.core ∙ fits.making.under)))

      table_failing : Did means precheck s B p w a.client state gs y v ds table_f.batches table_q gs z u
      table_failing = did_course means precheck s B p w gs y v stood a.client state (Does Takes ∷ Does Flushes ∷ HeadFails fits.head (means.faults u.store) ∷ Does Stops ∷ Finishes ∷ []) ds table_f.batches table_q gs z u
          (table_f.course.0, table_f.course.1, (table_f.course.2.0, table_f.course.2.1, (table_goes.to, table_fails, (stop_point table_goes.to, table_stops, (table_q, table_finishes, refl))))) (
            table_f.course.0,
            [],
            ds,
            table_f.course.1,
            refl,
            tt,
            (
              table_f.course.2.0,
              [],
              ds,
              table_f.course.2.1,
              refl,
              tt,
              (
                table_goes.to,
                Meets StoreFailed ∷ [],
                EndsCheckpoint ∷ [],
                table_fails,
                refl,
                (tt, tt),
                (stop_point table_goes.to, [], EndsCheckpoint ∷ [], table_stops, refl, tt, (table_q, EndsCheckpoint ∷ [], [], table_finishes, (refl, table_under), (tt, tt), (refl, refl), refl), refl),
                refl,
              ),
              refl,
            ),
            refl,
          )
          (finished_at means s table_f.batches (stop_point table_goes.to) gs (store_stopped (taken y)) u table_two set) stood.stands.dead (places_stay (means.told v.store) (means.told u.store) gs longer stood.files) (quiet_failed y stood.quiet)
          (λ e. has_stop y.stop) (λ t lives other. refl) (λ b other. refl) (λ flag other. absurd (other tt))

      pub table_fails_settle : j.transcript.client ≡ k.transcript.client → lines_of j ≡ lines_of k ++ Refused CheckpointAct StoreFailed ∷ [] → rest_of j ≡ fits.making.more → j.state ≡ Outside → Went means precheck s B p w a state gs y v true j gs z u
      table_fails_settle = store_failed means precheck s B table_f.batches p table_q w a state gs gs y z v u k j ds is table_failing (λ t none. none) table_stopped refl fits.making.more fits.making.since number number [] (making_spot fits.making) (making_placed fits.making) own_is tt (met_store w a.client number table_goes.to table_q refl)

      pub table_fails_silent : j.transcript ≡ k.transcript → Went means precheck s B p w a state gs y v false j gs z u
      table_fails_silent = store_failed_silent means precheck s B table_f.batches p table_q w a state gs gs y z v u k j ds is table_failing (λ t none. none) table_stopped refl fits.making.more fits.making.since number number [] (making_spot fits.making) (making_placed fits.making) own_is tt (met_store w a.client number table_goes.to table_q refl)
