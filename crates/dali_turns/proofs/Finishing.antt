-- A checkpoint of a client ends without an image.
use Rattle.std.proofs.Common.{◌≡◌, ℕ, zero, suc, ◌+◌, ◌<◌, Bool, true, false, List, [], ◌∷◌, ◌++◌, length, take, Option, Some, None, is_some, refl, ap, sym, subst, ◌∙◌, inl, arith}
use Rattle.std.specs.Prelude.{slice_get}
use Rattle.std.proofs.lemmas.List.{append_assoc}
use Rattle.std.proofs.lemmas.Option.{slice_get_within}
use Rattle.dali_record.specs.declared.records.Record.{Record}
use Rattle.dali_region.specs.State.{RegionState}
use Rattle.dali_store.specs.Store.{Files as Disk}
use Rattle.dali_store.specs.declared.store.Store.{Ghosts}
use Rattle.dali_runs.specs.declared.causes.Cause.{Cause}
use Rattle.dali_runs.specs.State.{SystemState, CoreState}
use Rattle.dali_runs.specs.Steps.{store_stopped, in_checkpoint}
use Rattle.dali_runs.specs.Keeps.{with_system}
use Rattle.dali_runs.specs.Courses.{Stops}
use Rattle.dali_crash.specs.Checkpoints.{StoreStep, Does, Finishes, Point, IsPointStep, copies_after, with_flag}
use Rattle.dali_crash.specs.Traces.{Start, bases_of}
use Rattle.dali_core.specs.Vault.Vaulted.{Vaulted, faulted}
use Rattle.dali_core.specs.Steps.At.{Goes}
use Rattle.dali_core.proofs.StepsLemmas.Steps.{quiet_goes}
use Rattle.dali_core.specs.Cores.{IsCoreAt}
use Rattle.dali_transcripts.specs.Words.{Checkpoints as CheckpointAct, Why as Reason, StoppedBy, Full, Refused, is_stop}
use Rattle.dali_transcripts.specs.World.{Deed, Meets, StartsCheckpoint, EndsCheckpoint, Happening, World, logged_by, log_of, HasDone, under_way}
use Rattle.dali_transcripts.specs.Moves.{Receipt, Outside as IsOutside, Spot, at, Move, IsRefusedCheckpoint, own}
use Rattle.dali_transcripts.specs.Causes.{IsCutAudit, IsCutBy, MaySpan, MetCause, IsStarted, AreUnfinished}
use Rattle.dali_transcripts.specs.Laws.{receipts_from}
use Rattle.dali_transcripts.specs.Rounds.{Standing, IsPlaced, by}
use Rattle.dali_transcripts.specs.Telling.Tells.{after}
use Rattle.dali_transcripts.specs.Telling.Laws.{IsNoFault}
use Rattle.dali_turns.specs.declared.client.Client.{Client}
use Rattle.dali_turns.specs.declared.client.State.{State}
use Rattle.dali_turns.specs.declared.client.State.TheVariants.{Outside}
use Rattle.dali_turns.specs.Stood.{Stood}
use Rattle.dali_turns.specs.Checkpoints.{IsMaking}
use Rattle.dali_turns.specs.Fits.{rest_of, lines_of, IsOf, Owns, Makes, Fits}
use Rattle.dali_turns.specs.Goes.{Went}
use Rattle.dali_turns.proofs.Refusals.{HasCauseNow, met_now, right_now, alone_behind, full_audit, stop_now, full_checkpoint_now}
use Rattle.dali_turns.proofs.Auditing.{rows_same}
use Rattle.dali_turns.proofs.Doing.{vault_stops, Did, did_meet, did_then, ended, outside_by, went_on, went_by, went_silent}
use Rattle.dali_turns.proofs.Coursing.{did_course}
use Rattle.dali_turns.proofs.Ending.{one_then}

-- ---- the points behind a stop and behind the end
abbrev pub stop_point : Point → Point
stop_point m = record m { core = with_system m.core (store_stopped m.core.system); copies = copies_after m.core Stops m.copies }

abbrev pub finish_point : Point → Point
finish_point m = record m { core = with_flag m.core false; begun = None }

module _ {V : Type 0} (means : Ghosts V) where
  pub stops_there : (s : Start) (B : List (List Record)) (m : Point) (gs : List RegionState) (y : SystemState) (u : Vaulted V) → IsCoreAt means s B m gs y u → u.stopped ≡ true → IsPointStep m (Does Stops) (stop_point m)
  stops_there s B m gs y u is stopped = (refl, ((is.vault.vault.stopped ∙ stopped, (refl, refl)), refl), refl)

  pub stopped_at : (s : Start) (B : List (List Record)) (m : Point) (gs : List RegionState) (y : SystemState) (u : Vaulted V) → IsCoreAt means s B m gs y u → u.stopped ≡ true
      → IsCoreAt means s B (stop_point m) gs (store_stopped y) u
  stopped_at s B m gs y u is stopped = record {
    regions = is.regions;
    system = ap store_stopped is.system;
    vault = quiet_goes means s B m (stop_point m) (Does Stops) u is.vault (stops_there s B m gs y u is stopped) refl (λ F. refl) refl;
    none_in_hand = is.none_in_hand;
  }

  pub finishes_there : (s : Start) (B : List (List Record)) (m : Point) (gs : List RegionState) (y : SystemState) (u : Vaulted V) → IsCoreAt means s B m gs y u → y.checking ≡ true → IsPointStep m Finishes (finish_point m)
  finishes_there s B m gs y u is set = (ap (λ (x : SystemState). x.checking) is.system ∙ set, refl)

  pub finished_at : (s : Start) (B : List (List Record)) (m : Point) (gs : List RegionState) (y : SystemState) (u : Vaulted V) → IsCoreAt means s B m gs y u → y.checking ≡ true
      → IsCoreAt means s B (finish_point m) gs (in_checkpoint y false) u
  finished_at s B m gs y u is set = record {
    regions = is.regions;
    system = ap (λ (x : SystemState). in_checkpoint x false) is.system;
    vault = quiet_goes means s B m (finish_point m) Finishes u is.vault (finishes_there s B m gs y u is set) refl (λ F. refl) refl;
    none_in_hand = is.none_in_hand;
  }

  -- a step that met a fault: the vault stopped, and the rest of the core is as it was
  pub faulted_at : (s : Start) (B : List (List Record)) (m : Point) (gs : List RegionState) (y : SystemState) (v u : Vaulted V) (x : StoreStep) → IsCoreAt means s B m gs y v
      → (goes : Goes means s m x B u) → goes.to.core.regions ≡ m.core.regions → goes.to.core.system ≡ m.core.system → u ≡ faulted v u.store
      → IsCoreAt means s B goes.to gs y u
  faulted_at s B m gs y v u x is goes regions system vault = record {
    regions = regions ∙ is.regions;
    system = system ∙ is.system;
    vault = goes.is;
    none_in_hand = λ runs. let no : true ≡ false = sym (ap (λ (z : Vaulted V). z.stopped) vault) ∙ runs in absurd (cc);
  }

-- ---- deeds that stand at their place still
pub done_on : (w : World) (c n d : ℕ) (x : Deed) (es : List Deed) (e : CoreState) → HasDone w c n x → HasDone (after w d es e) c n x
done_on w c n d x es e is = record {
  place = is.place;
  there = get_front w.happened (by d es) is.place (x, c) is.there;
  number = ap length (ap (λ (xs : List Happening). w.before ++ logged_by xs) (take_front w.happened (by d es) is.place (slice_get_within w.happened is.place (x, c) is.there))) ∙ is.number;
}
  where
    get_front : {X : Type 0} (A B : List X) (i : ℕ) (z : X) → slice_get A i ≡ Some z → slice_get (A ++ B) i ≡ Some z
    get_front [] B i z e = absurd (cc)
    get_front (y ∷ A) B zero z e = e
    get_front (y ∷ A) B (suc i) z e = get_front A B i z e

    take_front : {X : Type 0} (A B : List X) (i : ℕ) → i < length A → take i (A ++ B) ≡ take i A
    take_front A B zero less = refl
    take_front [] B (suc i) less = absurd (omega (arith, less))
    take_front (y ∷ A) B (suc i) less = ap (λ l. y ∷ l) (take_front A B i (omega (arith, less)))

module _ {V : Type 0} (means : Ghosts V) where
  -- ---- the end alone
  module _ (precheck : Bool) (s : Start) (B : List (List Record)) (p : Point) (w : World) (gs : List RegionState) (y : SystemState) (v : Vaulted V) (stood : Stood means s B p w precheck gs y v) (c : ℕ) (state : State) where
    pub did_finish : Makes state → y.checking ≡ true → under_way w.happened ≡ Some c → Did means precheck s B p w c state gs y v (EndsCheckpoint ∷ []) B (finish_point p) gs (in_checkpoint y false) v
    did_finish makes set under = did_course means precheck s B p w gs y v stood c state (Finishes ∷ []) (EndsCheckpoint ∷ []) B (finish_point p) gs (in_checkpoint y false) v
        (finish_point p, finishes_there means s B p gs y v stood.stands.at set, refl)
        (finish_point p, EndsCheckpoint ∷ [], [], finishes_there means s B p gs y v stood.stands.at set, (refl, under), (tt, tt), (refl, refl), refl)
        (finished_at means s B p gs y v stood.stands.at set) stood.stands.dead stood.files (record { unclaimed = stood.quiet.unclaimed }) stood.stops
        (λ t lives other. refl) (λ b other. refl) (λ flag other. absurd (other makes))

  -- ---- it is refused, and ends
  module _ (precheck : Bool) (s : Start) (B : List (List Record)) (p : Point) (w : World) (a : Standing) (state : State) (gs : List RegionState) (y : SystemState) (v : Vaulted V) (k j : Client)
      (stood : Stood means s B p w precheck gs y v) (is : IsOf w a k) (makes : Makes state) (none : (t : ℕ) → Owns state t → ⊥)
      (work : List Receipt) (making : IsMaking p w a (rest_of k) work) where
    abbrev number : ℕ
    number = length (log_of w)

    set : y.checking ≡ true
    set = ap (λ (x : SystemState). x.checking) (sym stood.stands.at.system) ∙ making.flag

    ends : Did means precheck s B p w a.client state gs y v (EndsCheckpoint ∷ []) B (finish_point p) gs (in_checkpoint y false) v
    ends = did_finish precheck s B p w gs y v stood a.client state makes set making.under

    abbrev mid : World
    mid = after w a.client (EndsCheckpoint ∷ []) (finish_point p).core

    mid_number : length (log_of mid) ≡ number
    mid_number = ap length (sym ends.goes.tells.log) ∙ ap length stood.tells.log

    starts : a.spot ≡ at (IsOutside false) (CheckpointAct ∷ making.more)
    starts = making.spot ∙ ap (at (IsOutside false)) making.makes

    placed : IsPlaced false making.more
    placed = subst (IsPlaced false) making.makes making.placed

    pub record Refusal (r : Reason) : Type 0 where
      pub no_fault : IsNoFault r
      pub cause : HasCauseNow mid a.client (finish_point p).core CheckpointAct None r
      pub stops : is_stop r ≡ true → is_some y.stop ≡ true
      pub cut : (l : World) → IsCutBy l true r work
      pub spans : MaySpan r (Some (making.since, number)) work

    -- the engine is stopped
    pub refusal_stop : (cause : Cause) → y.stop ≡ Some cause → ((l : World) → IsCutAudit l true work) → Refusal (StoppedBy cause)
    refusal_stop cause stop cut = record {
      no_fault = tt;
      cause = stop_now (bases_of s) s.log mid a.client (finish_point p) ends.stood.stands.at.vault.run ends.goes.tells (vault_stops means precheck s B p w gs y v stood) CheckpointAct None cause tt
          (ap (λ (m : SystemState). m.stop) stood.stands.at.system ∙ stop);
      stops = λ e. ap is_some stop;
      cut = cut;
      spans = tt;
    }

    -- the audit behind the image has no room
    pub refusal_full : y.stop ≡ None → y.limit + 1048576 < y.end + 1 → work ≡ [] → Refusal (Full y.end (y.limit + 1048576))
    refusal_full runs above none_yet = record {
      no_fault = tt;
      cause = subst (λ (m : SystemState). HasCauseNow mid a.client (finish_point p).core CheckpointAct None (full_audit m)) stood.stands.at.system
          (full_checkpoint_now (bases_of s) s.log mid a.client (finish_point p) ends.stood.stands.at.vault.run ends.goes.tells (vault_stops means precheck s B p w gs y v stood) (ap (λ (m : SystemState). m.stop) stood.stands.at.system ∙ runs)
          (subst (λ (m : SystemState). m.limit + 1048576 < m.end + 1) (sym stood.stands.at.system) above));
      stops = λ e. absurd (cc);
      cut = λ l. none_yet;
      spans = tt;
    }

    module _ (r : Reason) (h : Refusal r) where
      abbrev deeds : List Deed
      deeds = EndsCheckpoint ∷ Meets r ∷ []

      did : Did means precheck s B p w a.client state gs y v deeds B (finish_point p) gs (in_checkpoint y false) v
      did = did_then means precheck s B B B p (finish_point p) (finish_point p) w a.client state gs gs gs y (in_checkpoint y false) (in_checkpoint y false) v v v (EndsCheckpoint ∷ []) (Meets r ∷ []) stood (λ e. e) ends
          (did_meet means precheck s B (finish_point p) mid gs (in_checkpoint y false) v ends.stood a.client state r h.no_fault (right_now mid a.client (finish_point p).core CheckpointAct None r h.cause))

      abbrev move : Move
      move = IsRefusedCheckpoint false (Some (making.since, number)) true work number r making.more

      own_is : a.pending ++ receipts_from number deeds ≡ own move
      own_is = ap (λ xs. xs ++ (number, EndsCheckpoint) ∷ (number, Meets r) ∷ []) making.pending
          ∙ ap (λ xs. (making.since, StartsCheckpoint) ∷ xs) (sym (append_assoc work ((number, EndsCheckpoint) ∷ []) ((number, Meets r) ∷ [])))

      met : MetCause (after w a.client deeds (finish_point p).core) a.client number CheckpointAct None r
      met = subst (λ (m : World). MetCause m a.client number CheckpointAct None r) (one_then w a.client EndsCheckpoint (Meets r ∷ []) (finish_point p).core (finish_point p).core)
          (subst (λ (n : ℕ). MetCause (after mid a.client (Meets r ∷ []) (finish_point p).core) a.client n CheckpointAct None r) mid_number (met_now mid a.client (finish_point p).core CheckpointAct None r h.cause))

      pub given_up : j.transcript.client ≡ k.transcript.client → lines_of j ≡ lines_of k ++ Refused CheckpointAct r ∷ [] → rest_of j ≡ making.more → j.state ≡ Outside
          → Went means precheck s B p w a state gs y v true j gs (in_checkpoint y false) v
      given_up client lines rest now =
          went_by means precheck s B B p (finish_point p) w a state gs gs y (in_checkpoint y false) v v deeds k j is did move starts own_is (h.cut (after w a.client deeds (finish_point p).core), h.spans, (met, alone_behind (after w a.client deeds (finish_point p).core) r (making.since, number) met.met.place)) client lines
          (subst (λ (x : State). Fits means s B (finish_point p) (after w a.client deeds (finish_point p).core) gs (in_checkpoint y false) v (ended a move) (rest_of j) x) (sym now) (outside_by (in_checkpoint y false) a move (is_stop r) making.more (rest_of j) rest (λ e. h.stops e) refl placed))
          (rows_same state j.state y (in_checkpoint y false) refl none)

      pub given_up_silent : j.transcript ≡ k.transcript → Went means precheck s B p w a state gs y v false j gs (in_checkpoint y false) v
      given_up_silent same =
          went_silent means precheck s B B p (finish_point p) w a state gs gs y (in_checkpoint y false) v v deeds k j is did move starts own_is (h.cut (after w a.client deeds (finish_point p).core), h.spans, (met, alone_behind (after w a.client deeds (finish_point p).core) r (making.since, number) met.met.place)) same

    -- memory was refused
    pub given_up_none : ((m n : ℕ) → IsStarted ((m, StartsCheckpoint) ∷ (work ++ (n, EndsCheckpoint) ∷ []))) → j.transcript ≡ k.transcript → Went means precheck s B p w a state gs y v false j gs (in_checkpoint y false) v
    given_up_none started same =
        went_on means precheck s B B p (finish_point p) w a state gs gs y (in_checkpoint y false) v v (EndsCheckpoint ∷ []) k j is ends false same
        (inl (refl, unfinished (a.pending ++ (number, EndsCheckpoint) ∷ []) (ap (λ xs. xs ++ (number, EndsCheckpoint) ∷ []) making.pending) a.spot starts))
        (λ e. absurd (cc))
      where
        unfinished : (pending : List Receipt) → pending ≡ (making.since, StartsCheckpoint) ∷ (work ++ (number, EndsCheckpoint) ∷ []) → (spot : Spot) → spot ≡ at (IsOutside false) (CheckpointAct ∷ making.more) → AreUnfinished mid a.client spot.place spot.rest pending
        unfinished pending own_is spot there =
            subst (λ (x : Spot). AreUnfinished mid a.client x.place x.rest pending) (sym there)
            (subst (λ xs. AreUnfinished mid a.client (IsOutside false) (CheckpointAct ∷ making.more) xs) (sym own_is) (started making.since number))
