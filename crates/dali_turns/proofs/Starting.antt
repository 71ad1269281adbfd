-- A checkpoint of a client starts, or is refused.
use Rattle.std.proofs.Common.{◌≡◌, ℕ, Bool, true, false, List, [], ◌∷◌, ◌++◌, length, fold, Option, Some, None, is_some, refl, ap, sym, subst, ◌∙◌, inl, arith}
use Rattle.std.specs.Prelude.{◌||◌}
use Rattle.std.proofs.lemmas.Bool.{ne_eqb}
use Rattle.std.proofs.lemmas.List.{append-nil}
use Rattle.std.proofs.lemmas.List.Sums.{fold-append}
use Rattle.dali_lists.proofs.Options.{none_of_test, some_of_test}
use Rattle.dali_record.specs.declared.records.Record.{Record}
use Rattle.dali_region.specs.State.{RegionState}
use Rattle.dali_store.specs.Store.{Files as Disk}
use Rattle.dali_store.specs.declared.store.Store.{Ghosts}
use Rattle.dali_runs.specs.declared.causes.Cause.{Cause}
use Rattle.dali_runs.specs.State.{SystemState, CoreState}
use Rattle.dali_runs.specs.Steps.{taken, in_checkpoint}
use Rattle.dali_runs.specs.Courses.{Takes, Flushes}
use Rattle.dali_crash.specs.Checkpoints.{Does, Starts, Keeps as KeepsAll, WritesHead, Point}
use Rattle.dali_crash.specs.Traces.{Start, bases_of}
use Rattle.dali_core.specs.Vault.Vaulted.{Vaulted}
use Rattle.dali_checkpoint.specs.Kept.{Checkpointed}
use Rattle.dali_checkpoint.specs.Done.{HasStarted}
use Rattle.dali_core.specs.Cores.{IsNoShorter}
use Rattle.dali_checkpoint.specs.Running.{IsIdle}
use Rattle.dali_checkpoint.specs.Laws.{Started}
use Rattle.dali_checkpoint.proofs.Calls.{start_goes}
use Rattle.dali_checkpoint.proofs.Lengths.{places_stay}
use Rattle.dali_transcripts.specs.Words.{Act, Checkpoints as CheckpointAct, Why as Reason, StoppedBy, UnderWay, Refused, is_stop}
use Rattle.dali_transcripts.specs.World.{Deed, Meets, StartsCheckpoint, World, log_of, span_step, under_way}
use Rattle.dali_transcripts.specs.Moves.{Receipt, Outside as IsOutside, Spot, at, Move, IsRefusedCheckpoint, own}
use Rattle.dali_transcripts.specs.Causes.{IsCutBy, IsAlone, AreUnfinished}
use Rattle.dali_transcripts.specs.Laws.{receipts_from}
use Rattle.dali_transcripts.specs.Rounds.{Standing, IsPlaced, by}
use Rattle.dali_transcripts.specs.Telling.Tells.{after}
use Rattle.dali_transcripts.specs.Telling.Laws.{IsNoFault}
use Rattle.dali_turns.specs.declared.client.Client.{Client}
use Rattle.dali_turns.specs.declared.client.State.{State}
use Rattle.dali_turns.specs.declared.client.State.TheVariants.{Outside, Copying}
use Rattle.dali_turns.specs.Stood.{Stood}
use Rattle.dali_turns.specs.Checkpoints.{IsMaking}
use Rattle.dali_turns.specs.Outside.{FitsOutside}
use Rattle.dali_turns.specs.Fits.{rest_of, lines_of, IsOf, Fits}
use Rattle.dali_turns.specs.Goes.{Went}
use Rattle.dali_turns.proofs.Refusals.{front, HasCauseNow, met_now, right_now, stop_now, may_say_more, says_none}
use Rattle.dali_turns.proofs.Auditing.{rows_same}
use Rattle.dali_turns.proofs.Doing.{vault_stops, Did, did_nothing, did_meet, behind, ended, outside_by, went_on, went_by, went_silent}
use Rattle.dali_turns.proofs.Coursing.{did_course}
use Rattle.dali_turns.proofs.Spans.{none_under_way}

-- what is under way behind more deeds
pub under_then : (w : World) (c : ℕ) (ds : List Deed) (d : CoreState) → under_way (after w c ds d).happened ≡ fold span_step (under_way w.happened) (by c ds)
under_then w c ds d = fold-append span_step None w.happened (by c ds)

-- where a client stands that makes one, with the commands behind it
module _ {p : Point} {w : World} {a : Standing} {rest : List Act} {own : List Receipt} (m : IsMaking p w a rest own) where
  pub making_spot : a.spot ≡ at (IsOutside false) (CheckpointAct ∷ m.more)
  making_spot = m.spot ∙ ap (at (IsOutside false)) m.makes

  pub making_placed : IsPlaced false m.more
  making_placed = subst (IsPlaced false) m.makes m.placed

-- a checkpoint is made still behind a step that tells no deed
pub making_on : (p q : Point) (w : World) (a : Standing) (acts rest : List Act) (own : List Receipt) → IsMaking p w a acts own → rest ≡ acts → q.core.system.checking ≡ true → IsMaking q (after w a.client [] q.core) (behind a w []) rest own
making_on p q w a acts rest own m same flag = record {
  more = m.more;
  makes = same ∙ m.makes;
  spot = m.spot ∙ ap (at (IsOutside false)) (sym same);
  since = m.since;
  pending = append-nil a.pending ∙ m.pending;
  placed = subst (IsPlaced false) (sym same) m.placed;
  flag = flag;
  under = under_then w a.client [] q.core ∙ m.under;
}

module _ {V : Type 0} (means : Ghosts V)
    (precheck : Bool) (s : Start) (B : List (List Record)) (p : Point) (w : World) (a : Standing) (gs : List RegionState) (y : SystemState) (v : Vaulted V) (k j : Client)
    (stood : Stood means s B p w precheck gs y v) (is : IsOf w a k)
    (fits : FitsOutside y a (rest_of k)) (more : List Act) (next : rest_of k ≡ CheckpointAct ∷ more) where
  abbrev number : ℕ
  number = length (log_of w)

  spot_is : a.spot ≡ at (IsOutside fits.said) (CheckpointAct ∷ more)
  spot_is = fits.spot ∙ ap (at (IsOutside fits.said)) next

  -- the flag is clear: nothing is kept
  pub idle : y.checking ≡ false → IsIdle means s B p gs y v
  idle clear = record { at = stood.stands.at; flag = clear; begun = none_of_test p.begun (by_flag (is_some p.begun) refl) }
    where
      by_flag : (b : Bool) → is_some p.begun ≡ b → is_some p.begun ≡ false
      by_flag false e = e
      by_flag true e = let set : y.checking ≡ true = ap (λ (m : SystemState). m.checking) (sym stood.stands.at.system) ∙ stood.keeps e in let no : true ≡ false = sym set ∙ clear in absurd (cc)

  -- ---- Ok
  module _ (stop : y.stop ≡ None) (clear : y.checking ≡ false) (c : Checkpointed) (u : Vaulted V) (started : HasStarted means y v c u) (files : IsNoShorter means.told v u) where
    abbrev z : SystemState
    z = in_checkpoint (taken y) true

    st : Started means s p gs y z u c
    st = start_goes means s B p gs y z v u c (idle clear) started refl

    runs : u.stopped ≡ false
    runs = started.writes.written.ok.runs

    abbrev now : World
    now = after w a.client (StartsCheckpoint ∷ []) st.to.core

    did : Did means precheck s B p w a.client Outside gs y v (StartsCheckpoint ∷ []) st.batches st.to gs z u
    did = did_course means precheck s B p w gs y v stood a.client Outside (Starts ∷ Does Takes ∷ Does Flushes ∷ KeepsAll ∷ WritesHead st.head ∷ []) (StartsCheckpoint ∷ []) st.batches st.to gs z u st.course (
      st.course.0,
      StartsCheckpoint ∷ [],
      [],
      st.course.1,
      refl,
      (tt, tt),
      (
        st.course.2.0,
        [],
        [],
        st.course.2.1,
        refl,
        tt,
        (
          st.course.2.2.0,
          [],
          [],
          st.course.2.2.1,
          refl,
          tt,
          (st.course.2.2.2.0, [], [], st.course.2.2.2.1, refl, tt, (st.course.2.2.2.2.0, [], [], st.course.2.2.2.2.1, refl, tt, (st.course.2.2.2.2.2, refl), refl), refl),
          refl,
        ),
        refl,
      ),
      refl,
    )
        st.is.at stood.stands.dead (places_stay (means.told v.store) (means.told u.store) gs files stood.files) (record { unclaimed = stood.quiet.unclaimed })
        (λ e. let no : true ≡ false = sym e ∙ runs in absurd (cc)) (λ t lives other. refl) (λ b other. refl) (λ set. let no : true ≡ false = sym set ∙ clear in absurd (cc))

    silent : fits.said ≡ false
    silent = says_none y fits.said fits.may stop

    pub starts : j.transcript ≡ k.transcript → rest_of j ≡ rest_of k → j.state ≡ Copying c 0 → Went means precheck s B p w a Outside gs y v true j gs z u
    starts same rest state =
        went_on means precheck s B st.batches p st.to w a Outside gs gs y z v u (StartsCheckpoint ∷ []) k j is did true same
        (subst (λ (x : State). Fits means s st.batches st.to now gs z u (behind a w (StartsCheckpoint ∷ [])) (rest_of j) x) (sym state) (record {
          making = record {
            more = more;
            makes = rest ∙ next;
            spot = fits.spot ∙ (ap (λ (b : Bool). at (IsOutside b) (rest_of k)) silent ∙ ap (at (IsOutside false)) (sym rest));
            since = number;
            pending = ap (λ xs. xs ++ (number, StartsCheckpoint) ∷ []) fits.none;
            placed = subst (IsPlaced false) (sym rest) fits.placed;
            flag = ap (λ (m : SystemState). m.checking) st.is.at.system;
            under = under_then w a.client (StartsCheckpoint ∷ []) st.to.core;
          };
          head = st.head;
          copying = λ _. st.is;
          copied = started.copied;
          upto = omega arith;
          sound = started.faulted;
        }))
        (λ e. rows_same Outside j.state y z refl (λ t none. none))

  -- ---- it is refused, and nothing has changed
  pub record Refusal (r : Reason) : Type 0 where
    pub no_fault : IsNoFault r
    pub cause : HasCauseNow w a.client p.core CheckpointAct None r
    pub alone : IsAlone (after w a.client (Meets r ∷ []) p.core) r None (length w.happened)
    pub stops : is_stop r ≡ true → is_some y.stop ≡ true
    pub cut : (l : World) → IsCutBy l true r []

  -- the flag tells whether one is under way
  flag_is : y.checking ≡ is_some (under_way w.happened)
  flag_is = ap (λ (m : SystemState). m.checking) (sym stood.stands.at.system) ∙ (ap (λ (m : CoreState). m.system.checking) (sym stood.tells.core) ∙ stood.tells.flag)

  -- the engine is stopped
  pub refusal_stop : (cause : Cause) → y.stop ≡ Some cause → y.checking ≡ false → Refusal (StoppedBy cause)
  refusal_stop cause stop clear = record {
    no_fault = tt;
    cause = stop_now (bases_of s) s.log w a.client p stood.stands.at.vault.run stood.tells (vault_stops means precheck s B p w gs y v stood) CheckpointAct None cause tt (ap (λ (m : SystemState). m.stop) stood.stands.at.system ∙ stop);
    alone = ap under_way (front w a.client (Meets (StoppedBy cause)) p.core) ∙ none_of_test (under_way w.happened) (sym flag_is ∙ clear);
    stops = λ e. ap is_some stop;
    cut = λ l. tt;
  }

  -- another client's is under way
  pub refusal_under_way : y.checking ≡ true → Refusal UnderWay
  refusal_under_way set = record {
    no_fault = tt;
    cause = record {
      other = whose.0;
      differs = ne_eqb whose.0 a.client (λ same. none_under_way w a is.stands fits.none (whose.1 ∙ ap Some same));
      started = ap under_way (front w a.client (Meets UnderWay) p.core) ∙ whose.1;
    };
    alone = tt;
    stops = λ e. absurd (cc);
    cut = λ l. refl;
  }
    where
      whose : (c : ℕ) × (under_way w.happened ≡ Some c)
      whose = some_of_test (under_way w.happened) (sym flag_is ∙ set)

  module _ (r : Reason) (h : Refusal r) where
    met_did : Did means precheck s B p w a.client Outside gs y v (Meets r ∷ []) B p gs y v
    met_did = did_meet means precheck s B p w gs y v stood a.client Outside r h.no_fault (right_now w a.client p.core CheckpointAct None r h.cause)

    abbrev move : Move
    move = IsRefusedCheckpoint fits.said None false [] number r more

    own_is : a.pending ++ receipts_from number (Meets r ∷ []) ≡ own move
    own_is = ap (λ xs. xs ++ (number, Meets r) ∷ []) fits.none

    placed : IsPlaced false more
    placed = subst (IsPlaced false) next fits.placed

    pub refused_start : j.transcript.client ≡ k.transcript.client → lines_of j ≡ lines_of k ++ Refused CheckpointAct r ∷ [] → rest_of j ≡ more → j.state ≡ Outside → Went means precheck s B p w a Outside gs y v true j gs y v
    refused_start client lines rest state =
        went_by means precheck s B B p p w a Outside gs gs y y v v (Meets r ∷ []) k j is met_did move spot_is own_is (h.cut (after w a.client (Meets r ∷ []) p.core), refl, (met_now w a.client p.core CheckpointAct None r h.cause, h.alone)) client lines
        (subst (λ (x : State). Fits means s B p (after w a.client (Meets r ∷ []) p.core) gs y v (ended a move) (rest_of j) x) (sym state) (outside_by y a move (fits.said || is_stop r) more (rest_of j) rest (may_say_more y fits.said r fits.may h.stops) refl placed))
        (rows_same Outside j.state y y refl (λ t none. none))

    pub silent_start : j.transcript ≡ k.transcript → Went means precheck s B p w a Outside gs y v false j gs y v
    silent_start same = went_silent means precheck s B B p p w a Outside gs gs y y v v (Meets r ∷ []) k j is met_did move spot_is own_is (h.cut (after w a.client (Meets r ∷ []) p.core), refl, (met_now w a.client p.core CheckpointAct None r h.cause, h.alone)) same

  -- ---- memory was refused
  pub no_start : j.transcript ≡ k.transcript → Went means precheck s B p w a Outside gs y v false j gs y v
  no_start same =
      went_on means precheck s B B p p w a Outside gs gs y y v v [] k j is (did_nothing means precheck s B p w gs y v stood a.client Outside) false same
      (inl (refl, unfinished (a.pending ++ []) (ap (λ xs. xs ++ []) fits.none) a.spot spot_is))
      (λ e. absurd (cc))
    where
      unfinished : (pending : List Receipt) → pending ≡ [] → (spot : Spot) → spot ≡ at (IsOutside fits.said) (CheckpointAct ∷ more) → AreUnfinished (after w a.client [] p.core) a.client spot.place spot.rest pending
      unfinished pending none spot there =
          subst (λ (x : Spot). AreUnfinished (after w a.client [] p.core) a.client x.place x.rest pending) (sym there)
          (subst (λ xs. AreUnfinished (after w a.client [] p.core) a.client (IsOutside fits.said) (CheckpointAct ∷ more) xs) (sym none) tt)
