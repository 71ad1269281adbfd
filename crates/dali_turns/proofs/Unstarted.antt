-- The store fails where a checkpoint of a client starts.
use Rattle.std.proofs.Common.{◌≡◌, ℕ, ◌+◌, Bool, true, false, List, [], ◌∷◌, ◌++◌, length, Option, Some, None, is_some, refl, ap, sym, subst, ◌∙◌}
use Rattle.std.proofs.lemmas.List.{append-nil}
use Rattle.dali_record.specs.declared.records.Record.{Record}
use Rattle.dali_region.specs.State.{RegionState}
use Rattle.dali_store.specs.Store.{Files as Disk}
use Rattle.dali_store.specs.declared.store.Store.{Ghosts}
use Rattle.dali_runs.specs.State.{SystemState}
use Rattle.dali_runs.specs.Steps.{taken, store_stopped, in_checkpoint}
use Rattle.dali_runs.specs.Courses.{Takes, Flushes, Faults, Stops}
use Rattle.dali_crash.specs.Checkpoints.{Head, Does, Starts, Keeps as KeepsAll, HeadFails, Finishes, Point, IsPointStep, head_now, side_of, with_flag}
use Rattle.dali_crash.specs.Traces.{Start}
use Rattle.dali_crash.specs.Disks.Disks.{image_name}
use Rattle.dali_core.specs.Vault.Vaulted.{Vaulted}
use Rattle.dali_core.specs.Steps.At.{Goes}
use Rattle.dali_core.specs.Steps.Said.{WriteHasFailed}
use Rattle.dali_core.proofs.StepsLemmas.Steps.{quiet_goes, head_faults}
use Rattle.dali_core.specs.Cores.{IsCoreAt}
use Rattle.dali_core.specs.Flushed.{FailsFrame, HasStopped}
use Rattle.dali_core.proofs.Flushing.{flush_fails}
use Rattle.dali_checkpoint.specs.Done.{WriteFails}
use Rattle.dali_core.specs.Cores.{IsNoShorter}
use Rattle.dali_checkpoint.proofs.Calls.{start_keeps, KeptAt}
use Rattle.dali_checkpoint.proofs.Lengths.{places_stay}
use Rattle.dali_transcripts.specs.Words.{Act, Checkpoints as CheckpointAct, StoreFailed, Refused}
use Rattle.dali_transcripts.specs.World.{Deed, Meets, StartsCheckpoint, EndsCheckpoint, World, log_of, under_way}
use Rattle.dali_transcripts.specs.Moves.{Outside as IsOutside, at, spanned}
use Rattle.dali_transcripts.specs.Causes.{MetCause}
use Rattle.dali_transcripts.specs.Laws.{receipts_from}
use Rattle.dali_transcripts.specs.Rounds.{Standing, IsPlaced, by}
use Rattle.dali_transcripts.specs.Telling.Tells.{after}
use Rattle.dali_turns.specs.declared.client.Client.{Client}
use Rattle.dali_turns.specs.declared.client.State.TheVariants.{Outside}
use Rattle.dali_turns.specs.Stood.{Stood}
use Rattle.dali_turns.specs.Outside.{FitsOutside}
use Rattle.dali_turns.specs.Fits.{rest_of, lines_of, IsOf}
use Rattle.dali_turns.specs.Goes.{Went}
use Rattle.dali_turns.proofs.Flushing.{has_stop}
use Rattle.dali_turns.proofs.Doing.{Did}
use Rattle.dali_turns.proofs.Coursing.{did_course}
use Rattle.dali_turns.proofs.Ending.{one_then}
use Rattle.dali_turns.proofs.Apart.{log_more}
use Rattle.dali_turns.proofs.Finishing.{stop_point, finish_point, stops_there, stopped_at, finishes_there, finished_at, faulted_at}
use Rattle.dali_turns.proofs.Starting.{under_then, idle}
use Rattle.dali_turns.proofs.Copies.{store_failed, store_failed_silent, met_store}
use Rattle.dali_turns.proofs.Settling.{quiet_failed}

abbrev pub start_point : Point → Point
start_point p = record p { core = with_flag p.core true }

module _ {V : Type 0} (means : Ghosts V)
    (precheck : Bool) (s : Start) (B : List (List Record)) (p : Point) (w : World) (a : Standing) (gs : List RegionState) (y : SystemState) (v u : Vaulted V) (k j : Client)
    (stood : Stood means s B p w precheck gs y v) (is : IsOf w a k)
    (fits : FitsOutside y a (rest_of k)) (more : List Act) (next : rest_of k ≡ CheckpointAct ∷ more) (silent : fits.said ≡ false) (clear : y.checking ≡ false) (longer : IsNoShorter means.told v u) where
  abbrev number : ℕ
  number = length (log_of w)

  abbrev ds : List Deed
  ds = StartsCheckpoint ∷ Meets StoreFailed ∷ EndsCheckpoint ∷ []

  abbrev z : SystemState
  z = in_checkpoint (store_stopped (taken y)) false

  z_is : z ≡ store_stopped (taken y)
  z_is = ap (λ (b : Bool). in_checkpoint (store_stopped (taken y)) b) (sym clear)

  spot_is : a.spot ≡ at (IsOutside false) (CheckpointAct ∷ more)
  spot_is = fits.spot ∙ (ap (λ (b : Bool). at (IsOutside b) (rest_of k)) silent ∙ ap (at (IsOutside false)) next)

  placed : IsPlaced false more
  placed = subst (IsPlaced false) next fits.placed

  own_is : a.pending ++ receipts_from number ds ≡ spanned (Some (number, number)) ([] ++ (number, Meets StoreFailed) ∷ [])
  own_is = ap (λ l. l ++ (number, StartsCheckpoint) ∷ (number, Meets StoreFailed) ∷ (number, EndsCheckpoint) ∷ []) fits.none

  met : (d m q : Point) → MetCause (after w a.client ds q.core) a.client number CheckpointAct None StoreFailed
  met d m q = subst (λ (l : World). MetCause l a.client number CheckpointAct None StoreFailed) (one_then w a.client StartsCheckpoint (Meets StoreFailed ∷ EndsCheckpoint ∷ []) d.core q.core)
      (met_store (after w a.client (StartsCheckpoint ∷ []) d.core) a.client number m q (sym (ap length (log_more w (by a.client (StartsCheckpoint ∷ [])) ∙ append-nil (log_of w)))))

  -- it starts
  starts : IsPointStep p Starts (start_point p)
  starts = (ap (λ (x : SystemState). x.checking) stood.stands.at.system ∙ clear, refl)

  at_start : IsCoreAt means s B (start_point p) gs (in_checkpoint y true) v
  at_start = record {
    regions = stood.stands.at.regions;
    system = ap (λ (x : SystemState). in_checkpoint x true) stood.stands.at.system;
    vault = quiet_goes means s B p (start_point p) Starts v stood.stands.at.vault starts refl (λ F. refl) refl;
    none_in_hand = stood.stands.at.none_in_hand;
  }

  abbrev w0 : World
  w0 = after w a.client (StartsCheckpoint ∷ []) (start_point p).core

  -- ---- its flush fails
  module _ (said : FailsFrame means y v u) where
    f : HasStopped means s B (start_point p) gs (store_stopped (taken (in_checkpoint y true))) u
    f = flush_fails means gs (in_checkpoint y true) (store_stopped (taken (in_checkpoint y true))) v u (said.0, record { body = said.1.body; records = said.1.records }, said.2) refl s B (start_point p) at_start

    stopped : u.stopped ≡ true
    stopped = ap (λ (x : Vaulted V). x.stopped) said.2.vault

    abbrev q : Point
    q = finish_point f.to

    finishes : IsPointStep f.course.2.2.0 Finishes q
    finishes = subst (λ (m : Point). IsPointStep m Finishes q) (sym f.course.2.2.2) (finishes_there means s B f.to gs (store_stopped (taken (in_checkpoint y true))) u f.at refl)

    abbrev w1 : World
    w1 = after w0 a.client [] f.course.0.core

    abbrev w2 : World
    w2 = after w1 a.client (Meets StoreFailed ∷ []) f.course.2.0.core

    abbrev w3 : World
    w3 = after w2 a.client [] f.course.2.2.0.core

    under : under_way w3.happened ≡ Some a.client
    under = under_then w2 a.client [] f.course.2.2.0.core ∙ (under_then w1 a.client (Meets StoreFailed ∷ []) f.course.2.0.core ∙ (under_then w0 a.client [] f.course.0.core ∙ under_then w a.client (StartsCheckpoint ∷ []) (start_point p).core))

    failing : Did means precheck s B p w a.client Outside gs y v ds B q gs z u
    failing = did_course means precheck s B p w gs y v stood a.client Outside (Starts ∷ Does Takes ∷ Does (Faults (means.faults u.store)) ∷ Does Stops ∷ Finishes ∷ []) ds B q gs z u
        (start_point p, starts, (f.course.0, f.course.1, (f.course.2.0, f.course.2.1, (f.course.2.2.0, f.course.2.2.1, (q, finishes, refl))))) (
          start_point p,
          StartsCheckpoint ∷ [],
          Meets StoreFailed ∷ EndsCheckpoint ∷ [],
          starts,
          refl,
          (tt, tt),
          (
            f.course.0,
            [],
            Meets StoreFailed ∷ EndsCheckpoint ∷ [],
            f.course.1,
            refl,
            tt,
            (
              f.course.2.0,
              Meets StoreFailed ∷ [],
              EndsCheckpoint ∷ [],
              f.course.2.1,
              refl,
              (tt, tt),
              (f.course.2.2.0, [], EndsCheckpoint ∷ [], f.course.2.2.1, refl, tt, (q, EndsCheckpoint ∷ [], [], finishes, (refl, under), (tt, tt), (refl, refl), refl), refl),
              refl,
            ),
            refl,
          ),
          refl,
        )
        (finished_at means s B f.to gs (store_stopped (taken (in_checkpoint y true))) u f.at refl) stood.stands.dead (places_stay (means.told v.store) (means.told u.store) gs longer stood.files) (quiet_failed y stood.quiet)
        (λ e. has_stop y.stop) (λ t lives other. refl) (λ b other. refl) (λ set. let no : true ≡ false = sym set ∙ clear in absurd (cc))

    pub flush_fails_start : j.transcript.client ≡ k.transcript.client → lines_of j ≡ lines_of k ++ Refused CheckpointAct StoreFailed ∷ [] → rest_of j ≡ more → j.state ≡ Outside → Went means precheck s B p w a Outside gs y v true j gs (store_stopped (taken y)) u
    flush_fails_start client lines rest now = subst (λ (x : SystemState). Went means precheck s B p w a Outside gs y v true j gs x u) z_is
        (store_failed means precheck s B B p q w a Outside gs gs y z v u k j ds is failing (λ t none. none) stopped refl more number number number [] spot_is placed own_is tt (met (start_point p) f.to q) client lines rest now)

    pub flush_fails_start_silent : j.transcript ≡ k.transcript → Went means precheck s B p w a Outside gs y v false j gs (store_stopped (taken y)) u
    flush_fails_start_silent same = subst (λ (x : SystemState). Went means precheck s B p w a Outside gs y v false j gs x u) z_is
        (store_failed_silent means precheck s B B p q w a Outside gs gs y z v u k j ds is failing (λ t none. none) stopped refl more number number number [] spot_is placed own_is tt (met (start_point p) f.to q) same)

  -- ---- the header's write fails
  module _ (said : WriteFails means y v (image_name (side_of (v.current + 1))) 0 64 u) where
    kept : KeptAt means s p gs (in_checkpoint (taken y) true) said.mid
    kept = start_keeps means s B p gs y v said.mid (idle means precheck s B p w a gs y v k j stood is fits more next clear) said.flushed

    late_stopped : u.stopped ≡ true
    late_stopped = ap (λ (x : Vaulted V). x.stopped) said.failed.vault

    abbrev h : Head
    h = head_now kept.to.log kept.to.core

    goes : Goes means s kept.to (HeadFails h (means.faults u.store)) kept.batches u
    goes = head_faults means s kept.batches kept.to said.mid u h 0 64 kept.at.vault (ap is_some kept.begun)
        (subst (λ n. WriteHasFailed means said.mid (image_name (side_of (n + 1))) 0 64 u) (sym (kept.at.vault.vault.current ∙ ap (λ (x : Vaulted V). x.current) said.flushed.2.vault)) said.failed)

    abbrev y1 : SystemState
    y1 = in_checkpoint (taken y) true

    one : IsCoreAt means s kept.batches goes.to gs y1 u
    one = faulted_at means s kept.batches kept.to gs y1 said.mid u (HeadFails h (means.faults u.store)) kept.at goes (ap (λ (x : Point). x.core.regions) goes.step.1) (ap (λ (x : Point). x.core.system) goes.step.1) said.failed.vault

    two : IsCoreAt means s kept.batches (stop_point goes.to) gs (store_stopped y1) u
    two = stopped_at means s kept.batches goes.to gs y1 u one late_stopped

    abbrev late_q : Point
    late_q = finish_point (stop_point goes.to)

    fails : IsPointStep kept.course.2.2.2.0 (HeadFails h (means.faults u.store)) goes.to
    fails = subst (λ (m : Point). IsPointStep m (HeadFails h (means.faults u.store)) goes.to) (sym kept.course.2.2.2.2) goes.step

    stops : IsPointStep goes.to (Does Stops) (stop_point goes.to)
    stops = stops_there means s kept.batches goes.to gs y1 u one late_stopped

    late_finishes : IsPointStep (stop_point goes.to) Finishes late_q
    late_finishes = finishes_there means s kept.batches (stop_point goes.to) gs (store_stopped y1) u two refl

    abbrev v0 : World
    v0 = after w a.client (StartsCheckpoint ∷ []) kept.course.0.core

    abbrev v1 : World
    v1 = after v0 a.client [] kept.course.2.0.core

    abbrev v2 : World
    v2 = after v1 a.client [] kept.course.2.2.0.core

    abbrev v3 : World
    v3 = after v2 a.client [] kept.course.2.2.2.0.core

    abbrev v4 : World
    v4 = after v3 a.client (Meets StoreFailed ∷ []) goes.to.core

    abbrev v5 : World
    v5 = after v4 a.client [] (stop_point goes.to).core

    late_under : under_way v5.happened ≡ Some a.client
    late_under = under_then v4 a.client [] (stop_point goes.to).core ∙ (under_then v3 a.client (Meets StoreFailed ∷ []) goes.to.core ∙ (under_then v2 a.client [] kept.course.2.2.2.0.core ∙ (under_then v1 a.client [] kept.course.2.2.0.core
        ∙ (under_then v0 a.client [] kept.course.2.0.core ∙ under_then w a.client (StartsCheckpoint ∷ []) kept.course.0.core))))

    late_failing : Did means precheck s B p w a.client Outside gs y v ds kept.batches late_q gs z u
    late_failing = did_course means precheck s B p w gs y v stood a.client Outside (Starts ∷ Does Takes ∷ Does Flushes ∷ KeepsAll ∷ HeadFails h (means.faults u.store) ∷ Does Stops ∷ Finishes ∷ []) ds kept.batches late_q gs z u
        (kept.course.0, kept.course.1, (kept.course.2.0, kept.course.2.1, (kept.course.2.2.0, kept.course.2.2.1, (kept.course.2.2.2.0, kept.course.2.2.2.1, (goes.to, fails, (stop_point goes.to, stops, (late_q, late_finishes, refl))))))) (
          kept.course.0,
          StartsCheckpoint ∷ [],
          Meets StoreFailed ∷ EndsCheckpoint ∷ [],
          kept.course.1,
          refl,
          (tt, tt),
          (
            kept.course.2.0,
            [],
            Meets StoreFailed ∷ EndsCheckpoint ∷ [],
            kept.course.2.1,
            refl,
            tt,
            (
              kept.course.2.2.0,
              [],
              Meets StoreFailed ∷ EndsCheckpoint ∷ [],
              kept.course.2.2.1,
              refl,
              tt,
              (
                kept.course.2.2.2.0,
                [],
                Meets StoreFailed ∷ EndsCheckpoint ∷ [],
                kept.course.2.2.2.1,
                refl,
                tt,
                (
                  goes.to,
                  Meets StoreFailed ∷ [],
                  EndsCheckpoint ∷ [],
                  fails,
                  refl,
                  (tt, tt),
                  (stop_point goes.to, [], EndsCheckpoint ∷ [], stops, refl, tt, (late_q, EndsCheckpoint ∷ [], [], late_finishes, (refl, late_under), (tt, tt), (refl, refl), refl), refl),
                  refl,
                ),
                refl,
              ),
              refl,
            ),
            refl,
          ),
          refl,
        )
        (finished_at means s kept.batches (stop_point goes.to) gs (store_stopped y1) u two refl) stood.stands.dead (places_stay (means.told v.store) (means.told u.store) gs longer stood.files) (quiet_failed y stood.quiet)
        (λ e. has_stop y.stop) (λ t lives other. refl) (λ b other. refl) (λ set. let no : true ≡ false = sym set ∙ clear in absurd (cc))

    pub header_fails_start : j.transcript.client ≡ k.transcript.client → lines_of j ≡ lines_of k ++ Refused CheckpointAct StoreFailed ∷ [] → rest_of j ≡ more → j.state ≡ Outside → Went means precheck s B p w a Outside gs y v true j gs (store_stopped (taken y)) u
    header_fails_start client lines rest now = subst (λ (x : SystemState). Went means precheck s B p w a Outside gs y v true j gs x u) z_is
        (store_failed means precheck s B kept.batches p late_q w a Outside gs gs y z v u k j ds is late_failing (λ t none. none) late_stopped refl more number number number [] spot_is placed own_is tt (met kept.course.0 goes.to late_q) client lines rest now)

    pub header_fails_start_silent : j.transcript ≡ k.transcript → Went means precheck s B p w a Outside gs y v false j gs (store_stopped (taken y)) u
    header_fails_start_silent same = subst (λ (x : SystemState). Went means precheck s B p w a Outside gs y v false j gs x u) z_is
        (store_failed_silent means precheck s B kept.batches p late_q w a Outside gs gs y z v u k j ds is late_failing (λ t none. none) late_stopped refl more number number number [] spot_is placed own_is tt (met kept.course.0 goes.to late_q) same)
