-- The audit of a client's checkpoint passes a region, and ends; then the image becomes the current one.
use Rattle.std.proofs.Common.{◌≡◌, ℕ, ◌+◌, ◌<◌, ◌≤◌, Bool, true, false, List, [], ◌∷◌, ◌++◌, length, Option, Some, None, refl, ap, sym, subst, ◌∙◌, arith, length-append}
use Rattle.std.specs.Prelude.{slice_get, slice_set}
use Rattle.std.proofs.lemmas.Bool.{ne_eqb}
use Rattle.std.proofs.lemmas.Option.{slice_get_within}
use Rattle.dali_runs.proofs.CountsLemmas.Lists.{self}
use Rattle.dali_record.specs.declared.records.Record.{Record}
use Rattle.dali_record.specs.declared.records.Record.TheVariants.{AuditBegin}
use Rattle.dali_region.specs.State.{RegionState, checked}
use Rattle.dali_store.specs.Store.{Files as Disk}
use Rattle.dali_store.specs.declared.store.Store.{Ghosts}
use Rattle.dali_runs.specs.State.{SystemState, stable}
use Rattle.dali_runs.specs.Steps.{audit_ended, audit_record, taken, in_checkpoint}
use Rattle.dali_runs.specs.Keeps.{with_region}
use Rattle.dali_runs.specs.Passes.{audits_with}
use Rattle.dali_runs.specs.Courses.{Passes, AuditEnds, Takes, Flushes, IsStepAt, pass_now}
use Rattle.dali_crash.specs.Checkpoints.{Does, Syncs, Turns, Finishes, Point, IsPointStep, copies_after, moment_of}
use Rattle.dali_crash.specs.Traces.{Start}
use Rattle.dali_core.specs.Vault.Vaulted.{Vaulted}
use Rattle.dali_audit.specs.Findings.{Audited, finding_of, damaged}
use Rattle.dali_audit.specs.Stepped.{AreFindings, behind_pass}
use Rattle.dali_audit.proofs.Stepping.{pass_is_step}
use Rattle.dali_checkpoint.specs.Kept.{Checkpointed, side_in}
use Rattle.dali_checkpoint.specs.Done.{HasTurnedTo}
use Rattle.dali_core.specs.Cores.{IsNoShorter}
use Rattle.dali_checkpoint.specs.Running.{IsSettled, IsCertifiedAt}
use Rattle.dali_checkpoint.specs.Laws.{HasMoved}
use Rattle.dali_checkpoint.proofs.Audited.{audits_at, ends_clean}
use Rattle.dali_checkpoint.proofs.Calls.{certify_goes_on}
use Rattle.dali_checkpoint.proofs.Lengths.{places_stay}
use Rattle.dali_checkpoint.proofs.Stays.{does_stays, both_stay}
use Rattle.dali_transcripts.specs.Words.{CheckpointSaid}
use Rattle.dali_transcripts.specs.World.{Deed, Logs, StartsCheckpoint, MovesAnchor, EndsCheckpoint, World, log_of, under_way}
use Rattle.dali_transcripts.specs.Moves.{Move, Checkpoints as MakesOne, own}
use Rattle.dali_transcripts.specs.Laws.{receipts_from}
use Rattle.dali_transcripts.specs.Rounds.{Standing}
use Rattle.dali_transcripts.specs.Telling.Tells.{after}
use Rattle.dali_turns.specs.declared.client.Client.{Client}
use Rattle.dali_turns.specs.declared.client.State.{State}
use Rattle.dali_turns.specs.declared.client.State.TheVariants.{Outside, Certifying}
use Rattle.dali_turns.specs.Stood.{Stood}
use Rattle.dali_turns.specs.Checkpoints.{FitsCertifying}
use Rattle.dali_turns.specs.Fits.{rest_of, lines_of, IsOf, Fits}
use Rattle.dali_turns.specs.Others.{ImageStays}
use Rattle.dali_turns.specs.Goes.{Went}
use Rattle.dali_turns.proofs.Auditing.{rows_same}
use Rattle.dali_turns.proofs.Passing.{passed, dead_checked, places_checked, passed_one}
use Rattle.dali_turns.proofs.Beside.{step_image, course_longer}
use Rattle.dali_turns.proofs.Doing.{Did, did_quietly, did_then, behind, ended, outside_by, went_on, went_by, went_silent}
use Rattle.dali_turns.proofs.Coursing.{did_course}
use Rattle.dali_turns.proofs.Ending.{ended_point, end_step, did_end, vault_is, end_number}
use Rattle.dali_turns.proofs.Starting.{making_on, under_then, making_spot, making_placed}

module _ {V : Type 0} (means : Ghosts V)
    (precheck : Bool) (s : Start) (B : List (List Record)) (p : Point) (w : World) (a : Standing) (gs : List RegionState) (y : SystemState) (v : Vaulted V) (k j : Client)
    (stood : Stood means s B p w precheck gs y v) (is : IsOf w a k)
    (c : Checkpointed) (audit : Audited) (next : ℕ) (fits : FitsCertifying means s B p w gs y v a (rest_of k) c audit next) where
  abbrev state : State
  state = Certifying c audit next

  abbrev count : ℕ
  count = length (log_of w)

  set : y.checking ≡ true
  set = ap (λ (x : SystemState). x.checking) (sym stood.stands.at.system) ∙ fits.making.flag

  -- ---- a pass
  module _ (g : RegionState) (there : slice_get gs next ≡ Some g) where
    within : next < length audit.findings
    within = omega (arith, slice_get_within gs next g there, fits.passing.count, stood.stands.whole.regions, ap length stood.stands.at.regions)

    at_point : slice_get p.core.regions next ≡ Some g
    at_point = ap (λ l. slice_get l next) stood.stands.at.regions ∙ there

    abbrev q : Point
    q = record p {
      core = with_region p.core next (checked g);
      audits = audits_with p.audits audit.begin (p.audits audit.begin ++ pass_now p.core next);
      copies = copies_after p.core (Passes audit.begin next) p.copies;
    }

    pass : IsStepAt (moment_of p) (Passes audit.begin next) (behind_pass (moment_of p) audit.begin next g) × AreFindings (p.audits audit.begin ++ pass_now p.core next) (slice_set audit.findings next (finding_of g.stray))
    pass = pass_is_step (moment_of p) audit.begin next audit.findings g fits.passing.auditing fits.passing.findings (fits.passing.waits next (omega arith) within) at_point

    step : IsPointStep p (Does (Passes audit.begin next)) q
    step = (refl, pass.0, refl)

    regions_there : q.core.regions ≡ slice_set gs next (checked g)
    regions_there = ap (λ l. slice_set l next (checked g)) stood.stands.at.regions

    did : Did means precheck s B p w a.client state gs y v [] B q (slice_set gs next (checked g)) y v
    did = did_quietly means precheck s B p w gs y v stood a.client state q (Passes audit.begin next) [] y (slice_set gs next (checked g)) refl step refl tt
        stood.stands.at.system regions_there refl (dead_checked gs next g there stood.stands.dead) (λ fs held. places_checked gs next g fs there held) stood.quiet (λ e. e)
        (λ t lives other. refl) (λ b other. ne_eqb audit.begin b other)

    image : ImageStays means s B p gs y v B q q.core.regions q.core.system v
    image = step_image means s B p q (Passes audit.begin next) gs y v refl step refl stood.stands.at.system

    pub certify_passes : j.transcript ≡ k.transcript → rest_of j ≡ rest_of k → j.state ≡ Certifying c (passed audit next g) (next + 1) → Went means precheck s B p w a state gs y v true j (slice_set gs next (checked g)) y v
    certify_passes same rest now =
        went_on means precheck s B B p q w a state gs (slice_set gs next (checked g)) y y v v [] k j is did true same
        (subst (λ (x : State). Fits means s B q (after w a.client [] q.core) (slice_set gs next (checked g)) y v (behind a w []) (rest_of j) x) (sym now) (record {
          making = making_on p q w a (rest_of k) (rest_of j) ((audit.begin, Logs AuditBegin) ∷ []) fits.making rest fits.making.flag;
          head = fits.head;
          number = fits.number;
          settled = λ runs. subst (λ (rs : List RegionState). IsSettled means s B q rs y v c fits.head fits.number) regions_there
              (subst (λ (m : SystemState). IsSettled means s B q q.core.regions m v c fits.head fits.number) stood.stands.at.system (image.settled runs c fits.head fits.number (fits.settled runs)));
          passes = λ runs. image.passes runs c fits.head fits.number audit.begin (fits.settled runs) (fits.passes runs);
          settled_at = fits.settled_at;
          behind = fits.behind;
          sound = fits.sound;
          passing = passed_one p q w (after w a.client [] q.core) audit next g fits.passing refl refl refl (sym did.goes.tells.log ∙ stood.tells.log)
              (subst (λ ps. AreFindings ps (slice_set audit.findings next (finding_of g.stray))) (sym (audits_at audit.begin audit.begin p.audits q.audits (p.audits audit.begin ++ pass_now p.core next) refl true (self audit.begin))) pass.1);
        }))
        (λ e. rows_same state j.state y y refl (λ t none. none))

  -- ---- the end
  module _ (all : length gs ≤ next) (runs : y.stop ≡ None) where
    abbrev found : List ℕ
    found = damaged audit.findings

    abbrev end_q : Point
    end_q = ended_point p audit.begin found

    abbrev z : SystemState
    z = audit_ended y audit.begin found

    pub one : Did means precheck s B p w a.client state gs y v (Logs (audit_record audit.begin found) ∷ []) B end_q gs z v
    one = did_end means precheck s B p w gs y v stood a.client state audit next fits.passing (λ b other. other) all runs

    pub ran : v.stopped ≡ false
    ran = vault_is means precheck s B p w gs y v stood a.client state audit next fits.passing (λ b other. other) all runs

    ends_here : IsPointStep p (Does (AuditEnds audit.begin found)) end_q
    ends_here = end_step means precheck s B p w gs y v stood a.client state audit next fits.passing (λ b other. other) all runs

    abbrev mid : World
    mid = after w a.client (Logs (audit_record audit.begin found) ∷ []) end_q.core

    pub mid_number : length (log_of mid) ≡ count + 1
    mid_number = end_number means precheck s B p w gs y v stood a.client state audit next fits.passing (λ b other. other) all runs

    pub settled : IsSettled means s B end_q gs z v c fits.head fits.number
    settled = subst (λ (rs : List RegionState). IsSettled means s B end_q rs z v c fits.head fits.number) stood.stands.at.regions
        (subst (λ (m : SystemState). IsSettled means s B end_q end_q.core.regions m v c fits.head fits.number) (ap (λ (m : SystemState). audit_ended m audit.begin found) stood.stands.at.system)
        ((step_image means s B p end_q (AuditEnds audit.begin found) gs y v refl ends_here refl stood.stands.at.system).settled ran c fits.head fits.number (fits.settled ran)))

    pub under_mid : under_way mid.happened ≡ Some a.client
    under_mid = under_then w a.client (Logs (audit_record audit.begin found) ∷ []) end_q.core ∙ fits.making.under

    pub set_there : z.checking ≡ true
    set_there = set

    -- it is clean
    pub certified_by : found ≡ [] → IsCertifiedAt end_q fits.number audit.begin
    certified_by clean = ends_clean p end_q fits.number audit.begin (subst (λ (l : List ℕ). IsPointStep p (Does (AuditEnds audit.begin l)) end_q) clean ends_here)
        (does_stays p end_q (AuditEnds audit.begin found) ends_here refl) fits.behind (fits.passes ran)

    -- ---- the image becomes the current one
    module _ (clean : found ≡ []) (u : Vaulted V) (said : HasTurnedTo means z v (side_in c) u) (longer : IsNoShorter means.told v u) where
      abbrev x : SystemState
      x = in_checkpoint (taken z) false

      t : HasMoved means s end_q gs x u fits.head
      t = certify_goes_on means s B end_q gs z x v u c fits.head fits.number audit.begin settled (certified_by clean) said refl

      -- the anchor stands where it stood until it moves
      anchor : t.course.2.2.0.core.vault.current ≡ v.current
      anchor = ap (λ (m : Point). m.core.vault.current) t.course.2.2.1.1
          ∙ ((both_stay end_q t.course.2.0 (t.course.0, t.course.1, (t.course.2.0, t.course.2.1, refl))).current ∙ stood.stands.at.vault.vault.current)

      abbrev deeds : List Deed
      deeds = MovesAnchor (v.current + 1) ∷ EndsCheckpoint ∷ []

      abbrev w1 : World
      w1 = after mid a.client [] t.course.0.core

      abbrev w2 : World
      w2 = after w1 a.client [] t.course.2.0.core

      abbrev w3 : World
      w3 = after w2 a.client [] t.course.2.2.0.core

      abbrev w4 : World
      w4 = after w3 a.client (MovesAnchor (v.current + 1) ∷ []) t.course.2.2.2.0.core

      under : under_way w4.happened ≡ Some a.client
      under = under_then w3 a.client (MovesAnchor (v.current + 1) ∷ []) t.course.2.2.2.0.core ∙ (under_then w2 a.client [] t.course.2.2.0.core ∙ (under_then w1 a.client [] t.course.2.0.core ∙ (under_then mid a.client [] t.course.0.core ∙ under_mid)))

      moves : Did means precheck s B end_q mid a.client state gs z v deeds t.batches t.to gs x u
      moves = did_course means precheck s B end_q mid gs z v one.stood a.client state (Does Takes ∷ Does Flushes ∷ Syncs ∷ Turns ∷ Finishes ∷ []) deeds t.batches t.to gs x u t.course (
        t.course.0,
        [],
        deeds,
        t.course.1,
        refl,
        tt,
        (
          t.course.2.0,
          [],
          deeds,
          t.course.2.1,
          refl,
          tt,
          (
            t.course.2.2.0,
            [],
            deeds,
            t.course.2.2.1,
            refl,
            tt,
            (
              t.course.2.2.2.0,
              MovesAnchor (v.current + 1) ∷ [],
              EndsCheckpoint ∷ [],
              t.course.2.2.2.1,
              ap (λ n. MovesAnchor (n + 1) ∷ []) (sym anchor),
              (tt, tt),
              (t.course.2.2.2.2.0, EndsCheckpoint ∷ [], [], t.course.2.2.2.2.1, (refl, under), (tt, tt), (t.course.2.2.2.2.2, refl), refl),
              refl,
            ),
            refl,
          ),
          refl,
        ),
        refl,
      )
          t.is.at stood.stands.dead (places_stay (means.told v.store) (means.told u.store) gs longer stood.files) (record { unclaimed = one.stood.quiet.unclaimed })
          (λ e. let no : true ≡ false = sym e ∙ said.turned.ok.runs in absurd (cc)) (λ n lives other. refl) (λ b other. refl) (λ flag other. absurd (other tt))

      abbrev ds : List Deed
      ds = Logs (audit_record audit.begin found) ∷ deeds

      whole : Did means precheck s B p w a.client state gs y v ds t.batches t.to gs x u
      whole = did_then means precheck s B B t.batches p end_q t.to w a.client state gs gs gs y z x v v u (Logs (audit_record audit.begin found) ∷ []) deeds stood (λ _. ran) one moves

      abbrev move : Move
      move = MakesOne fits.making.since audit.begin count (count + 1) (count + 1) (v.current + 1) fits.making.more

      own_is : a.pending ++ receipts_from count ds ≡ own move
      own_is = ap (λ xs. xs ++ (count, Logs (audit_record audit.begin found)) ∷ (count + 1, MovesAnchor (v.current + 1)) ∷ (count + 1, EndsCheckpoint) ∷ []) fits.making.pending
          ∙ ap (λ l. (fits.making.since, StartsCheckpoint) ∷ (audit.begin, Logs AuditBegin) ∷ (count, Logs (audit_record audit.begin l)) ∷ (count + 1, MovesAnchor (v.current + 1)) ∷ (count + 1, EndsCheckpoint) ∷ []) clean

      flushed : count < stable t.to.core
      flushed = omega (arith, t.all, course_longer end_q t.to (Does Takes ∷ Does Flushes ∷ Syncs ∷ Turns ∷ Finishes ∷ []) t.course, length-append p.log (audit_record audit.begin found ∷ []), ap length stood.tells.log)

      pub makes : j.transcript.client ≡ k.transcript.client → lines_of j ≡ lines_of k ++ CheckpointSaid (v.current + 1) ∷ [] → rest_of j ≡ fits.making.more → j.state ≡ Outside → Went means precheck s B p w a state gs y v true j gs x u
      makes client lines rest now =
          went_by means precheck s B t.batches p t.to w a state gs gs y x v u ds k j is whole move (making_spot fits.making) own_is flushed client lines
          (subst (λ (m : State). Fits means s t.batches t.to (after w a.client ds t.to.core) gs x u (ended a move) (rest_of j) m) (sym now) (outside_by x a move false fits.making.more (rest_of j) rest (λ e. absurd (cc)) refl (making_placed fits.making)))
          (rows_same state j.state y x refl (λ n none. none))

      pub makes_silent : j.transcript ≡ k.transcript → Went means precheck s B p w a state gs y v false j gs x u
      makes_silent same = went_silent means precheck s B t.batches p t.to w a state gs gs y x v u ds k j is whole move (making_spot fits.making) own_is flushed same
