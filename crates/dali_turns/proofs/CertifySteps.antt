-- The step functions of a checkpoint's audit, by what the calls in them say.
use Rattle.std.proofs.Common.{◌≡◌, ℕ, ◌+◌, ◌<◌, ◌≤◌, Bool, true, false, List, [], ◌∷◌, ◌++◌, length, drop, Option, Some, None, IfSome, IfErr, IfOk, OnOk, OnErr, IsErrOf, is_some, Result, Ok, Err, refl, ap, sym, subst, ◌∙◌, ◌⊎◌, inl, inr, arith, length-append, length-drop}
use Rattle.std.specs.Prelude.{slice_get, slice_set, IsSomeAnd}
use Rattle.std.proofs.lemmas.List.Elements.{Contains-push}
use Rattle.std.proofs.lemmas.Option.{same_Some}
use Rattle.dali_record.specs.declared.records.Record.{Record}
use Rattle.dali_record.specs.declared.records.Record.TheVariants.{AuditBegin}
use Rattle.dali_region.specs.State.{RegionState, checked}
use Rattle.dali_store.specs.Store.{Files as Disk}
use Rattle.dali_store.specs.declared.store.Store.{Ghosts}
use Rattle.dali_runs.specs.declared.causes.Cause.{Cause}
use Rattle.dali_runs.specs.State.{SystemState}
use Rattle.dali_runs.specs.Steps.{audit_ended, audit_record, stop_by_audit, taken, store_stopped, in_checkpoint}
use Rattle.dali_system.specs.declared.error.SystemError.{SystemError}
use Rattle.dali_system.specs.declared.error.SystemError.TheVariants.{Stopped as SystemStopped, OutOfMemory as SystemMemory}
use Rattle.dali_system.specs.Refused.{stop_of}
use Rattle.dali_system.specs.Served.{Served}
use Rattle.dali_crash.specs.Checkpoints.{Point}
use Rattle.dali_crash.specs.Traces.{Start}
use Rattle.dali_core.specs.Vault.Vaulted.{Vaulted}
use Rattle.dali_core.specs.Flushed.{FlushesFrame, FailsFrame}
use Rattle.dali_audit.specs.declared.audit.Finding.TheVariants.{Waiting}
use Rattle.dali_audit.specs.Findings.{Audited, Judged, finding_of, damaged, AllPassed}
use Rattle.dali_checkpoint.specs.Kept.{Checkpointed, side_in, cause_in, cause_of, given_up, IsEndOf}
use Rattle.dali_checkpoint.specs.Done.{HasTurnedTo, SyncFails, TurnFails, FailsToTurn, IsKept, IsLost}
use Rattle.dali_core.specs.Cores.{IsNoShorter}
use Rattle.dali_checkpoint.specs.Making.{checkpoint_error}
use Rattle.dali_checkpoint.specs.declared.error.CheckpointError.{CheckpointError}
use Rattle.dali_checkpoint.specs.declared.error.CheckpointError.TheVariants.{Failed, InProgress, Stopped, LogFull, Fault, OutOfMemory}
use Rattle.dali_transcripts.specs.declared.clients.command.Command.TheVariants.{Checkpoint as IsCheckpoint}
use Rattle.dali_transcripts.specs.declared.clients.line.Line.{Line}
use Rattle.dali_transcripts.specs.declared.clients.line.Line.TheVariants.{Checkpointed as IsMade, CheckpointFailed, Refused as IsRefused}
use Rattle.dali_transcripts.specs.declared.clients.line.Why.TheVariants.{Stopped as IsStopped, StoreStopped}
use Rattle.dali_transcripts.specs.Words.{Checkpoints as CheckpointAct, StoppedBy}
use Rattle.dali_transcripts.specs.World.{World, Logs}
use Rattle.dali_transcripts.specs.Moves.{Receipt}
use Rattle.dali_transcripts.specs.Rounds.{Standing}
use Rattle.dali_turns.specs.declared.client.Client.{Client}
use Rattle.dali_turns.specs.declared.client.State.TheVariants.{Outside, Certifying}
use Rattle.dali_turns.specs.Stood.{Stood}
use Rattle.dali_turns.specs.Clients.{Finishes}
use Rattle.dali_turns.specs.Endings.{line_in, SaysEnd, Unsaid}
use Rattle.dali_turns.specs.Fits.{rest_of}
use Rattle.dali_turns.specs.Goes.{Went, StepGoes}
use Rattle.dali_turns.proofs.Commands.{unsaid_goes, finished_rest, finished_lines, finished_client}
use Rattle.dali_turns.proofs.AuditSteps.{behind_is, of_told, in_err}
use Rattle.dali_turns.proofs.Guarding.{Always}
use Rattle.dali_turns.proofs.Passing.{all_passed}
use Rattle.dali_turns.proofs.Ending.{vault_runs}
use Rattle.dali_turns.proofs.Finishing.{refusal_stop, given_up as gives_up, given_up_silent, given_up_none}
use Rattle.dali_turns.proofs.Certified.{certify_passes, makes, makes_silent}
use Rattle.dali_turns.proofs.Uncertified.{verdict_fails, verdict_silent, last_flush_fails, last_flush_fails_silent, sync_fails, sync_fails_silent, move_fails, move_fails_silent}

-- what a certification says
pub record Certifies {V : Type 0} (means : Ghosts V) (c : Checkpointed) (failing : List ℕ) (y : SystemState) (v : Vaulted V) (made : Result ℕ CheckpointError) (z : SystemState) (u : Vaulted V) : Type 0 where
  pub ok : IfOk made (λ now. (failing ≡ []) × (now ≡ v.current + 1) × (now ≡ u.current))
  pub turned : OnOk made (HasTurnedTo means y v (side_in c) u)
  pub flag : OnOk made (z ≡ in_checkpoint (taken y) false)
  pub kept : IsErrOf made (Failed failing) → IsKept means y v z u
  pub failed : IfErr made (λ e. (failing ≡ [] → ⊥) → (e ≡ Failed failing) ⊎ IsLost means y v z u e)
  pub fault : failing ≡ [] → cause_of y v ≡ None → OnErr made ((made ≡ Err Fault) × (z ≡ in_checkpoint (store_stopped (taken y)) false) × FailsToTurn means y v (side_in c) u)
  pub longer : IsNoShorter means.told v u

-- as its clauses say it, of the system that a core keeps
pub certifies_made : {V : Type 0} (means : Ghosts V) (c : Checkpointed) (failing found : List ℕ) (S T : Served) (v u : Vaulted V) (made : Result ℕ CheckpointError) → failing ≡ found
    → IfOk made (λ now. (failing ≡ []) × (now ≡ v.current + 1) × (now ≡ u.current)) → OnOk made (HasTurnedTo means S.state v (side_in c) u) → OnOk made (T ≡ record S { state = in_checkpoint (taken S.state) false })
    → (IsErrOf made (Failed failing) → IsKept means S.state v T.state u) → IfErr made (λ e. (failing ≡ [] → ⊥) → (e ≡ Failed failing) ⊎ IsLost means S.state v T.state u e)
    → (failing ≡ [] → cause_of S.state v ≡ None → OnErr made ((made ≡ Err Fault) × (T ≡ record S { state = in_checkpoint (store_stopped (taken S.state)) false }) × FailsToTurn means S.state v (side_in c) u))
    → IsNoShorter means.told v u → Certifies means c found S.state v made T.state u
certifies_made means c failing found S T v u made same ok turned flag kept failed fault longer = subst (λ (l : List ℕ). Certifies means c l S.state v made T.state u) same (record {
  ok = ok;
  turned = turned;
  flag = on_ok made flag;
  kept = kept;
  failed = failed;
  fault = λ clean free. on_err made (fault clean free);
  longer = longer;
})
  where
    on_ok : (r : Result ℕ CheckpointError) → OnOk r (T ≡ record S { state = in_checkpoint (taken S.state) false }) → OnOk r (T.state ≡ in_checkpoint (taken S.state) false)
    on_ok (Ok n) e = ap (λ (x : Served). x.state) e
    on_ok (Err f) e = tt

    on_err : (r : Result ℕ CheckpointError) → OnErr r ((made ≡ Err Fault) × (T ≡ record S { state = in_checkpoint (store_stopped (taken S.state)) false }) × FailsToTurn means S.state v (side_in c) u)
        → OnErr r ((made ≡ Err Fault) × (T.state ≡ in_checkpoint (store_stopped (taken S.state)) false) × FailsToTurn means S.state v (side_in c) u)
    on_err (Ok n) e = tt
    on_err (Err f) e = (e.0, ap (λ (x : Served). x.state) e.1, e.2)

-- what it asks for, of the audit that has just ended
pub certify_asks : (o : Option ℕ) (audit : Audited) (y m : SystemState) (verdict : Judged) → IsSomeAnd o (λ n. n ≤ audit.begin) → m ≡ audit_ended y audit.begin (damaged audit.findings) → verdict ≡ record { begin = audit.begin; failing = damaged audit.findings }
    → IsSomeAnd o (λ n. IsEndOf m n verdict)
certify_asks (Some n) audit y m verdict behind logs is =
    subst (λ (x : Judged). IsEndOf m n x) (sym is) (subst (λ (x : SystemState). IsEndOf x n (record { begin = audit.begin; failing = damaged audit.findings })) (sym logs)
    (record { behind = behind; logged = Contains-push y.since (audit_record audit.begin (damaged audit.findings)) }))
certify_asks None audit y m verdict behind logs is = absurd behind

same_error : (a b : CheckpointError) → (let r : Result ℕ CheckpointError = Err a in r ≡ Err b) → a ≡ b
same_error a b e = cc

module _ {V : Type 0} (means : Ghosts V) (precheck : Bool) (k j : Client) (gs : List RegionState) (y : SystemState) (v : Vaulted V)
    (c : Checkpointed) (audit : Audited) (next : ℕ) where
  -- ---- a pass
  pub may_pass_on : next < length gs → Always means precheck (Certifying c audit next) k gs y v (slice_get audit.findings next ≡ Some Waiting)
  may_pass_on less s B p w a stood of fits = fits.passing.waits next (omega arith) (omega (arith, less, fits.passing.count, stood.stands.whole.regions, ap length stood.stands.at.regions))

  pub certify_passes_goes : (g h : RegionState) → slice_get gs next ≡ Some g → h ≡ checked g → (later : Audited) → later ≡ record audit { findings = slice_set audit.findings next (finding_of g.stray) } → j ≡ record k { state = Certifying c later (next + 1) }
      → (hs : List RegionState) → hs ≡ slice_set gs next h → StepGoes means precheck (Certifying c audit next) k gs y v true j hs y v
  certify_passes_goes g h at is later passes_is now hs left s B p w a stood of fits =
      subst (λ (l : List RegionState). Went means precheck s B p w a (Certifying c audit next) gs y v true j l y v) (sym (left ∙ ap (slice_set gs next) is))
      (certify_passes means precheck s B p w a gs y v k j stood of c audit next fits g at (ap (λ (x : Client). x.transcript) now) (ap rest_of now)
      (ap (λ (x : Client). x.state) now ∙ ap (λ (x : Audited). Certifying c x (next + 1)) passes_is))

  -- ---- the end
  pub may_finish : length gs ≤ next → Always means precheck (Certifying c audit next) k gs y v (AllPassed audit.findings)
  may_finish all s B p w a stood of fits = all_passed p w audit next fits.passing (omega (arith, all, stood.stands.whole.regions, ap length stood.stands.at.regions))

  pub may_certify : Always means precheck (Certifying c audit next) k gs y v (IsSomeAnd c.settled (λ n. n ≤ audit.begin))
  may_certify s B p w a stood of fits = subst (λ (o : Option ℕ). IsSomeAnd o (λ n. n ≤ audit.begin)) (sym fits.settled_at) fits.behind

  module _ (all : length gs ≤ next) (runs : y.stop ≡ None) (m z : SystemState) (u : Vaulted V) (made : Result ℕ CheckpointError) (logs : m ≡ audit_ended y audit.begin (damaged audit.findings))
      (says : Certifies means c (damaged audit.findings) m v made z u) where
    abbrev found : List ℕ
    found = damaged audit.findings

    abbrev ending : SystemState
    ending = audit_ended y audit.begin found

    facts : Certifies means c found ending v made z u
    facts = subst (λ (x : SystemState). Certifies means c found x v made z u) logs says

    -- the end of the audit waits still
    waits : (s : Start) (B : List (List Record)) (p : Point) (w : World) → Stood means s B p w precheck gs y v → drop ending.taken ending.since ≡ [] → ⊥
    waits s B p w stood none =
        let run = stood.stands.at.vault.run.run.run in
        omega (
          arith,
          run.taken,
          run.first,
          length-append s.log p.core.system.since,
          ap (λ (x : SystemState). x.taken) stood.stands.at.system,
          ap (λ (x : SystemState). length x.since) stood.stands.at.system,
          ap length none,
          length-drop y.taken (y.since ++ audit_record audit.begin found ∷ []),
          length-append y.since (audit_record audit.begin found ∷ []),
        )

    abbrev fallen : SystemState
    fallen = in_checkpoint (store_stopped (taken ending)) false

    -- how it ended
    abbrev Outcome : Type 0
    Outcome =
        ((n : ℕ) × (made ≡ Ok n) × (found ≡ []) × (n ≡ v.current + 1) × HasTurnedTo means ending v (side_in c) u × (z ≡ in_checkpoint (taken ending) false))
        ⊎ (((r : ℕ) × (rs : List ℕ) × (made ≡ Err (Failed found)) × (found ≡ r ∷ rs) × FlushesFrame means ending v u × (z ≡ in_checkpoint (taken ending) false))
        ⊎ (((made ≡ Err Fault) × FailsFrame means ending v u × (z ≡ fallen))
        ⊎ ((made ≡ Err Fault) × (found ≡ []) × (SyncFails means ending v u ⊎ TurnFails means ending v (side_in c) u) × (z ≡ fallen))))

    module _ (ran : v.stopped ≡ false) (waiting : drop ending.taken ending.since ≡ [] → ⊥) where
      free : found ≡ [] → cause_of ending v ≡ None
      free clean = ap (λ (o : Option Cause). cause_in o v.stopped) (ap (λ (l : List ℕ). stop_by_audit l y.stop) clean ∙ runs) ∙ ap (cause_in None) ran

      outcome : Outcome
      outcome = by_made made refl
        where
          by_lost : (e : CheckpointError) → made ≡ Err e → IsLost means ending v z u e → Outcome
          by_lost (Stopped cause) is lost = let never : true ≡ false = sym lost.1 ∙ ran in absurd (cc)
          by_lost Fault is lost = inr (inr (inl (is, lost.1, lost.2)))
          by_lost (Failed regions) is lost = absurd lost
          by_lost InProgress is lost = absurd lost
          by_lost (LogFull end limit) is lost = absurd lost
          by_lost OutOfMemory is lost = absurd lost

          by_kept : (r : ℕ) (rs : List ℕ) → found ≡ r ∷ rs → made ≡ Err (Failed found) → IsKept means ending v z u → Outcome
          by_kept r rs bad is (inl kept) = absurd (waiting kept.0)
          by_kept r rs bad is (inr kept) = inr (inl (r, rs, is, bad, kept.1, kept.2))

          by_turn : made ≡ Err Fault → found ≡ [] → z ≡ fallen → FailsToTurn means ending v (side_in c) u → Outcome
          by_turn is clean left (inl said) = inr (inr (inl (is, said, left)))
          by_turn is clean left (inr said) = inr (inr (inr (is, clean, said, left)))

          by_found : (e : CheckpointError) → made ≡ Err e → Certifies means c found ending v (Err e) z u → (l : List ℕ) → found ≡ l → Outcome
          by_found e is h [] clean = let t = h.fault clean (free clean) in by_turn (is ∙ t.0) clean t.1 t.2
          by_found e is h (r ∷ rs) bad = by_failed (h.failed (λ none. let never : r ∷ rs ≡ [] = sym bad ∙ none in absurd (cc)))
            where
              by_failed : (e ≡ Failed found) ⊎ IsLost means ending v z u e → Outcome
              by_failed (inl same) = by_kept r rs bad (is ∙ ap Err same) (h.kept (ap Err same))
              by_failed (inr lost) = by_lost e is lost

          by_made : (r : Result ℕ CheckpointError) → made ≡ r → Outcome
          by_made (Ok n) is = let h = subst (λ (x : Result ℕ CheckpointError). Certifies means c found ending v x z u) is facts in inl (n, is, h.ok.0, h.ok.1, h.turned, h.flag)
          by_made (Err e) is = by_found e is (subst (λ (x : Result ℕ CheckpointError). Certifies means c found ending v x z u) is facts) found refl

    line_is : (r : Result ℕ CheckpointError) (line other : Line) → made ≡ r → line_in made ≡ Some line → line_in r ≡ Some other → line ≡ other
    line_is r line other is given there = same_Some line other (sym given ∙ (ap line_in is ∙ there))

    -- nothing more was logged
    pub since_is : v.stopped ≡ false → (s : Start) (B : List (List Record)) (p : Point) (w : World) → Stood means s B p w precheck gs y v → z.since ≡ m.since
    since_is ran s B p w stood = by_outcome (outcome ran (waits s B p w stood))
      where
        left : (n : SystemState) → z ≡ n → n.since ≡ ending.since → z.since ≡ m.since
        left n is same = ap (λ (x : SystemState). x.since) is ∙ (same ∙ ap (λ (x : SystemState). x.since) (sym logs))

        by_outcome : Outcome → z.since ≡ m.since
        by_outcome (inl (n, is, clean, number, said, z_is)) = left (in_checkpoint (taken ending) false) z_is refl
        by_outcome (inr (inl (r, rs, is, bad, said, z_is))) = left (in_checkpoint (taken ending) false) z_is refl
        by_outcome (inr (inr (inl (is, said, z_is)))) = left fallen z_is refl
        by_outcome (inr (inr (inr (is, clean, said, z_is)))) = left fallen z_is refl

    pub ends_goes : SaysEnd k made j → StepGoes means precheck (Certifying c audit next) k gs y v true j gs z u
    ends_goes (line, given, f) s B p w a stood of fits = by_outcome (outcome ran (waits s B p w stood))
      where
        ran : v.stopped ≡ false
        ran = vault_runs v.stopped (is_some y.stop) stood.stops (ap is_some runs)

        left : (x : SystemState) → z ≡ x → Went means precheck s B p w a (Certifying c audit next) gs y v true j gs x u → Went means precheck s B p w a (Certifying c audit next) gs y v true j gs z u
        left x is went = subst (λ (m : SystemState). Went means precheck s B p w a (Certifying c audit next) gs y v true j gs m u) (sym is) went

        said_line : (r : Result ℕ CheckpointError) (other : Line) → made ≡ r → line_in r ≡ Some other → Finishes k Outside other j
        said_line r other is there = subst (λ l. Finishes k Outside l j) (line_is r line other is given there) f

        rest_is : (other : Line) → Finishes k Outside other j → rest_of j ≡ fits.making.more
        rest_is other g = finished_rest k j Outside other g ∙ behind_is k fits.making.more CheckpointAct fits.making.makes

        by_outcome : Outcome → Went means precheck s B p w a (Certifying c audit next) gs y v true j gs z u
        by_outcome (inl (n, is, clean, number, said, z_is)) =
            let g : Finishes k Outside (IsMade (v.current + 1)) j = subst (λ i. Finishes k Outside (IsMade i) j) number (said_line (Ok n) (IsMade n) is refl) in
            left _ z_is (makes means precheck s B p w a gs y v k j stood of c audit next fits all runs clean u said facts.longer (finished_client k j Outside _ g) (finished_lines k j Outside _ g) (rest_is _ g) g.stands)
        by_outcome (inr (inl (r, rs, is, bad, said, z_is))) =
            let g : Finishes k Outside (CheckpointFailed (r ∷ rs)) j = subst (λ l. Finishes k Outside (CheckpointFailed l) j) bad (said_line (Err (Failed found)) (CheckpointFailed found) is refl) in
            left _ z_is (verdict_fails means precheck s B p w a gs y v k j stood of c audit next fits all runs r rs bad u said facts.longer (finished_client k j Outside _ g) (finished_lines k j Outside _ g) (rest_is _ g) g.stands)
        by_outcome (inr (inr (inl (is, said, z_is)))) =
            let g : Finishes k Outside (IsRefused IsCheckpoint StoreStopped) j = said_line (Err Fault) (IsRefused IsCheckpoint StoreStopped) is refl in
            left _ z_is (last_flush_fails means precheck s B p w a gs y v k j stood of c audit next fits all runs u said facts.longer (finished_client k j Outside _ g) (finished_lines k j Outside _ g) (rest_is _ g) g.stands)
        by_outcome (inr (inr (inr (is, clean, inl said, z_is)))) =
            let g : Finishes k Outside (IsRefused IsCheckpoint StoreStopped) j = said_line (Err Fault) (IsRefused IsCheckpoint StoreStopped) is refl in
            left _ z_is (sync_fails means precheck s B p w a gs y v k j stood of c audit next fits all runs clean u facts.longer said (finished_client k j Outside _ g) (finished_lines k j Outside _ g) (rest_is _ g) g.stands)
        by_outcome (inr (inr (inr (is, clean, inr said, z_is)))) =
            let g : Finishes k Outside (IsRefused IsCheckpoint StoreStopped) j = said_line (Err Fault) (IsRefused IsCheckpoint StoreStopped) is refl in
            left _ z_is (move_fails means precheck s B p w a gs y v k j stood of c audit next fits all runs clean u facts.longer said (finished_client k j Outside _ g) (finished_lines k j Outside _ g) (rest_is _ g) g.stands)

    ends_silent_there : Unsaid k made j → StepGoes means precheck (Certifying c audit next) k gs y v false j gs z u
    ends_silent_there unsaid s B p w a stood of fits = by_outcome (outcome ran (waits s B p w stood)) unsaid
      where
        ran : v.stopped ≡ false
        ran = vault_runs v.stopped (is_some y.stop) stood.stops (ap is_some runs)

        left : (x : SystemState) → z ≡ x → Went means precheck s B p w a (Certifying c audit next) gs y v false j gs x u → Went means precheck s B p w a (Certifying c audit next) gs y v false j gs z u
        left x is went = subst (λ (m : SystemState). Went means precheck s B p w a (Certifying c audit next) gs y v false j gs m u) (sym is) went

        -- there is a line
        not_none : (r : Result ℕ CheckpointError) (other : Line) → made ≡ r → line_in r ≡ Some other → line_in made ≡ None → ⊥
        not_none r other is there none = let never : Some other ≡ None = sym there ∙ (sym (ap line_in is) ∙ none) in cc

        same_lines : (r : Result ℕ CheckpointError) (other : Line) → made ≡ r → line_in r ≡ Some other → Unsaid k made j → j.transcript ≡ k.transcript
        same_lines r other is there (inl (none, same)) = absurd (not_none r other is there none)
        same_lines r other is there (inr (line, given, f)) = f.transcript

        by_outcome : Outcome → Unsaid k made j → Went means precheck s B p w a (Certifying c audit next) gs y v false j gs z u
        by_outcome (inl (n, is, clean, number, said, z_is)) h = left _ z_is (makes_silent means precheck s B p w a gs y v k j stood of c audit next fits all runs clean u said facts.longer (same_lines (Ok n) (IsMade n) is refl h))
        by_outcome (inr (inl (r, rs, is, bad, said, z_is))) h = left _ z_is (verdict_silent means precheck s B p w a gs y v k j stood of c audit next fits all runs r rs bad u said facts.longer (same_lines (Err (Failed found)) (CheckpointFailed found) is refl h))
        by_outcome (inr (inr (inl (is, said, z_is)))) h = left _ z_is (last_flush_fails_silent means precheck s B p w a gs y v k j stood of c audit next fits all runs u said facts.longer (same_lines (Err Fault) (IsRefused IsCheckpoint StoreStopped) is refl h))
        by_outcome (inr (inr (inr (is, clean, inl said, z_is)))) h = left _ z_is (sync_fails_silent means precheck s B p w a gs y v k j stood of c audit next fits all runs clean u facts.longer said (same_lines (Err Fault) (IsRefused IsCheckpoint StoreStopped) is refl h))
        by_outcome (inr (inr (inr (is, clean, inr said, z_is)))) h = left _ z_is (move_fails_silent means precheck s B p w a gs y v k j stood of c audit next fits all runs clean u facts.longer said (same_lines (Err Fault) (IsRefused IsCheckpoint StoreStopped) is refl h))

    pub ends_silent_goes : (ok : Bool) → ok ≡ false → Unsaid k made j → StepGoes means precheck (Certifying c audit next) k gs y v ok j gs z u
    ends_silent_goes ok err f = unsaid_goes means precheck (Certifying c audit next) k j gs gs y z v u ok err (ends_silent_there f)

  -- ---- the audit's end is refused: the engine is stopped, or memory was refused
  module _ {T : Type 0} (r : Result T SystemError) (f : SystemError) (m z : SystemState) (refused : r ≡ Err f) (memory : y.stop ≡ None → IfErr r (λ e. e ≡ SystemMemory)) (told_is : IfSome (stop_of y.stop) (λ e. r ≡ Err e))
      (same : m ≡ y) (given_up_is : z ≡ given_up c.faulted m) where
    abbrev Unended : Type 0
    Unended = ((cause : Cause) × (y.stop ≡ Some cause) × (f ≡ SystemStopped cause)) ⊎ (f ≡ SystemMemory)

    refused_by : Unended
    refused_by = by_stop y.stop refl
      where
        by_stop : (o : Option Cause) → y.stop ≡ o → Unended
        by_stop None stop = inr (in_err (λ e. e ≡ SystemMemory) r f refused (memory stop))
        by_stop (Some cause) stop = inl (cause, stop, of_told r (stop_of y.stop) f refused told_is (SystemStopped cause) (ap stop_of stop))

    abbrev so_far : List Receipt
    so_far = (audit.begin, Logs AuditBegin) ∷ []

    to_end : (ok : Bool) (s : Start) (B : List (List Record)) (p : Point) (w : World) (a : Standing) → c.faulted ≡ false
        → Went means precheck s B p w a (Certifying c audit next) gs y v ok j gs (in_checkpoint y false) v → Went means precheck s B p w a (Certifying c audit next) gs y v ok j gs z v
    to_end ok s B p w a sound went = subst (λ (n : SystemState). Went means precheck s B p w a (Certifying c audit next) gs y v ok j gs n v)
        (sym (given_up_is ∙ (ap (λ (b : Bool). given_up b m) sound ∙ ap (λ (n : SystemState). in_checkpoint n false) same))) went

    pub unended_goes : SaysEnd k (Err (checkpoint_error f)) j → StepGoes means precheck (Certifying c audit next) k gs y v true j gs z v
    unended_goes (line, given, h) = by_refusal refused_by
      where
        by_refusal : Unended → StepGoes means precheck (Certifying c audit next) k gs y v true j gs z v
        by_refusal (inl (cause, stop, is)) = λ s B p w a stood of fits.
            let g : Finishes k Outside (IsRefused IsCheckpoint (IsStopped cause)) j = subst (λ l. Finishes k Outside l j) (same_Some line (IsRefused IsCheckpoint (IsStopped cause)) (sym given ∙ ap (λ (n : SystemError). line_in (Err (checkpoint_error n))) is)) h in
            to_end true s B p w a fits.sound
            (gives_up means precheck s B p w a (Certifying c audit next) gs y v k j stood of tt (λ t none. none) so_far fits.making (StoppedBy cause)
            (refusal_stop means precheck s B p w a (Certifying c audit next) gs y v k j stood of tt (λ t none. none) so_far fits.making cause stop (λ l. tt))
            (finished_client k j Outside _ g) (finished_lines k j Outside _ g) (finished_rest k j Outside _ g ∙ behind_is k fits.making.more CheckpointAct fits.making.makes) g.stands)
        by_refusal (inr is) = let never : None ≡ Some line = ap (λ (n : SystemError). line_in (Err (checkpoint_error n))) (sym is) ∙ given in absurd (cc)

    unended_silent_there : Unsaid k (Err (checkpoint_error f)) j → StepGoes means precheck (Certifying c audit next) k gs y v false j gs z v
    unended_silent_there unsaid = by_refusal refused_by unsaid
      where
        by_refusal : Unended → Unsaid k (Err (checkpoint_error f)) j → StepGoes means precheck (Certifying c audit next) k gs y v false j gs z v
        by_refusal (inl (cause, stop, is)) (inl (none, is_same)) = let never : Some (IsRefused IsCheckpoint (IsStopped cause)) ≡ None = ap (λ (n : SystemError). line_in (Err (checkpoint_error n))) (sym is) ∙ none in absurd (cc)
        by_refusal (inl (cause, stop, is)) (inr (line, given, h)) = λ s B p w a stood of fits.
            to_end false s B p w a fits.sound
            (given_up_silent means precheck s B p w a (Certifying c audit next) gs y v k j stood of tt (λ t none. none) so_far fits.making (StoppedBy cause)
            (refusal_stop means precheck s B p w a (Certifying c audit next) gs y v k j stood of tt (λ t none. none) so_far fits.making cause stop (λ l. tt)) h.transcript)
        by_refusal (inr memory_is) (inl (none, is_same)) = λ s B p w a stood of fits.
            to_end false s B p w a fits.sound
            (given_up_none means precheck s B p w a (Certifying c audit next) gs y v k j stood of tt (λ t none. none) so_far fits.making (λ m n. tt) (ap (λ (n : Client). n.transcript) is_same))
        by_refusal (inr memory_is) (inr (line, given, h)) = let never : None ≡ Some line = ap (λ (n : SystemError). line_in (Err (checkpoint_error n))) (sym memory_is) ∙ given in absurd (cc)

    pub unended_silent_goes : (ok : Bool) → ok ≡ false → Unsaid k (Err (checkpoint_error f)) j → StepGoes means precheck (Certifying c audit next) k gs y v ok j gs z v
    unended_silent_goes ok err f = unsaid_goes means precheck (Certifying c audit next) k j gs gs y z v v ok err (unended_silent_there f)
