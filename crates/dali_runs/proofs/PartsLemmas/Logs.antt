-- Each step that logs keeps the log's part, and each other one leaves the log.
use Rattle.std.proofs.Common.{◌≡◌, ℕ, true, false, List, [], ◌∷◌, ◌++◌, length, refl, sym, subst, ◌∙◌, inl, inr, ⊎_elim}
use Rattle.std.specs.Prelude.{IsSome}
use Rattle.std.proofs.lemmas.Option.{slice_get_within}
use Rattle.dali_lists.proofs.Lists.{get_push}
use Rattle.dali_geometry.specs.Sizes.{Sizes}
use Rattle.dali_record.specs.declared.records.Record.{Record}
use Rattle.dali_record.specs.declared.records.Record.TheVariants.{Begin, Forward, Done, Commit, Ended, Solo, AuditBegin, Back}
use Rattle.dali_record.specs.Epochs.{Epoch, last_epoch, separates}
use Rattle.dali_record.specs.Locks.{EndedBetween, IsLockLegalIn}
use Rattle.dali_record.specs.Spelling.{CanBeSpelled}
use Rattle.dali_record.proofs.Batches.{last_push}
use Rattle.dali_record.proofs.Ends.{get_old, get_push_cases}
use Rattle.dali_record.proofs.Pushes.{touch_new, touch_old, touch_within, txn_state_push, rules_state_push, IsLegalFor-push, IsLockLegal-push}
use Rattle.dali_runs.specs.Run.{LogRun}
use Rattle.dali_runs.specs.Steps.{audit_record}
use Rattle.dali_runs.specs.Courses.{Step, Begins, Operates, TakesBack, Frees, Answers, Commits, Ends, AuditBegins, AuditEnds, Locks, Refuses, OnRegion, Passes, Dies, Claims, GivesBack, Recovers, Stops, Checkpoints, Takes, Flushes, Faults, ReadFails}
use Rattle.dali_runs.proofs.Logging.{no_conflict}
use Rattle.dali_runs.specs.Parts.Systems.{IsSystemStep, adds_record}
use Rattle.dali_runs.specs.Parts.Logs.{IsFreeOf, MayBeLogged, LogLogs, HeldIsFree, MovesLog, SystemHasLog}
use Rattle.dali_runs.proofs.PartsLemmas.Systems.{system_keeps, system_leaves}

-- a record that may be logged
logs_it : (s : Sizes) (L : List Record) (x : Record) → LogRun s L → separates x ≡ false → MayBeLogged s L x → LogRun s (L ++ x ∷ [])
logs_it s L x run within may = record {
  format = get_old L x 0 (slice_get_within L 0 _ run.format) ∙ run.format;
  spelled = λ i r e. ⊎_elim (λ old. run.spelled i r old.1) (λ new. subst CanBeSpelled new.1 may.spelled) (get_push_cases L x i r e);
  legal = IsLegalFor-push s L x run.legal
      (subst (λ o. IsSome o) (rules_state_push s L x) may.rules)
      (λ t c. subst (λ o. IsSome o) (txn_state_push s t L x) (may.allowed t c))
      (λ rs ds e. absurd (let f : true ≡ false = subst (λ z. separates z ≡ false) e within in cc))
      may.reads;
  locks = IsLockLegal-push L x run.locks may.free;
}

-- and what is logged was one
was_allowed : (s : Sizes) (L : List Record) (x : Record) → separates x ≡ false → LogRun s (L ++ x ∷ []) → MayBeLogged s L x
was_allowed s L x within log = record {
  rules = log.legal.rules;
  allowed = λ u c. log.legal.txns u;
  spelled = log.spelled (length L) x (get_push L x);
  reads = λ a e. log.legal.reads (length L) a (touch_new L x ∙ e);
  free = free;
}
  where
    E : List Record
    E = (last_epoch L).records

    more : IsLockLegalIn ((last_epoch L).records ++ x ∷ [])
    more = subst (λ (e : Epoch). IsLockLegalIn e.records) (last_push L x within) log.locks.1

    free : IsFreeOf L x
    free i a b p q c =
        let ends : EndedBetween a.owner i (length (last_epoch L).records) ((last_epoch L).records ++ x ∷ []) = more i (length E) a b (touch_within E i a p) (touch_old E x i (touch_within E i a p) ∙ p) (touch_new E x ∙ q) c in
        (ends.0, ends.1, ends.2, sym (get_old E x ends.0 ends.2) ∙ ends.3)

pub log_logs : LogLogs
log_logs s L x run within = (logs_it s L x run within, was_allowed s L x within)

pub held_is_free : HeldIsFree
held_is_free s L x y run owner = no_conflict s L x y run owner

-- ---- each step
audit_within : (b : ℕ) (found : List ℕ) → separates (audit_record b found) ≡ false
audit_within b [] = refl
audit_within b (r ∷ rs) = refl

pub system_has_log : SystemHasLog
system_has_log L M y z x run s = by_step x s
  where
    adds : (v : Step) (r : Record) → IsSystemStep L y v M z → adds_record v ≡ true → separates r ≡ false → M ≡ L ++ r ∷ [] → MovesLog y.sizes L v M
    adds v r t some within is = inl (some, (r, was_allowed y.sizes L r within (subst (LogRun y.sizes) is (subst (λ k. LogRun k M) (system_leaves L M y z v t).sizes (system_keeps L M y z v run t).log)), is))

    leaves : (v : Step) → IsSystemStep L y v M z → adds_record v ≡ false → MovesLog y.sizes L v M
    leaves v t none = inr (none, ((system_leaves L M y z v t).counts none).log)

    by_step : (v : Step) → IsSystemStep L y v M z → MovesLog y.sizes L v M
    by_step Begins t = adds Begins (Begin y.next) t refl refl t.1.0
    by_step (Operates u b) t = adds (Operates u b) (Forward u b) t refl refl t.3.0
    by_step (TakesBack u b) t = adds (TakesBack u b) (Back u b) t refl refl t.2.0
    by_step (Frees p b) t = adds (Frees p b) (Solo y.next p b) t refl refl t.2.0
    by_step (Answers u k a) t = adds (Answers u k a) (Done u k a) t refl refl t.3.0
    by_step (Commits u) t = adds (Commits u) (Commit u) t refl refl t.2.0
    by_step (Ends u) t = adds (Ends u) (Ended u) t refl refl t.2.0
    by_step AuditBegins t = adds AuditBegins AuditBegin t refl refl t.2.0
    by_step (AuditEnds b found) t = adds (AuditEnds b found) (audit_record b found) t refl (audit_within b found) t.1.0
    by_step (Locks u k m) t = leaves (Locks u k m) t refl
    by_step (Refuses u k m h) t = leaves (Refuses u k m h) t refl
    by_step (OnRegion r w) t = leaves (OnRegion r w) t refl
    by_step (Passes b r) t = leaves (Passes b r) t refl
    by_step (Dies u o) t = leaves (Dies u o) t refl
    by_step (Claims u) t = leaves (Claims u) t refl
    by_step (GivesBack u o) t = leaves (GivesBack u o) t refl
    by_step (Recovers r) t = leaves (Recovers r) t refl
    by_step Stops t = leaves Stops t refl
    by_step (Checkpoints b) t = leaves (Checkpoints b) t refl
    by_step Takes t = leaves Takes t refl
    by_step Flushes t = leaves Flushes t refl
    by_step (Faults n) t = leaves (Faults n) t refl
    by_step (ReadFails n) t = leaves (ReadFails n) t refl
