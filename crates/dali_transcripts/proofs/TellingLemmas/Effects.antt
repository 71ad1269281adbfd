-- What a deed does to the system, and what it leaves, by the kind of step that it tells.
use Rattle.std.proofs.Common.{◌≡◌, ℕ, ◌+◌, true, false, List, [], ◌∷◌, ◌++◌, length, Option, Some, None, refl, ap, sym, subst, ◌∙◌, ⊎_elim, arith}
use Rattle.std.proofs.lemmas.List.{append-nil}
use Rattle.dali_record.specs.declared.records.Record.{Record}
use Rattle.dali_record.specs.declared.records.Record.TheVariants.{Begin, Forward, Back, Solo, Done, Commit, Ended, AuditBegin}
use Rattle.dali_locks.specs.declared.mode.Mode.{Mode}
use Rattle.dali_att.specs.declared.state.State.{State}
use Rattle.dali_att.specs.declared.state.State.TheVariants.{Live, Dead, Cleaning, Committed}
use Rattle.dali_att.specs.Table.{with_state, without_last}
use Rattle.dali_runs.specs.State.{SystemState, CoreState, state_of, lock_of}
use Rattle.dali_runs.specs.Steps.{begun, op_logged, back_logged, solo_logged, done_logged, commit_logged, committed_row, ended_logged, audit_begun, audit_ended, audit_record, granted, refused, in_state, store_stopped, in_checkpoint, taken}
use Rattle.dali_runs.specs.Keeps.{may_log_in}
use Rattle.dali_runs.specs.Regions.{RegionStep, Poke}
use Rattle.dali_runs.specs.Courses.{Step, IsStep, Begins, Operates, TakesBack, Frees, Answers, Commits, Ends, AuditBegins, AuditEnds, Locks, Refuses, OnRegion, Passes, Dies, Claims, GivesBack, Recovers, Stops, Checkpoints, Takes, Flushes, Faults, ReadFails}
use Rattle.dali_runs.specs.Parts.Regions.{changes_region}
use Rattle.dali_runs.proofs.PartsLemmas.Regions.{regions_leave}
use Rattle.dali_runs.proofs.PartsLemmas.Vaults.{step_has_vault}
use Rattle.dali_crash.specs.Checkpoints.{Does, Starts, Turns, CopyFails, HeadFails, SyncFails, TurnFails, Finishes, Point, with_flag, with_current, with_fault}
use Rattle.dali_transcripts.specs.Words.{StoreFailed}
use Rattle.dali_transcripts.specs.World.{Deed, Logs, Strays, DiesOn, Claims as ClaimsTxn, GivesBack as GivesTxnBack, GetsLock, Yields, FindsDead, StartsCheckpoint, MovesAnchor, EndsCheckpoint, Meets, World, logged_by, state_step, lock_step, IsNoWeaker, refused_by}
use Rattle.dali_transcripts.specs.Rounds.{by}
use Rattle.dali_transcripts.specs.Touches.{touches, is_at}
use Rattle.dali_transcripts.specs.Telling.Deeds.{refusal_at, TellsStep, AreOfCore}
use Rattle.dali_transcripts.specs.Telling.Effects.{IsDoneBy, DeedsSay, IsLeft, DeedLeaves}
use Rattle.dali_transcripts.proofs.TellingLemmas.States.{begun_state, ended_state, kept_state, new_state, undone_state, claim_state, release_state}
use Rattle.dali_transcripts.proofs.TellingLemmas.Held.{told_lock, untold_lock, ended_lock}

-- ---- the system
abbrev StatesBy : ℕ → Deed → SystemState → SystemState → Type 0
StatesBy c x y z = (t : ℕ) → state_of z t ≡ state_step t (state_of y t) (x, c)

abbrev LocksBy : ℕ → Deed → SystemState → SystemState → Type 0
LocksBy c x y z = (t k : ℕ) (o : Option Mode) → IsNoWeaker (lock_of y t k) o → IsNoWeaker (lock_of z t k) (lock_step t k o (x, c))

-- a record is logged
wrote : (c : ℕ) (L M : List Record) (y z d : SystemState) (R : Record) (ds : List Deed) → ds ≡ Logs R ∷ [] → M ≡ L ++ R ∷ [] → z ≡ d → d.since ≡ y.since ++ R ∷ [] → d.records ≡ y.records + 1
    → StatesBy c (Logs R) y d → LocksBy c (Logs R) y d → d.refusals ≡ y.refusals → IsDoneBy L y (by c ds) M z
wrote c L M y z d R ds e log is since records states locks refusals =
    subst (λ es. IsDoneBy L y (by c es) M z) (sym e) (subst (λ k. IsDoneBy L y (by c (Logs R ∷ [])) M k) (sym is)
    (record { log = log; since = since; records = records; states = states; locks = locks; refusals = refusals ∙ sym (append-nil y.refusals) }))

-- a deed that is no record
did : (c : ℕ) (L M : List Record) (y z d : SystemState) (x : Deed) (ds : List Deed) → ds ≡ x ∷ [] → logged_by (by c (x ∷ [])) ≡ [] → M ≡ L → z ≡ d → d.since ≡ y.since → d.records ≡ y.records
    → StatesBy c x y d → LocksBy c x y d → d.refusals ≡ y.refusals ++ refused_by (by c (x ∷ [])) → IsDoneBy L y (by c ds) M z
did c L M y z d x ds e none log is since records states locks refusals =
    subst (λ es. IsDoneBy L y (by c es) M z) (sym e) (subst (λ k. IsDoneBy L y (by c (x ∷ [])) M k) (sym is)
    (record {
      log = log ∙ (sym (append-nil L) ∙ ap (λ l. L ++ l) (sym none));
      since = since ∙ (sym (append-nil y.since) ∙ ap (λ l. y.since ++ l) (sym none));
      records = records ∙ (zero_more y.records ∙ ap (λ l. y.records + length l) (sym none));
      states = states;
      locks = locks;
      refusals = refusals;
    }))
  where
    zero_more : (n : ℕ) → n ≡ n + 0
    zero_more n = omega arith

-- nothing is told
undone : (c : ℕ) (L M : List Record) (y z d : SystemState) (ds : List Deed) → ds ≡ [] → M ≡ L → z ≡ d → d.since ≡ y.since → d.records ≡ y.records
    → ((t : ℕ) → state_of d t ≡ state_of y t) → ((t k : ℕ) (o : Option Mode) → IsNoWeaker (lock_of y t k) o → IsNoWeaker (lock_of d t k) o) → d.refusals ≡ y.refusals → IsDoneBy L y (by c ds) M z
undone c L M y z d ds e log is since records states locks refusals =
    subst (λ es. IsDoneBy L y (by c es) M z) (sym e) (subst (λ k. IsDoneBy L y [] M k) (sym is)
    (record {
      log = log ∙ sym (append-nil L);
      since = since ∙ sym (append-nil y.since);
      records = records ∙ zero_more y.records;
      states = states;
      locks = locks;
      refusals = refusals ∙ sym (append-nil y.refusals);
    }))
  where
    zero_more : (n : ℕ) → n ≡ n + 0
    zero_more n = omega arith

state_there : (o : Option State) (R : Record) → may_log_in o R ≡ true → (s : State) × (o ≡ Some s)
state_there None R e = absurd (cc)
state_there (Some s) R e = (s, refl)

end_state : (c b : ℕ) (found : List ℕ) (t : ℕ) (o : Option State) → o ≡ state_step t o (Logs (audit_record b found), c)
end_state c b [] t o = refl
end_state c b (r ∷ rs) t o = refl

end_lock : (c b : ℕ) (found : List ℕ) (t k : ℕ) (held o : Option Mode) → IsNoWeaker held o → IsNoWeaker held (lock_step t k o (Logs (audit_record b found), c))
end_lock c b [] t k held o e = e
end_lock c b (r ∷ rs) t k held o e = e

same_here : (c : ℕ) (L M : List Record) (y z : SystemState) (ds : List Deed) → ds ≡ [] → M ≡ L → z ≡ y → IsDoneBy L y (by c ds) M z
same_here c L M y z ds e log is = undone c L M y z y ds e log is refl refl (λ t. refl) (λ t k o h. h) refl

on_region : (c : ℕ) (L M : List Record) (y z : SystemState) (r : ℕ) (x : RegionStep) (ds : List Deed) → M ≡ L → z ≡ y → TellsStep y (OnRegion r x) ds → IsDoneBy L y (by c ds) M z
on_region c L M y z r (Poke word mask) ds log is e = did c L M y z y (Strays r word mask) ds e refl log is refl refl (λ t. refl) (λ t k o h. h) (sym (append-nil y.refusals))
on_region c L M y z r _ ds log is e = same_here c L M y z ds e log is

pub deeds_say : DeedsSay
deeds_say L M y z Begins c ds s e = wrote c L M y z (begun y) (Begin y.next) ds e s.1.0 s.1.1 refl refl (λ t. begun_state y.table y.next t) (λ t k o h. h) refl
deeds_say L M y z (Operates t b) c ds s e = wrote c L M y z (op_logged y t b) (Forward t b) ds e s.3.0 s.3.1 refl refl (λ u. undone_state y.table t b b.undo u) (λ u k o h. h) refl
deeds_say L M y z (TakesBack t b) c ds s e = wrote c L M y z (back_logged y t b) (Back t b) ds e s.2.0 s.2.1 refl refl (λ u. kept_state y.table t without_last (λ row. refl) u) (λ u k o h. h) refl
deeds_say L M y z (Frees t b) c ds s e = wrote c L M y z (solo_logged y t b) (Solo y.next t b) ds e s.2.0 s.2.1 refl refl (λ u. refl) (λ u k o h. h) refl
deeds_say L M y z (Answers t call a) c ds s e = wrote c L M y z (done_logged y t call a) (Done t call a) ds e s.3.0 s.3.1 refl refl (λ u. refl) (λ u k o h. h) refl
deeds_say L M y z (Commits t) c ds s e =
    let was = state_there (state_of y t) (Commit t) s.1.by in
    wrote c L M y z (commit_logged y t) (Commit t) ds e s.2.0 s.2.1 refl refl (λ u. new_state y.table t committed_row Committed (λ row. refl) was.0 was.1 u) (λ u k o h. h) refl
deeds_say L M y z (Ends t) c ds s e = wrote c L M y z (ended_logged y t) (Ended t) ds e s.2.0 s.2.1 refl refl (λ u. ended_state y.table t u) (λ u k o h. ended_lock y.locks t u k o h) refl
deeds_say L M y z AuditBegins c ds s e = wrote c L M y z (audit_begun y) AuditBegin ds e s.2.0 s.2.1 refl refl (λ u. refl) (λ u k o h. h) refl
deeds_say L M y z (AuditEnds b found) c ds s e =
    wrote c L M y z (audit_ended y b found) (audit_record b found) ds e s.1.0 s.1.1 refl refl (λ u. end_state c b found u (state_of y u)) (λ u k o h. end_lock c b found u k (lock_of y u k) o h) refl
deeds_say L M y z (Locks t k m) c ds s e = ⊎_elim
    (λ f. undone c L M y z (granted y t k m) ds f s.2.0 s.2.1 refl refl (λ u. refl) (λ u j o h. untold_lock y.locks t k m u j o h) refl)
    (λ f. did c L M y z (granted y t k m) (GetsLock t k m) ds f refl s.2.0 s.2.1 refl refl (λ u. refl) (λ u j o h. told_lock y.locks t k m u j o h) (sym (append-nil y.refusals)))
    e
deeds_say L M y z (Refuses t k m h) c ds s e = ⊎_elim
    (λ f. did c L M y z (refused y t k m h) (Yields (refusal_at y t k m h)) ds f refl s.2.0 s.2.1 refl refl (λ u. refl) (λ u j o n. n) refl)
    (λ f. did c L M y z (refused y t k m h) (FindsDead (refusal_at y t k m h)) ds f refl s.2.0 s.2.1 refl refl (λ u. refl) (λ u j o n. n) refl)
    e
deeds_say L M y z (OnRegion r x) c ds s e = on_region c L M y z r x ds s.0 s.1 e
deeds_say L M y z (Passes b r) c ds s e = same_here c L M y z ds e s.0 s.1
deeds_say L M y z (Dies t None) c ds s e = absurd e
deeds_say L M y z (Dies t (Some r)) c ds s e =
    did c L M y z (in_state y t (Dead (Some r))) (DiesOn t r) ds e refl s.1.0 s.1.1 refl refl (λ u. new_state y.table t (with_state (Dead (Some r))) (Dead (Some r)) (λ row. refl) Live s.0 u) (λ u j o h. h) (sym (append-nil y.refusals))
deeds_say L M y z (Claims t) c ds s e = did c L M y z (in_state y t (Cleaning s.0)) (ClaimsTxn t) ds e refl s.2.0 s.2.1 refl refl (λ u. claim_state y.table t s.0 s.1 u) (λ u j o h. h) (sym (append-nil y.refusals))
deeds_say L M y z (GivesBack t o) c ds s e = did c L M y z (in_state y t (Dead o)) (GivesTxnBack t o) ds e refl s.2.0 s.2.1 refl refl (λ u. release_state y.table t o s.0 s.1 u) (λ u j k h. h) (sym (append-nil y.refusals))
deeds_say L M y z (Recovers r) c ds s e = same_here c L M y z ds e s.0 s.1
deeds_say L M y z Stops c ds s e = undone c L M y z (store_stopped y) ds e s.0 s.1 refl refl (λ u. refl) (λ u j o h. h) refl
deeds_say L M y z (Checkpoints b) c ds s e = undone c L M y z (in_checkpoint y b) ds e s.1.0 s.1.1 refl refl (λ u. refl) (λ u j o h. h) refl
deeds_say L M y z Takes c ds s e = undone c L M y z (taken y) ds e s.0 s.1 refl refl (λ u. refl) (λ u j o h. h) refl
deeds_say L M y z Flushes c ds s e = same_here c L M y z ds e s.0 s.1
deeds_say L M y z (Faults n) c ds s e = did c L M y z y (Meets StoreFailed) ds e refl s.0 s.1 refl refl (λ u. refl) (λ u j o h. h) (sym (append-nil y.refusals))
deeds_say L M y z (ReadFails n) c ds s e = absurd e

-- ---- what is left
first_is : (a b : Deed) → a ∷ [] ≡ b ∷ [] → a ≡ b
first_is a b e = cc

none_is : {A : Type 0} (a : Deed) → (let none : List Deed = [] in a ∷ [] ≡ none) → A
none_is a e = absurd (cc)

left_to : (x : Deed) (k m e : CoreState) → m ≡ e → IsLeft x k e → IsLeft x k m
left_to x k m e is left = subst (λ d. IsLeft x k d) (sym is) left

as_told : (x y : Deed) (k m : CoreState) → x ∷ [] ≡ y ∷ [] → IsLeft y k m → IsLeft x k m
as_told x y k m e left = subst (λ d. IsLeft d k m) (sym (first_is x y e)) left

-- by the regions that the step may change
left_with : (L M : List Record) (k m : CoreState) (x : Step) (deed : Deed) → IsStep L k x M m → ((r : ℕ) → is_at r deed ≡ false → changes_region x r ≡ false)
    → ((touches deed).system ≡ false → m.system ≡ k.system) → ((touches deed).vault ≡ false → m.vault ≡ k.vault) → IsLeft deed k m
left_with L M k m x deed s at system vault =
    let left = regions_leave L M k m x s in
    record { count = left.0; regions = λ r e. left.1 r (at r e); system = system; vault = vault }

region_leaves : (L M : List Record) (k m : CoreState) (r : ℕ) (x : RegionStep) (deed : Deed) → IsStep L k (OnRegion r x) M m → TellsStep k.system (OnRegion r x) (deed ∷ []) → IsLeft deed k m
region_leaves L M k m r (Poke word mask) deed s e = as_told deed (Strays r word mask) k m e (left_with L M k m (OnRegion r (Poke word mask)) (Strays r word mask) s (λ q f. f) (λ f. ap (λ (d : CoreState). d.system) s.3.1) (λ f. step_has_vault L M k m (OnRegion r (Poke word mask)) s))
region_leaves L M k m r _ deed s e = none_is deed e

does_leave : (L M : List Record) (k m : CoreState) (x : Step) (deed : Deed) → IsStep L k x M m → TellsStep k.system x (deed ∷ []) → IsLeft deed k m
does_leave L M k m Begins deed s e = as_told deed _ k m e (left_with L M k m Begins _ s (λ r f. refl) (λ f. absurd (cc)) (λ f. step_has_vault L M k m Begins s))
does_leave L M k m (Operates t b) deed s e = as_told deed (Logs (Forward t b)) k m e (left_with L M k m (Operates t b) (Logs (Forward t b)) s (λ r f. f) (λ f. absurd (cc)) (λ f. step_has_vault L M k m (Operates t b) s))
does_leave L M k m (TakesBack t b) deed s e = as_told deed (Logs (Back t b)) k m e (left_with L M k m (TakesBack t b) (Logs (Back t b)) s (λ r f. f) (λ f. absurd (cc)) (λ f. step_has_vault L M k m (TakesBack t b) s))
does_leave L M k m (Frees t b) deed s e = as_told deed (Logs (Solo k.system.next t b)) k m e (left_with L M k m (Frees t b) (Logs (Solo k.system.next t b)) s (λ r f. f) (λ f. absurd (cc)) (λ f. step_has_vault L M k m (Frees t b) s))
does_leave L M k m (Answers t call a) deed s e = as_told deed _ k m e (left_with L M k m (Answers t call a) _ s (λ r f. refl) (λ f. absurd (cc)) (λ f. step_has_vault L M k m (Answers t call a) s))
does_leave L M k m (Commits t) deed s e = as_told deed _ k m e (left_with L M k m (Commits t) _ s (λ r f. refl) (λ f. absurd (cc)) (λ f. step_has_vault L M k m (Commits t) s))
does_leave L M k m (Ends t) deed s e = as_told deed _ k m e (left_with L M k m (Ends t) _ s (λ r f. refl) (λ f. absurd (cc)) (λ f. step_has_vault L M k m (Ends t) s))
does_leave L M k m AuditBegins deed s e = as_told deed _ k m e (left_with L M k m AuditBegins _ s (λ r f. refl) (λ f. absurd (cc)) (λ f. step_has_vault L M k m AuditBegins s))
does_leave L M k m (AuditEnds b found) deed s e = as_told deed (Logs (audit_record b found)) k m e (left_with L M k m (AuditEnds b found) (Logs (audit_record b found)) s (λ r f. refl) (λ f. absurd (cc)) (λ f. step_has_vault L M k m (AuditEnds b found) s))
does_leave L M k m (Locks t j mode) deed s e = ⊎_elim
    (λ f. none_is deed f)
    (λ f. as_told deed (GetsLock t j mode) k m f (left_with L M k m (Locks t j mode) (GetsLock t j mode) s (λ r g. refl) (λ g. absurd (cc)) (λ g. step_has_vault L M k m (Locks t j mode) s)))
    e
does_leave L M k m (Refuses t j mode h) deed s e = ⊎_elim
    (λ f. as_told deed (Yields (refusal_at k.system t j mode h)) k m f (left_with L M k m (Refuses t j mode h) (Yields (refusal_at k.system t j mode h)) s (λ r g. refl) (λ g. absurd (cc)) (λ g. step_has_vault L M k m (Refuses t j mode h) s)))
    (λ f. as_told deed (FindsDead (refusal_at k.system t j mode h)) k m f (left_with L M k m (Refuses t j mode h) (FindsDead (refusal_at k.system t j mode h)) s (λ r g. refl) (λ g. absurd (cc)) (λ g. step_has_vault L M k m (Refuses t j mode h) s)))
    e
does_leave L M k m (OnRegion r x) deed s e = region_leaves L M k m r x deed s e
does_leave L M k m (Dies t None) deed s e = absurd e
does_leave L M k m (Dies t (Some r)) deed s e = as_told deed (DiesOn t r) k m e (left_with L M k m (Dies t (Some r)) (DiesOn t r) s (λ q f. f) (λ f. absurd (cc)) (λ f. step_has_vault L M k m (Dies t (Some r)) s))
does_leave L M k m (Claims t) deed s e = as_told deed (ClaimsTxn t) k m e (left_with L M k m (Claims t) (ClaimsTxn t) s (λ q f. refl) (λ f. absurd (cc)) (λ f. step_has_vault L M k m (Claims t) s))
does_leave L M k m (GivesBack t o) deed s e = as_told deed (GivesTxnBack t o) k m e (left_with L M k m (GivesBack t o) (GivesTxnBack t o) s (λ q f. refl) (λ f. absurd (cc)) (λ f. step_has_vault L M k m (GivesBack t o) s))
does_leave L M k m (Faults n) deed s e = as_told deed (Meets StoreFailed) k m e (left_with L M k m (Faults n) (Meets StoreFailed) s (λ q f. refl) (λ f. absurd (cc)) (λ f. absurd (cc)))
does_leave L M k m (ReadFails n) deed s e = absurd e
does_leave L M k m _ deed s e = none_is deed e

tells_step : (w : World) (c : ℕ) (p : Point) (x : Step) (ds : List Deed) → AreOfCore w c p x ds → TellsStep p.core.system x ds
tells_step w c p (Operates t b) ds e = e.0
tells_step w c p (AuditEnds b found) ds e = e.0
tells_step w c p (Dies t None) ds e = e
tells_step w c p (Dies t (Some r)) ds e = e.0
tells_step w c p _ ds e = e

-- the store fails in a checkpoint
fault_leaves : (p q : Point) (n : ℕ) (deed : Deed) → q.core ≡ with_fault p.core n → deed ∷ [] ≡ Meets StoreFailed ∷ [] → IsLeft deed p.core q.core
fault_leaves p q n deed is e = as_told deed (Meets StoreFailed) p.core q.core e (left_to (Meets StoreFailed) p.core q.core (with_fault p.core n) is (record { count = refl; regions = λ r f. refl; system = λ f. absurd (cc); vault = λ f. absurd (cc) }))

pub deed_leaves : DeedLeaves
deed_leaves w c p q (Does x) deed s e = does_leave p.log q.log p.core q.core x deed s.1.0 (tells_step w c p x (deed ∷ []) e)
deed_leaves w c p q Starts deed s e =
    as_told deed StartsCheckpoint p.core q.core e
    (left_to StartsCheckpoint p.core q.core (with_flag p.core true) (ap (λ (k : Point). k.core) s.1) (record { count = refl; regions = λ r f. refl; system = λ f. absurd (cc); vault = λ f. refl }))
deed_leaves w c p q Turns deed s e =
    as_told deed (MovesAnchor (p.core.vault.current + 1)) p.core q.core e
    (left_to (MovesAnchor (p.core.vault.current + 1)) p.core q.core (with_current p.core) (ap (λ (k : Point). k.core) s.5) (record { count = refl; regions = λ r f. refl; system = λ f. refl; vault = λ f. absurd (cc) }))
deed_leaves w c p q (CopyFails r ws n) deed s e = fault_leaves p q n deed (ap (λ (k : Point). k.core) s.4) e
deed_leaves w c p q (HeadFails h n) deed s e = fault_leaves p q n deed (ap (λ (k : Point). k.core) s.1) e
deed_leaves w c p q (SyncFails n) deed s e = fault_leaves p q n deed (ap (λ (k : Point). k.core) s.1) e
deed_leaves w c p q (TurnFails n) deed s e = fault_leaves p q n deed (ap (λ (k : Point). k.core) s.5) e
deed_leaves w c p q Finishes deed s e =
    as_told deed EndsCheckpoint p.core q.core e.0
    (left_to EndsCheckpoint p.core q.core (with_flag p.core false) (ap (λ (k : Point). k.core) s.1) (record { count = refl; regions = λ r f. refl; system = λ f. absurd (cc); vault = λ f. refl }))
deed_leaves w c p q _ deed s e = none_is deed e
