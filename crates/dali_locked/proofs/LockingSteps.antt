-- What each step told under the system's lock leaves of what its client knows.
use Rattle.std.proofs.Common.{◌≡◌, ℕ, Bool, true, false, not, ◌&&◌, List, [], ◌∷◌, ◌++◌, Option, Some, None, Result, Err, length, refl, ap, sym, subst, ◌∙◌, ◌≤◌, arith, length-append}
use Rattle.std.specs.Prelude.{◌+◌, ◌==◌, if◌then◌else◌, IfSome, nat_lt}
use Rattle.std.specs.List.{list_all}
use Rattle.std.proofs.lemmas.List.{append-nil}
use Rattle.dali_record.specs.declared.records.Answer.{Answer}
use Rattle.dali_record.specs.declared.records.Call.{Call}
use Rattle.dali_record.specs.declared.records.Record.TheVariants.{Begin, Done, Commit, Ended, AuditBegin}
use Rattle.dali_locks.specs.declared.mode.Mode.{Mode}
use Rattle.dali_runs.specs.declared.causes.Cause.{Cause}
use Rattle.dali_runs.specs.declared.refusals.Refusal.{Refusal}
use Rattle.dali_runs.specs.State.{SystemState, VaultState}
use Rattle.dali_runs.specs.Steps.{audit_record}
use Rattle.dali_runs.specs.Courses.{Begins as BeginsStep, Answers, Commits, Ends, AuditBegins, AuditEnds, Locks, Refuses, GivesBack as GivesItBack, Faults, Stops}
use Rattle.dali_crash.specs.Checkpoints.{Does, Starts, Finishes}
use Rattle.dali_crash.specs.Traces.{bases_of}
use Rattle.dali_transcripts.specs.Words.{Why, StoreFailed, StoppedBy}
use Rattle.dali_transcripts.specs.World.{Logs, GivesBack, GetsLock, Yields as YieldsTo, FindsDead, StartsCheckpoint, EndsCheckpoint, Meets, logged_by}
use Rattle.dali_system.specs.declared.error.SystemError.{SystemError}
use Rattle.dali_system.specs.declared.error.SystemError.TheVariants.{Stopped, LogFull, OutOfMemory}
use Rattle.dali_system.specs.Refused.{room_of, stop_of}
use Rattle.dali_notes.specs.History.{Sight, Added, AllMay, signed_by}
use Rattle.dali_concurrent.specs.Entries.{Did, system_note, deeds_of}
use Rattle.dali_concurrent.specs.Rules.{log_by}
use Rattle.dali_concurrent.specs.Told.{Leaves, OnSystem, OnStop, Item, Line, plain}
use Rattle.dali_concurrent.specs.Kept.{SystemTold}
use Rattle.dali_locked.specs.Begun.{Begun, Led, Of, outset, may_add}
use Rattle.dali_locked.specs.Sights.{ClientSight, SystemSight, Knows, client_sight, system_sight}
use Rattle.dali_locked.specs.SystemSteps.{StaysAll, StaysBut, BothTell}
use Rattle.dali_locked.specs.Locking.{HasGrown, StaysIdle, StaysOpen, Advances, KeepsAll, KeepsBut, IsCauseOf, HasMet, HasMetCause, HasAtMost}
use Rattle.dali_locked.proofs.Adding.{led_now}
use Rattle.dali_locked.proofs.SystemTelling.{Hands, came, counted}
use Rattle.dali_locked.proofs.LockingLaws.{log_grows}
use Rattle.dali_locked.proofs.LockingStays.{own_grows, own_idle, own_open, own_keeps, own_stays, own_advances}

-- nothing has changed
pub same_keeps : (b : Begun) (x z : ClientSight) → z ≡ x → KeepsAll b x z
same_keeps b x z is = subst (KeepsAll b x) (sym is) (
  (record { id = refl; seen = ([], sym (append-nil x.seen)) }, (λ h. h), (λ a h. h)),
  (λ t k h. h),
  (λ t. ((λ h. h), (λ q own h. h))),
)

pub but_of_all : (b : Begun) (x : ClientSight) (u : ℕ) (z : ClientSight) → KeepsAll b x z → KeepsBut b x u z
but_of_all b x u z k = (k.0, k.1, (λ t apart. k.2 t))

-- ---- the client told it with others
module _ (b : Begun) (x z : ClientSight) (id : z.id ≡ x.id) (led : Led b z.seen) (notes : List (Sight Item)) where
  abbrev line : Item → Line
  line item = signed_by (client_sight b x ∷ notes) item

  pub begin_goes : (u : ℕ) (s : SystemState) → Added (client_sight b x ∷ notes) (Did (Logs (Begin u)) x.id, OnSystem s, Does BeginsStep ∷ []) z.seen → Advances b x z × StaysBut b x u z
  begin_goes u s added = (
    own_advances b x z id led added.0 added.1.0 (line (Did (Logs (Begin u)) x.id, OnSystem s, Does BeginsStep ∷ [])) added.2 (λ q. refl) refl,
    (λ t other. own_stays b x z id led added.0 added.1.0 (line (Did (Logs (Begin u)) x.id, OnSystem s, Does BeginsStep ∷ [])) added.2 t refl (λ a. ap (λ q. if q then Some x.id else a) other)),
  )

  pub met_goes : (why : Why) → Added (client_sight b x ∷ notes) (Did (Meets why) x.id, Leaves, []) z.seen → KeepsAll b x z
  met_goes why added = (
    own_advances b x z id led added.0 added.1.0 (line (Did (Meets why) x.id, Leaves, [])) added.2 (λ q. refl) refl,
    own_keeps b x z id led added.0 added.1.0 (line (Did (Meets why) x.id, Leaves, [])) added.2 refl,
    (λ t. own_stays b x z id led added.0 added.1.0 (line (Did (Meets why) x.id, Leaves, [])) added.2 t refl (λ a. refl)),
  )

  pub grant_goes : (u k : ℕ) (m : Mode) (s : SystemState) → Added (client_sight b x ∷ notes) (Did (GetsLock u k m) x.id, OnSystem s, Does (Locks u k m) ∷ []) z.seen → KeepsBut b x u z
  grant_goes u k m s added = (
    own_advances b x z id led added.0 added.1.0 (line (Did (GetsLock u k m) x.id, OnSystem s, Does (Locks u k m) ∷ [])) added.2 (λ q. refl) refl,
    own_keeps b x z id led added.0 added.1.0 (line (Did (GetsLock u k m) x.id, OnSystem s, Does (Locks u k m) ∷ [])) added.2 refl,
    (λ t other. own_stays b x z id led added.0 added.1.0 (line (Did (GetsLock u k m) x.id, OnSystem s, Does (Locks u k m) ∷ [])) added.2 t (ap (λ q. not q && true) other) (λ a. refl)),
  )

  pub yield_goes : (r : Refusal) (u k h : ℕ) (m : Mode) (s : SystemState) → Added (client_sight b x ∷ notes) (Did (YieldsTo r) x.id, OnSystem s, Does (Refuses u k m h) ∷ []) z.seen → KeepsBut b x u z
  yield_goes r u k h m s added = (
    own_advances b x z id led added.0 added.1.0 (line (Did (YieldsTo r) x.id, OnSystem s, Does (Refuses u k m h) ∷ [])) added.2 (λ q. refl) refl,
    own_keeps b x z id led added.0 added.1.0 (line (Did (YieldsTo r) x.id, OnSystem s, Does (Refuses u k m h) ∷ [])) added.2 refl,
    (λ t other. own_stays b x z id led added.0 added.1.0 (line (Did (YieldsTo r) x.id, OnSystem s, Does (Refuses u k m h) ∷ [])) added.2 t (ap (λ q. not q && true) other) (λ a. refl)),
  )

  pub dead_goes : (r : Refusal) (u k h : ℕ) (m : Mode) (s : SystemState) → Added (client_sight b x ∷ notes) (Did (FindsDead r) x.id, OnSystem s, Does (Refuses u k m h) ∷ []) z.seen → KeepsBut b x u z
  dead_goes r u k h m s added = (
    own_advances b x z id led added.0 added.1.0 (line (Did (FindsDead r) x.id, OnSystem s, Does (Refuses u k m h) ∷ [])) added.2 (λ q. refl) refl,
    own_keeps b x z id led added.0 added.1.0 (line (Did (FindsDead r) x.id, OnSystem s, Does (Refuses u k m h) ∷ [])) added.2 refl,
    (λ t other. own_stays b x z id led added.0 added.1.0 (line (Did (FindsDead r) x.id, OnSystem s, Does (Refuses u k m h) ∷ [])) added.2 t (ap (λ q. not q && true) other) (λ a. refl)),
  )

  pub done_goes : (u : ℕ) (call : Call) (a : Answer) (s : SystemState) → Added (client_sight b x ∷ notes) (Did (Logs (Done u call a)) x.id, OnSystem s, Does (Answers u call a) ∷ []) z.seen → KeepsBut b x u z
  done_goes u call a s added = (
    own_advances b x z id led added.0 added.1.0 (line (Did (Logs (Done u call a)) x.id, OnSystem s, Does (Answers u call a) ∷ [])) added.2 (λ q. refl) refl,
    own_keeps b x z id led added.0 added.1.0 (line (Did (Logs (Done u call a)) x.id, OnSystem s, Does (Answers u call a) ∷ [])) added.2 refl,
    (λ t other. own_stays b x z id led added.0 added.1.0 (line (Did (Logs (Done u call a)) x.id, OnSystem s, Does (Answers u call a) ∷ [])) added.2 t (ap (λ q. not q && true) other) (λ a. refl)),
  )

  pub commit_goes : (u : ℕ) (s : SystemState) → Added (client_sight b x ∷ notes) (Did (Logs (Commit u)) x.id, OnSystem s, Does (Commits u) ∷ []) z.seen → KeepsBut b x u z
  commit_goes u s added = (
    own_advances b x z id led added.0 added.1.0 (line (Did (Logs (Commit u)) x.id, OnSystem s, Does (Commits u) ∷ [])) added.2 (λ q. refl) refl,
    own_keeps b x z id led added.0 added.1.0 (line (Did (Logs (Commit u)) x.id, OnSystem s, Does (Commits u) ∷ [])) added.2 refl,
    (λ t other. own_stays b x z id led added.0 added.1.0 (line (Did (Logs (Commit u)) x.id, OnSystem s, Does (Commits u) ∷ [])) added.2 t (ap (λ q. not q && true) other) (λ a. refl)),
  )

  pub end_goes : (u : ℕ) (s : SystemState) → Added (client_sight b x ∷ notes) (Did (Logs (Ended u)) x.id, OnSystem s, Does (Ends u) ∷ []) z.seen → Advances b x z
  end_goes u s added = own_advances b x z id led added.0 added.1.0 (line (Did (Logs (Ended u)) x.id, OnSystem s, Does (Ends u) ∷ [])) added.2 (λ q. refl) refl

  pub let_goes : (u : ℕ) (latched : Option ℕ) (s : SystemState) → Added (client_sight b x ∷ notes) (Did (GivesBack u latched) x.id, OnSystem s, Does (GivesItBack u latched) ∷ []) z.seen → Advances b x z
  let_goes u latched s added = own_advances b x z id led added.0 added.1.0 (line (Did (GivesBack u latched) x.id, OnSystem s, Does (GivesItBack u latched) ∷ [])) added.2 (λ q. refl) refl

  pub start_goes : (s : SystemState) → Added (client_sight b x ∷ notes) (Did StartsCheckpoint x.id, OnSystem s, Starts ∷ []) z.seen → (HasGrown x z × StaysOpen b x z) × StaysAll b x z
  start_goes s added = (
    (own_grows b x z id led added.0 added.1.0 (line (Did StartsCheckpoint x.id, OnSystem s, Starts ∷ [])) added.2, own_open b x z id led added.0 added.1.0 (line (Did StartsCheckpoint x.id, OnSystem s, Starts ∷ [])) added.2 refl),
    (λ t. own_stays b x z id led added.0 added.1.0 (line (Did StartsCheckpoint x.id, OnSystem s, Starts ∷ [])) added.2 t refl (λ a. refl)),
  )

  pub finish_goes : (s : SystemState) → Added (client_sight b x ∷ notes) (Did EndsCheckpoint x.id, OnSystem s, Finishes ∷ []) z.seen → (HasGrown x z × StaysOpen b x z) × StaysAll b x z
  finish_goes s added = (
    (own_grows b x z id led added.0 added.1.0 (line (Did EndsCheckpoint x.id, OnSystem s, Finishes ∷ [])) added.2, own_open b x z id led added.0 added.1.0 (line (Did EndsCheckpoint x.id, OnSystem s, Finishes ∷ [])) added.2 refl),
    (λ t. own_stays b x z id led added.0 added.1.0 (line (Did EndsCheckpoint x.id, OnSystem s, Finishes ∷ [])) added.2 t refl (λ a. refl)),
  )

  pub audit_goes : (s : SystemState) → Added (client_sight b x ∷ notes) (Did (Logs AuditBegin) x.id, OnSystem s, Does AuditBegins ∷ []) z.seen → KeepsAll b x z
  audit_goes s added = (
    own_advances b x z id led added.0 added.1.0 (line (Did (Logs AuditBegin) x.id, OnSystem s, Does AuditBegins ∷ [])) added.2 (λ q. refl) refl,
    own_keeps b x z id led added.0 added.1.0 (line (Did (Logs AuditBegin) x.id, OnSystem s, Does AuditBegins ∷ [])) added.2 refl,
    (λ t. own_stays b x z id led added.0 added.1.0 (line (Did (Logs AuditBegin) x.id, OnSystem s, Does AuditBegins ∷ [])) added.2 t refl (λ a. refl)),
  )

  pub fault_goes : (v : VaultState) (s : SystemState) → Added (client_sight b x ∷ notes) (Did (Meets StoreFailed) x.id, OnStop v s, Does (Faults v.faults) ∷ Does Stops ∷ []) z.seen → KeepsAll b x z
  fault_goes v s added = (
    own_advances b x z id led added.0 added.1.0 (line (Did (Meets StoreFailed) x.id, OnStop v s, Does (Faults v.faults) ∷ Does Stops ∷ [])) added.2 (λ q. refl) refl,
    own_keeps b x z id led added.0 added.1.0 (line (Did (Meets StoreFailed) x.id, OnStop v s, Does (Faults v.faults) ∷ Does Stops ∷ [])) added.2 refl,
    (λ t. own_stays b x z id led added.0 added.1.0 (line (Did (Meets StoreFailed) x.id, OnStop v s, Does (Faults v.faults) ∷ Does Stops ∷ [])) added.2 t refl (λ a. refl)),
  )

  pub verdict_goes : (a : ℕ) (found : List ℕ) (s : SystemState) → Added (client_sight b x ∷ notes) (Did (Logs (audit_record a found)) x.id, OnSystem s, Does (AuditEnds a found) ∷ []) z.seen
      → (HasGrown x z × StaysIdle b x z) × StaysAll b x z
  verdict_goes a [] s added = (
    (own_grows b x z id led added.0 added.1.0 (line (Did (Logs (audit_record a [])) x.id, OnSystem s, Does (AuditEnds a []) ∷ [])) added.2, own_idle b x z id led added.0 added.1.0 (line (Did (Logs (audit_record a [])) x.id, OnSystem s, Does (AuditEnds a []) ∷ [])) added.2 (λ q. refl)),
    (λ t. own_stays b x z id led added.0 added.1.0 (line (Did (Logs (audit_record a [])) x.id, OnSystem s, Does (AuditEnds a []) ∷ [])) added.2 t refl (λ q. refl)),
  )
  verdict_goes a (r ∷ rs) s added = (
    (own_grows b x z id led added.0 added.1.0 (line (Did (Logs (audit_record a (r ∷ rs))) x.id, OnSystem s, Does (AuditEnds a (r ∷ rs)) ∷ [])) added.2, own_idle b x z id led added.0 added.1.0 (line (Did (Logs (audit_record a (r ∷ rs))) x.id, OnSystem s, Does (AuditEnds a (r ∷ rs)) ∷ [])) added.2 (λ q. refl)),
    (λ t. own_stays b x z id led added.0 added.1.0 (line (Did (Logs (audit_record a (r ∷ rs))) x.id, OnSystem s, Does (AuditEnds a (r ∷ rs)) ∷ [])) added.2 t refl (λ q. refl)),
  )

-- ---- by the system in hand
-- the log that the client had seen is no longer than the system's
pub told_ascends : (b : Begun) (x : ClientSight) (led : Led b x.seen) (y : SystemSight) (z : ClientSight) (item : Item) → Added (client_sight b x ∷ system_sight b y ∷ []) item z.seen
    → AllMay (may_add b) z.seen → Of b (λ o T. SystemTold o y.served.state T) y.seen → Knows b (HasAtMost y.served.state.records) x
told_ascends b x led y z item added all was s p from =
    let h : Hands b (client_sight b x) (system_sight b y) x.id y.served.state = record { client = refl; system = refl; led = led; told = was } in
    let w = came b (client_sight b x) (system_sight b y) x.id y.served.state h item z.seen added all s p from in
    let many = counted (bases_of s) p (outset b s p) b.count x.id x.seen y.served.state w.now w.before in
    let more : log_by (outset b s p) (plain w.now) ≡ log_by (outset b s p) (plain x.seen) ++ logged_by (deeds_of (plain w.before.mine.rest)) =
    ap (λ T. log_by (outset b s p) (plain T)) w.before.mine.all ∙ log_grows (outset b s p) x.seen w.before.mine.rest in
    let long = ap length more ∙ length-append (log_by (outset b s p) (plain x.seen)) (logged_by (deeds_of (plain w.before.mine.rest))) in
    omega (arith, many, long)

-- ---- of what both told
module _ (b : Begun) (x : ClientSight) (led : Led b x.seen) where
  behind : {y : SystemSight} {item : Item} {z : ClientSight} {w : SystemSight} → BothTell b x y item z w → Led b z.seen
  behind {y} {item} {z} {w} t = led_now b x.seen z.seen led t.all

  pub ascends_told : {y : SystemSight} {item : Item} {z : ClientSight} {w : SystemSight} → BothTell b x y item z w → (n : ℕ) → n ≡ y.served.state.records → Knows b (HasAtMost n) x
  ascends_told {y} {item} {z} {w} t n is = subst (λ m. Knows b (HasAtMost m) x) (sym is) (told_ascends b x led y z item t.added t.all t.was)

  pub begin_told : {y : SystemSight} {z : ClientSight} {w : SystemSight} (u : ℕ) (s : SystemState) → BothTell b x y (Did (Logs (Begin u)) x.id, OnSystem s, Does BeginsStep ∷ []) z w → Advances b x z × StaysBut b x u z
  begin_told {y} {z} {w} u s t = begin_goes b x z t.id (behind t) (system_sight b y ∷ []) u s t.added

  pub met_told : {y : SystemSight} {z : ClientSight} {w : SystemSight} (why : Why) → BothTell b x y (Did (Meets why) x.id, Leaves, []) z w → KeepsAll b x z
  met_told {y} {z} {w} why t = met_goes b x z t.id (behind t) (system_sight b y ∷ []) why t.added

  pub done_told : {y : SystemSight} {z : ClientSight} {w : SystemSight} (u : ℕ) (call : Call) (a : Answer) (s : SystemState) → BothTell b x y (Did (Logs (Done u call a)) x.id, OnSystem s, Does (Answers u call a) ∷ []) z w → KeepsBut b x u z
  done_told {y} {z} {w} u call a s t = done_goes b x z t.id (behind t) (system_sight b y ∷ []) u call a s t.added

  pub commit_told : {y : SystemSight} {z : ClientSight} {w : SystemSight} (u : ℕ) (s : SystemState) → BothTell b x y (Did (Logs (Commit u)) x.id, OnSystem s, Does (Commits u) ∷ []) z w → KeepsBut b x u z
  commit_told {y} {z} {w} u s t = commit_goes b x z t.id (behind t) (system_sight b y ∷ []) u s t.added

  pub end_told : {y : SystemSight} {z : ClientSight} {w : SystemSight} (u : ℕ) (s : SystemState) → BothTell b x y (Did (Logs (Ended u)) x.id, OnSystem s, Does (Ends u) ∷ []) z w → Advances b x z
  end_told {y} {z} {w} u s t = end_goes b x z t.id (behind t) (system_sight b y ∷ []) u s t.added

  pub let_told : {y : SystemSight} {z : ClientSight} {w : SystemSight} (u : ℕ) (latched : Option ℕ) (s : SystemState) → BothTell b x y (Did (GivesBack u latched) x.id, OnSystem s, Does (GivesItBack u latched) ∷ []) z w → Advances b x z
  let_told {y} {z} {w} u latched s t = let_goes b x z t.id (behind t) (system_sight b y ∷ []) u latched s t.added

  pub finish_told : {y : SystemSight} {z : ClientSight} {w : SystemSight} (s : SystemState) → BothTell b x y (Did EndsCheckpoint x.id, OnSystem s, Finishes ∷ []) z w → (HasGrown x z × StaysOpen b x z) × StaysAll b x z
  finish_told {y} {z} {w} s t = finish_goes b x z t.id (behind t) (system_sight b y ∷ []) s t.added

  pub start_told : {y : SystemSight} {z : ClientSight} {w : SystemSight} (s : SystemState) → BothTell b x y (Did StartsCheckpoint x.id, OnSystem s, Starts ∷ []) z w → (HasGrown x z × StaysOpen b x z) × StaysAll b x z
  start_told {y} {z} {w} s t = start_goes b x z t.id (behind t) (system_sight b y ∷ []) s t.added

  pub audit_told : {y : SystemSight} {z : ClientSight} {w : SystemSight} (s : SystemState) → BothTell b x y (Did (Logs AuditBegin) x.id, OnSystem s, Does AuditBegins ∷ []) z w → KeepsAll b x z
  audit_told {y} {z} {w} s t = audit_goes b x z t.id (behind t) (system_sight b y ∷ []) s t.added

  pub verdict_told : {y : SystemSight} {z : ClientSight} {w : SystemSight} (a : ℕ) (found : List ℕ) (s : SystemState) → BothTell b x y (Did (Logs (audit_record a found)) x.id, OnSystem s, Does (AuditEnds a found) ∷ []) z w
      → (HasGrown x z × StaysIdle b x z) × StaysAll b x z
  verdict_told {y} {z} {w} a found s t = verdict_goes b x z t.id (behind t) (system_sight b y ∷ []) a found s t.added

  -- a stop that is met, if there is one
  pub stop_told : {y : SystemSight} {z : ClientSight} {w : SystemSight} (r : Option Cause) → IfSome r (λ cause. BothTell b x y (Did (Meets (StoppedBy cause)) x.id, Leaves, []) z w) → (r ≡ None → (z ≡ x) × (w ≡ y))
      → KeepsAll b x z × HasMetCause b r x z
  stop_told {y} {z} {w} None meets runs = (same_keeps b x z (runs refl).0, (runs refl).0)
  stop_told {y} {z} {w} (Some cause) meets runs = (met_told (StoppedBy cause) meets, (y, w, meets))

-- ---- why it was refused
pub cause_is : (A : Type 0) (q : Option SystemError) (e : SystemError) → IfSome q (λ c. ◌≡◌ {A = Result A SystemError} (Err e) (Err c)) → (q ≡ None → e ≡ OutOfMemory) → IsCauseOf q e
cause_is A None e refused memory = memory refl
cause_is A (Some c) e refused memory = same refused
  where
    same : ◌≡◌ {A = Result A SystemError} (Err e) (Err c) → e ≡ c
    same f = cc

pub stop_is : (stop : Option Cause) (end limit n : ℕ) (e : SystemError) (c : Cause) → e ≡ Stopped c → IsCauseOf (room_of stop end limit n) e → stop ≡ Some c
stop_is (Some d) end limit n e c is cause = same (sym is ∙ cause)
  where
    same : Stopped c ≡ Stopped d → ◌≡◌ {A = Option Cause} (Some d) (Some c)
    same f = cc
stop_is None end limit n e c is cause = by_test (nat_lt limit (end + n)) cause
  where
    by_test : (t : Bool) → IsCauseOf (if t then Some (LogFull end limit) else None) e → ◌≡◌ {A = Option Cause} None (Some c)
    by_test true f = absurd (let no : Stopped c ≡ LogFull end limit = sym is ∙ f in cc)
    by_test false f = absurd (let no : Stopped c ≡ OutOfMemory = sym is ∙ f in cc)

pub halt_is : (stop : Option Cause) (e : SystemError) (c : Cause) → e ≡ Stopped c → IsCauseOf (stop_of stop) e → stop ≡ Some c
halt_is (Some d) e c is cause = same (sym is ∙ cause)
  where
    same : Stopped c ≡ Stopped d → ◌≡◌ {A = Option Cause} (Some d) (Some c)
    same f = cc
halt_is None e c is cause = absurd (let no : Stopped c ≡ OutOfMemory = sym is ∙ cause in cc)

-- it met the stop for which it was refused
pub has_met : (b : Begun) (x z : ClientSight) (r stop : Option Cause) (e : SystemError) (c : Cause) → e ≡ Stopped c → stop ≡ Some c → r ≡ stop → HasMetCause b r x z → HasMet b e x z
has_met b x z r stop e c is here told met = subst (λ v. HasMet b v x z) (sym is) (subst (λ q. HasMetCause b q x z) (told ∙ here) met)

-- and of a record that uses no room: a stop, or want of memory
pub halt_met : (b : Begun) (x z : ClientSight) (r stop : Option Cause) (e : SystemError) → IsCauseOf (stop_of stop) e → r ≡ stop → HasMetCause b r x z → HasMet b e x z
halt_met b x z r (Some c) e cause told met = subst (λ v. HasMet b v x z) (sym cause) (subst (λ q. HasMetCause b q x z) told met)
halt_met b x z r None e cause told met = subst (λ v. HasMet b v x z) (sym cause) (subst (λ q. HasMetCause b q x z) told met)
