-- What a client knows for the steps under the system's lock, and what these tell.
--     Resting c t              the client c acts for t, which is between two calls
--     Asking c p               so it is of the transaction of the new plan p, which is of this database
--     Driving c p              it acts for the transaction of the plan p, which stands where the history has come, with no operation open
--     GoesOn a c p             what it knows behind the answer a to its request
--     HasJust c t k            of what it began just t is in the table, and of what it claimed just k is claimed still; or nothing
--     Keeps, Takes, TakesClaim, LetsGo, LetsClaim      what it has stays;  a transaction or a claim is added;  or goes
--     Stays b x t z            from x to z the client may call in t where it might, or drive its plan
--     StaysAll, StaysBut       so it is of each transaction, and of each but u
--     Settling c t dead        it acts for t, which is committed, with these removals to be freed
--     MayEnd c t               it acts for t, whose end the rules allow and of which no region has a hold
--     HasGone t                t has ended
--     Auditing c b             it began the audit from record b, which is open
--     PassesTold b fs          what the audit found so far is as its passes tell
--     Cleaning c t latched     it has claimed t, which is dead with this region latched, or none
--     MayGiveBack c t          it has claimed t, of which no region has a hold
--     NotChecking c, Checking c    no checkpoint of it is under way;  its checkpoint is
--     given p                  the answer that the plan p gives
--     deed_of dead f           what is told of the refusal f
--     starting_item started c y     what is told of a checkpoint that the client c asks for
--     BothTell b x y item z w  what a step tells
--     IsTold a ..              what is told of the answer a to a request
use Rattle.std.specs.Prelude.{◌≡◌, ◌<◌, ℕ, Bool, true, false, not, ◌==◌, List, [], ◌∷◌, Option, Some, None, slice_get}
use Rattle.dali_record.specs.declared.operations.Pending.{Pending}
use Rattle.dali_record.specs.declared.records.Answer.{Answer}
use Rattle.dali_record.specs.declared.records.Answer.TheVariants.{Missing}
use Rattle.dali_record.specs.declared.records.Record.TheVariants.{Ended}
use Rattle.dali_locks.specs.declared.mode.Mode.{Mode}
use Rattle.dali_locks.specs.declared.mode.LockAnswer.{LockAnswer}
use Rattle.dali_locks.specs.declared.mode.LockAnswer.TheVariants.{Granted, Wait, Busy}
use Rattle.dali_att.specs.declared.state.State.TheVariants.{Committed, Cleaning as IsCleaning}
use Rattle.dali_runs.specs.declared.refusals.Refusal.{Refusal}
use Rattle.dali_runs.specs.State.{SystemState, state_of}
use Rattle.dali_runs.specs.Keeps.{IsNext, IsFree, may_log_in}
use Rattle.dali_runs.specs.Audits.{IsAuditing}
use Rattle.dali_runs.specs.Courses.{Locks, Refuses}
use Rattle.dali_runs.specs.Facts.Ends.{IsEnding, IsOver}
use Rattle.dali_crash.specs.Checkpoints.{Does, Starts}
use Rattle.dali_transcripts.specs.Words.{UnderWay}
use Rattle.dali_transcripts.specs.World.{Deed, GetsLock, Yields, FindsDead, StartsCheckpoint, Meets, is_dead_in, under_way}
use Rattle.dali_transcripts.specs.Telling.Deeds.{refusal_at}
use Rattle.dali_audit.specs.declared.audit.Finding.{Finding}
use Rattle.dali_audit.specs.Findings.{is_passed, is_damaged}
use Rattle.dali_calls.specs.Steps.{call_key, answer_of}
use Rattle.dali_calls.specs.Plans.{Planned, mode_of}
use Rattle.dali_calls.specs.Single.Stands.{IsAtRest, AtPlan}
use Rattle.dali_calls.specs.Single.Single.{MayCall}
use Rattle.dali_notes.specs.History.{Added, AllMay}
use Rattle.dali_concurrent.specs.Entries.{Did, Passed, At, deeds_of, actor_by}
use Rattle.dali_concurrent.specs.Rules.{Outset, count_of, log_by, state_by, dead_by, NoneLive, BeganAudit}
use Rattle.dali_concurrent.specs.Told.{OnSystem, Leaves, Item, History, plain, core_told}
use Rattle.dali_concurrent.specs.Kept.{SystemTold}
use Rattle.dali_concurrent.specs.Audits.{NotEnded}
use Rattle.dali_concurrent.specs.Own.{HasOnly}
use Rattle.dali_locked.specs.Begun.{Begun, Of, may_add}
use Rattle.dali_locked.specs.Sights.{ClientSight, SystemSight, client_sight, system_sight, Knows, Acts}

-- ---- a transaction
pub record Resting (c t : ℕ) (o : Outset) (T : History) : Type 0 where
  pub acts : Acts c t o T
  pub may : MayCall (log_by o (plain T)) (core_told o T) t

pub record Asking (c : ℕ) (p : Planned) (o : Outset) (T : History) : Type 0 where
  pub resting : Resting c p.txn o T
  pub sizes : p.geometry ≡ o.old.system.sizes

pub record Driving (c : ℕ) (p : Planned) (o : Outset) (T : History) : Type 0 where
  pub acts : Acts c p.txn o T
  pub rest : IsAtRest (core_told o T).regions (core_told o T).system p
  pub at : AtPlan (log_by o (plain T)) (core_told o T) p

abbrev pub GoesOn : LockAnswer → ℕ → Planned → Outset → History → Type 0
GoesOn Granted c p o T = Driving c p o T
GoesOn (Wait h) c p o T = Resting c p.txn o T
GoesOn (Busy h) c p o T = Resting c p.txn o T

-- ---- what it has
abbrev pub HasJust : ℕ → (t k : Option ℕ) → Outset → History → Type 0
HasJust c t k o T = HasOnly o (plain T) c t k

-- from x to z
abbrev pub Keeps : Begun → (x z : ClientSight) → Type 0
Keeps b x z = (t k : Option ℕ) → Knows b (HasJust x.id t k) x → Knows b (HasJust x.id t k) z

abbrev pub Takes : Begun → (x : ClientSight) → ℕ → (z : ClientSight) → Type 0
Takes b x u z = (k : Option ℕ) → Knows b (HasJust x.id None k) x → Knows b (HasJust x.id (Some u) k) z

abbrev pub TakesClaim : Begun → (x : ClientSight) → ℕ → (z : ClientSight) → Type 0
TakesClaim b x u z = (t : Option ℕ) → Knows b (HasJust x.id t None) x → Knows b (HasJust x.id t (Some u)) z

abbrev pub LetsGo : Begun → (x : ClientSight) → ℕ → (z : ClientSight) → Type 0
LetsGo b x u z = (k : Option ℕ) → Knows b (HasJust x.id (Some u) k) x → Knows b (HasJust x.id None k) z

abbrev pub LetsClaim : Begun → (x : ClientSight) → ℕ → (z : ClientSight) → Type 0
LetsClaim b x u z = (t : Option ℕ) → Knows b (HasJust x.id t (Some u)) x → Knows b (HasJust x.id t None) z

-- ---- what others' steps, or its own on another one, leave of its transaction
abbrev pub Stays : Begun → (x : ClientSight) → ℕ → (z : ClientSight) → Type 0
Stays b x t z = (Knows b (Resting x.id t) x → Knows b (Resting x.id t) z) × ((p : Planned) → p.txn ≡ t → Knows b (Driving x.id p) x → Knows b (Driving x.id p) z)

abbrev pub StaysAll : Begun → (x z : ClientSight) → Type 0
StaysAll b x z = (t : ℕ) → Stays b x t z

abbrev pub StaysBut : Begun → (x : ClientSight) → ℕ → (z : ClientSight) → Type 0
StaysBut b x u z = (t : ℕ) → (u == t) ≡ false → Stays b x t z

-- ---- its end
pub record Settling (c t : ℕ) (dead : List Pending) (o : Outset) (T : History) : Type 0 where
  pub actor : actor_by t (plain T) ≡ Some c
  pub state : state_by o (plain T) t ≡ Some Committed
  pub ending : IsEnding o.old.system.sizes (log_by o (plain T)) t dead
  pub free : IsFree (core_told o T) t

pub record MayEnd (c t : ℕ) (o : Outset) (T : History) : Type 0 where
  pub actor : actor_by t (plain T) ≡ Some c
  pub by : may_log_in (state_by o (plain T) t) (Ended t) ≡ true
  pub next : IsNext o.old.system.sizes (log_by o (plain T)) t (Ended t)
  pub none_live : NoneLive (plain T) t
  pub none_dead : (r : ℕ) → r < count_of o → dead_by o r (plain T) ≡ Some t → ⊥

-- so it stays, whatever others log
abbrev pub HasGone : ℕ → Outset → History → Type 0
HasGone t o T = IsOver o.old.system.sizes (log_by o (plain T)) t

-- ---- an audit
pub record Auditing (c b : ℕ) (o : Outset) (T : History) : Type 0 where
  pub began : BeganAudit o (plain T) c b
  pub unended : NotEnded (plain T) b
  pub is_open : IsAuditing (core_told o T).system.sizes (log_by o (plain T)) b

pub record PassesTold (b : ℕ) (fs : List Finding) (o : Outset) (T : History) : Type 0 where
  pub each : (r : ℕ) → r < count_of o → (f : Finding) × (slice_get fs r ≡ Some f)
  pub passed : (r : ℕ) (f : Finding) → slice_get fs r ≡ Some f → is_passed f ≡ true → (p : ℕ) × (k : List ℕ) × At (plain T) p (k, Passed r b (not (is_damaged f)))
  pub within : (r : ℕ) (f : Finding) → slice_get fs r ≡ Some f → r < count_of o

-- ---- a clean-up
pub record Cleaning (c t : ℕ) (latched : Option ℕ) (o : Outset) (T : History) : Type 0 where
  pub actor : actor_by t (plain T) ≡ Some c
  pub state : state_by o (plain T) t ≡ Some (IsCleaning latched)

pub record MayGiveBack (c t : ℕ) (o : Outset) (T : History) : Type 0 where
  pub latched : Option ℕ
  pub cleans : Cleaning c t latched o T
  pub none_live : NoneLive (plain T) t
  pub none_dead : (r : ℕ) → r < count_of o → dead_by o r (plain T) ≡ Some t → ⊥

-- ---- a checkpoint
abbrev pub NotChecking : ℕ → Outset → History → Type 0
NotChecking c o T = under_way (deeds_of (plain T)) ≡ Some c → ⊥

abbrev pub Checking : ℕ → Outset → History → Type 0
Checking c o T = under_way (deeds_of (plain T)) ≡ Some c

-- ---- what is told
abbrev pub given_in : Option Answer → Answer
given_in None = Missing
given_in (Some a) = a

abbrev pub given : Planned → Answer
given p = given_in (answer_of p.geometry p.call p.stage)

-- the deed of the refusal f, whose holder's client is dead, or isn't
abbrev pub deed_of : Bool → Refusal → Deed
deed_of true f = FindsDead f
deed_of false f = Yields f

-- of a checkpoint that is asked for: whether it starts
abbrev pub starting_item : Bool → ℕ → SystemState → Item
starting_item true c y = (Did StartsCheckpoint c, OnSystem y, Starts ∷ [])
starting_item false c y = (Did (Meets UnderWay) c, Leaves, [])

-- client and system told this together, as the rule allows, and have come from x and y to z and w; y was the system that is told
pub record BothTell (b : Begun) (x : ClientSight) (y : SystemSight) (item : Item) (z : ClientSight) (w : SystemSight) : Type 0 where
  pub added : Added (client_sight b x ∷ system_sight b y ∷ []) item z.seen
  pub id : z.id ≡ x.id
  pub seen : w.seen ≡ z.seen
  pub all : AllMay (may_add b) z.seen
  pub was : Of b (λ o T. SystemTold o y.served.state T) y.seen

-- p: the plan whose lock is asked for
abbrev pub IsTold : LockAnswer → Begun → Planned → (x : ClientSight) → (y : SystemSight) → (z : ClientSight) → (w : SystemSight) → Type 0
IsTold Granted b p x y z w =
    BothTell b x y (Did (GetsLock p.txn (call_key p.call) (mode_of p.call)) x.id, OnSystem w.served.state, Does (Locks p.txn (call_key p.call) (mode_of p.call)) ∷ []) z w
IsTold (Wait h) b p x y z w = (z ≡ x) × (w ≡ y)
IsTold (Busy h) b p x y z w =
    BothTell b x y (
      Did (deed_of (is_dead_in (state_of y.served.state h)) (refusal_at y.served.state p.txn (call_key p.call) (mode_of p.call) h)) x.id,
      OnSystem w.served.state,
      Does (Refuses p.txn (call_key p.call) (mode_of p.call) h) ∷ [],
    )
    z w
