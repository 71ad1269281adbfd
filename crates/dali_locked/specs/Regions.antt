-- A region behind its lock: what is kept there, how a client finds its operation again, and the entries of its steps.
--     is_operating e           the entry e is one of an operation: no stray write, no pass of an audit, no copy
--     op_regions r T           the region r behind each line of an operation that its note has signed
--     IsAt r n operation T     behind n such lines this operation is under way there
--     OperationStands r n g T  there are n such lines, and what was under way behind the last one is so on g
--     PassesBelow r n T        all audits that have passed it began below n, and one began just there
--     RegionKept b .. x        all that is kept of the region x under its lock
--     IsAmid c r p o T         the client c acts for the transaction of the plan p, which stands where the log has come to, and has latched the region r for its next
--                              operation
--     IsOpenAudit b            a client began the audit from record b, which is open;  HasPassed r b right  it has passed the region r
--     stray_item ..            what each step tells
--     is_unheld hold           no live hold stands on a region that has this one
--     LogsPlan p y q z         the plan's operation is logged: the plan p and the system y have come to q and z
--     LeftBy e A B             A where the system refuses, B where the transaction isn't there;  IfRefused e A  so it is of the cause
--     HasGoneBack b x y p z w q     from the client x, the region y and the plan p on to z, w and q: an operation was taken back, since its record was refused
use Rattle.std.specs.Prelude.{◌≡◌, ℕ, suc, ◌<◌, ◌&&◌, Bool, true, false, List, [], ◌∷◌, Option, Some, None, IfSome, length, filter_map, slice_get, slice_index, slice_set, if◌then◌else◌}
use Rattle.std.specs.Option.{option_map_or}
use Rattle.atomic_table.specs.Seated.{TableId}
use Rattle.dali_record.specs.declared.operations.Block.{Block}
use Rattle.dali_record.specs.declared.records.Record.{Record}
use Rattle.dali_record.specs.declared.records.Record.TheVariants.{Forward, Back, AuditBegin}
use Rattle.dali_region.specs.declared.Hold.{Hold}
use Rattle.dali_region.specs.State.{RegionState, taken_back}
use Rattle.dali_att.specs.declared.state.State.{State}
use Rattle.dali_att.specs.declared.state.State.TheVariants.{Live}
use Rattle.dali_runs.specs.State.{SystemState}
use Rattle.dali_runs.specs.Steps.{op_logged, back_logged}
use Rattle.dali_runs.specs.Keeps.{HasRoom}
use Rattle.dali_runs.specs.Regions.{RegionStep, Latch, NoteReads, Update, TakeBack, Poke}
use Rattle.dali_runs.specs.Courses.{Operates, TakesBack, Passes, OnRegion as StepsOn}
use Rattle.dali_system.specs.declared.operation.Operation.{Operation}
use Rattle.dali_system.specs.Served.{Served}
use Rattle.dali_system.specs.UnderWay.{OneIsUnderWay}
use Rattle.dali_calls.specs.Followed.{Follows as FollowsLog, HoldsCall}
use Rattle.dali_calls.specs.Plans.{Planned, is_back, went_back, with_operation, GoesOn}
use Rattle.dali_crash.specs.Checkpoints.{Does}
use Rattle.dali_transcripts.specs.World.{Logs, Strays}
use Rattle.dali_notes.specs.History.{signs, Added}
use Rattle.dali_concurrent.specs.Entries.{Entry, Did, Latched, Updated, Freed, Passed, Copied, At, region_note, live_by}
use Rattle.dali_concurrent.specs.Rules.{Outset, count_of, log_by, dead_by, LookFits}
use Rattle.dali_concurrent.specs.Told.{Effect, OnRegion, OnBoth, Item, Line, History, plain, core_told}
use Rattle.dali_concurrent.specs.Sorts.{steps_on}
use Rattle.dali_concurrent.specs.Kept.{RegionTold}
use Rattle.dali_system.specs.declared.error.SystemError.{SystemError}
use Rattle.dali_locked.specs.declared.error.LockedError.{LockedError}
use Rattle.dali_locked.specs.declared.error.LockedError.TheVariants.{System, Unfit}
use Rattle.dali_locked.specs.Begun.{Begun, Of, Led, no_item}
use Rattle.dali_locked.specs.Sights.{ClientSight, RegionSight, Acts, Knows, client_sight, region_sight}
use Rattle.dali_locked.specs.SystemSteps.{Driving, Auditing}

-- ---- the lines of operations
abbrev pub is_operating : Entry → Bool
is_operating (Did (Strays r word mask) c) = false
is_operating (Passed r b right) = false
is_operating (Copied r) = false
is_operating e = true

abbrev pub region_on : Effect → Option RegionState
region_on (OnRegion r g) = Some g
region_on (OnBoth r g y) = Some g
region_on f = None

abbrev pub op_region : ℕ → Line → Option RegionState
op_region r p = if signs (region_note r) p.0 && is_operating p.1.0 then region_on p.1.1 else None

abbrev pub op_regions : ℕ → History → List RegionState
op_regions r T = filter_map (op_region r) T

pub record IsAt (r n : ℕ) (operation : Option Operation) (T : History) : Type 0 where
  pub before : ℕ
  pub count : n ≡ suc before
  pub region : RegionState
  pub there : slice_get (op_regions r T) before ≡ Some region
  pub stands : OneIsUnderWay operation region

-- ---- under the lock
pub record OperationStands (r n : ℕ) (g : RegionState) (T : History) : Type 0 where
  pub count : length (op_regions r T) ≡ n
  pub last : (i : ℕ) (h : RegionState) (operation : Option Operation) → n ≡ suc i → slice_get (op_regions r T) i ≡ Some h → OneIsUnderWay operation h
      → OneIsUnderWay operation g

-- the audits whose passes of the region its note has signed
pub record PassesBelow (r n : ℕ) (T : History) : Type 0 where
  pub below : (i b : ℕ) (k : List ℕ) (right : Bool) → At (plain T) i (k, Passed r b right) → signs (region_note r) k ≡ true → b < n
  pub last : (b : ℕ) → n ≡ suc b → (i : ℕ) × (k : List ℕ) × (right : Bool) × At (plain T) i (k, Passed r b right)

pub record RegionKept (b : Begun) (table : TableId) (number : ℕ) (x : RegionSight) : Type 0 where
  pub home : table ≡ b.table
  pub numbered : number ≡ region_note x.number
  pub led : Led b x.seen
  pub told : Of b (λ o T. RegionTold o x.number x.region T) x.seen
  pub operation : OperationStands x.number x.steps x.region x.seen
  pub passed : PassesBelow x.number x.audits x.seen

-- ---- what a client knows
-- a client has begun the audit from this record
abbrev pub IsOpenAudit : ℕ → Outset → History → Type 0
IsOpenAudit b o T = (c : ℕ) × Auditing c b o T

-- the audit has passed the region, and found its codeword right or not
abbrev pub HasPassed : ℕ → ℕ → Bool → Outset → History → Type 0
HasPassed r b right o T = (i : ℕ) × (k : List ℕ) × At (plain T) i (k, Passed r b right)

pub record IsAmid (c r : ℕ) (p : Planned) (o : Outset) (T : History) : Type 0 where
  pub acts : Acts c p.txn o T
  pub sizes : p.geometry ≡ (core_told o T).system.sizes
  pub follows : FollowsLog (core_told o T).system.sizes (log_by o (plain T)) p
  pub holds : HoldsCall (core_told o T).system p
  -- it has latched no other region, and none is left latched for it
  pub only : (q d : ℕ) → live_by q (plain T) ≡ Some (p.txn, d) → r ≡ q
  pub none : (q : ℕ) → q < count_of o → dead_by o q (plain T) ≡ Some p.txn → ⊥
  -- and has looked
  pub look : is_back p ≡ false → LookFits o (plain T) c r

-- ---- entries
-- the words that a hold has read
abbrev pub read_in : Option Hold → ℕ
read_in o = option_map_or (λ (h : Hold). h.read) o 0

abbrev pub stray_item : ℕ → ℕ → ℕ → ℕ → RegionState → Item
stray_item c r word mask h = (Did (Strays r word mask) c, OnRegion r h, Does (StepsOn r (Poke word mask)) ∷ [])

abbrev pub latch_item : ℕ → ℕ → ℕ → RegionState → Item
latch_item c r t h = (Latched r t c, OnRegion r h, steps_on r (Latch t ∷ NoteReads (read_in h.hold) ∷ []))

abbrev pub update_item : ℕ → ℕ → ℕ → ℕ → RegionState → Item
update_item c r word value h = (Updated r c, OnRegion r h, steps_on r (Update word value ∷ []))

abbrev pub freed_item : ℕ → ℕ → RegionState → Item
freed_item c r h = (Freed r c, OnRegion r h, steps_on r (TakeBack ∷ []))

abbrev pub forward_item : ℕ → ℕ → Block → SystemState → RegionState → Item
forward_item c t b z h = (Did (Logs (Forward t b)) c, OnBoth b.region h z, Does (Operates t b) ∷ [])

abbrev pub back_item : ℕ → ℕ → Block → SystemState → RegionState → Item
back_item c t b z h = (Did (Logs (Back t b)) c, OnBoth b.region h z, Does (TakesBack t b) ∷ [])

-- of the plan's operation, on its call or on its way back, by the system before it
abbrev pub logged_item : ℕ → Bool → ℕ → Option Operation → SystemState → RegionState → Item
logged_item c back t None y h = no_item
logged_item c false t (Some o) y h = forward_item c t o.block (op_logged y t o.block) h
logged_item c true t (Some o) y h = back_item c t o.block (back_logged y t o.block) h

-- it is logged: the plan p and the system y have come to q and z
pub record LogsPlan (p : Planned) (y : Served) (q : Planned) (z : Served) : Type 0 where
  pub onward : is_back p ≡ false → IfSome p.operation (λ o. (z ≡ record y { state = op_logged y.state p.txn o.block }) × HasRoom y.state (Forward p.txn o.block) × GoesOn p o.block q)
  pub back : is_back p ≡ true → IfSome p.operation (λ o. (z ≡ record y { state = back_logged y.state p.txn o.block }) × (y.state.stop ≡ None) × (q ≡ went_back p))

-- its record
abbrev pub record_on : Bool → ℕ → Option Operation → Record
record_on back t None = AuditBegin
record_on false t (Some o) = Forward t o.block
record_on true t (Some o) = Back t o.block

abbrev pub pass_item : ℕ → ℕ → Bool → RegionState → Item
pass_item r b right h = (Passed r b right, OnRegion r h, Does (Passes b r) ∷ [])

-- ---- an operation whose record is refused
-- its words are taken back, and the client drives its plan again
pub record HasGoneBack (b : Begun) (x : ClientSight) (y : RegionSight) (p : Planned) (z : ClientSight) (w : RegionSight) (q : Planned) : Type 0 where
  pub region : w.region ≡ taken_back y.region
  pub number : w.number ≡ y.number
  pub plan : q ≡ with_operation p None
  pub added : Added (client_sight b x ∷ region_sight b y ∷ []) (freed_item x.id y.number w.region) z.seen
  pub id : z.id ≡ x.id
  pub seen : w.seen ≡ z.seen
  pub drives : Knows b (Driving x.id q) z

-- no live hold stands
abbrev pub is_unheld : Option Hold → Bool
is_unheld None = true
is_unheld (Some h) = h.dead

abbrev pub is_live : Option State → Bool
is_live (Some Live) = true
is_live o = false

-- what is so where the system refuses, and where the transaction isn't there
abbrev pub LeftBy : LockedError → Type 0 → Type 0 → Type 0
LeftBy (System cause) A B = A
LeftBy Unfit A B = B

abbrev pub IfRefused : LockedError → (SystemError → Type 0) → Type 0
IfRefused (System cause) A = A cause
IfRefused Unfit A = Unit {0}
