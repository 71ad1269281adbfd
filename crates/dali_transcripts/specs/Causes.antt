-- What must be so for a step of a client.
--     IsOpOf call op           an operation of this call
--     IsBlockOf call b         the block of such an operation, on some words
--     GoesOn s L t call b      behind L the rules allow it to t next, and the locks do
--     IsRoomFor s L act o x    x is a record that the rules allow next behind L, for this act in the transaction o
--     IsFull w i act o end limit       at this place that record passes the limit
--     IsDamaged w i t call ..  at this place the codeword of the region that the call goes to next differs from its words
--     IsUnderWay w i c         at this place the checkpoint of another client is under way
--     IsCause w c i act o why  why the client c, in the transaction o, is refused at this place
--     MetCause w c n act o why where n records stood it was refused so, and had cause
--     IsCleanUp w c t x        a deed of a clean-up, by the client c that is in t
--     IsAside w c t x          such a deed, or a taking back of t
--     IsAsking w c t call x    such a deed, or a request for the lock of the call that finds a dead holder
--     IsWork w c t call x      such a deed, or one that is granted, or an operation of the call
--     StaysRefused xs          behind the first refusal of a call it makes no operation
--     StaysBack t xs           behind what it takes back of t it makes no operation
--     AsksFirst xs             a call makes no operation before it was granted its lock
--     WasGranted xs            nor has it gone without
--     AsksUnless why xs        a call that was refused makes none before, and has gone without where a stop refused it alone
--     undos_behind t us xs     what is left to take back of t behind these deeds, which was us before them
--     KeepsNothing t why xs    a call that was refused, by no stop, leaves t as it was: all that these deeds changed is taken back
--     IsBehind w c t x         a deed of a commit behind its Commit
--     IsCutAudit w later xs    an audit that was cut short
--     spares d count           the client doesn't die in so many operations
--     Survives ..              a call that is refused isn't the one in which its client dies
--     IsAlone w why span i     a checkpoint that is refused before it starts meets no other
--     DiesIn w c n t r call    it dies in an operation of the call, on region r
--     GetsBusy w c t call f    its request for the call's lock was refused, and the holder wasn't dead
--     IsGrantable w i t k m    before this place no other transaction has a lock of the key k that conflicts with the mode m
--     IsAnothers w c i t k     before this place another client than c was granted the lock of the key k, for t; or t was dead when the round began
--     IsHindered w c i f       before this place the holder of the refusal f has a lock that conflicts with its mode, and that is another client's; c doesn't clean it up
--     AreRight w               each deed of the round has what it asks for at its place
--     AreUnfinished w c place rest xs  the deeds of a step that the end of the round cut short: of a call, an abort, an audit or a checkpoint
--     HasCause w c x           what must be so for the step x of client c
use Rattle.std.specs.Prelude.{◌≡◌, ℕ, ◌+◌, ◌<◌, ◌⊎◌, Bool, true, false, List, [], ◌∷◌, ◌++◌, Option, Some, None, bit_xor, fold, length, nat_lt, slice_get, sum_by, take, ◌==◌, ◌≤◌}
use Rattle.std.specs.List.{AllByRecursion}
use Rattle.dali_geometry.specs.Sizes.{Sizes}
use Rattle.dali_geometry.specs.Places.{regions}
use Rattle.dali_record.specs.declared.operations.Block.{Block}
use Rattle.dali_record.specs.declared.operations.Op.{Op}
use Rattle.dali_record.specs.declared.operations.Op.TheVariants.{Look, Add, KillEntry, Put, Read, Change, KillCell}
use Rattle.dali_record.specs.declared.operations.Pending.{Pending}
use Rattle.dali_record.specs.declared.records.Call.{Call}
use Rattle.dali_record.specs.declared.records.Call.TheVariants.{Insert, Update, Delete, Get}
use Rattle.dali_record.specs.declared.records.Answer.{Answer}
use Rattle.dali_record.specs.declared.records.Record.{Record}
use Rattle.dali_record.specs.declared.records.Record.TheVariants.{Begin, Forward, Back, Done, Ended, Solo, AuditBegin, AuditClean, AuditFail}
use Rattle.dali_record.specs.Blocks.{AreWords, made}
use Rattle.dali_record.specs.Spelling.{record_length, CanBeSpelled}
use Rattle.dali_record.specs.Locks.{IsLockLegal}
use Rattle.dali_record.specs.Log.{undo_step}
use Rattle.dali_region.specs.State.{RegionState}
use Rattle.dali_locks.specs.declared.mode.Mode.{Mode}
use Rattle.dali_locks.specs.Locks.{both_shared}
use Rattle.dali_att.specs.declared.state.State.TheVariants.{Live, Cleaning}
use Rattle.dali_runs.specs.declared.causes.Cause.{Cause}
use Rattle.dali_runs.specs.declared.refusals.Refusal.{Refusal}
use Rattle.dali_runs.specs.Keeps.{IsNext}
use Rattle.dali_transcripts.specs.Words.{Act, Begins as BeginAct, Calls, Arms, Commits as CommitAct, Aborts as AbortAct, Pokes as PokeAct, Audits as AuditAct, Checkpoints as CheckpointAct, Why, StoppedBy, Full, Damaged, StoreFailed, UnderWay, is_stop, key_of, mode_of}
use Rattle.dali_transcripts.specs.World.{Deed, Logs, DiesOn, Claims, GivesBack, GetsLock, Yields, FindsDead, StartsCheckpoint, EndsCheckpoint, Meets, Happening, World, log_at, IsFlushed, IsLost, IsUncommitted, HasDone, state_at, is_dead_in, is_claimed_in, claimer_at, HasGot, lock_at, HasEndedBy, has_failed, stop_at, stray_after, under_way, WasDead}
use Rattle.dali_transcripts.specs.Moves.{Receipt, Place, Outside, Within, Again, Ending, TakenBack, LeftBehind, Move, Begins, BeginsAgain, IsRefusedBegin, Skips, Rests, Answers, IsRefusedCall, Dies, IsArmed, GivesWay, GivesUp, Commits, CommitFails, IsRefusedCommit, Aborts, IsRefusedAbort, Ends, StaysOpen, Pokes, PokesNothing, Audits, IsRefusedAudit, Checkpoints, FailsCheckpoint, IsRefusedCheckpoint, operations}

-- ---- the operations of a call
abbrev pub IsOpOf : Call → Op → Type 0
IsOpOf call Look = Unit {0}
IsOpOf (Get key) (Read cell) = Unit {0}
IsOpOf (Insert key v) (Put u) = u ≡ v
IsOpOf (Insert key v) (Add at) = Unit {0}
IsOpOf (Update key v) (Change cell u) = u ≡ v
IsOpOf (Delete key) (KillCell cell) = Unit {0}
IsOpOf (Delete key) (KillEntry entry) = Unit {0}
IsOpOf call op = ⊥

pub record IsBlockOf (call : Call) (b : Block) : Type 0 where
  pub words : List ℕ
  pub are_words : AreWords words
  pub of_call : IsOpOf call b.op
  pub is_made : b ≡ made words (key_of call) b.region b.op

pub record GoesOn (s : Sizes) (L : List Record) (t : ℕ) (call : Call) (b : Block) : Type 0 where
  pub of_call : IsBlockOf call b
  pub allowed : IsNext s L t (Forward t b)
  -- it has the lock
  pub locked : IsLockLegal (L ++ Forward t b ∷ [])

-- ---- refusals
-- the record for which there was no room
abbrev pub IsRoomFor : Sizes → List Record → Act → Option ℕ → Record → Type 0
IsRoomFor s L BeginAct o x = (t : ℕ) × (x ≡ Begin t) × IsNext s L t x
IsRoomFor s L (Calls call) (Some t) x = ((a : Answer) × (x ≡ Done t call a) × IsNext s L t x) ⊎ ((b : Block) × (x ≡ Forward t b) × GoesOn s L t call b)
IsRoomFor s L AuditAct o x = x ≡ AuditBegin
IsRoomFor s L CheckpointAct o x = x ≡ AuditBegin
IsRoomFor s L act o x = ⊥

-- an audit's begin has some room that others lack
abbrev pub limit_of : World → Act → ℕ
limit_of w AuditAct = w.core.system.limit + 1048576
limit_of w CheckpointAct = w.core.system.limit + 1048576
limit_of w act = w.core.system.limit

pub record IsFull (w : World) (i : ℕ) (act : Act) (o : Option ℕ) (end limit : ℕ) : Type 0 where
  pub limit_is : limit ≡ limit_of w act
  pub end_is : end ≡ sum_by record_length (log_at w i)
  pub refused : Record
  pub next : IsRoomFor w.core.system.sizes (log_at w i) act o refused
  pub spelled : CanBeSpelled refused
  pub passes : limit < end + record_length refused
  -- a stop comes first
  pub runs : stop_at w i ≡ None

-- the exclusive-or of the two values is that of the stray writes to the region so far
pub record IsDamaged (w : World) (i t : ℕ) (call : Call) (region codeword found : ℕ) : Type 0 where
  pub compares : w.precheck ≡ true
  pub next : Block
  pub on_region : next.region ≡ region
  pub goes_on : GoesOn w.core.system.sizes (log_at w i) t call next
  pub old : RegionState
  pub was : slice_get w.old.regions region ≡ Some old
  pub stray : bit_xor codeword found ≡ stray_after region old.stray (take i w.happened)
  pub differ : (codeword == found) ≡ false

pub record IsUnderWay (w : World) (i c : ℕ) : Type 0 where
  pub other : ℕ
  pub differs : (other == c) ≡ false
  pub started : under_way (take i w.happened) ≡ Some other

abbrev pub CanStop : Act → Type 0
CanStop (PokeAct r word m) = ⊥
CanStop (Arms count) = ⊥
CanStop act = Unit {0}

abbrev pub CanFail : Act → Type 0
CanFail AuditAct = Unit {0}
CanFail CheckpointAct = Unit {0}
CanFail act = ⊥

abbrev pub IsDamagedIn : World → ℕ → Act → Option ℕ → (region codeword found : ℕ) → Type 0
IsDamagedIn w i (Calls call) (Some t) region codeword found = IsDamaged w i t call region codeword found
IsDamagedIn w i act o region codeword found = ⊥

abbrev pub IsUnderWayIn : World → ℕ → ℕ → Act → Type 0
IsUnderWayIn w i c CheckpointAct = IsUnderWay w i c
IsUnderWayIn w i c act = ⊥

-- StoreFailed is the failure itself
abbrev pub IsCause : World → (client place : ℕ) → Act → Option ℕ → Why → Type 0
IsCause w c i act o (StoppedBy cause) = CanStop act × (stop_at w i ≡ Some cause)
IsCause w c i act o (Full end limit) = IsFull w i act o end limit
IsCause w c i act o (Damaged region codeword found) = IsDamagedIn w i act o region codeword found
IsCause w c i act o StoreFailed = CanFail act
IsCause w c i act o UnderWay = IsUnderWayIn w i c act

pub record MetCause (w : World) (c n : ℕ) (act : Act) (o : Option ℕ) (why : Why) : Type 0 where
  pub met : HasDone w c n (Meets why)
  pub cause : IsCause w c met.place act o why

-- ---- what is done without a line
-- a record of a clean-up: another transaction than t, which is claimed there, by this client
pub record IsCleaning (w : World) (c t n u : ℕ) (x : Deed) : Type 0 where
  pub apart : (u == t) ≡ false
  pub done : HasDone w c n x
  pub claimed : is_claimed_in (state_at w done.place u) ≡ true
  pub own : claimer_at w done.place u ≡ Some c

pub record HasClaimed (w : World) (c n u : ℕ) : Type 0 where
  pub done : HasDone w c n (Claims u)
  pub dead : is_dead_in (state_at w done.place u) ≡ true

-- since c claimed u, up to this place, no change of u was taken back
abbrev pub IsUntouched : World → (client txn place : ℕ) → Type 0
IsUntouched w c u i =
    (k : ℕ) × (k < i) × (slice_get w.happened k ≡ Some (Claims u, c))
    × ((m d : ℕ) (b : Block) → k < m → m < i → slice_get w.happened m ≡ Some (Logs (Back u b), d) → ⊥)

-- the region of the open operation is latched still, or was released
pub record LetsGo (w : World) (c n u : ℕ) (latched : Option ℕ) : Type 0 where
  pub done : HasDone w c n (GivesBack u latched)
  pub was : Option ℕ
  pub claimed : state_at w done.place u ≡ Some (Cleaning was)
  pub own : claimer_at w done.place u ≡ Some c
  pub left : (latched ≡ was) ⊎ (latched ≡ None)

-- it released that region and did no more, or the engine is stopped
pub record HasGivenBack (w : World) (c n u : ℕ) (latched : Option ℕ) : Type 0 where
  pub given : LetsGo w c n u latched
  pub why : ((r : ℕ) × (given.was ≡ Some r) × (latched ≡ None) × IsUntouched w c u given.done.place) ⊎ ((cause : Cause) × (stop_at w given.done.place ≡ Some cause))

-- its request for the call's lock was refused, and the holder was dead
pub record HasFoundDead (w : World) (c n t : ℕ) (call : Call) (f : Refusal) : Type 0 where
  pub done : HasDone w c n (FindsDead f)
  pub txn : f.txn ≡ t
  pub key : f.key ≡ key_of call
  pub mode : f.mode ≡ mode_of call
  pub number : f.at ≡ n
  pub dead : is_dead_in (state_at w done.place f.holder) ≡ true

abbrev pub IsCleanUp : World → (client txn : ℕ) → Receipt → Type 0
IsCleanUp w c t (n, Logs (Back u b)) = IsCleaning w c t n u (Logs (Back u b))
IsCleanUp w c t (n, Logs (Ended u)) = IsCleaning w c t n u (Logs (Ended u))
IsCleanUp w c t (n, Claims u) = ((u == t) ≡ false) × HasClaimed w c n u
IsCleanUp w c t (n, GivesBack u latched) = ((u == t) ≡ false) × HasGivenBack w c n u latched
IsCleanUp w c t x = ⊥

-- it takes back a change of t, or cleans up
abbrev pub IsAside : World → (client txn : ℕ) → Receipt → Type 0
IsAside w c t (n, Logs (Back u b)) = (u ≡ t) ⊎ IsCleaning w c t n u (Logs (Back u b))
IsAside w c t x = IsCleanUp w c t x

abbrev pub AreAside : World → ℕ → ℕ → List Receipt → Type 0
AreAside w c t xs = AllByRecursion (IsAside w c t) xs

-- or its request finds a dead transaction in its way
abbrev pub IsAsking : World → (client txn : ℕ) → Call → Receipt → Type 0
IsAsking w c t call (n, FindsDead f) = HasFoundDead w c n t call f
IsAsking w c t call x = IsAside w c t x

abbrev pub AreAsking : World → ℕ → ℕ → Call → List Receipt → Type 0
AreAsking w c t call xs = AllByRecursion (IsAsking w c t call) xs

-- or it is granted, or an operation of the call is made
abbrev pub IsWork : World → (client txn : ℕ) → Call → Receipt → Type 0
IsWork w c t call (n, GetsLock u key mode) = (u ≡ t) × (key ≡ key_of call) × (mode ≡ mode_of call)
IsWork w c t call (n, Logs (Forward u b)) = (u ≡ t) × (b.key ≡ key_of call) × IsOpOf call b.op
IsWork w c t call x = IsAsking w c t call x

abbrev pub AreWork : World → ℕ → ℕ → Call → List Receipt → Type 0
AreWork w c t call xs = AllByRecursion (IsWork w c t call) xs

-- work of a call that was refused, or an earlier refusal of it, in the taking back after which another one came
abbrev pub IsTried : World → (client txn : ℕ) → Call → Receipt → Type 0
IsTried w c t call (n, Meets why) = MetCause w c n (Calls call) (Some t) why
IsTried w c t call x = IsWork w c t call x

abbrev pub AreTried : World → ℕ → ℕ → Call → List Receipt → Type 0
AreTried w c t call xs = AllByRecursion (IsTried w c t call) xs

-- behind a refusal it makes no operation any more
abbrev pub IsNoOperation : Receipt → Type 0
IsNoOperation (n, Logs (Forward u b)) = ⊥
IsNoOperation x = Unit {0}

abbrev pub StaysRefused : List Receipt → Type 0
StaysRefused [] = Unit {0}
StaysRefused ((n, Meets why) ∷ xs) = AllByRecursion IsNoOperation xs
StaysRefused (x ∷ xs) = StaysRefused xs

-- nor behind what it takes back of t
abbrev pub is_taking_back : ℕ → Receipt → Bool
is_taking_back t (n, Logs (Back u b)) = u == t
is_taking_back t x = false

abbrev pub StaysBack : ℕ → List Receipt → Type 0
StaysBack t [] = Unit {0}
StaysBack t (x ∷ xs) = (is_taking_back t x ≡ true → AllByRecursion IsNoOperation xs) × StaysBack t xs

-- it makes none before it was granted its lock
abbrev pub AsksFirst : List Receipt → Type 0
AsksFirst [] = Unit {0}
AsksFirst ((n, GetsLock t k m) ∷ xs) = Unit {0}
AsksFirst ((n, Logs (Forward t b)) ∷ xs) = ⊥
AsksFirst (x ∷ xs) = AsksFirst xs

-- and it was granted it
abbrev pub WasGranted : List Receipt → Type 0
WasGranted [] = ⊥
WasGranted ((n, GetsLock t k m) ∷ xs) = Unit {0}
WasGranted ((n, Logs (Forward t b)) ∷ xs) = ⊥
WasGranted (x ∷ xs) = WasGranted xs

-- a stop alone refuses a call that was granted nothing
abbrev pub AsksUnless : Why → List Receipt → Type 0
AsksUnless why xs = AsksFirst xs × (is_stop why ≡ false → WasGranted xs)

-- whatever there was to take back of t before these deeds, it is so behind them; where the engine is stopped nothing is taken back any more
abbrev pub undos_by : ℕ → List Pending → Receipt → List Pending
undos_by t us (n, Logs x) = undo_step t us x
undos_by t us x = us

abbrev pub undos_behind : ℕ → List Pending → List Receipt → List Pending
undos_behind t us xs = fold (undos_by t) us xs

abbrev pub KeepsNothing : ℕ → Why → List Receipt → Type 0
KeepsNothing t why xs = is_stop why ≡ false → (us : List Pending) → undos_behind t us xs ≡ us

-- a solo of t, or its Ended; or a clean-up; or its own flush fails, where that of another client had its Commit
abbrev pub IsBehind : World → (client txn : ℕ) → Receipt → Type 0
IsBehind w c t (n, Meets StoreFailed) = Unit {0}
IsBehind w c t (n, Logs (Solo u p b)) = p ≡ t
IsBehind w c t (n, Logs (Ended u)) = (u ≡ t) ⊎ IsCleaning w c t n u (Logs (Ended u))
IsBehind w c t x = IsCleanUp w c t x

abbrev pub AreBehind : World → ℕ → ℕ → List Receipt → Type 0
AreBehind w c t xs = AllByRecursion (IsBehind w c t) xs

-- its begin alone, or with the record that ends it, which the store never got; a checkpoint may fail behind a clean one that is flushed
abbrev pub IsCutAudit : World → (later : Bool) → List Receipt → Type 0
IsCutAudit w later [] = Unit {0}
IsCutAudit w later ((b, Logs AuditBegin) ∷ []) = Unit {0}
IsCutAudit w later ((b, Logs AuditBegin) ∷ (n, Logs (AuditClean a)) ∷ []) = (a ≡ b) × ((later ≡ true) ⊎ IsLost w n)
IsCutAudit w later ((b, Logs AuditBegin) ∷ (n, Logs (AuditFail a rs)) ∷ []) = (a ≡ b) × IsLost w n
IsCutAudit w later xs = ⊥

-- only where the audit was begun; the store fails an audit behind its end
abbrev pub IsCutBy : World → Bool → Why → List Receipt → Type 0
IsCutBy w later (StoppedBy cause) work = IsCutAudit w later work
IsCutBy w true StoreFailed work = IsCutAudit w true work
IsCutBy w false StoreFailed work = IsCutAudit w false work × (length work ≡ 2)
IsCutBy w later why work = work ≡ []

-- a checkpoint that didn't start has no audit, and one that meets another doesn't start
abbrev pub MaySpan : Why → Option (ℕ × ℕ) → List Receipt → Type 0
MaySpan why None work = work ≡ []
MaySpan UnderWay (Some span) work = ⊥
MaySpan why (Some span) work = Unit {0}

-- before a checkpoint starts, another one under way comes first
abbrev pub IsAlone : World → Why → Option (ℕ × ℕ) → (place : ℕ) → Type 0
IsAlone w UnderWay None i = Unit {0}
IsAlone w why None i = under_way (take i w.happened) ≡ None
IsAlone w why (Some span) i = Unit {0}

-- ---- deaths
abbrev pub spares : Option ℕ → ℕ → Bool
spares None count = true
spares (Some deadly) count = nat_lt count deadly

-- behind so many operations a record was refused: death comes before the room for an operation
abbrev pub spares_without : Option ℕ → ℕ → Record → Bool
spares_without d count (Forward t b) = spares d (count + 1)
spares_without d count x = spares d count

abbrev pub Survives : (w : World) (c n t : ℕ) (call : Call) (d : Option ℕ) (count : ℕ) (why : Why) → MetCause w c n (Calls call) (Some t) why → Type 0
Survives w c n t call d count (Full end limit) met = spares_without d count met.cause.refused ≡ true
Survives w c n t call d count why met = spares d count ≡ true

pub record DiesIn (w : World) (c n t r : ℕ) (call : Call) : Type 0 where
  pub done : HasDone w c n (DiesOn t r)
  pub next : Block
  pub on_region : next.region ≡ r
  pub goes_on : GoesOn w.core.system.sizes (log_at w done.place) t call next

-- ---- Busy
pub record GetsBusy (w : World) (c t : ℕ) (call : Call) (f : Refusal) : Type 0 where
  pub txn : f.txn ≡ t
  pub key : f.key ≡ key_of call
  pub mode : f.mode ≡ mode_of call
  pub done : HasDone w c f.at (Yields f)
  pub runs : is_dead_in (state_at w done.place f.holder) ≡ false

-- ---- each deed by itself
abbrev pub IsGrantable : World → (place txn key : ℕ) → Mode → Type 0
IsGrantable w i t k m = (u : ℕ) (n : Mode) → (t == u) ≡ false → lock_at w i u k ≡ Some n → both_shared m n ≡ true

-- one that was dead has its locks until it is cleaned up, while it isn't dead any more
abbrev pub IsAnothers : World → (client place txn key : ℕ) → Type 0
IsAnothers w c i t k = WasDead w t ⊎ ((d : ℕ) × (m : Mode) × ((d == c) ≡ false) × HasGot (take i w.happened) d t k m)

pub record IsHindered (w : World) (c i : ℕ) (f : Refusal) : Type 0 where
  pub mode : Mode
  pub holds : lock_at w i f.holder f.key ≡ Some mode
  pub clash : both_shared f.mode mode ≡ false
  pub by_another : IsAnothers w c i f.holder f.key
  pub unclaimed : claimer_at w i f.holder ≡ Some c → is_claimed_in (state_at w i f.holder) ≡ false

-- what must be so where it is done, whichever step it belongs to; behind a stop no request is refused, and nothing is logged but takings back and solos
abbrev pub IsRight : World → (client place : ℕ) → Deed → Type 0
IsRight w c i (Logs (Back t b)) = Unit {0}
IsRight w c i (Logs (Solo t p b)) = Unit {0}
IsRight w c i (Logs x) = stop_at w i ≡ None
IsRight w c i (Claims u) = is_dead_in (state_at w i u) ≡ true
IsRight w c i (GivesBack u latched) = (was : Option ℕ) × (state_at w i u ≡ Some (Cleaning was)) × ((latched ≡ was) ⊎ (latched ≡ None)) × (claimer_at w i u ≡ Some c)
IsRight w c i (GetsLock t k m) = (state_at w i t ≡ Some Live) × (stop_at w i ≡ None) × IsGrantable w i t k m
IsRight w c i (Yields f) = (f.at ≡ length (log_at w i)) × (is_dead_in (state_at w i f.holder) ≡ false) × (stop_at w i ≡ None) × IsHindered w c i f
IsRight w c i (FindsDead f) = (f.at ≡ length (log_at w i)) × (is_dead_in (state_at w i f.holder) ≡ true) × (stop_at w i ≡ None)
IsRight w c i (Meets StoreFailed) = Unit {0}
IsRight w c i (Meets why) = (act : Act) × (o : Option ℕ) × IsCause w c i act o why
IsRight w c i x = Unit {0}

-- from this place on
abbrev pub AreRightFrom : World → ℕ → List Happening → Type 0
AreRightFrom w i [] = Unit {0}
AreRightFrom w i (x ∷ xs) = IsRight w x.1 i x.0 × AreRightFrom w (i + 1) xs

abbrev pub AreRight : World → Type 0
AreRight w = AreRightFrom w 0 w.happened

-- ---- a step that the end of the round cut short
-- it takes back a change of t, or cleans up; a clean-up that was cut short too gives its claim back
abbrev pub IsCutAside : World → (client txn : ℕ) → Receipt → Type 0
IsCutAside w c t (n, GivesBack u latched) = ((u == t) ≡ false) × LetsGo w c n u latched
IsCutAside w c t x = IsAside w c t x

-- or it is work of the call
abbrev pub IsCutWork : World → (client txn : ℕ) → Call → Receipt → Type 0
IsCutWork w c t call (n, GivesBack u latched) = ((u == t) ≡ false) × LetsGo w c n u latched
IsCutWork w c t call x = IsWork w c t call x

-- what there was to take back of t before these deeds is there still
abbrev pub KeepsOlder : ℕ → List Receipt → Type 0
KeepsOlder t xs = (us : List Pending) → (more : List Pending) × (undos_behind t us xs ≡ us ++ more)

-- a call that has no answer yet; its client hasn't died by then
pub record IsUnanswered (w : World) (c t : ℕ) (d : Option ℕ) (call : Call) (xs : List Receipt) : Type 0 where
  pub work : AllByRecursion (IsCutWork w c t call) xs
  pub spared : spares d (operations t xs) ≡ true
  pub asks : AsksFirst xs
  pub older : KeepsOlder t xs

-- one that was refused, by no stop, and isn't taken back yet
pub record IsTurnedBack (w : World) (c t : ℕ) (d : Option ℕ) (call : Call) (xs : List Receipt) : Type 0 where
  pub work : List Receipt
  pub at : ℕ
  pub why : Why
  pub back : List Receipt
  pub is : xs ≡ work ++ (at, Meets why) ∷ back
  pub tried : AreTried w c t call work
  pub stays : StaysRefused work
  pub granted : WasGranted work
  pub cause : MetCause w c at (Calls call) (Some t) why
  pub survives : Survives w c at t call d (operations t work) why cause
  pub no_stop : is_stop why ≡ false
  pub aside : AllByRecursion (IsCutAside w c t) back
  pub older : KeepsOlder t xs

-- one whose request gave way, and whose transaction isn't taken back yet
pub record IsGivingWay (w : World) (c t : ℕ) (call : Call) (xs : List Receipt) : Type 0 where
  pub work : List Receipt
  pub refusal : Refusal
  pub back : List Receipt
  pub is : xs ≡ work ++ (refusal.at, Yields refusal) ∷ back
  pub asking : AreAsking w c t call work
  pub busy : GetsBusy w c t call refusal
  pub aside : AreAside w c t back

-- an audit began, and hasn't ended
abbrev pub IsBegun : List Receipt → Type 0
IsBegun [] = Unit {0}
IsBegun ((b, Logs AuditBegin) ∷ []) = Unit {0}
IsBegun xs = ⊥

-- a checkpoint started, its audit may have begun, and it may have been given up
abbrev pub MayBeOver : List Receipt → Type 0
MayBeOver [] = Unit {0}
MayBeOver ((n, EndsCheckpoint) ∷ []) = Unit {0}
MayBeOver xs = ⊥

abbrev pub IsStarted : List Receipt → Type 0
IsStarted [] = Unit {0}
IsStarted ((since, StartsCheckpoint) ∷ (b, Logs AuditBegin) ∷ xs) = MayBeOver xs
IsStarted ((since, StartsCheckpoint) ∷ xs) = MayBeOver xs
IsStarted xs = ⊥

-- a step of any other command does nothing before it is done
abbrev pub AreUnfinished : World → (client : ℕ) → Place → List Act → List Receipt → Type 0
AreUnfinished w c (Within t tries cs d s) (Calls call ∷ rest) xs = IsUnanswered w c t d call xs ⊎ (IsTurnedBack w c t d call xs ⊎ IsGivingWay w c t call xs)
AreUnfinished w c (Within t tries cs d s) (AbortAct ∷ rest) xs = AreAside w c t xs
AreUnfinished w c (Within t tries cs d s) [] xs = AreAside w c t xs
AreUnfinished w c (Outside s) (AuditAct ∷ rest) xs = IsBegun xs
AreUnfinished w c (Outside s) (CheckpointAct ∷ rest) xs = IsStarted xs
AreUnfinished w c place rest xs = xs ≡ []

-- ---- the steps
-- a begin stands outside, or comes again
abbrev pub MayBegin : Place → Bool → Type 0
MayBegin (Outside u) s = u ≡ s
MayBegin (Again tries h u) s = u ≡ s
MayBegin place s = ⊥

-- it comes again when the holder has ended, or when the engine is stopped, and nobody ends any more
abbrev pub WaitsNoMore : World → Place → ℕ → Why → Type 0
WaitsNoMore w place n (StoppedBy cause) = Unit {0}
WaitsNoMore w (Again tries h u) n why = HasEndedBy w h n
WaitsNoMore w place n why = Unit {0}

-- its own flush fails, or that of another client had failed
abbrev pub FindsFailure : World → (client number : ℕ) → Why → Type 0
FindsFailure w c n StoreFailed = Unit {0}
FindsFailure w c n (StoppedBy cause) = (met : HasDone w c n (Meets (StoppedBy cause))) × (has_failed w.old.vault.stopped (take met.place w.happened) ≡ true)
FindsFailure w c n why = ⊥

-- how a try that got Busy ended
abbrev pub IsEnd : World → (client txn : ℕ) → Call → Ending → Type 0
IsEnd w c t call (TakenBack n) = IsUncommitted w t n
IsEnd w c t call (LeftBehind n cause) = MetCause w c n (Calls call) (Some t) (StoppedBy cause)

abbrev pub HasCause : World → ℕ → Move → Type 0
HasCause w c (Begins t n rest) = Unit {0}
HasCause w c (BeginsAgain t n tries h rest) = HasEndedBy w h n
HasCause w c (IsRefusedBegin place s n why rest) = MayBegin place s × MetCause w c n BeginAct None why × WaitsNoMore w place n why
HasCause w c (Skips s act rest) = Unit {0}
HasCause w c (Rests t act rest) = Unit {0}
HasCause w c (Answers t tries cs d work n call a rest) = AreWork w c t call work × (spares d (operations t work) ≡ true) × StaysBack t work × WasGranted work
HasCause w c (IsRefusedCall t tries cs d s work n back call why rest) =
    AreTried w c t call work × ((met : MetCause w c n (Calls call) (Some t) why) × Survives w c n t call d (operations t work) why met) × AreAside w c t back × KeepsNothing t why (work ++ (n, Meets why) ∷ back) × StaysRefused work × AsksUnless why work
HasCause w c (Dies t tries cs d work n r call rest) = AreWork w c t call work × (operations t work + 1 ≡ d) × DiesIn w c n t r call × WasGranted work
HasCause w c (IsArmed t tries cs d s count rest) = Unit {0}
HasCause w c (GivesWay t tries cs d work call f back end rest) = AreAsking w c t call work × GetsBusy w c t call f × AreAside w c t back × IsEnd w c t call end × (tries + 1 < 1000)
HasCause w c (GivesUp t tries cs d work call f back end rest) = AreAsking w c t call work × GetsBusy w c t call f × AreAside w c t back × IsEnd w c t call end × (tries + 1 ≡ 1000)
HasCause w c (Commits t tries cs d n behind rest) = IsFlushed w n × AreBehind w c t behind
HasCause w c (CommitFails t tries cs d n m why rest) = IsLost w n × FindsFailure w c m why
HasCause w c (IsRefusedCommit t tries cs d s n why rest) = MetCause w c n CommitAct (Some t) why
HasCause w c (Aborts t tries cs d work n rest) = AreAside w c t work × IsUncommitted w t n
HasCause w c (IsRefusedAbort t tries cs d s work n why rest) = AreAside w c t work × MetCause w c n AbortAct (Some t) why
HasCause w c (Ends t tries cs d work n) = AreAside w c t work × IsUncommitted w t n
HasCause w c (StaysOpen t tries cs d s work n cause) = AreAside w c t work × MetCause w c n AbortAct (Some t) (StoppedBy cause)
HasCause w c (Pokes s n r word m rest) = r < regions w.core.system.sizes
HasCause w c (PokesNothing s r word m rest) = regions w.core.system.sizes ≤ r
HasCause w c (Audits b n rs failed rest) = IsFlushed w n
HasCause w c (IsRefusedAudit s work n why rest) = IsCutBy w false why work × MetCause w c n AuditAct None why
HasCause w c (Checkpoints since b n m until current rest) = IsFlushed w n
HasCause w c (FailsCheckpoint since b n until r rs failed rest) = IsFlushed w n
HasCause w c (IsRefusedCheckpoint s span late work n why rest) = IsCutBy w true why work × MaySpan why span work × ((met : MetCause w c n CheckpointAct None why) × IsAlone w why span met.met.place)
