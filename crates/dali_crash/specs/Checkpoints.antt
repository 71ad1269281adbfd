-- A core with its store: the log, the two image files and the anchor; and the steps that write to them.
--     Head                     what head and table of an image file say of the log before it
--     Copy                     a region's place in an image file: after how many records it was brought up to date,
--                              and whether an audit passed the region since
--     Point                    log, core and audits, with what the image files read, which of them is synced, and what
--                              a checkpoint knows
--     side_of n                the side of the checkpoint with the number n: A where it is odd
--     image_side c             the side of the current image after c checkpoints, if there is one
--     target p                 the side of the next checkpoint
--     head_now L c             what a checkpoint keeps, once all records are flushed
--     turned D h image         the files D once the anchor names this image
--     IsTurnedFrom, IsOverwritten          what becomes of files then, and by a write to their image
--     MayHold p side h image   what a crash may leave of an image file
--     IsUntouched L r n        no block on region r stands among the records from n on
--     IsCertified h b c        an audit passed the place, which was brought up to date since the start
--     MayTurn p h b k          the anchor may move to the image with the head h, by the audit from record b to k
--     is_of_checkpoint x       the step x of the core is a checkpoint's: its start, its end, a region's flag
--     MayWrite p               the vault runs, and a checkpoint has begun whose anchor hasn't moved
--     StoreStep, IsPointStep p x q     the kinds of step, and when one leads from p to q
--     Came p x D F             the crash image F, behind the step x at p, came from the crash image D before it
--     Inside p x D F           or F is left inside the step: what was left before, or behind it
--     IsPointCourse p xs q     these steps, one after another
--     Traced p D xs q F        so they lead from p to q, and the crash image F came along them from D
use Rattle.std.specs.Prelude.{◌≡◌, ℕ, ◌+◌, ◌%◌, ◌<◌, ◌≤◌, Bool, true, false, ◌&&◌, ◌||◌, ◌==◌, ◌⊎◌, if◌then◌else◌, List, [], ◌∷◌, Option, Some, None, is_some, map, length, drop, slice_get}
use Rattle.std.specs.List.{range_with_len}
use Rattle.dali_geometry.specs.Sizes.{Sizes}
use Rattle.dali_geometry.specs.Places.{regions}
use Rattle.dali_record.specs.declared.records.Record.{Record}
use Rattle.dali_record.specs.declared.records.Record.TheVariants.{AuditClean}
use Rattle.dali_record.specs.Epochs.{last_epoch}
use Rattle.dali_record.specs.Files.{Files, Row, table_before}
use Rattle.dali_region.specs.declared.Side.{Side}
use Rattle.dali_region.specs.declared.Side.TheVariants.{A, B}
use Rattle.dali_region.specs.State.{RegionState}
use Rattle.dali_region.specs.Answers.{is_dirty, cleaned}
use Rattle.dali_runs.specs.State.{CoreState, stable}
use Rattle.dali_runs.specs.Run.{HasRisen, blocks_on}
use Rattle.dali_runs.specs.Passes.{Audits}
use Rattle.dali_runs.specs.Keeps.{with_system, with_region}
use Rattle.dali_runs.specs.Steps.{in_checkpoint}
use Rattle.dali_runs.specs.Flushes.{with_vault, faulted}
use Rattle.dali_runs.specs.Courses.{Step, OnRegion, Passes, Checkpoints, Moment, CameBy, IsStepAt}
use Rattle.dali_runs.specs.Images.{Told}
use Rattle.dali_runs.specs.ImageSteps.{clears, same_side, told_with}

pub record Head : Type 0 where
  pub number : ℕ
  pub place : ℕ
  pub first : ℕ
  pub weight : ℕ
  pub next : ℕ
  pub table : List Row

pub record Copy : Type 0 where
  pub at : ℕ
  pub passed : Bool

pub record Point : Type 0 where
  pub log : List Record
  pub core : CoreState
  -- what each audit has passed
  pub audits : Audits
  pub told : Told
  pub heads : Side → Head
  -- whether a sync that succeeded came after the last write
  pub synced : Side → Bool
  -- what the checkpoint under way kept, until its anchor moves
  pub begun : Option Head
  pub copies : Side → ℕ → Option Copy

abbrev pub moment_of : Point → Moment
moment_of p = record { log = p.log; core = p.core; audits = p.audits }

-- ---- sides
abbrev pub side_of : ℕ → Side
side_of n = if n % 2 == 1 then A else B

abbrev pub image_side : ℕ → Option Side
image_side c = if c == 0 then None else Some (side_of c)

abbrev pub target : Point → Side
target p = side_of (p.core.vault.current + 1)

abbrev pub head_with : (Side → Head) → Side → Head → Side → Head
head_with heads side h s = if same_side s side then h else heads s

abbrev pub synced_with : (Side → Bool) → Side → Bool → Side → Bool
synced_with synced side b s = if same_side s side then b else synced s

abbrev pub copies_with : (Side → ℕ → Option Copy) → Side → ℕ → Option Copy → Side → ℕ → Option Copy
copies_with copies side r k s q = if same_side s side && (q == r) then k else copies s q

-- ---- what a checkpoint keeps, all records being flushed
abbrev pub head_now : List Record → CoreState → Head
head_now L c = record {
  number = c.vault.current + 1;
  place = c.vault.end;
  first = c.system.records;
  weight = c.system.end;
  next = c.system.next;
  table = table_before (last_epoch L) (length L);
}

-- ---- a copy that an audit passes
abbrev pub answers_none : Option RegionState → Bool
answers_none (Some g) = g.stray == 0
answers_none _ = false

-- whether the step is an audit's pass of region q that answers 0
abbrev pub passes_region : CoreState → Step → ℕ → Bool
passes_region c (Passes b r) q = (q == r) && answers_none (slice_get c.regions r)
passes_region c _ q = false

abbrev pub pass_copy : Bool → Option Copy → Option Copy
pass_copy b None = None
pass_copy b (Some k) = Some (record k { passed = k.passed || b })

abbrev pub copies_after : CoreState → Step → (Side → ℕ → Option Copy) → Side → ℕ → Option Copy
copies_after c x copies side q = pass_copy (passes_region c x q) (copies side q)

-- a checkpoint's start and end, and the clearing of a region's flag, which a copy does alone
abbrev pub is_of_checkpoint : Step → Bool
is_of_checkpoint (OnRegion r x) = clears x
is_of_checkpoint (Checkpoints under_way) = true
is_of_checkpoint _ = false

-- ---- crashes
abbrev pub image_in : Sizes → Told → Side → List (List ℕ)
image_in s told side = map (told side) (range_with_len 0 (regions s))

-- a file that isn't synced may hold anything
pub record MayHold (p : Point) (side : Side) (h : Head) (image : List (List ℕ)) : Type 0 where
  pub head_is : p.synced side ≡ true → h ≡ p.heads side
  pub image_is : p.synced side ≡ true → image ≡ image_in p.core.system.sizes p.told side

abbrev pub turned : Files → Head → List (List ℕ) → Files
turned D h image = record {
  batches = D.batches;
  gates = D.gates + 1;
  number = h.number;
  place = h.place;
  first = h.first;
  weight = h.weight;
  next = h.next;
  image = image;
  table = h.table;
}

-- F is what D is once the anchor moved to what a crash leaves of the next image
abbrev pub IsTurnedFrom : Point → Files → Files → Type 0
IsTurnedFrom p D F = (h : Head) × (image : List (List ℕ)) × MayHold p (side_of (D.gates + 1)) h image × (F ≡ turned D h image)

-- D with another image, where the anchor names the file of this side
abbrev pub IsOverwritten : Side → Files → Files → Type 0
IsOverwritten side D F = (image_side D.gates ≡ Some side) × (F.batches ≡ D.batches) × (F.gates ≡ D.gates)

-- ---- the anchor's move
-- the place was brought up to date after the checkpoint's start and before the audit's begin, and passed since
pub record IsCertified (h : Head) (b : ℕ) (c : Copy) : Type 0 where
  pub since : h.first ≤ c.at
  pub until : c.at ≤ b
  pub passed : c.passed ≡ true

-- the image is synced and has the head that was kept; the audit ended clean and its end is flushed; each region's
-- place is certified
pub record MayTurn (p : Point) (h : Head) (b k : ℕ) : Type 0 where
  pub begun : p.begun ≡ Some h
  pub head : p.heads (target p) ≡ h
  pub synced : p.synced (target p) ≡ true
  pub clean : slice_get p.log k ≡ Some (AuditClean b)
  pub ends : b ≤ k
  pub flushed : k < stable p.core
  pub copies : (r : ℕ) → r < regions p.core.system.sizes
      → (c : Copy) × (p.copies (target p) r ≡ Some c) × IsCertified h b c

-- ---- the steps
pub data StoreStep : Type 0 where
  -- one that writes no image
  Does : (step : Step) → StoreStep
  -- a checkpoint starts, where none is under way
  Starts : StoreStep
  -- it keeps the log's end, and which transactions run, under the locks of system and vault, behind a flush of all records
  Keeps : StoreStep
  -- a region that changed is written, without the updates of an open operation, and its flag cleared; no block on it stands from the record
  -- n on, so its place is up to date after n records
  Copies : (region n : ℕ) → StoreStep
  -- a region that didn't change since it was written there
  Skips : (region n : ℕ) → StoreStep
  WritesHead : (head : Head) → StoreStep
  Syncs : StoreStep
  -- the anchor moves to the image, and nothing is kept any more
  Turns : StoreStep
  -- a fault in one of these
  CopyFails : (region : ℕ) → (words : List ℕ) → (faults : ℕ) → StoreStep
  HeadFails : (head : Head) → (faults : ℕ) → StoreStep
  SyncFails : (faults : ℕ) → StoreStep
  TurnFails : (faults : ℕ) → StoreStep
  -- a checkpoint ends: its anchor has moved or failed to, or it is given up
  Finishes : StoreStep

abbrev pub with_current : CoreState → CoreState
with_current c = with_vault c (record c.vault { current = c.vault.current + 1 })

-- no block on region r stands among the records from n on
pub record IsUntouched (L : List Record) (r n : ℕ) : Type 0 where
  pub within : n ≤ length L
  pub none : blocks_on r (drop n L) ≡ 0

-- up to date after n records
abbrev pub copy_at : ℕ → Copy
copy_at n = record { at = n; passed = false }

abbrev pub with_flag : CoreState → Bool → CoreState
with_flag c under_way = with_system c (in_checkpoint c.system under_way)

-- the vault runs, and a checkpoint has begun whose anchor hasn't moved
pub record MayWrite (p : Point) : Type 0 where
  pub runs : p.core.vault.stopped ≡ false
  pub under_way : is_some p.begun ≡ true

-- the store's count of faults rose, at a call that a checkpoint made of a vault that ran
pub record IsFault (p : Point) (faults : ℕ) : Type 0 where
  pub may : MayWrite p
  pub rose : HasRisen p.core.vault.faults faults

abbrev pub with_fault : CoreState → ℕ → CoreState
with_fault c faults = with_vault c (faulted c.vault faults)

abbrev pub IsPointStep : Point → StoreStep → Point → Type 0
IsPointStep p (Does x) q =
    (is_of_checkpoint x ≡ false) × IsStepAt (moment_of p) x (moment_of q)
    × (q ≡ record p { log = q.log; core = q.core; audits = q.audits; copies = copies_after p.core x p.copies })
IsPointStep p Starts q = (p.core.system.checking ≡ false) × (q ≡ record p { core = with_flag p.core true })
IsPointStep p Keeps q =
    (p.core.vault.stopped ≡ false) × (p.core.system.checking ≡ true) × (p.begun ≡ None)
    × (stable p.core ≡ p.core.system.records)
    × (q ≡ record p { begun = Some (head_now p.log p.core) })
IsPointStep p (Copies r n) q =
    (g : RegionState) × (slice_get p.core.regions r ≡ Some g)
    × MayWrite p × (is_dirty g (target p) ≡ true) × IsUntouched p.log r n
    × (q ≡ record p {
      core = with_region p.core r (cleaned (target p) g);
      told = told_with p.told (target p) r g.back;
      synced = synced_with p.synced (target p) false;
      copies = copies_with p.copies (target p) r (Some (copy_at n));
    })
IsPointStep p (Skips r n) q =
    (g : RegionState) × (slice_get p.core.regions r ≡ Some g)
    × (is_some p.begun ≡ true) × (is_dirty g (target p) ≡ false) × IsUntouched p.log r n
    × (q ≡ record p { copies = copies_with p.copies (target p) r (Some (copy_at n)) })
IsPointStep p (WritesHead h) q =
    MayWrite p
    × (q ≡ record p { heads = head_with p.heads (target p) h; synced = synced_with p.synced (target p) false })
IsPointStep p Syncs q = MayWrite p × (q ≡ record p { synced = synced_with p.synced (target p) true })
IsPointStep p Turns q =
    (h : Head) × (b : ℕ) × (k : ℕ) × MayWrite p × MayTurn p h b k
    × (q ≡ record p { core = with_current p.core; begun = None })
IsPointStep p (CopyFails r ws n) q =
    (g : RegionState) × (slice_get p.core.regions r ≡ Some g)
    × (is_dirty g (target p) ≡ true) × IsFault p n
    × (q ≡ record p {
      core = with_fault p.core n;
      told = told_with p.told (target p) r ws;
      synced = synced_with p.synced (target p) false;
      copies = copies_with p.copies (target p) r None;
    })
IsPointStep p (HeadFails h n) q =
    IsFault p n
    × (q ≡ record p { core = with_fault p.core n; heads = head_with p.heads (target p) h; synced = synced_with p.synced (target p) false })
IsPointStep p (SyncFails n) q = IsFault p n × (q ≡ record p { core = with_fault p.core n })
IsPointStep p (TurnFails n) q =
    (h : Head) × (b : ℕ) × (k : ℕ) × IsFault p n × MayTurn p h b k
    × (q ≡ record p { core = with_fault p.core n; begun = None })
IsPointStep p Finishes q = (p.core.system.checking ≡ true) × (q ≡ record p { core = with_flag p.core false; begun = None })

abbrev pub IsPointCourse : Point → List StoreStep → Point → Type 0
IsPointCourse p [] q = p ≡ q
IsPointCourse p (x ∷ xs) q = (mid : Point) × IsPointStep p x mid × IsPointCourse mid xs q

-- ---- what a step does to one crash image
-- a write to an image may change what is read as the current one, if the anchor names its file; the anchor moves to what is read of the next
-- image
abbrev pub Came : Point → StoreStep → Files → Files → Type 0
Came p (Does x) D F = CameBy p.log p.core x D F
Came p (Copies r n) D F = (F ≡ D) ⊎ IsOverwritten (target p) D F
Came p (WritesHead h) D F = (F ≡ D) ⊎ IsOverwritten (target p) D F
Came p (CopyFails r ws n) D F = (F ≡ D) ⊎ IsOverwritten (target p) D F
Came p (HeadFails h n) D F = (F ≡ D) ⊎ IsOverwritten (target p) D F
Came p Turns D F = IsTurnedFrom p D F
Came p (TurnFails n) D F = (F ≡ D) ⊎ IsTurnedFrom p D F
Came p x D F = F ≡ D

-- inside a step a crash leaves what it left before, or what it leaves behind it
abbrev pub Inside : Point → StoreStep → Files → Files → Type 0
Inside p x D F = (F ≡ D) ⊎ Came p x D F

abbrev pub Traced : Point → Files → List StoreStep → Point → Files → Type 0
Traced p D [] q F = (p ≡ q) × (D ≡ F)
Traced p D (x ∷ xs) q F = (mid : Point) × (E : Files) × IsPointStep p x mid × Came p x D E × Traced mid E xs q F
