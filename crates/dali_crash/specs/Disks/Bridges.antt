-- From the bytes that a crash may leave of a store to crash images that came along steps. A store that tells nothing, as
-- one over real files, may leave anything: so no premise here can be met of it, and that real files behave like
-- a store that tells is trusted.
--     TracedTo start B p F     the crash image F came along steps from this start to the point p, and while the vault runs it has the batches B
--     InsideOf start p x F     it came so to p, and then inside the step x
--     ComesTo start p F        it came so to p, or inside a next step
--     LeavesRightAt start p F  F came so, and has the first records of the log, among them those that are flushed; it fits, and restarts right
--     AreRight                 each disk that a crash may leave spells such files, where it spells files that came so
--     IsRightNow               so does what reads give, where it is told
--     HaveOneLog               while the vault runs, the logs of these disks are one row of batches, which ends where the vault says
--     HaveOneAnchor            and they all have as many open gates as the vault's current number
--     StoreStarts              each disk spells files that came so, where it spells files at the start
--     FlushGoesOn, FaultGoesOn, QuietGoesOn    so it is behind a flush, behind a fault in one, and behind a step that leaves what may be left
--     InsideOf, MomentsAreRight        each disk that may be left inside a step spells such files, where it spells files that came so inside it
--     FlushIsRight, WriteIsRight       so it is inside a flush, and inside a write to the file of the next image
--     WriteGoesOn, TurnGoesOn, TurnFaultGoesOn     behind a write to an image file, behind the anchor's move, and behind a fault in it
--     HoldsNext p d            the file of the next image spells its head and its words
--     first_start, FormatStarts        behind a format each disk spells files from which a run may start
--     IsRestartedBy, RestartStarts     so it is behind a restart
--     GoesOnBy, StopsBy, IsRightIn     what a call that flushes makes of these: on Ok, in any case, and at each moment of it
--     TurnsBy, TurnStopsBy, TurnIsRightIn      what a call that moves the anchor makes of them
use Rattle.std.specs.Prelude.{◌≡◌, ◌⊎◌, ℕ, ◌≤◌, ◌<◌, ◌^◌, Bool, true, false, List, [], ◌∷◌, ◌++◌, length, sum_by, Some, Option, IfSome}
use Rattle.dali_record.specs.declared.records.Record.{Record}
use Rattle.dali_record.specs.declared.records.Record.TheVariants.{Format, Restarted}
use Rattle.dali_record.specs.Spelling.{CanBeSpelled, spelling, record_length}
use Rattle.dali_record.specs.Epochs.{last_epoch}
use Rattle.dali_record.specs.Legal.{sizes_of, Rules, rules_state}
use Rattle.dali_record.specs.Files.{Files, batch_length, next_after}
use Rattle.dali_region.specs.declared.Side.{Side}
use Rattle.dali_history.specs.Recovered.{recovered}
use Rattle.dali_crash.specs.Starts.{IsLawful}
use Rattle.dali_store.specs.Store.{Files as Disk, SameBut}
use Rattle.dali_runs.specs.State.{VaultState, stable}
use Rattle.dali_runs.specs.Run.{IsPrefix}
use Rattle.dali_runs.specs.Flushes.{frame_of, with_batch}
use Rattle.dali_runs.specs.Courses.{Flushes, Faults}
use Rattle.dali_runs.specs.Images.{Told}
use Rattle.dali_crash.specs.Checkpoints.{Head, StoreStep, Does, Copies, WritesHead, CopyFails, HeadFails, Turns, TurnFails, side_of, target, image_in, Came, Inside, IsPointStep, Point, Traced}
use Rattle.dali_crash.specs.StoreRuns.{LeavesRight}
use Rattle.dali_log.specs.Appending.{bodies_of, SomeAdded, AllAdded}
use Rattle.dali_log.specs.Formatting.{IsFormattedBy}
use Rattle.dali_log.specs.Log.{body_bytes, records_in, LogOf}
use Rattle.dali_crash.specs.Disks.Disks.{IsImageOf, image_file, image_name, Spells, AllSpell}
use Rattle.dali_log.specs.Anchors.{IsAnchor}
use Rattle.dali_log.specs.Anchors.{HasMoved, MayHaveMoved, AreAnchored}
use Rattle.dali_crash.specs.Traces.{MayRun, Start, StartsAt, bases_of, start_point}

pub record TracedTo (s : Start) (B : List (List Record)) (p : Point) (F : Files) : Type 0 where
  pub first : Files
  pub starts : StartsAt s first
  pub steps : List StoreStep
  pub trace : Traced (start_point s) first steps p F
  -- whichever steps it came along, until the vault stops
  pub batches : p.core.vault.stopped ≡ false → F.batches ≡ B

-- the crash image F came so inside the step
pub record InsideOf (s : Start) (p : Point) (x : StoreStep) (F : Files) : Type 0 where
  pub batches : List (List Record)
  pub was : Files
  pub traced : TracedTo s batches p was
  pub inside : Inside p x was F

abbrev pub ComesTo : Start → Point → Files → Type 0
ComesTo s p F = ((B : List (List Record)) × TracedTo s B p F) ⊎ ((x : StoreStep) × (q : Point) × IsPointStep p x q × InsideOf s p x F)

pub record LeavesRightAt (s : Start) (p : Point) (F : Files) : Type 0 where
  pub came : ComesTo s p F
  pub prefix : IsPrefix p.log (stable p.core) F
  pub right : LeavesRight (bases_of s) s.log p.core F

abbrev pub body_at : Point → List ℕ
body_at p = body_bytes (frame_of p.log p.core)

-- a store that was just formatted, and its vault
abbrev pub first_start : ℕ → ℕ → Rules → ℕ → VaultState → Told → (Side → Head) → (Side → Bool) → Start
first_start index heap g limit v told heads synced = record {
  log = Format index heap ∷ [];
  rules = g;
  limit = limit;
  vault = v;
  told = told;
  heads = heads;
  synced = synced;
}

pub record IsNewVault (v : VaultState) : Type 0 where
  pub runs : v.stopped ≡ false
  pub flushed : v.flushed ≡ 0
  pub faults : v.faults_then ≤ v.faults
  pub faults_fit : v.faults_then < 2 ^ 64
  pub end : v.end ≡ 15
  pub current : v.current ≡ 0

-- a step that writes to the file of the next image
abbrev pub is_image_write : StoreStep → Bool
is_image_write (Copies r n) = true
is_image_write (WritesHead h) = true
is_image_write (CopyFails r ws n) = true
is_image_write (HeadFails h n) = true
is_image_write _ = false

-- the file of the next image spells its head and its words
abbrev pub HoldsNext : Point → Disk → Type 0
HoldsNext p d = IsImageOf p.core.system.sizes (image_file (target p) d) (p.heads (target p)) (image_in p.core.system.sizes p.told (target p))

-- the batches behind the flush at p
abbrev pub batches_on : List (List Record) → Point → List (List Record)
batches_on B p = with_batch B (frame_of p.log p.core)

module _ (old : Disk → Type 0) where
  abbrev pub AreRight : Type 0
  AreRight = (s : Start) (B : List (List Record)) (p : Point) → AllSpell old (TracedTo s B p) → AllSpell old (LeavesRightAt s p)

  abbrev pub HaveOneLog : Type 0
  HaveOneLog =
      (s : Start) (B : List (List Record)) (p : Point) → AllSpell old (TracedTo s B p) → p.core.vault.stopped ≡ false
      → (d : Disk) → old d → LogOf d.log B p.core.vault.end

  abbrev pub HaveOneAnchor : Type 0
  HaveOneAnchor =
      (s : Start) (B : List (List Record)) (p : Point) → AllSpell old (TracedTo s B p) → p.core.vault.stopped ≡ false
      → AreAnchored old p.core.vault.current

  abbrev pub StoreStarts : Type 0
  StoreStarts = (s : Start) (B : List (List Record)) → AllSpell old (λ F. StartsAt s F × (F.batches ≡ B)) → AllSpell old (TracedTo s B (start_point s))

  -- a moment inside a flush
  abbrev pub FlushIsRight : Type 0
  FlushIsRight =
      (s : Start) (B : List (List Record)) (p q : Point) → AllSpell old (TracedTo s B p) → IsPointStep p (Does Flushes) q
      → AllSpell (SomeAdded old p.core.vault.end (bodies_of (body_at p))) (LeavesRightAt s p)

  -- and inside a write to the file of the next image
  abbrev pub WriteIsRight : Type 0
  WriteIsRight =
      (s : Start) (B : List (List Record)) (p : Point) → AllSpell old (TracedTo s B p) → p.core.vault.stopped ≡ false
      → AllSpell (λ c. (d : Disk) × old d × SameBut (image_name (target p)) d c) (LeavesRightAt s p)

-- `since` is what a crash at some moment inside a step might have left
module _ (since : Disk → Type 0) where
  abbrev pub MomentsAreRight : Type 0
  MomentsAreRight =
      (s : Start) (p q : Point) (x : StoreStep) → IsPointStep p x q
      → AllSpell since (InsideOf s p x)
      → AllSpell since (LeavesRightAt s p)

module _ (told : Option Disk) (old : Disk → Type 0) where
  -- what reads give, where it is told
  abbrev pub IsRightNow : Type 0
  IsRightNow = (s : Start) (B : List (List Record)) (p : Point) → AllSpell old (TracedTo s B p) → IfSome told (λ fs. (F : Files) × Spells fs F × LeavesRightAt s p F)

module _ (old new : Disk → Type 0) where
  abbrev pub FlushGoesOn : Type 0
  FlushGoesOn =
      (s : Start) (B : List (List Record)) (p q : Point) → AllSpell old (TracedTo s B p) → IsPointStep p (Does Flushes) q
      → ((c : Disk) → new c → AllAdded old p.core.vault.end (bodies_of (body_at p)) c)
      → AllSpell new (TracedTo s (batches_on B p) q)

  abbrev pub FaultGoesOn : Type 0
  FaultGoesOn =
      (s : Start) (B : List (List Record)) (p q : Point) (n : ℕ) → AllSpell old (TracedTo s B p) → IsPointStep p (Does (Faults n)) q
      → ((c : Disk) → new c → SomeAdded old p.core.vault.end (bodies_of (body_at p)) c)
      → AllSpell new (TracedTo s B q)

  -- a step behind which each crash image may be one from before
  abbrev pub QuietGoesOn : Type 0
  QuietGoesOn =
      (s : Start) (B : List (List Record)) (p q : Point) (x : StoreStep) → AllSpell old (TracedTo s B p) → IsPointStep p x q
      → ((F : Files) → Came p x F F)
      → ((c : Disk) → new c → old c)
      → AllSpell new (TracedTo s B q)

  -- a write to the file of the next image, or a fault in it, leaves each other file
  abbrev pub WriteGoesOn : Type 0
  WriteGoesOn =
      (s : Start) (B : List (List Record)) (p q : Point) (x : StoreStep) → AllSpell old (TracedTo s B p) → IsPointStep p x q
      → is_image_write x ≡ true
      → ((c : Disk) → new c → (d : Disk) × old d × SameBut (image_name (target p)) d c)
      → AllSpell new (TracedTo s B q)

  -- the anchor has one gate more; whatever a crash leaves, the file of the next image spells what it reads
  abbrev pub TurnGoesOn : Type 0
  TurnGoesOn =
      (s : Start) (B : List (List Record)) (p q : Point) → AllSpell old (TracedTo s B p) → IsPointStep p Turns q
      → ((d : Disk) → old d → HoldsNext p d)
      → ((c : Disk) → new c → HasMoved old p.core.vault.current c)
      → AllSpell new (TracedTo s B q)

  -- or as many as before
  abbrev pub TurnFaultGoesOn : Type 0
  TurnFaultGoesOn =
      (s : Start) (B : List (List Record)) (p q : Point) (n : ℕ) → AllSpell old (TracedTo s B p) → IsPointStep p (TurnFails n) q
      → ((d : Disk) → old d → HoldsNext p d)
      → ((c : Disk) → new c → MayHaveMoved old p.core.vault.current c)
      → AllSpell new (TracedTo s B q)

  -- behind a format
  abbrev pub FormatStarts : Type 0
  FormatStarts =
      (index heap : ℕ) (g : Rules) (limit : ℕ) (v : VaultState) (told : Told) (heads : Side → Head) (synced : Side → Bool)
      → CanBeSpelled (Format index heap) → rules_state (record { index = index; heap = heap }) (Format index heap ∷ []) ≡ Some g
      → limit ≤ 268435456 → IsNewVault v
      → ((c : Disk) → new c → IsFormattedBy old (spelling (Format index heap)) c)
      → AllSpell new (TracedTo (first_start index heap g limit v told heads synced) ((Format index heap ∷ []) ∷ []) (start_point (first_start index heap g limit v told heads synced)))

-- ---- behind a restart
abbrev pub restarted_records : List (List Record) → List ℕ → List ℕ → List Record
restarted_records older rolled deleted = records_in older ++ Restarted rolled deleted ∷ []

-- head and table of the image that a restart writes: it stands before the batch of the Restarted
abbrev pub closed_head : ℕ → List (List Record) → Head
closed_head n older = record {
  number = n;
  place = sum_by batch_length older;
  first = length (records_in older);
  weight = sum_by record_length (records_in older);
  next = next_after (records_in older);
  table = [];
}

-- the log of a disk has the batches of an older one, whose last epoch had a record, and one of Restarted alone; and the n-th image, which
-- the anchor names, is the one that the restart came to
pub record IsRestartedBy (older : List (List Record)) (rolled deleted : List ℕ) (n : ℕ) (c : Disk) : Type 0 where
  pub end : ℕ
  pub log : LogOf c.log (older ++ (Restarted rolled deleted ∷ []) ∷ []) end
  pub anchor : IsAnchor c.anchor n
  pub some : 0 < n
  pub image : IsImageOf (sizes_of (restarted_records older rolled deleted)) (image_file (side_of n) c) (closed_head n older) (recovered (sizes_of (restarted_records older rolled deleted)) (restarted_records older rolled deleted))

module _ (new : Disk → Type 0) where
  abbrev pub RestartStarts : Type 0
  RestartStarts =
      (s : Start) (older : List (List Record)) (rolled deleted : List ℕ) (r : Record) (E : List Record) → IsLawful s.log
      → s.log ≡ restarted_records older rolled deleted → (last_epoch (records_in older)).records ≡ r ∷ E
      → rules_state (sizes_of s.log) s.log ≡ Some s.rules → s.limit ≤ 268435456 → MayRun s.log s.vault
      → s.vault.end ≡ sum_by batch_length (older ++ (Restarted rolled deleted ∷ []) ∷ [])
      → ((c : Disk) → new c → IsRestartedBy older rolled deleted s.vault.current c)
      → AllSpell new (TracedTo s (older ++ (Restarted rolled deleted ∷ []) ∷ []) (start_point s))

-- ---- what a call that flushes makes of these; `since` is what a crash at some moment of it might have left
module _ (old new : Disk → Type 0) (at : ℕ) (body : List ℕ) where
  abbrev pub GoesOnBy : Type 0
  GoesOnBy =
      (s : Start) (B : List (List Record)) (p q : Point) → AllSpell old (TracedTo s B p) → p.core.vault.end ≡ at → body_at p ≡ body
      → IsPointStep p (Does Flushes) q
      → AllSpell new (TracedTo s (batches_on B p) q)

  abbrev pub StopsBy : Type 0
  StopsBy =
      (s : Start) (B : List (List Record)) (p q : Point) (n : ℕ) → AllSpell old (TracedTo s B p) → p.core.vault.end ≡ at → body_at p ≡ body
      → IsPointStep p (Does (Faults n)) q
      → AllSpell new (TracedTo s B q)

module _ (old since : Disk → Type 0) (at : ℕ) (body : List ℕ) where
  abbrev pub IsRightIn : Type 0
  IsRightIn =
      (s : Start) (B : List (List Record)) (p q : Point) → AllSpell old (TracedTo s B p) → p.core.vault.end ≡ at → body_at p ≡ body
      → IsPointStep p (Does Flushes) q
      → AllSpell since (LeavesRightAt s p)

-- ---- the same of a call that moves the anchor from n open gates to one more
module _ (old new : Disk → Type 0) (n : ℕ) where
  abbrev pub TurnsBy : Type 0
  TurnsBy =
      (s : Start) (B : List (List Record)) (p q : Point) → AllSpell old (TracedTo s B p) → p.core.vault.current ≡ n
      → ((d : Disk) → old d → HoldsNext p d)
      → IsPointStep p Turns q
      → AllSpell new (TracedTo s B q)

  abbrev pub TurnStopsBy : Type 0
  TurnStopsBy =
      (s : Start) (B : List (List Record)) (p q : Point) (k : ℕ) → AllSpell old (TracedTo s B p) → p.core.vault.current ≡ n
      → ((d : Disk) → old d → HoldsNext p d)
      → IsPointStep p (TurnFails k) q
      → AllSpell new (TracedTo s B q)

module _ (old since : Disk → Type 0) (n : ℕ) where
  abbrev pub TurnIsRightIn : Type 0
  TurnIsRightIn =
      (s : Start) (B : List (List Record)) (p q : Point) → AllSpell old (TracedTo s B p) → p.core.vault.current ≡ n
      → ((d : Disk) → old d → HoldsNext p d)
      → IsPointStep p Turns q
      → AllSpell since (LeavesRightAt s p)
