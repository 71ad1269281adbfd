-- Words that were copied from regions, and wait to be written to the next image by one call of the vault.
--     IsWritten side r ws fs d     the disk d is fs with these words written to the image of this side, in the places from region r on
--     IsAtBut s B p r ws v     the vault v is at the point p, but for the write of these words to the next image: what a crash may leave spells files that
--                              came along the run's steps, and once they are written, reads give what the run says
--     IsUnderWayBut p h k r ws v   so it is with what is read of the next image
--     is_silent x              the step x calls no store
--     CopiesTell p r xs ws q   the steps xs lead from p to q: copies of the regions from r on, one after another, which tell the words ws, and
--                              between them silent ones of whomever
--     WaitBegins, SilentWaits, CopyWaits       so a vault stands before the first copy, behind each silent step, and behind the copy of one region more
--     CopiesWait               and behind a list of these
--     WriteEnds, WriteFails    the write of these words leaves the vault at the point, and its fault is the step of a head that fails
--     WaitIsRight, WriteIsRight    each disk that a crash leaves meanwhile, and inside the write, spells files that restart right
--     LateWordsGo, LateWordsFail       a vault at a point, and regions copied from there on: behind the write of their words it is where the last step led
--     IsCopyingBut .. c h ws   the checkpoint c is under way, which kept h, and the words ws of the next regions are copied and wait to be written
--     OutBegins, OutGoes, OutStays     so it is before the first copy, behind one more, and behind a step of others
--     OutEnds, OutFails, OutIsRight    the write brings it as far as its words reach; its fault ends it; a crash inside it restarts right
use Rattle.std.specs.Prelude.{◌≡◌, ℕ, ◌+◌, ◌*◌, ◌≤◌, Bool, true, false, List, [], ◌∷◌, ◌++◌, Some, IfSome, is_some, length, flat_map, slice_get, slice_set}
use Rattle.dali_record.specs.declared.records.Record.{Record}
use Rattle.dali_record.specs.Spelling.{words_bytes}
use Rattle.dali_region.specs.declared.Side.{Side}
use Rattle.dali_region.specs.State.{RegionState}
use Rattle.dali_region.specs.Answers.{is_dirty, cleaned}
use Rattle.dali_store.specs.Store.{Files as Disk, file_of, SameBut, Holds}
use Rattle.dali_store.specs.declared.store.Store.{Ghosts}
use Rattle.dali_runs.specs.State.{SystemState}
use Rattle.dali_runs.specs.Run.{no_image}
use Rattle.dali_runs.specs.Courses.{Step}
use Rattle.dali_crash.specs.Checkpoints.{Head, StoreStep, Does, Starts, Keeps, Copies, Skips, HeadFails, Finishes, Point, IsPointStep, IsPointCourse, target}
use Rattle.dali_crash.specs.StoreRuns.{StoreRun}
use Rattle.dali_crash.specs.Traces.{Start, bases_of}
use Rattle.dali_crash.specs.Disks.Disks.{image_name, AllSpell}
use Rattle.dali_crash.specs.Disks.Bridges.{TracedTo, LeavesRightAt}
use Rattle.dali_crash.specs.Disks.NewFiles.{ReadsCopies, IsUnderWay}
use Rattle.dali_crash.specs.Disks.Places.{place_of}
use Rattle.dali_core.specs.Vault.Vaulted.{Vaulted}
use Rattle.dali_core.specs.Steps.At.{IsVault, IsAt, Goes}
use Rattle.dali_core.specs.Steps.Called.{IsUnderWayIn}
use Rattle.dali_core.specs.Steps.Courses.{is_quiet}
use Rattle.dali_core.specs.Steps.Said.{TornFrom, HasWritten, WriteHasFailed}
use Rattle.dali_core.specs.Moments.{IsRightWithin}
use Rattle.dali_checkpoint.specs.Kept.{Checkpointed, side_in}
use Rattle.dali_checkpoint.specs.Running.{AreCopied, IsOf, IsCopying}
use Rattle.dali_checkpoint.specs.Laws.{EndsBy}

pub record IsWritten (side : Side) (r : ℕ) (ws : List (List ℕ)) (fs d : Disk) : Type 0 where
  pub inside : place_of r ≤ length (file_of (image_name side) fs)
  pub holds : Holds (file_of (image_name side) fs) (place_of r) (flat_map words_bytes ws) (file_of (image_name side) d)
  pub same : SameBut (image_name side) fs d

-- ---- steps that call no store
abbrev pub is_silent : StoreStep → Bool
is_silent (Does x) = is_quiet x
is_silent Starts = true
is_silent Keeps = true
is_silent (Skips r n) = true
is_silent Finishes = true
is_silent x = false

abbrev pub CopiesTell : Point → ℕ → List StoreStep → List (List ℕ) → Point → Type 0
CopiesTell p r [] ws q = (p ≡ q) × (ws ≡ [])
CopiesTell p r (Copies k n ∷ xs) ws q =
    (mid : Point) × (rest : List (List ℕ)) × (k ≡ r) × IsPointStep p (Copies k n) mid × (ws ≡ mid.told (target p) k ∷ rest) × CopiesTell mid (r + 1) xs rest q
CopiesTell p r (x ∷ xs) ws q = (mid : Point) × (is_silent x ≡ true) × IsPointStep p x mid × CopiesTell mid r xs ws q

module _ {V : Type 0} (means : Ghosts V) where
  pub record IsAtBut (s : Start) (B : List (List Record)) (p : Point) (r : ℕ) (ws : List (List ℕ)) (v : Vaulted V) : Type 0 where
    pub run : StoreRun (bases_of s) s.log no_image p
    pub vault : IsVault means.faults v p.core.vault
    pub files : IfSome (means.told v.store) (λ _. AllSpell (means.may_leave v.store) (TracedTo s B p))
    pub reads : v.stopped ≡ false → IfSome (means.told v.store) (λ fs. (d : Disk) → IsWritten (target p) r ws fs d → ReadsCopies p d)
    -- each region has its place
    pub size : length (flat_map words_bytes ws) ≡ 512 * length ws

  abbrev pub IsUnderWayBut : Point → Head → ℕ → ℕ → List (List ℕ) → V → Type 0
  IsUnderWayBut p h k r ws v = IfSome (means.told v) (λ fs. (d : Disk) → IsWritten (target p) r ws fs d → IsUnderWay p h k d)

  -- ---- before the first copy
  pub record Waits (s : Start) (B : List (List Record)) (p : Point) (r : ℕ) (v : Vaulted V) : Type 0 where
    pub is : IsAtBut s B p r [] v
    pub under_way : (h : Head) (k : ℕ) → IsUnderWayIn means p h k v.store → IsUnderWayBut p h k r [] v.store

  abbrev pub WaitBegins : Type 0
  WaitBegins = (s : Start) (B : List (List Record)) (p : Point) (r : ℕ) (v : Vaulted V) → IsAt means s B p v → Waits s B p r v

  -- ---- a step of whomever
  pub record WaitsOn (s : Start) (B : List (List Record)) (p q : Point) (r : ℕ) (ws : List (List ℕ)) (v : Vaulted V) : Type 0 where
    pub is : IsAtBut s B q r ws v
    pub under_way : (h : Head) (k : ℕ) → IsUnderWayBut p h k r ws v.store → IsUnderWayBut q h k r ws v.store

  abbrev pub SilentWaits : Type 0
  SilentWaits =
      (s : Start) (B : List (List Record)) (p q : Point) (x : StoreStep) (r : ℕ) (ws : List (List ℕ)) (v : Vaulted V) → IsAtBut s B p r ws v
      → is_silent x ≡ true → IsPointStep p x q
      → WaitsOn s B p q r ws v

  -- ---- the copy of one region more
  pub record WaitsForOne (s : Start) (B : List (List Record)) (p q : Point) (r : ℕ) (ws us : List (List ℕ)) (v : Vaulted V) : Type 0 where
    pub is : IsAtBut s B q r us v
    pub further : (h : Head) (k : ℕ) → IsUnderWayBut p h k r ws v.store → r + length ws ≤ k → IsUnderWayBut q h (r + length us) r us v.store
    pub still : (h : Head) (k : ℕ) → IsUnderWayBut p h k r ws v.store → r + length ws ≤ k → IsUnderWayBut q h k r us v.store

  abbrev pub CopyWaits : Type 0
  CopyWaits =
      (s : Start) (B : List (List Record)) (p q : Point) (r n : ℕ) (ws : List (List ℕ)) (v : Vaulted V) → IsAtBut s B p r ws v
      → IsPointStep p (Copies (r + length ws) n) q
      → WaitsForOne s B p q r ws (ws ++ q.told (target p) (r + length ws) ∷ []) v

  -- ---- any such steps
  pub record WaitsBehind (s : Start) (B : List (List Record)) (p : Point) (xs : List StoreStep) (q : Point) (r : ℕ) (ws : List (List ℕ)) (v : Vaulted V) : Type 0 where
    pub course : IsPointCourse p xs q
    pub same : target q ≡ target p
    pub is : IsAtBut s B q r ws v
    pub under_way : (h : Head) → IsUnderWayIn means p h r v.store → IsUnderWayBut q h (r + length ws) r ws v.store

  abbrev pub CopiesWait : Type 0
  CopiesWait =
      (s : Start) (B : List (List Record)) (p q : Point) (r : ℕ) (xs : List StoreStep) (ws : List (List ℕ)) (v : Vaulted V) → IsAt means s B p v
      → CopiesTell p r xs ws q
      → WaitsBehind s B p xs q r ws v

  -- ---- the write
  pub record WaitIsOver (s : Start) (B : List (List Record)) (p : Point) (r : ℕ) (ws : List (List ℕ)) (v w : Vaulted V) : Type 0 where
    pub is : IsAt means s B p w
    pub under_way : (h : Head) (k : ℕ) → IsUnderWayBut p h k r ws v.store → IsUnderWayIn means p h k w.store

  abbrev pub WriteEnds : Type 0
  WriteEnds =
      (s : Start) (B : List (List Record)) (p : Point) (r : ℕ) (ws : List (List ℕ)) (v w : Vaulted V) → IsAtBut s B p r ws v
      → HasWritten means v (image_name (target p)) (place_of r) (flat_map words_bytes ws) w
      → WaitIsOver s B p r ws v w

  -- its fault, whatever of them it wrote
  abbrev pub WriteFails : Type 0
  WriteFails =
      (s : Start) (B : List (List Record)) (p : Point) (r : ℕ) (ws : List (List ℕ)) (v w : Vaulted V) (h : Head) (at n : ℕ) → IsAtBut s B p r ws v
      → is_some p.begun ≡ true → WriteHasFailed means v (image_name (target p)) at n w
      → Goes means s p (HeadFails h (means.faults w.store)) B w

  -- ---- what a crash leaves
  abbrev pub WaitIsRight : Type 0
  WaitIsRight =
      (s : Start) (B : List (List Record)) (p : Point) (r : ℕ) (ws : List (List ℕ)) (v : Vaulted V) → IsAtBut s B p r ws v
      → IfSome (means.told v.store) (λ _. AllSpell (means.may_leave v.store) (LeavesRightAt s p))

  abbrev pub WriteIsRight : Type 0
  WriteIsRight =
      (s : Start) (B : List (List Record)) (p : Point) (r : ℕ) (ws : List (List ℕ)) (v : Vaulted V) (at n : ℕ) → IsAtBut s B p r ws v → v.stopped ≡ false
      → IfSome (means.told v.store) (λ _. AllSpell (TornFrom (means.may_leave v.store) (image_name (target p)) at n) (LeavesRightAt s p))

  -- ---- from the vault's hold to its write
  abbrev pub LateWordsGo : Type 0
  LateWordsGo =
      (s : Start) (B : List (List Record)) (p q : Point) (r : ℕ) (xs : List StoreStep) (ws : List (List ℕ)) (v w : Vaulted V) → IsAt means s B p v
      → CopiesTell p r xs ws q → HasWritten means v (image_name (target p)) (place_of r) (flat_map words_bytes ws) w
      → IsAt means s B q w × ((h : Head) → IsUnderWayIn means p h r v.store → IsUnderWayIn means q h (r + length ws) w.store)

  abbrev pub LateWordsFail : Type 0
  LateWordsFail =
      (s : Start) (B : List (List Record)) (p q : Point) (r : ℕ) (xs : List StoreStep) (ws : List (List ℕ)) (v w : Vaulted V) (h : Head) (at n : ℕ) → IsAt means s B p v
      → CopiesTell p r xs ws q → is_some q.begun ≡ true → WriteHasFailed means v (image_name (target p)) at n w
      → Goes means s q (HeadFails h (means.faults w.store)) B w

  -- ---- a checkpoint under way
  pub record IsCopyingBut (s : Start) (B : List (List Record)) (p : Point) (gs : List RegionState) (y : SystemState) (v : Vaulted V) (c : Checkpointed) (h : Head) (ws : List (List ℕ)) : Type 0 where
    pub regions : p.core.regions ≡ gs
    pub system : p.core.system ≡ y
    pub vault : IsAtBut s B p c.copied ws v
    pub none_in_hand : v.stopped ≡ false → v.flushed ≡ y.taken
    pub flag : y.checking ≡ true
    pub is : IsOf p c h
    pub copies : AreCopied p h (length p.log) (c.copied + length ws)
    pub under_way : IsUnderWayBut p h (c.copied + length ws) c.copied ws v.store

  abbrev pub OutBegins : Type 0
  OutBegins =
      (s : Start) (B : List (List Record)) (p : Point) (gs : List RegionState) (y : SystemState) (v : Vaulted V) (c : Checkpointed) (h : Head) → IsCopying means s B p gs y v c h
      → IsCopyingBut s B p gs y v c h []

  -- what `copy_out` does
  pub record WentOut (s : Start) (B : List (List Record)) (p : Point) (x : StoreStep) (gs : List RegionState) (y : SystemState) (v : Vaulted V) (c : Checkpointed) (h : Head) (ws : List (List ℕ)) : Type 0 where
    pub to : Point
    pub step : IsPointStep p x to
    pub is : IsCopyingBut s B to gs y v c h ws

  abbrev pub OutGoes : Type 0
  OutGoes =
      (s : Start) (B : List (List Record)) (p : Point) (gs : List RegionState) (y : SystemState) (v : Vaulted V) (c : Checkpointed) (h : Head) (ws : List (List ℕ)) (g : RegionState)
      → IsCopyingBut s B p gs y v c h ws → v.stopped ≡ false
      → slice_get gs (c.copied + length ws) ≡ Some g → is_dirty g (side_in c) ≡ true
      → WentOut s B p (Copies (c.copied + length ws) (length p.log)) (slice_set gs (c.copied + length ws) (cleaned (side_in c) g)) y v c h (ws ++ g.back ∷ [])

  -- a step of others that calls no store, and takes no frame
  abbrev pub OutStays : Type 0
  OutStays =
      (s : Start) (B : List (List Record)) (p q : Point) (gs : List RegionState) (y : SystemState) (v : Vaulted V) (c : Checkpointed) (h : Head) (ws : List (List ℕ)) (x : Step)
      → IsCopyingBut s B p gs y v c h ws → is_quiet x ≡ true → IsPointStep p (Does x) q → q.core.system.taken ≡ p.core.system.taken
      → IsCopyingBut s B q q.core.regions q.core.system v c h ws

  -- what `write_words` does
  abbrev pub OutEnds : Type 0
  OutEnds =
      (s : Start) (B : List (List Record)) (p : Point) (gs : List RegionState) (y : SystemState) (v w : Vaulted V) (c : Checkpointed) (h : Head) (ws : List (List ℕ)) → IsCopyingBut s B p gs y v c h ws
      → HasWritten means v (image_name (side_in c)) (place_of c.copied) (flat_map words_bytes ws) w
      → IsCopying means s B p gs y w (record c { copied = c.copied + length ws }) h

  abbrev pub OutFails : Type 0
  OutFails =
      (s : Start) (B : List (List Record)) (p : Point) (gs : List RegionState) (y : SystemState) (v w : Vaulted V) (c : Checkpointed) (h now : Head) (ws : List (List ℕ)) → IsCopyingBut s B p gs y v c h ws
      → WriteHasFailed means v (image_name (side_in c)) (place_of c.copied) (length (flat_map words_bytes ws)) w
      → EndsBy means s p (HeadFails now (means.faults w.store) ∷ []) gs y w

  abbrev pub OutIsRight : Type 0
  OutIsRight =
      (s : Start) (B : List (List Record)) (p : Point) (gs : List RegionState) (y : SystemState) (v : Vaulted V) (c : Checkpointed) (h : Head) (ws : List (List ℕ)) (at n : ℕ)
      → IsCopyingBut s B p gs y v c h ws → v.stopped ≡ false
      → IfSome (means.told v.store) (λ _. AllSpell (TornFrom (means.may_leave v.store) (image_name (side_in c)) at n) (IsRightWithin s p))
