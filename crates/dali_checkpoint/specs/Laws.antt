-- The calls of a checkpoint as steps of a run.
--     StartGoes, CopyGoes, SkipGoes, SettleGoes, CertifyGoes       what each call leaves on Ok is behind steps, and the next call's premise holds there
--     RunGoes, RunSkips        the same of a run of regions
--     WordsGo, WordsSkip       the same of words that were copied from the next regions, and of regions that are passed over, with no step between
--     OthersKeep               between them steps of others keep it, those of an audit too
--     FlushKeeps               and so does a flush of all records
--     AuditsTell               an audit that began behind the settlement and ended clean certifies it
--     StartFaults, CopyFaults, RunFaults, SettleFaults, CertifyFaults, FailureEnds, GivesUp   what each leaves otherwise is behind steps too, which they name
--     failed_start, failed_settlement, failed_certification, failure_end, giving_up           the steps, by what the call says
--     PointsTell, EndsIdle     at each of these points the flag tells whether a checkpoint is under way, so behind one that ended the next may start
--     EndIsFar                 the log's end and the number of the current image are small enough for a whole checkpoint
--     PlacesStay, PlacesGoOn   where the file of a side has the place of each region whose flag for that side is clear, it has so behind each call, and
--                              behind a copy
--     PlacesGoFar, ClearReaches     behind copies of several regions; and it reaches behind those whose flags are clear
use Rattle.std.proofs.Common.{inl, inr}
use Rattle.std.specs.Prelude.{◌≡◌, ℕ, zero, suc, ◌+◌, ◌<◌, ◌≤◌, ◌^◌, ◌⊎◌, Bool, true, false, List, [], ◌∷◌, Option, Some, IfSome, length, flat_map, slice_get, slice_set}
use Rattle.dali_geometry.specs.Places.{regions}
use Rattle.dali_record.specs.declared.records.Record.{Record}
use Rattle.dali_record.specs.Spelling.{words_bytes}
use Rattle.dali_region.specs.declared.Side.{Side}
use Rattle.dali_region.specs.State.{RegionState}
use Rattle.dali_region.specs.Answers.{is_dirty, cleaned}
use Rattle.dali_store.specs.Store.{Files as Disk}
use Rattle.dali_store.specs.declared.store.Store.{Ghosts}
use Rattle.dali_runs.specs.State.{SystemState, stable}
use Rattle.dali_runs.specs.Steps.{taken, store_stopped, in_checkpoint}
use Rattle.dali_runs.specs.Courses.{Step, Takes, Flushes, Faults, Stops, AuditBegins, AuditEnds}
use Rattle.dali_crash.specs.Checkpoints.{Head, StoreStep, Does, Starts, Keeps as KeepsAll, Copies, Skips, WritesHead, Syncs, Turns, CopyFails, HeadFails, SyncFails, TurnFails, Finishes, Point, IsPointStep, IsPointCourse, side_of}
use Rattle.dali_crash.specs.StoreRuns.{FlagTells}
use Rattle.dali_crash.specs.Traces.{Start}
use Rattle.dali_crash.specs.Disks.Disks.{image_name}
use Rattle.dali_crash.specs.Disks.Places.{place_of}
use Rattle.dali_core.specs.Vault.Vaulted.{Vaulted}
use Rattle.dali_core.specs.Steps.Said.{HasWritten, WriteHasFailed}
use Rattle.dali_core.specs.Steps.Courses.{is_quiet}
use Rattle.dali_core.specs.Cores.{IsCoreAt, HoldsPlaces}
use Rattle.dali_core.specs.Flushed.{FlushesFrame}
use Rattle.dali_checkpoint.specs.Kept.{Checkpointed, side_in, given_up}
use Rattle.dali_checkpoint.specs.Done.{Reaches, Writes, FailsToWrite, HasStarted, HasTurnedTo, FailsToTurn, HasEnded}
use Rattle.dali_core.specs.Cores.{IsNoShorter}
use Rattle.dali_checkpoint.specs.Runs.{AreNext, words_of, change, run_at, is_run_dirty, run_bytes, behind_run, cleaned_run}
use Rattle.dali_checkpoint.specs.Running.{PassesTell, IsCertifiedAt, IsIdle, IsCopying, IsSettled}
use Rattle.dali_checkpoint.specs.declared.error.CheckpointError.{CheckpointError}
use Rattle.dali_checkpoint.specs.declared.error.CheckpointError.TheVariants.{Fault}

-- ---- an audit behind the settlement: before its passes nothing is to be told, and a clean end certifies each copy
pub record AuditTells (p q : Point) (b : ℕ) : Type 0 where
  pub begins : IsPointStep p (Does AuditBegins) q → PassesTell q p.core.system.records
  pub ends : (n : ℕ) → IsPointStep p (Does (AuditEnds b [])) q → n ≤ b → PassesTell p b → IsCertifiedAt q n b

abbrev pub AuditsTell : Type 0
AuditsTell = (p q : Point) (b : ℕ) → AuditTells p q b

-- ---- the copies of n regions from r on, which hold the updates of the first k records
abbrev pub copy_steps : ℕ → ℕ → ℕ → List StoreStep
copy_steps r zero k = []
copy_steps r (suc n) k = Copies r k ∷ copy_steps (r + 1) n k

abbrev pub skip_steps : ℕ → ℕ → ℕ → List StoreStep
skip_steps r zero k = []
skip_steps r (suc n) k = Skips r k ∷ skip_steps (r + 1) n k

-- ---- the steps of a call that fails, where the store's count of faults is f behind it: in its flush, or in what it does then
abbrev pub failed_start : {X Y : Type 0} → Head → ℕ → X ⊎ Y → List StoreStep
failed_start h f (inl flush) = Starts ∷ Does Takes ∷ Does (Faults f) ∷ Does Stops ∷ Finishes ∷ []
failed_start h f (inr write) = Starts ∷ Does Takes ∷ Does Flushes ∷ KeepsAll ∷ HeadFails h f ∷ Does Stops ∷ Finishes ∷ []

abbrev pub failed_settlement : {X Y : Type 0} → Head → ℕ → X ⊎ Y → List StoreStep
failed_settlement h f (inl flush) = Does Takes ∷ Does (Faults f) ∷ Does Stops ∷ []
failed_settlement h f (inr write) = Does Takes ∷ Does Flushes ∷ HeadFails h f ∷ Does Stops ∷ []

abbrev pub failed_certification : {X Y Z : Type 0} → ℕ → X ⊎ (Y ⊎ Z) → List StoreStep
failed_certification f (inl flush) = Does Takes ∷ Does (Faults f) ∷ Does Stops ∷ Finishes ∷ []
failed_certification f (inr (inl sync)) = Does Takes ∷ Does Flushes ∷ SyncFails f ∷ Does Stops ∷ Finishes ∷ []
failed_certification f (inr (inr turn)) = Does Takes ∷ Does Flushes ∷ Syncs ∷ TurnFails f ∷ Does Stops ∷ Finishes ∷ []

-- ---- those of an end without an image: behind an audit that failed, and of a checkpoint that is given up
abbrev pub lost_end : ℕ → CheckpointError → List StoreStep
lost_end f Fault = Does Takes ∷ Does (Faults f) ∷ Does Stops ∷ Finishes ∷ []
lost_end f e = Finishes ∷ []

abbrev pub failure_end : {X Y : Type 0} {P : CheckpointError → Type 0} → ℕ → (X ⊎ Y) ⊎ ((e : CheckpointError) × P e) → List StoreStep
failure_end f (inl (inl none)) = Finishes ∷ []
failure_end f (inl (inr flush)) = Does Takes ∷ Does Flushes ∷ Finishes ∷ []
failure_end f (inr lost) = lost_end f lost.0

abbrev pub giving_up : Bool → List StoreStep
giving_up true = Does Stops ∷ Finishes ∷ []
giving_up false = Finishes ∷ []

module _ {V : Type 0} (means : Ghosts V) where
  -- ---- a start
  pub record Started (s : Start) (p : Point) (gs : List RegionState) (y z : SystemState) (w : Vaulted V) (c : Checkpointed) : Type 0 where
    pub to : Point
    pub batches : List (List Record)
    pub head : Head
    pub course : IsPointCourse p (Starts ∷ Does Takes ∷ Does Flushes ∷ KeepsAll ∷ WritesHead head ∷ []) to
    pub is : IsCopying means s batches to gs z w c head
    -- the image knows of no fewer records than there were
    pub first : head.first ≡ y.records

  abbrev pub StartGoes : Type 0
  StartGoes =
      (s : Start) (B : List (List Record)) (p : Point) (gs : List RegionState) (y z : SystemState) (v w : Vaulted V) (c : Checkpointed)
      → IsIdle means s B p gs y v → HasStarted means y v c w → z ≡ in_checkpoint (taken y) true
      → Started s p gs y z w c

  -- ---- a copy
  pub record Went (s : Start) (B : List (List Record)) (p : Point) (x : StoreStep) (gs : List RegionState) (y : SystemState) (w : Vaulted V) (c : Checkpointed) (h : Head) : Type 0 where
    pub to : Point
    pub step : IsPointStep p x to
    pub is : IsCopying means s B to gs y w c h

  abbrev pub CopyGoes : Type 0
  CopyGoes =
      (s : Start) (B : List (List Record)) (p : Point) (gs : List RegionState) (y : SystemState) (v w : Vaulted V) (c : Checkpointed) (h : Head) (g : RegionState)
      → IsCopying means s B p gs y v c h
      → slice_get gs c.copied ≡ Some g → is_dirty g (side_in c) ≡ true
      → HasWritten means v (image_name (side_in c)) (place_of c.copied) (words_bytes g.back) w
      → Went s B p (Copies c.copied (length p.log)) (slice_set gs c.copied (cleaned (side_in c) g)) y w (record c { copied = c.copied + 1 }) h

  abbrev pub SkipGoes : Type 0
  SkipGoes =
      (s : Start) (B : List (List Record)) (p : Point) (gs : List RegionState) (y : SystemState) (v : Vaulted V) (c : Checkpointed) (h : Head) (g : RegionState)
      → IsCopying means s B p gs y v c h
      → slice_get gs c.copied ≡ Some g → is_dirty g (side_in c) ≡ false → Reaches means.told (side_in c) (c.copied + 1) v
      → Went s B p (Skips c.copied (length p.log)) gs y v (record c { copied = c.copied + 1 }) h

  -- ---- a run, by one call of the store
  pub record WentOver (s : Start) (B : List (List Record)) (p : Point) (xs : List StoreStep) (gs : List RegionState) (y : SystemState) (w : Vaulted V) (c : Checkpointed) (h : Head) : Type 0 where
    pub to : Point
    pub course : IsPointCourse p xs to
    pub is : IsCopying means s B to gs y w c h

  abbrev pub RunGoes : Type 0
  RunGoes =
      (s : Start) (B : List (List Record)) (p : Point) (gs : List RegionState) (y : SystemState) (v w : Vaulted V) (c : Checkpointed) (h : Head)
      → IsCopying means s B p gs y v c h → is_run_dirty c gs ≡ true
      → HasWritten means v (image_name (side_in c)) (place_of c.copied) (run_bytes c gs) w
      → WentOver s B p (copy_steps c.copied (run_at c gs) (length p.log)) (cleaned_run c gs) y w (behind_run c gs) h

  abbrev pub RunSkips : Type 0
  RunSkips =
      (s : Start) (B : List (List Record)) (p : Point) (gs : List RegionState) (y : SystemState) (v : Vaulted V) (c : Checkpointed) (h : Head)
      → IsCopying means s B p gs y v c h → is_run_dirty c gs ≡ false → Reaches means.told (side_in c) (c.copied + run_at c gs) v
      → WentOver s B p (skip_steps c.copied (run_at c gs) (length p.log)) gs y v (behind_run c gs) h

  -- ---- words of the next regions, by one call of the store
  abbrev pub WordsGo : Type 0
  WordsGo =
      (s : Start) (B : List (List Record)) (p : Point) (gs : List RegionState) (y : SystemState) (v w : Vaulted V) (c : Checkpointed) (h : Head) (g : RegionState) (rest : List RegionState)
      → IsCopying means s B p gs y v c h → AreNext (side_in c) true gs c.copied (g ∷ rest)
      → HasWritten means v (image_name (side_in c)) (place_of c.copied) (flat_map words_bytes (words_of (g ∷ rest))) w
      → WentOver s B p (copy_steps c.copied (suc (length rest)) (length p.log)) (change (cleaned (side_in c)) c.copied (suc (length rest)) gs) y w (record c { copied = c.copied + suc (length rest) }) h

  abbrev pub WordsSkip : Type 0
  WordsSkip =
      (s : Start) (B : List (List Record)) (p : Point) (gs : List RegionState) (y : SystemState) (v : Vaulted V) (c : Checkpointed) (h : Head) (run : List RegionState)
      → IsCopying means s B p gs y v c h → AreNext (side_in c) false gs c.copied run → Reaches means.told (side_in c) (c.copied + length run) v
      → WentOver s B p (skip_steps c.copied (length run) (length p.log)) gs y v (record c { copied = c.copied + length run }) h

  -- ---- a settlement
  pub record HasSettled (s : Start) (p : Point) (gs : List RegionState) (z : SystemState) (w : Vaulted V) (c : Checkpointed) (h : Head) (n : ℕ) : Type 0 where
    pub to : Point
    pub batches : List (List Record)
    pub course : IsPointCourse p (Does Takes ∷ Does Flushes ∷ WritesHead h ∷ []) to
    pub is : IsSettled means s batches to gs z w c h n

  abbrev pub SettleGoes : Type 0
  SettleGoes =
      (s : Start) (B : List (List Record)) (p : Point) (gs : List RegionState) (y z : SystemState) (v w : Vaulted V) (c : Checkpointed) (h : Head)
      → IsCopying means s B p gs y v c h → c.copied ≡ regions c.header.geometry
      → Writes means y v (image_name (side_in c)) (place_of c.copied) c.table w → z ≡ taken y
      → HasSettled s p gs z w (record c { settled = Some y.records }) h y.records

  -- ---- between the calls: a step of others that calls no store, and takes no frame
  pub record Keeps (s : Start) (B : List (List Record)) (p q : Point) (v : Vaulted V) : Type 0 where
    pub idle : (gs : List RegionState) (y : SystemState) → IsIdle means s B p gs y v → IsIdle means s B q q.core.regions q.core.system v
    pub copying : (gs : List RegionState) (y : SystemState) (c : Checkpointed) (h : Head) → IsCopying means s B p gs y v c h
        → IsCopying means s B q q.core.regions q.core.system v c h
    pub settled : (gs : List RegionState) (y : SystemState) (c : Checkpointed) (h : Head) (n : ℕ) → IsSettled means s B p gs y v c h n
        → IsSettled means s B q q.core.regions q.core.system v c h n
    pub passes : (gs : List RegionState) (y : SystemState) (c : Checkpointed) (h : Head) (n b : ℕ) → IsSettled means s B p gs y v c h n → PassesTell p b → PassesTell q b
    pub certified : (n b : ℕ) → IsCertifiedAt p n b → IsCertifiedAt q n b

  abbrev pub OthersKeep : Type 0
  OthersKeep =
      (s : Start) (B : List (List Record)) (p q : Point) (v : Vaulted V) (x : Step) → is_quiet x ≡ true → IsPointStep p (Does x) q → q.core.system.taken ≡ p.core.system.taken
      → Keeps s B p q v

  -- a flush of all records, by others too
  pub record Onward (p : Point) (P : List (List Record) → Point → Type 0) : Type 0 where
    pub to : Point
    pub batches : List (List Record)
    pub course : IsPointCourse p (Does Takes ∷ Does Flushes ∷ []) to
    pub is : P batches to

  pub record KeepsOverFlush (s : Start) (B : List (List Record)) (p : Point) (gs : List RegionState) (y : SystemState) (v w : Vaulted V) : Type 0 where
    pub idle : IsIdle means s B p gs y v → Onward p (λ C q. IsIdle means s C q gs (taken y) w)
    pub copying : (c : Checkpointed) (h : Head) → IsCopying means s B p gs y v c h → Onward p (λ C q. IsCopying means s C q gs (taken y) w c h)
    -- and what an audit has means.told so far
    pub settled : (c : Checkpointed) (h : Head) (n : ℕ) → IsSettled means s B p gs y v c h n
        → Onward p (λ C q. IsSettled means s C q gs (taken y) w c h n × ((b : ℕ) → PassesTell p b → PassesTell q b) × ((m b : ℕ) → IsCertifiedAt p m b → IsCertifiedAt q m b))

  abbrev pub FlushKeeps : Type 0
  FlushKeeps = (s : Start) (B : List (List Record)) (p : Point) (gs : List RegionState) (y : SystemState) (v w : Vaulted V) → FlushesFrame means y v w → KeepsOverFlush s B p gs y v w

  -- ---- the anchor
  -- the current image has the head that the checkpoint kept
  pub record HasMoved (s : Start) (p : Point) (gs : List RegionState) (z : SystemState) (w : Vaulted V) (h : Head) : Type 0 where
    pub to : Point
    pub batches : List (List Record)
    pub course : IsPointCourse p (Does Takes ∷ Does Flushes ∷ Syncs ∷ Turns ∷ Finishes ∷ []) to
    pub is : IsIdle means s batches to gs z w
    pub head : to.heads (side_of w.current) ≡ h
    pub all : stable to.core ≡ length to.log

  abbrev pub CertifyGoes : Type 0
  CertifyGoes =
      (s : Start) (B : List (List Record)) (p : Point) (gs : List RegionState) (y z : SystemState) (v w : Vaulted V) (c : Checkpointed) (h : Head) (n b : ℕ)
      → IsSettled means s B p gs y v c h n → IsCertifiedAt p n b
      → HasTurnedTo means y v (side_in c) w → z ≡ in_checkpoint (taken y) false
      → HasMoved s p gs z w h

  -- ---- what the calls leave otherwise is behind steps too
  pub record Ends (s : Start) (p : Point) (gs : List RegionState) (z : SystemState) (w : Vaulted V) : Type 0 where
    pub to : Point
    pub batches : List (List Record)
    pub steps : List StoreStep
    pub course : IsPointCourse p steps to
    pub at : IsCoreAt means s batches to gs z w

  -- behind these
  pub record EndsBy (s : Start) (p : Point) (xs : List StoreStep) (gs : List RegionState) (z : SystemState) (w : Vaulted V) : Type 0 where
    pub to : Point
    pub batches : List (List Record)
    pub course : IsPointCourse p xs to
    pub at : IsCoreAt means s batches to gs z w

  abbrev pub StartFaults : Type 0
  StartFaults =
      (s : Start) (B : List (List Record)) (p : Point) (gs : List RegionState) (y : SystemState) (v w : Vaulted V) → IsIdle means s B p gs y v
      → (said : FailsToWrite means y v (image_name (side_of (v.current + 1))) 0 64 w)
      → (h : Head) × EndsBy s p (failed_start h (means.faults w.store) said) gs (store_stopped (taken y)) w

  abbrev pub CopyFaults : Type 0
  CopyFaults =
      (s : Start) (B : List (List Record)) (p : Point) (gs : List RegionState) (y : SystemState) (v w : Vaulted V) (c : Checkpointed) (h : Head) (g : RegionState)
      → IsCopying means s B p gs y v c h → slice_get gs c.copied ≡ Some g → is_dirty g (side_in c) ≡ true
      → WriteHasFailed means v (image_name (side_in c)) (place_of c.copied) (length (words_bytes g.back)) w
      → EndsBy s p (CopyFails c.copied [] (means.faults w.store) ∷ []) gs y w

  -- a run: the whole file may hold anything, as behind a write of its header that fails
  abbrev pub RunFaults : Type 0
  RunFaults =
      (s : Start) (B : List (List Record)) (p : Point) (gs : List RegionState) (y : SystemState) (v w : Vaulted V) (c : Checkpointed) (h : Head)
      → IsCopying means s B p gs y v c h
      → WriteHasFailed means v (image_name (side_in c)) (place_of c.copied) (length (run_bytes c gs)) w
      → EndsBy s p (HeadFails h (means.faults w.store) ∷ []) gs y w

  abbrev pub SettleFaults : Type 0
  SettleFaults =
      (s : Start) (B : List (List Record)) (p : Point) (gs : List RegionState) (y : SystemState) (v w : Vaulted V) (c : Checkpointed) (h : Head) (at n : ℕ)
      → IsCopying means s B p gs y v c h → (said : FailsToWrite means y v (image_name (side_in c)) at n w)
      → EndsBy s p (failed_settlement h (means.faults w.store) said) gs (store_stopped (taken y)) w

  abbrev pub CertifyFaults : Type 0
  CertifyFaults =
      (s : Start) (B : List (List Record)) (p : Point) (gs : List RegionState) (y : SystemState) (v w : Vaulted V) (c : Checkpointed) (h : Head) (n b : ℕ)
      → IsSettled means s B p gs y v c h n → IsCertifiedAt p n b → (said : FailsToTurn means y v (side_in c) w)
      → EndsBy s p (failed_certification (means.faults w.store) said) gs (in_checkpoint (store_stopped (taken y)) false) w

  -- behind an audit that failed
  abbrev pub FailureEnds : Type 0
  FailureEnds =
      (s : Start) (B : List (List Record)) (p : Point) (gs : List RegionState) (y z : SystemState) (v w : Vaulted V) → IsCoreAt means s B p gs y v
      → y.checking ≡ true → (said : HasEnded means y v z w)
      → EndsBy s p (failure_end (means.faults w.store) said) gs z w

  -- a call of the store has failed, where the checkpoint says so
  abbrev pub GivesUp : Type 0
  GivesUp =
      (s : Start) (B : List (List Record)) (p : Point) (gs : List RegionState) (y : SystemState) (v : Vaulted V) (failed : Bool) → IsCoreAt means s B p gs y v
      → y.checking ≡ true → (failed ≡ true → v.stopped ≡ true)
      → EndsBy s p (giving_up failed) gs (given_up failed y) v

  -- ---- at each of these points the flag tells whether a checkpoint is under way
  pub record PointTells (s : Start) (B : List (List Record)) (p : Point) (gs : List RegionState) (y : SystemState) (v : Vaulted V) : Type 0 where
    pub idle : IsIdle means s B p gs y v → FlagTells p
    pub copying : (c : Checkpointed) (h : Head) → IsCopying means s B p gs y v c h → FlagTells p
    pub settled : (c : Checkpointed) (h : Head) (n : ℕ) → IsSettled means s B p gs y v c h n → FlagTells p
    pub under_way : IsCoreAt means s B p gs y v → y.checking ≡ true → FlagTells p

  abbrev pub PointsTell : Type 0
  PointsTell = (s : Start) (B : List (List Record)) (p : Point) (gs : List RegionState) (y : SystemState) (v : Vaulted V) → PointTells s B p gs y v

  -- so where a checkpoint has ended, the next one may start
  abbrev pub EndsIdle : Type 0
  EndsIdle =
      (s : Start) (p : Point) (gs : List RegionState) (z : SystemState) (w : Vaulted V) → FlagTells p → (e : Ends s p gs z w) → z.checking ≡ false
      → IsIdle means s e.batches e.to gs z w

  -- a core of a run may be asked for a whole checkpoint
  abbrev pub EndIsFar : Type 0
  EndIsFar =
      (s : Start) (B : List (List Record)) (p : Point) (gs : List RegionState) (y : SystemState) (v : Vaulted V) → IsCoreAt means s B p gs y v
      → (v.end < 2 ^ 61) × (v.current < 2 ^ 62)

  -- ---- the places of the regions
  abbrev pub PlacesStay : Type 0
  PlacesStay = (gs : List RegionState) (v w : Vaulted V) → IsNoShorter means.told v w → IfSome (means.told v.store) (HoldsPlaces gs) → IfSome (means.told w.store) (HoldsPlaces gs)

  abbrev pub PlacesGoOn : Type 0
  PlacesGoOn =
      (gs : List RegionState) (r : ℕ) (side : Side) (g : RegionState) (v w : Vaulted V) → slice_get gs r ≡ Some g → IsNoShorter means.told v w → Reaches means.told side (r + 1) w
      → IfSome (means.told v.store) (HoldsPlaces gs) → IfSome (means.told w.store) (HoldsPlaces (slice_set gs r (cleaned side g)))

  abbrev pub PlacesGoFar : Type 0
  PlacesGoFar =
      (gs : List RegionState) (i n : ℕ) (side : Side) (v w : Vaulted V) → IsNoShorter means.told v w → Reaches means.told side (i + n) w
      → IfSome (means.told v.store) (HoldsPlaces gs) → IfSome (means.told w.store) (HoldsPlaces (change (cleaned side) i n gs))

  abbrev pub ClearReaches : Type 0
  ClearReaches =
      (gs : List RegionState) (i : ℕ) (side : Side) (run : List RegionState) (v : Vaulted V) → AreNext side false gs i run
      → IfSome (means.told v.store) (HoldsPlaces gs) → Reaches means.told side i v → Reaches means.told side (i + length run) v
