-- A whole checkpoint by a thread that has a core to itself.
--     failing_in gs            the regions whose words differ from their codeword, ascending
--     with_audit y found       the log with an audit's begin and end behind what stood there
--     behind_checkpoint y found    the system behind a checkpoint whose audit found these regions, all records flushed
--     checkpointed side gs     the regions behind a copy of each to the image of this side, and a check of each
--     checkpoint_calls y side gs   how many calls of the store a checkpoint makes that ends well
--     SameLog y z              the system z has the log and the table of y
--     HasNotMade .. e ..       why a checkpoint made no image, and what is left: a line for each error
--     LeadsIdle gs y v hs z w  where a core stands at a point of a run with no checkpoint under way, steps lead to such a point again
--     StaysRight gs y v w      there each disk that a crash at any moment from v to w leaves spells files that restart right at a point to which steps lead
--     HasCopied, HasNotCopied, AuditLeft, HasImage, HasNoImage, HasMade, HasEndedBy   what the parts of one leave
use Rattle.std.specs.Prelude.{◌≡◌, ◌≤◌, ◌^◌, ◌⊎◌, ℕ, ◌+◌, true, false, List, [], Option, Some, None, IfSome, IsSome, is_some, map, length}
use Rattle.dali_record.specs.declared.records.Record.{Record}
use Rattle.dali_record.specs.declared.records.Record.TheVariants.{AuditBegin}
use Rattle.dali_region.specs.declared.Hold.{Hold}
use Rattle.dali_region.specs.declared.Side.{Side}
use Rattle.dali_region.specs.State.{RegionState, checked}
use Rattle.dali_region.specs.Answers.{cleaned}
use Rattle.dali_store.specs.Store.{Files as Disk}
use Rattle.dali_store.specs.Calls.{fewer}
use Rattle.dali_store.specs.Faults.{Rose}
use Rattle.dali_runs.specs.State.{SystemState}
use Rattle.dali_runs.specs.Steps.{taken, in_checkpoint, audit_begun, audit_ended}
use Rattle.dali_system.specs.Audits.{audit_refusal}
use Rattle.dali_system.specs.declared.error.SystemError.{SystemError}
use Rattle.dali_system.specs.declared.error.SystemError.TheVariants.{Stopped as SystemStopped, LogFull as SystemFull, OutOfMemory as SystemMemory}
use Rattle.dali_audit.specs.declared.audit.Finding.{Finding}
use Rattle.dali_audit.specs.Findings.{Judged, finding_of, damaged}
use Rattle.dali_crash.specs.Checkpoints.{Head, StoreStep, Point, IsPointCourse, side_of}
use Rattle.dali_crash.specs.Traces.{Start}
use Rattle.dali_record.specs.Files.{Files}
use Rattle.dali_store.specs.declared.store.Store.{Ghosts}
use Rattle.dali_crash.specs.Disks.Disks.{Spells}
use Rattle.dali_crash.specs.Disks.Bridges.{LeavesRightAt}
use Rattle.dali_core.specs.Vault.Vaulted.{Vaulted, with_store}
use Rattle.dali_core.specs.Cores.{HoldsPlaces, IsWholeCore}
use Rattle.dali_core.specs.Moments.{flush_calls, Within}
use Rattle.dali_checkpoint.specs.Kept.{Checkpointed, side_in, cause_of}
use Rattle.dali_checkpoint.specs.Done.{Reaches}
use Rattle.dali_checkpoint.specs.Runs.{runs_in}
use Rattle.dali_checkpoint.specs.Running.{IsIdle, IsCopying, IsSettled, IsCertifiedAt}
use Rattle.dali_checkpoint.specs.Laws.{Ends}
use Rattle.dali_checkpoint.specs.declared.error.CheckpointError.{CheckpointError}
use Rattle.dali_checkpoint.specs.declared.error.CheckpointError.TheVariants.{Failed, InProgress, Stopped, LogFull, Fault, OutOfMemory}

abbrev pub found_in : RegionState → Finding
found_in g = finding_of g.stray

abbrev pub failing_in : List RegionState → List ℕ
failing_in gs = damaged (map found_in gs)

abbrev pub with_audit : SystemState → List ℕ → SystemState
with_audit y found = audit_ended (audit_begun y) y.records found

abbrev pub behind_checkpoint : SystemState → List ℕ → SystemState
behind_checkpoint y found = in_checkpoint (taken (with_audit y found)) false

abbrev pub copied_to : Side → List RegionState → List RegionState
copied_to side gs = map (cleaned side) gs

abbrev pub checkpointed : Side → List RegionState → List RegionState
checkpointed side gs = map checked (copied_to side gs)

abbrev pub checkpoint_calls : SystemState → Side → List RegionState → ℕ
checkpoint_calls y side gs = flush_calls y + 1 + runs_in side gs + (flush_calls (taken y) + 1) + (flush_calls (with_audit (taken y) []) + 5)

abbrev pub checkpoint_error : SystemError → CheckpointError
checkpoint_error (SystemStopped cause) = Stopped cause
checkpoint_error (SystemFull end limit) = LogFull end limit
checkpoint_error SystemMemory = OutOfMemory

-- the log, the table and all else of the first; what is flushed, the stop and the flag may differ
abbrev pub SameLog : SystemState → SystemState → Type 0
SameLog y z = z ≡ record y { taken = z.taken; stop = z.stop; checking = z.checking }

-- ---- why there is no image
module _ {V : Type 0} (faults : V → ℕ) (gs : List RegionState) (y : SystemState) (v : Vaulted V) where
  abbrev pub IsUnchanged : List RegionState → SystemState → Vaulted V → Type 0
  IsUnchanged hs z w = (hs ≡ gs) × (z ≡ y) × (w ≡ v)

  -- no checkpoint was under way, and none is; the engine ran, and the current image is the one that was
  abbrev pub HasRun : SystemState → Vaulted V → Type 0
  HasRun z w = (y.checking ≡ false) × (cause_of y v ≡ None) × (z.checking ≡ false) × (w.current ≡ v.current)

  abbrev pub HasNotMade : CheckpointError → List RegionState → SystemState → Vaulted V → Type 0
  HasNotMade InProgress hs z w = (y.checking ≡ true) × IsUnchanged hs z w
  HasNotMade (Stopped cause) hs z w = (y.checking ≡ false) × (cause_of y v ≡ Some cause) × IsUnchanged hs z w
  HasNotMade (Failed found) hs z w = HasRun z w × (audit_refusal y AuditBegin ≡ None) × (found ≡ failing_in gs) × (found ≡ [] → ⊥) × (z ≡ behind_checkpoint y found) × (hs ≡ checkpointed (side_of (v.current + 1)) gs) × (w.stopped ≡ false)
  HasNotMade (LogFull end limit) hs z w = HasRun z w × (audit_refusal y AuditBegin ≡ Some (SystemFull end limit)) × (cause_of z w ≡ None) × SameLog y z
  HasNotMade OutOfMemory hs z w = HasRun z w × (cause_of z w ≡ None) × (SameLog y z ⊎ SameLog (audit_begun y) z)
  HasNotMade Fault hs z w = HasRun z w × (w.stopped ≡ true) × IsSome z.stop × Rose (faults v.store) (faults w.store) × (SameLog y z ⊎ SameLog (with_audit y (failing_in gs)) z)

-- ---- as steps of a run
module _ {V : Type 0} (means : Ghosts V) where
  pub record IdleAgain (s : Start) (p : Point) (hs : List RegionState) (z : SystemState) (w : Vaulted V) : Type 0 where
    pub to : Point
    pub batches : List (List Record)
    pub steps : List StoreStep
    pub course : IsPointCourse p steps to
    pub is : IsIdle means s batches to hs z w

  abbrev pub LeadsIdle : List RegionState → SystemState → Vaulted V → List RegionState → SystemState → Vaulted V → Type 0
  LeadsIdle gs y v hs z w = (s : Start) (B : List (List Record)) (p : Point) → IsIdle means s B p gs y v → IdleAgain s p hs z w

  -- the copies
  pub record CopiedAll (s : Start) (B : List (List Record)) (p : Point) (hs : List RegionState) (y : SystemState) (w : Vaulted V) (c : Checkpointed) (h : Head) : Type 0 where
    pub to : Point
    pub steps : List StoreStep
    pub course : IsPointCourse p steps to
    pub is : IsCopying means s B to hs y w c h

  abbrev pub CopiesGo : List RegionState → Vaulted V → Checkpointed → List RegionState → Vaulted V → Checkpointed → Type 0
  CopiesGo gs v c hs w d =
      (s : Start) (B : List (List Record)) (p : Point) (y : SystemState) (h : Head) → IsCopying means s B p gs y v c h → CopiedAll s B p hs y w d h

  abbrev pub CopiesFail : List RegionState → Vaulted V → Checkpointed → List RegionState → Vaulted V → Type 0
  CopiesFail gs v c hs w = (s : Start) (B : List (List Record)) (p : Point) (y : SystemState) (h : Head) → IsCopying means s B p gs y v c h → Ends means s p hs y w

  -- the audit
  pub record AuditedAll (s : Start) (B : List (List Record)) (p : Point) (hs : List RegionState) (z : SystemState) (v : Vaulted V) (c : Checkpointed) (h : Head) (n b : ℕ) (found : List ℕ) : Type 0 where
    pub to : Point
    pub steps : List StoreStep
    pub course : IsPointCourse p steps to
    pub is : IsSettled means s B to hs z v c h n
    pub certified : found ≡ [] → IsCertifiedAt to n b

  abbrev pub AuditGoes : List RegionState → SystemState → List RegionState → SystemState → List ℕ → Type 0
  AuditGoes gs y hs z found =
      (s : Start) (B : List (List Record)) (p : Point) (v : Vaulted V) (c : Checkpointed) (h : Head) (n : ℕ) → IsSettled means s B p gs y v c h n
      → AuditedAll s B p hs z v c h n y.records found

  abbrev pub AuditFails : List RegionState → SystemState → List RegionState → SystemState → Type 0
  AuditFails gs y hs z =
      (s : Start) (B : List (List Record)) (p : Point) (v : Vaulted V) (c : Checkpointed) (h : Head) (n : ℕ) → IsSettled means s B p gs y v c h n
      → Ends means s p hs z v

  -- the whole image, and its audit
  pub record ImageMade (s : Start) (p : Point) (hs : List RegionState) (z : SystemState) (w : Vaulted V) (c : Checkpointed) (h : Head) (n : ℕ) (found : List ℕ) : Type 0 where
    pub to : Point
    pub batches : List (List Record)
    pub steps : List StoreStep
    pub course : IsPointCourse p steps to
    pub is : IsSettled means s batches to hs z w c h n
    pub certified : found ≡ [] → IsCertifiedAt to n n

  abbrev pub ImageGoes : List RegionState → SystemState → Vaulted V → Checkpointed → List RegionState → SystemState → Vaulted V → Checkpointed → List ℕ → Type 0
  ImageGoes gs y v c hs z w d found =
      (s : Start) (B : List (List Record)) (p : Point) (h : Head) → IsCopying means s B p gs y v c h → ImageMade s p hs z w d h y.records found

  abbrev pub ImageFails : List RegionState → SystemState → Vaulted V → Checkpointed → List RegionState → SystemState → Vaulted V → Type 0
  ImageFails gs y v c hs z w = (s : Start) (B : List (List Record)) (p : Point) (h : Head) → IsCopying means s B p gs y v c h → Ends means s p hs z w

-- ---- a crash inside it
pub record IsRightOnward (s : Start) (p : Point) (F : Files) : Type 0 where
  pub to : Point
  pub steps : List StoreStep
  pub course : IsPointCourse p steps to
  pub right : LeavesRightAt s to F

abbrev pub SpellsOnward : Start → Point → Disk → Type 0
SpellsOnward s p c = (F : Files) × Spells c F × IsRightOnward s p F

module _ {V : Type 0} (means : Ghosts V) where
  abbrev pub StaysRight : List RegionState → SystemState → Vaulted V → Vaulted V → Type 0
  StaysRight gs y v w =
      v.stopped ≡ false → (s : Start) (B : List (List Record)) (p : Point) → IsIdle means s B p gs y v → Within means.told means.moment means.left_since v w (SpellsOnward s p)

  abbrev pub CopiesStayRight : List RegionState → Vaulted V → Checkpointed → Vaulted V → Type 0
  CopiesStayRight gs v c w =
      v.stopped ≡ false → (s : Start) (B : List (List Record)) (p : Point) (y : SystemState) (h : Head) → IsCopying means s B p gs y v c h → Within means.told means.moment means.left_since v w (SpellsOnward s p)

  abbrev pub ImageStaysRight : List RegionState → SystemState → Vaulted V → Checkpointed → Vaulted V → Type 0
  ImageStaysRight gs y v c w =
      v.stopped ≡ false → (s : Start) (B : List (List Record)) (p : Point) (h : Head) → IsCopying means s B p gs y v c h → Within means.told means.moment means.left_since v w (SpellsOnward s p)

-- ---- what each part leaves
abbrev pub hold_on : RegionState → Option Hold
hold_on g = g.hold

abbrev pub SameTable : SystemState → SystemState → Type 0
SameTable y z = (z.sizes ≡ y.sizes) × (z.table ≡ y.table)

abbrev pub AuditLeft : List RegionState → SystemState → List RegionState → SystemState → Type 0
AuditLeft gs y hs z = ((hs ≡ gs) × (z ≡ y)) ⊎ ((audit_refusal y AuditBegin ≡ None) × (hs ≡ map checked gs) × (z ≡ audit_begun y))

abbrev pub AuditRefused : SystemState → SystemError → Type 0
AuditRefused y e = (audit_refusal y AuditBegin ≡ Some e) ⊎ ((audit_refusal y AuditBegin ≡ None) × (e ≡ SystemMemory))

module _ {V : Type 0} (means : Ghosts V) where
  pub record HasCopied (c : Checkpointed) (gs : List RegionState) (v : Vaulted V) (d : Checkpointed) (hs : List RegionState) (w : Vaulted V) : Type 0 where
    pub checkpoint : d ≡ record c { copied = length gs }
    pub regions : hs ≡ copied_to (side_in c) gs
    pub vault : w ≡ with_store v w.store
    pub kept : means.faults w.store ≡ means.faults v.store
    pub tells : is_some (means.told w.store) ≡ is_some (means.told v.store)
    pub reaches : Reaches means.told (side_in c) (length gs) w
    pub places : IfSome (means.told w.store) (HoldsPlaces hs)
    pub calls : means.lets_pass w.store ≡ fewer (runs_in (side_in c) gs) (means.lets_pass v.store)
    pub goes : CopiesGo means gs v c hs w d

  pub record HasImage (gs : List RegionState) (y : SystemState) (v : Vaulted V) (c : Checkpointed) (j : Judged) (hs : List RegionState) (z : SystemState) (w : Vaulted V) (d : Checkpointed) : Type 0 where
    pub verdict : j ≡ record { begin = y.records; failing = failing_in gs }
    pub settled : d ≡ record c { copied = length gs; settled = Some y.records }
    pub regions : hs ≡ checkpointed (side_in c) gs
    pub system : z ≡ with_audit (taken y) (failing_in gs)
    pub runs : w.stopped ≡ false
    pub current : w.current ≡ v.current
    pub end : w.end ≤ v.end + 2 ^ 31
    pub kept : means.faults w.store ≡ means.faults v.store
    pub tells : is_some (means.told w.store) ≡ is_some (means.told v.store)
    pub calls : means.lets_pass w.store ≡ fewer (runs_in (side_in c) gs + (flush_calls y + 1)) (means.lets_pass v.store)
    pub room : audit_refusal y AuditBegin ≡ None
    pub places : IfSome (means.told w.store) (HoldsPlaces hs)
    pub goes : ImageGoes means gs y v c hs z w d j.failing

  -- no checkpoint was under way, and the engine ran
  pub record HasMade (gs : List RegionState) (y : SystemState) (v : Vaulted V) (number : ℕ) (hs : List RegionState) (z : SystemState) (w : Vaulted V) : Type 0 where
    pub idle : y.checking ≡ false
    pub ran : cause_of y v ≡ None
    pub next : number ≡ v.current + 1
    pub current : w.current ≡ number
    pub runs : w.stopped ≡ false
    pub clean : failing_in gs ≡ []
    pub regions : hs ≡ checkpointed (side_of (v.current + 1)) gs
    pub system : z ≡ behind_checkpoint y []
    pub room : audit_refusal y AuditBegin ≡ None
    pub calls : means.lets_pass w.store ≡ fewer (checkpoint_calls y (side_of (v.current + 1)) gs) (means.lets_pass v.store)
    pub whole : IsWholeCore means.told hs z w
    pub goes : LeadsIdle means gs y v hs z w

module _ {V : Type 0} (faults : V → ℕ) where
  abbrev pub NoImageBy : SystemState → Vaulted V → CheckpointError → SystemState → Vaulted V → Checkpointed → Type 0
  NoImageBy y v Fault z w d = (w.stopped ≡ true) × (IsSome z.stop ⊎ (d.faulted ≡ true)) × Rose (faults v.store) (faults w.store) × SameLog y z
  NoImageBy y v (LogFull end limit) z w d = (audit_refusal y AuditBegin ≡ Some (SystemFull end limit)) × (cause_of z w ≡ None) × (d.faulted ≡ false) × SameLog y z
  NoImageBy y v OutOfMemory z w d = (cause_of z w ≡ None) × (d.faulted ≡ false) × (SameLog y z ⊎ SameLog (audit_begun y) z)
  NoImageBy y v e z w d = ⊥

module _ {V : Type 0} (means : Ghosts V) where
  pub record HasNotCopied (c : Checkpointed) (gs : List RegionState) (v : Vaulted V) (d : Checkpointed) (hs : List RegionState) (w : Vaulted V) : Type 0 where
    pub faulted : d.faulted ≡ true
    pub stopped : w.stopped ≡ true
    pub current : w.current ≡ v.current
    pub rose : Rose (means.faults v.store) (means.faults w.store)
    pub places : IfSome (means.told w.store) (HoldsPlaces hs)
    pub holds : map hold_on hs ≡ map hold_on gs
    pub fails : CopiesFail means gs v c hs w

  pub record HasNoImage (gs : List RegionState) (y : SystemState) (v : Vaulted V) (c : Checkpointed) (e : CheckpointError) (hs : List RegionState) (z : SystemState) (w : Vaulted V) (d : Checkpointed) : Type 0 where
    pub by : NoImageBy means.faults y v e z w d
    pub table : SameTable y z
    pub checking : z.checking ≡ y.checking
    pub current : w.current ≡ v.current
    pub holds : map hold_on hs ≡ map hold_on gs
    pub places : IfSome (means.told w.store) (HoldsPlaces hs)
    pub faulted : d.faulted ≡ true → w.stopped ≡ true
    pub fails : ImageFails means gs y v c hs z w

  pub record HasEndedBy (gs : List RegionState) (y : SystemState) (v : Vaulted V) (e : CheckpointError) (hs : List RegionState) (z : SystemState) (w : Vaulted V) : Type 0 where
    pub by : HasNotMade means.faults gs y v e hs z w
    pub whole : IsWholeCore means.told hs z w
    pub goes : LeadsIdle means gs y v hs z w
