-- How far a checkpoint has come, as the steps of the history tell it; and what is so of wherever the history has come.
--     Image                    what the table's write has ended: the heads that were written first and last, how many records stood, whether the image is
--                              synced, which audits began since, and which of these ended clean, at which record
--     Stage                    a checkpoint has started;  it keeps a head;  the header is written, and so many regions are copied or passed over;  the image is whole
--     is_of_image h L m        a copy at record m is of the image whose head is h, where the log is L
--     stage_after n L c st x   the stage behind one step, with n regions, the log L and the core c before it
--     stage_line               behind the steps of one entry
--     stage_by o T             behind a history
--     StageGoes                the stage of a history with one entry more
--     IsStage q st             so it is at the point q
--     StageStands              so it is wherever the history has come
--     StageBegins              so what a checkpoint's steps ask of what is kept
--     AreCoreSteps R           none of these entries has a step of a checkpoint
--     StageStays               entries without steps of a checkpoint leave the stage
--     StageTurns               an image that is synced, whose header and table are of the head that is kept, and which an audit passed whose end is
--                              flushed: the anchor may move
use Rattle.std.specs.Prelude.{◌≡◌, ℕ, ◌+◌, ◌<◌, ◌≤◌, Bool, true, false, ◌&&◌, ◌==◌, nat_le, if◌then◌else◌, List, [], ◌∷◌, ◌++◌, Option, Some, None, length, slice_get}
use Rattle.dali_geometry.specs.Places.{regions}
use Rattle.dali_record.specs.declared.records.Record.{Record}
use Rattle.dali_record.specs.declared.records.Record.TheVariants.{AuditClean}
use Rattle.dali_record.specs.Damage.{has}
use Rattle.dali_runs.specs.State.{CoreState, stable}
use Rattle.dali_runs.specs.Run.{Bases}
use Rattle.dali_runs.specs.Courses.{Step, AuditBegins, AuditEnds}
use Rattle.dali_crash.specs.Checkpoints.{Head, StoreStep, Does, Starts, Keeps, Copies, Skips, WritesHead, Syncs, Point, MayTurn, target, head_now}
use Rattle.dali_checkpoint.specs.Running.{AreCopied, IsPassedAt, PassesTell}
use Rattle.dali_concurrent.specs.Entries.{Entry}
use Rattle.dali_concurrent.specs.Rules.{Outset, log_by, count_of}
use Rattle.dali_concurrent.specs.Told.{Effect, Line, History, plain, core_told}
use Rattle.dali_concurrent.specs.Landing.{BeginsAt, Stands}
use Rattle.dali_concurrent.specs.Kept.{are_core_steps}
use Rattle.dali_concurrent.specs.Copying.{IsBegun}

pub record Image : Type 0 where
  pub header : Head
  pub head : Head
  pub records : ℕ
  pub synced : Bool
  pub begins : List ℕ
  pub clean : Option (ℕ × ℕ)

pub data Stage : Type 0 where
  Nowhere : Stage
  Started : Stage
  HasKept : (kept : Head) → Stage
  Copying : (kept header : Head) → (copied : ℕ) → Stage
  Settled : (kept : Head) → (image : Image) → Stage

-- ---- a step
-- an audit that begins behind the table's write, and its clean end
abbrev pub image_after : List Record → CoreState → Image → Step → Image
image_after L c i AuditBegins = record i { begins = c.system.records ∷ i.begins }
image_after L c i (AuditEnds b []) = if has i.begins b then record i { clean = Some (b, length L) } else i
image_after L c i x = i

-- a copy may be chosen before its place in the history is known: others may log records in between
abbrev pub is_of_image : Head → List Record → ℕ → Bool
is_of_image h L m = nat_le h.first m && nat_le m (length L)

abbrev pub stage_after : ℕ → List Record → CoreState → Stage → StoreStep → Stage
stage_after n L c (Settled h i) (Does x) = Settled h (image_after L c i x)
stage_after n L c st (Does x) = st
stage_after n L c st Starts = Started
stage_after n L c st Keeps = HasKept (head_now L c)
stage_after n L c (HasKept h) (WritesHead g) = Copying h g 0
stage_after n L c (Copying h g k) (WritesHead f) = if k == n then Settled h (record { header = g; head = f; records = length L; synced = false; begins = []; clean = None }) else Nowhere
stage_after n L c (Copying h g k) (Copies r m) = if (r == k) && is_of_image h L m then Copying h g (k + 1) else Nowhere
stage_after n L c (Copying h g k) (Skips r m) = if (r == k) && is_of_image h L m then Copying h g (k + 1) else Nowhere
stage_after n L c (Settled h i) Syncs = Settled h (record i { synced = true })
stage_after n L c st x = Nowhere

-- ---- an entry; of one with several steps only that none is a checkpoint's
abbrev pub stage_line : ℕ → List Record → CoreState → Stage → List StoreStep → Stage
stage_line n L c st [] = st
stage_line n L c st (x ∷ []) = stage_after n L c st x
stage_line n L c st (x ∷ y ∷ ys) = if are_core_steps (x ∷ y ∷ ys) then st else Nowhere

abbrev pub stage_from : Outset → History → Stage → History → Stage
stage_from o S st [] = st
stage_from o S st (e ∷ R) = stage_from o (S ++ e ∷ []) (stage_line (count_of o) (log_by o (plain S)) (core_told o S) st e.1.2) R

abbrev pub stage_by : Outset → History → Stage
stage_by o T = stage_from o [] Nowhere T

-- ---- one entry further
pub record StageGoes : Type 0 where
  pub one : (o : Outset) (T : History) (e : Line) → stage_by o (T ++ e ∷ []) ≡ stage_line (count_of o) (log_by o (plain T)) (core_told o T) (stage_by o T) e.1.2
  -- the next region was copied, or passed over, at a record since the head's first; others may have logged records since
  pub copied : (o : Outset) (T : History) (ks : List ℕ) (e : Entry) (f : Effect) (h g : Head) (r m : ℕ) → stage_by o T ≡ Copying h g r → h.first ≤ m → m ≤ length (log_by o (plain T))
      → stage_by o (T ++ (ks, (e, f, Copies r m ∷ [])) ∷ []) ≡ Copying h g (r + 1)
  pub skipped : (o : Outset) (T : History) (ks : List ℕ) (e : Entry) (f : Effect) (h g : Head) (r m : ℕ) → stage_by o T ≡ Copying h g r → h.first ≤ m → m ≤ length (log_by o (plain T))
      → stage_by o (T ++ (ks, (e, f, Skips r m ∷ [])) ∷ []) ≡ Copying h g (r + 1)

-- ---- what is so at a point
-- the audit from record b, behind record n, ended clean there, and each copy is passed
pub record IsCleanAt (q : Point) (n b end : ℕ) : Type 0 where
  pub behind : n ≤ b
  pub clean : slice_get q.log end ≡ Some (AuditClean b)
  pub ends : b ≤ end
  pub passed : (r : ℕ) → r < regions q.core.system.sizes → IsPassedAt q r

pub record IsImage (q : Point) (h : Head) (i : Image) : Type 0 where
  pub begun : q.begun ≡ Some h
  pub copies : AreCopied q h i.records (regions q.core.system.sizes)
  pub head : q.heads (target q) ≡ i.head
  pub within : i.records ≤ length q.log
  pub synced : i.synced ≡ true → q.synced (target q) ≡ true
  pub passes : (b : ℕ) → has i.begins b ≡ true → (i.records ≤ b) × PassesTell q b
  pub clean : (b end : ℕ) → i.clean ≡ Some (b, end) → IsCleanAt q i.records b end

abbrev pub IsStage : Point → Stage → Type 0
IsStage q Nowhere = Unit {0}
IsStage q Started = q.begun ≡ None
IsStage q (HasKept h) = q.begun ≡ Some h
IsStage q (Copying h g k) = (q.begun ≡ Some h) × AreCopied q h (length q.log) k
IsStage q (Settled h i) = IsImage q h i

abbrev pub StageStands : Type 0
StageStands = (bases : Bases) (p : Point) (o : Outset) (T : History) (q : Point) → BeginsAt bases p o → Stands bases p o T q → IsStage q (stage_by o T)

-- where it has started nothing is kept yet; then a head is
abbrev pub has_begun : Stage → Bool
has_begun Nowhere = false
has_begun Started = false
has_begun st = true

pub record StageBegins : Type 0 where
  pub none : (bases : Bases) (p : Point) (o : Outset) (T : History) → BeginsAt bases p o → stage_by o T ≡ Started → (q : Point) → Stands bases p o T q → q.begun ≡ None
  pub begun : (bases : Bases) (p : Point) (o : Outset) (T : History) → BeginsAt bases p o → has_begun (stage_by o T) ≡ true → IsBegun bases p o T

-- ---- entries of others
abbrev pub AreCoreSteps : History → Type 0
AreCoreSteps R = (i : ℕ) (e : Line) → slice_get R i ≡ Some e → are_core_steps e.1.2 ≡ true

-- an audit of theirs may have begun or ended
abbrev pub IsBehind : Stage → Stage → Type 0
IsBehind (Settled h i) st = (j : Image) × (st ≡ Settled h j) × (j.header ≡ i.header) × (j.head ≡ i.head) × (j.records ≡ i.records) × (j.synced ≡ i.synced)
IsBehind st now = now ≡ st

abbrev pub StageStays : Type 0
StageStays = (o : Outset) (S R : History) → AreCoreSteps R → IsBehind (stage_by o S) (stage_by o (S ++ R))

-- ---- the anchor may move
abbrev pub StageTurns : Type 0
StageTurns =
    (bases : Bases) (p : Point) (o : Outset) (T : History) (q : Point) (h : Head) (i : Image) (b end : ℕ) → BeginsAt bases p o → Stands bases p o T q
    → stage_by o T ≡ Settled h i → i.head ≡ h → i.synced ≡ true → i.clean ≡ Some (b, end) → end < stable (core_told o T)
    → MayTurn q h b end
