-- What a client's checkpoint does in one history, each by what the values under the locks give. T is what the note has seen.
--     IsBegun bases p o T      wherever the history has come, a checkpoint keeps a head
--     StartsLand, FinishesLand     the deeds StartsCheckpoint and EndsCheckpoint, by the system; the latter by the client whose checkpoint is under way
--     KeepsLand                the head is kept, by the vault and the system, behind a flush of all records
--     CopiesLand, SkipsLand    a region is copied, or passed over, by the vault and the region
--     WritesHeadLand, SyncsLand    head or table is written, the image is synced, by the vault
--     TurnsLand                the deed MovesAnchor, by the vault
--     failed_with x v y n c    the entry of a call that failed, in the step x, with its effect: by the vault and the system
--     CopyFailsLand, HeadFailsLand, SyncFailsLand, TurnFailsLand       such a fault
use Rattle.std.specs.Prelude.{◌≡◌, ℕ, ◌+◌, true, false, List, [], ◌∷◌, Some, None, is_some, slice_get}
use Rattle.dali_region.specs.State.{RegionState}
use Rattle.dali_region.specs.Answers.{is_dirty, cleaned}
use Rattle.dali_runs.specs.State.{SystemState, VaultState}
use Rattle.dali_runs.specs.Run.{Bases, HasRisen}
use Rattle.dali_runs.specs.Steps.{in_checkpoint, store_stopped}
use Rattle.dali_runs.specs.Flushes.{faulted}
use Rattle.dali_runs.specs.Courses.{Stops}
use Rattle.dali_crash.specs.Checkpoints.{Head, StoreStep, Does, Starts, Keeps, Copies, Skips, WritesHead, Syncs, Turns, CopyFails, HeadFails, SyncFails, TurnFails, Finishes, Point, IsUntouched, MayTurn, side_of}
use Rattle.dali_transcripts.specs.Words.{StoreFailed}
use Rattle.dali_transcripts.specs.World.{StartsCheckpoint, MovesAnchor, EndsCheckpoint, Meets, under_way}
use Rattle.dali_concurrent.specs.Entries.{Entry, Did, deeds_of}
use Rattle.dali_concurrent.specs.Rules.{Outset, log_by}
use Rattle.dali_concurrent.specs.Told.{Leaves, OnRegion, OnSystem, OnVault, OnStop, Item, History, plain, core_told, is_tie}
use Rattle.dali_concurrent.specs.Landing.{Stands, Lands}

abbrev pub IsBegun : Bases → Point → Outset → History → Type 0
IsBegun bases p o T = (q : Point) → Stands bases p o T q → is_some q.begun ≡ true

-- ---- the flag
abbrev pub StartsLand : Type 0
StartsLand =
    (bases : Bases) (p : Point) (o : Outset) (T : History) (ks : List ℕ) (c : ℕ) (y : SystemState) → y ≡ (core_told o T).system → y.checking ≡ false
    → Lands bases p o T (ks, (Did StartsCheckpoint c, OnSystem (in_checkpoint y true), Starts ∷ []))

abbrev pub FinishesLand : Type 0
FinishesLand =
    (bases : Bases) (p : Point) (o : Outset) (T : History) (ks : List ℕ) (c : ℕ) (y : SystemState) → y ≡ (core_told o T).system → y.checking ≡ true
    → under_way (deeds_of (plain T)) ≡ Some c
    → Lands bases p o T (ks, (Did EndsCheckpoint c, OnSystem (in_checkpoint y false), Finishes ∷ []))

-- ---- what is kept
abbrev pub KeepsLand : Type 0
KeepsLand =
    (bases : Bases) (p : Point) (o : Outset) (T : History) (ks : List ℕ) (e : Entry) (v : VaultState) (y : SystemState) → is_tie e ≡ true
    → v ≡ (core_told o T).vault → y ≡ (core_told o T).system
    → v.stopped ≡ false → y.checking ≡ true → y.first + v.flushed ≡ y.records → ((q : Point) → Stands bases p o T q → q.begun ≡ None)
    → Lands bases p o T (ks, (e, Leaves, Keeps ∷ []))

-- ---- the regions
abbrev pub CopiesLand : Type 0
CopiesLand =
    (bases : Bases) (p : Point) (o : Outset) (T : History) (ks : List ℕ) (e : Entry) (r n : ℕ) (v : VaultState) (g : RegionState) → is_tie e ≡ true
    → v ≡ (core_told o T).vault → slice_get (core_told o T).regions r ≡ Some g
    → v.stopped ≡ false → is_dirty g (side_of (v.current + 1)) ≡ true → IsUntouched (log_by o (plain T)) r n → IsBegun bases p o T
    → Lands bases p o T (ks, (e, OnRegion r (cleaned (side_of (v.current + 1)) g), Copies r n ∷ []))

abbrev pub SkipsLand : Type 0
SkipsLand =
    (bases : Bases) (p : Point) (o : Outset) (T : History) (ks : List ℕ) (e : Entry) (r n : ℕ) (v : VaultState) (g : RegionState) → is_tie e ≡ true
    → v ≡ (core_told o T).vault → slice_get (core_told o T).regions r ≡ Some g
    → is_dirty g (side_of (v.current + 1)) ≡ false → IsUntouched (log_by o (plain T)) r n → IsBegun bases p o T
    → Lands bases p o T (ks, (e, Leaves, Skips r n ∷ []))

-- ---- the files
abbrev pub WritesHeadLand : Type 0
WritesHeadLand =
    (bases : Bases) (p : Point) (o : Outset) (T : History) (ks : List ℕ) (e : Entry) (h : Head) (v : VaultState) → is_tie e ≡ true
    → v ≡ (core_told o T).vault → v.stopped ≡ false → IsBegun bases p o T
    → Lands bases p o T (ks, (e, Leaves, WritesHead h ∷ []))

abbrev pub SyncsLand : Type 0
SyncsLand =
    (bases : Bases) (p : Point) (o : Outset) (T : History) (ks : List ℕ) (e : Entry) (v : VaultState) → is_tie e ≡ true
    → v ≡ (core_told o T).vault → v.stopped ≡ false → IsBegun bases p o T
    → Lands bases p o T (ks, (e, Leaves, Syncs ∷ []))

-- ---- the anchor
abbrev pub TurnsLand : Type 0
TurnsLand =
    (bases : Bases) (p : Point) (o : Outset) (T : History) (ks : List ℕ) (c : ℕ) (h : Head) (b end : ℕ) (v : VaultState) → v ≡ (core_told o T).vault → v.stopped ≡ false
    → ((q : Point) → Stands bases p o T q → MayTurn q h b end)
    → Lands bases p o T (ks, (Did (MovesAnchor (v.current + 1)) c, OnVault (record v { current = v.current + 1 }), Turns ∷ []))

-- ---- a call that fails
abbrev pub failed_with : StoreStep → VaultState → SystemState → ℕ → ℕ → Item
failed_with x v y n c = (Did (Meets StoreFailed) c, OnStop (faulted v n) (store_stopped y), x ∷ Does Stops ∷ [])

abbrev pub CopyFailsLand : Type 0
CopyFailsLand =
    (bases : Bases) (p : Point) (o : Outset) (T : History) (ks : List ℕ) (c r n : ℕ) (ws : List ℕ) (v : VaultState) (y : SystemState) (g : RegionState)
    → v ≡ (core_told o T).vault → y ≡ (core_told o T).system → slice_get (core_told o T).regions r ≡ Some g
    → v.stopped ≡ false → is_dirty g (side_of (v.current + 1)) ≡ true → HasRisen v.faults n → IsBegun bases p o T
    → Lands bases p o T (ks, failed_with (CopyFails r ws n) v y n c)

abbrev pub HeadFailsLand : Type 0
HeadFailsLand =
    (bases : Bases) (p : Point) (o : Outset) (T : History) (ks : List ℕ) (c n : ℕ) (h : Head) (v : VaultState) (y : SystemState)
    → v ≡ (core_told o T).vault → y ≡ (core_told o T).system → v.stopped ≡ false → HasRisen v.faults n → IsBegun bases p o T
    → Lands bases p o T (ks, failed_with (HeadFails h n) v y n c)

abbrev pub SyncFailsLand : Type 0
SyncFailsLand =
    (bases : Bases) (p : Point) (o : Outset) (T : History) (ks : List ℕ) (c n : ℕ) (v : VaultState) (y : SystemState)
    → v ≡ (core_told o T).vault → y ≡ (core_told o T).system → v.stopped ≡ false → HasRisen v.faults n → IsBegun bases p o T
    → Lands bases p o T (ks, failed_with (SyncFails n) v y n c)

abbrev pub TurnFailsLand : Type 0
TurnFailsLand =
    (bases : Bases) (p : Point) (o : Outset) (T : History) (ks : List ℕ) (c n : ℕ) (h : Head) (b end : ℕ) (v : VaultState) (y : SystemState)
    → v ≡ (core_told o T).vault → y ≡ (core_told o T).system → v.stopped ≡ false → HasRisen v.faults n
    → ((q : Point) → Stands bases p o T q → MayTurn q h b end)
    → Lands bases p o T (ks, failed_with (TurnFails n) v y n c)
