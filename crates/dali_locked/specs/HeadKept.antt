-- The head that a checkpoint keeps, under the locks of vault and system.
--     keeping                  what is told
--     HeadBytes, head_in k     header and table of a head, as they are written to an image, and the head that they tell
--     IsHeadOf s k             they are those of their head, for a database of these sizes
--     IsMadeOf y v k           they are of what this system and this vault come to
--     HasStage c st            the checkpoint of the client c is under way, and has come so far
--     KeepsHead c k            it keeps this head
--     HasKeptAll c k           that of all that was logged by then, which is flushed
--     SeesRefusal b e x y      what the client x has seen where the head isn't kept
use Rattle.std.specs.Prelude.{◌≡◌, ℕ, List, [], ◌∷◌, Some, Result, Ok, Err, length}
use Rattle.dali_geometry.specs.Sizes.{Sizes}
use Rattle.dali_record.specs.declared.operations.Pending.{Pending}
use Rattle.dali_record.specs.Files.{Row}
use Rattle.dali_att.specs.Table.{Table}
use Rattle.dali_runs.specs.State.{SystemState, stable}
use Rattle.dali_crash.specs.Checkpoints.{Head, Keeps, head_now}
use Rattle.dali_crash.specs.Disks.Disks.{table_bytes}
use Rattle.dali_image.specs.declared.header.Header.{Header}
use Rattle.dali_image.specs.Decoding.{table_in}
use Rattle.dali_image.specs.Laws.{header_of}
use Rattle.dali_image.specs.Rows.{rows_of}
use Rattle.dali_transcripts.specs.World.{under_way}
use Rattle.dali_core.specs.Vault.Vaulted.{Vaulted}
use Rattle.dali_checkpoint.specs.Kept.{header_at}
use Rattle.dali_concurrent.specs.Entries.{Kept, deeds_of}
use Rattle.dali_concurrent.specs.Rules.{Outset, log_by}
use Rattle.dali_concurrent.specs.Told.{Leaves, Item, History, plain, core_told}
use Rattle.dali_concurrent.specs.Stages.{Stage, HasKept, stage_by}
use Rattle.dali_locked.specs.Begun.{Begun}
use Rattle.dali_locked.specs.Sights.{ClientSight}
use Rattle.dali_locked.specs.Vaults.{SeesFault}
use Rattle.dali_locked.specs.declared.keeping.KeepError.{KeepError}
use Rattle.dali_locked.specs.declared.keeping.KeepError.TheVariants.{Flush, OutOfMemory}

abbrev pub keeping : Item
keeping = (Kept, Leaves, Keeps ∷ [])

-- ---- its bytes
pub record HeadBytes : Type 0 where
  pub header : Header
  -- those of the table
  pub table : List ℕ

abbrev pub rows_read : Result (Table Pending) ℕ → List Row
rows_read (Ok m) = rows_of m
rows_read (Err at) = []

abbrev pub head_in : HeadBytes → Head
head_in k = record {
  number = k.header.number;
  place = k.header.place;
  first = k.header.first;
  weight = k.header.weight;
  next = k.header.next;
  table = rows_read (table_in k.header.geometry k.header.next k.table);
}

pub record IsHeadOf (s : Sizes) (k : HeadBytes) : Type 0 where
  pub header : k.header ≡ header_of s (head_in k)
  pub table : k.table ≡ table_bytes (head_in k).table

pub record IsMadeOf {V : Type 0} (y : SystemState) (v : Vaulted V) (k : HeadBytes) : Type 0 where
  pub header : k.header ≡ header_at y v (length k.table)
  pub table : k.table ≡ table_bytes (rows_of y.table)

-- ---- what the client knows
pub record HasStage (c : ℕ) (st : Stage) (o : Outset) (T : History) : Type 0 where
  pub mine : under_way (deeds_of (plain T)) ≡ Some c
  pub stage : stage_by o T ≡ st

pub record KeepsHead (c : ℕ) (k : HeadBytes) (o : Outset) (T : History) : Type 0 where
  pub stage : HasStage c (HasKept (head_in k)) o T
  pub is : IsHeadOf o.old.system.sizes k

pub record HasKeptAll (c : ℕ) (k : HeadBytes) (o : Outset) (T : History) : Type 0 where
  pub keeps : KeepsHead c k o T
  pub now : head_in k ≡ head_now (log_by o (plain T)) (core_told o T)
  pub flushed : stable (core_told o T) ≡ length (log_by o (plain T))

abbrev pub SeesRefusal : Begun → KeepError → ClientSight → ClientSight → Type 0
SeesRefusal b (Flush e) x y = SeesFault b e x y
SeesRefusal b OutOfMemory x y = y ≡ x
