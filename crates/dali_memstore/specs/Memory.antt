-- Four files, and all that changed them.
-- Words: disk_of, with_disk, apply, replay, begun; History, push, disks, Happened, seen_of, IsCrash, LeftSince;
-- Memory, files_of, cut_files, no_files, starting_with; starts_of, waits_of, IsKept.
use Rattle.std.specs.Prelude.{◌≡◌, ◌⊎◌, ℕ, ◌+◌, ◌≤◌, List, [], ◌∷◌, ◌++◌, length, take}
use Rattle.dali_store.specs.Store.{Files, file_of}
use Rattle.dali_store.specs.declared.store.FileName.{FileName}
use Rattle.dali_store.specs.declared.store.FileName.TheVariants.{Log, ImageA, ImageB, Anchor}
use Rattle.dali_memstore.specs.declared.disks.Disks.{Disks}
use Rattle.dali_memstore.specs.declared.event.Event.{Event}
use Rattle.dali_memstore.specs.declared.event.Event.TheVariants.{Wrote, Synced, Cut}
use Rattle.dali_memstore.specs.State.{State, begun_with, wrote, kept, IsImage, cut_by, waits}
use Rattle.dali_memstore.specs.Counts.{Counts}

abbrev pub disk_of : FileName → Disks → State
disk_of Log ds = ds.log
disk_of ImageA ds = ds.a
disk_of ImageB ds = ds.b
disk_of Anchor ds = ds.anchor

abbrev pub with_disk : FileName → State → Disks → Disks
with_disk Log s ds = record ds { log = s }
with_disk ImageA s ds = record ds { a = s }
with_disk ImageB s ds = record ds { b = s }
with_disk Anchor s ds = record ds { anchor = s }

abbrev pub apply : Event → Disks → Disks
apply (Wrote file at bytes) ds = with_disk file (wrote at bytes (disk_of file ds)) ds
apply (Synced file) ds = with_disk file (kept (disk_of file ds)) ds
apply (Cut choice) ds = record {
  log = cut_by choice 0 ds.log;
  a = cut_by choice 1 ds.a;
  b = cut_by choice 2 ds.b;
  anchor = cut_by choice 3 ds.anchor;
}

abbrev pub replay : List Event → Disks → Disks
replay [] ds = ds
replay (event ∷ events) ds = replay events (apply event ds)

-- files before any call
abbrev pub begun : Files → Disks
begun start = record {
  log = begun_with start.log;
  a = begun_with start.a;
  b = begun_with start.b;
  anchor = begun_with start.anchor;
}

abbrev pub starts_of : Disks → Files
starts_of ds = record { log = ds.log.start; a = ds.a.start; b = ds.b.start; anchor = ds.anchor.start }

-- what the files began with, and what changed them, the first change first
pub record History : Type 0 where
  pub start : Files
  pub events : List Event

abbrev pub push : Event → History → History
push event h = record h { events = h.events ++ event ∷ [] }

abbrev pub disks : History → Disks
disks h = replay h.events (begun h.start)

-- the files are as the event leaves them, and where that changed anything it is in the history
pub record Happened (event : Event) (old new : History) : Type 0 where
  pub files : disks new ≡ apply event (disks old)
  pub past : (new ≡ old) ⊎ (new ≡ push event old)

-- what reads give
abbrev pub seen_of : Disks → Files
seen_of ds = record { log = ds.log.seen; a = ds.a.seen; b = ds.b.seen; anchor = ds.anchor.seen }

-- a crash of the four files at one moment
abbrev pub IsCrash : Disks → Files → Type 0
IsCrash ds c = (f : FileName) → IsImage (disk_of f ds) (file_of f c)

-- a crash at a moment since t
abbrev pub LeftSince : History → ℕ → Files → Type 0
LeftSince h t c = (k : ℕ) × (t ≤ k) × (k ≤ length h.events) × IsCrash (replay (take k h.events) (begun h.start)) c

-- a store in memory
pub record Memory : Type 0 where
  pub history : History
  pub counts : Counts

abbrev pub files_of : Memory → Files
files_of m = seen_of (disks m.history)

-- what reads give after a crash with this choice
abbrev pub cut_files : ℕ → Memory → Files
cut_files choice m = seen_of (apply (Cut choice) (disks m.history))

abbrev pub no_files : Files
no_files = record { log = []; a = []; b = []; anchor = [] }

-- the files with these bytes, the log's first
abbrev pub starting_with : List (List ℕ) → Files
starting_with (log ∷ a ∷ b ∷ anchor ∷ []) = record { log = log; a = a; b = b; anchor = anchor }
starting_with other = no_files

-- how many files wait for a sync
abbrev pub waits_of : Disks → ℕ
waits_of ds = waits ds.log + waits ds.a + waits ds.b + waits ds.anchor

-- the files are what the history makes of them, and there is room in it for a sync of each file that waits for one
pub record IsKept (ds : Disks) (events : List Event) (capacity : ℕ) : Type 0 where
  pub replays : ds ≡ replay events (begun (starts_of ds))
  pub room : length events + waits_of ds ≤ capacity
