-- All files, and all that changed them.
-- Words: number_of, Shelf, reads, with_file, apply, replay, shelf; seen_of, IsCrash, LeftSince; Memory, files_of, cut_files; HasRemoved.
use Rattle.std.specs.Prelude.{◌≡◌, ◌⊎◌, ℕ, zero, suc, ◌+◌, ◌≤◌, ◌==◌, if◌then◌else◌, List, [], ◌∷◌, ◌++◌, length, take, get_or}
use Rattle.dali_files.specs.Files.{Contents}
use Rattle.dali_files.specs.declared.key.FileKey.{FileKey}
use Rattle.dali_files.specs.declared.key.FileKey.TheVariants.{ImageA, ImageB, Anchor, Segment}
use Rattle.dali_memfiles.specs.declared.event.Event.{Event}
use Rattle.dali_memfiles.specs.declared.event.Event.TheVariants.{Wrote, Synced, Removed, Cut}
use Rattle.dali_memfiles.specs.Held.{HeldState, no_file, held_wrote, held_kept, held_removed, held_cut, IsLeft}
use Rattle.dali_memfiles.specs.Counts.{Counts}

-- the number of a file, by which a crash tells it from others
abbrev pub number_of : FileKey → ℕ
number_of ImageA = 1
number_of ImageB = 2
number_of Anchor = 3
number_of (Segment zero) = 0
number_of (Segment (suc n)) = suc n + 4

-- each file at its number
abbrev pub Shelf : Type 0
Shelf = ℕ → HeldState

-- what is past the end of the list isn't there
abbrev pub reads : List HeldState → Shelf
reads files n = get_or files n no_file

abbrev pub with_file : ℕ → HeldState → Shelf → Shelf
with_file n h files m = if m == n then h else files m

abbrev pub apply : Event → Shelf → Shelf
apply (Wrote file at bytes) files = with_file (number_of file) (held_wrote at bytes (files (number_of file))) files
apply (Synced file) files = with_file (number_of file) (held_kept (files (number_of file))) files
apply (Removed file) files = with_file (number_of file) (held_removed (files (number_of file))) files
apply (Cut choice) files = λ n. held_cut choice n (files n)

abbrev pub replay : List Event → Shelf → Shelf
replay [] files = files
replay (event ∷ events) files = replay events (apply event files)

-- the files to which these changes lead, the first change first
abbrev pub shelf : List Event → Shelf
shelf events = replay events (λ n. no_file)

-- what reads give
abbrev pub seen_of : Shelf → Contents
seen_of files f = (files (number_of f)).file.seen

-- a crash of all files at one moment
abbrev pub IsCrash : Shelf → Contents → Type 0
IsCrash files c = (f : FileKey) → IsLeft (files (number_of f)) (c f)

-- a crash at a moment since t
abbrev pub LeftSince : List Event → ℕ → Contents → Type 0
LeftSince events t c = (k : ℕ) × (t ≤ k) × (k ≤ length events) × IsCrash (shelf (take k events)) c

-- a removal is in the past, or there was no such file and nothing happened
abbrev pub HasRemoved : FileKey → List Event → List Event → Type 0
HasRemoved f old new = (new ≡ old ++ Removed f ∷ []) ⊎ ((new ≡ old) × (shelf old (number_of f) ≡ no_file))

-- files in memory
pub record Memory : Type 0 where
  pub events : List Event
  pub counts : Counts

abbrev pub files_of : Memory → Contents
files_of m = seen_of (shelf m.events)

-- what reads give after a crash with this choice
abbrev pub cut_files : ℕ → Memory → Contents
cut_files choice m = seen_of (apply (Cut choice) (shelf m.events))
