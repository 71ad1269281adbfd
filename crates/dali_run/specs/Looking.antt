-- What `show` and `status` print, and why they don't.
--     two_in_line first a then b   a line of two numbers, with a text before each
--     image_text image             the line of the image
--     sizes_text i n, status_text i n      the lines of a status, where n records are stored: without the lists, and whole
--     TellsRecords i text          the records that the words of the regions store, and their number
--     TellsStatus i text           the lines of a status, with that number
--     Finds i old new              the store was only read, its count stayed, and this is what a restart would find in its files
--     Looks P old text new         so it is of an inspection of which the text tells what P says
--     NotLooked halt old new       why it wasn't inspected: the files are bad at a place, or hold no database; a call of the store failed; or no memory
use Rattle.std.specs.Prelude.{◌≡◌, ℕ, ◌*◌, List, [], ◌∷◌, ◌++◌, Option, Some, None, IfSome, codes, length, map}
use Rattle.std.specs.Fmt.{decimal}
use Rattle.dali_geometry.specs.Places.{regions}
use Rattle.dali_store.specs.Faults.{Rose}
use Rattle.dali_store.specs.Store.{name_of}
use Rattle.dali_store.specs.declared.store.Store.{Ghosts}
use Rattle.dali_log.specs.Batch.{IsUnformatted}
use Rattle.dali_listing.specs.Listing.{in_memory, IsListing}
use Rattle.dali_listing.specs.declared.Listed.{Listed}
use Rattle.dali_report.specs.Lines.{text_of, texts}
use Rattle.dali_report.specs.declared.printed.Line.TheVariants as lines
use Rattle.dali_restart.specs.Restarting.{IsBadAnywhere}
use Rattle.dali_inspect.specs.Counts.{cells_in_use, entries_in_use}
use Rattle.dali_inspect.specs.Inspected.{IsInspected, IsTooLong}
use Rattle.dali_inspect.specs.declared.inspecting.Image.{Image}
use Rattle.dali_inspect.specs.declared.inspecting.Inspection.{Inspection}
use Rattle.dali_run.specs.declared.halt.Halt.{Halt}
use Rattle.dali_run.specs.declared.halt.Halt.TheVariants.{StoreFault, BadStore, Unformatted, RecordTooLong, OutOfMemory}
use Rattle.dali_run.specs.Dumping.{Reads}
use Rattle.dali_run.specs.Texts.{shown}

-- ---- the texts
abbrev pub two_in_line : List ℕ → ℕ → List ℕ → ℕ → List ℕ
two_in_line first a then_text b = (first ++ decimal a) ++ ((then_text ++ decimal b) ++ codes "\n")

abbrev pub image_text : Option Image → List ℕ
image_text None = codes "image none\n"
image_text (Some image) = codes "image " ++ (name_of image.file ++ two_in_line (codes " ") image.record_number (codes " at ") image.place)

-- a region has seven cells or 21 entries; the log has the room that it has where the words don't say it
abbrev pub sizes_text : Inspection → ℕ → List ℕ
sizes_text i n =
    two_in_line (codes "size ") i.geometry.index (codes " ") i.geometry.heap
    ++ (text_of (lines.Records n)
    ++ (two_in_line (codes "cells ") (cells_in_use i.geometry (in_memory i.regions.items)) (codes " of ") (7 * i.geometry.heap)
    ++ (two_in_line (codes "entries ") (entries_in_use i.geometry (in_memory i.regions.items)) (codes " of ") (21 * i.geometry.index)
    ++ (two_in_line (codes "log ") i.end (codes " of ") 67108864
    ++ image_text i.image))))

abbrev pub status_text : Inspection → ℕ → List ℕ
status_text i n = sizes_text i n ++ texts (lines.RolledBack i.report.rolled_back.items ∷ lines.Deleted i.report.deleted.items ∷ [])

pub record TellsRecords (i : Inspection) (text : List ℕ) : Type 0 where
  pub rows : List Listed
  pub listing : IsListing i.geometry (in_memory i.regions.items) rows
  pub printed : text ≡ texts (map shown rows ++ lines.Records (length rows) ∷ [])

pub record TellsStatus (i : Inspection) (text : List ℕ) : Type 0 where
  pub rows : List Listed
  pub listing : IsListing i.geometry (in_memory i.regions.items) rows
  pub printed : text ≡ status_text i (length rows)

-- ---- the store
module _ {V : Type 0} (g : Ghosts V) where
  pub record Finds (i : Inspection) (old new : V) : Type 0 where
    pub read : Reads g old new
    pub kept : g.faults new ≡ g.faults old
    pub whole : length i.regions.items ≡ regions i.geometry
    pub is : IfSome (g.told old) (λ fs. IsInspected fs i)

  pub record Looks (P : Inspection → List ℕ → Type 0) (old : V) (text : List ℕ) (new : V) : Type 0 where
    pub found : Inspection
    pub finds : Finds found old new
    pub tells : P found text

  abbrev pub NotLooked : Halt → V → V → Type 0
  NotLooked StoreFault old new = Reads g old new × Rose (g.faults old) (g.faults new)
  NotLooked (BadStore file at) old new = Reads g old new × (g.faults new ≡ g.faults old) × IfSome (g.told old) (λ fs. IsBadAnywhere fs file at)
  NotLooked Unformatted old new = Reads g old new × (g.faults new ≡ g.faults old) × IfSome (g.told old) (λ fs. IsUnformatted fs.log)
  NotLooked RecordTooLong old new = Reads g old new × (g.faults new ≡ g.faults old) × IfSome (g.told old) IsTooLong
  NotLooked OutOfMemory old new = Reads g old new × (g.faults new ≡ g.faults old)
  NotLooked _ old new = ⊥
