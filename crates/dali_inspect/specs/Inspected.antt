-- What an inspection tells of the files of a store.
--     image_at c h             the image with the number c and the header h, where there is one
--     HasImage fs s image      a restart of these files begins with this image, and their log with these sizes
--     HasLog F end             the log with which a restart of the files F ends has so many bytes of records
--     Weighs fs end            so it is where the disk spells files that are found
--     IsTooLong fs             the record of a restart of these files has more bytes than a batch
--     IsInspected fs i         regions and lists are what `restart` gives of these files (Gives, IsReadAs); the image, and how long the log is
use Rattle.std.specs.Prelude.{◌≡◌, ◌==◌, ◌<◌, ◌^◌, ℕ, List, Option, Some, None, if◌then◌else◌}
use Rattle.dali_geometry.specs.Sizes.{Sizes}
use Rattle.dali_att.specs.Table.{Table}
use Rattle.dali_record.specs.declared.operations.Pending.{Pending}
use Rattle.dali_record.specs.declared.records.Record.{Record}
use Rattle.dali_record.specs.Files.{Files}
use Rattle.dali_record.specs.Legal.{Rules, rules_state, sizes_of}
use Rattle.dali_store.specs.Store.{Files as Disk}
use Rattle.dali_log.specs.Stream.{Reading}
use Rattle.dali_runs.specs.Run.{log_in}
use Rattle.dali_crash.specs.Checkpoints.{side_of}
use Rattle.dali_crash.specs.Disks.Disks.{Spells, image_name}
use Rattle.dali_image.specs.declared.header.Header.{Header}
use Rattle.dali_resume.specs.Again.{Outcome}
use Rattle.dali_resume.specs.Interrupted.Found.{FindsIt}
use Rattle.dali_restart.specs.Renewal.Logged.{restart_length}
use Rattle.dali_restart.specs.Opening.{IsOpened}
use Rattle.dali_restart.specs.Restarting.{Gives, GoesOnFrom, IsReadAs, outcome}
use Rattle.dali_inspect.specs.declared.inspecting.Image.{Image}
use Rattle.dali_inspect.specs.declared.inspecting.Inspection.{Inspection}

-- ---- the image
abbrev pub image_at : ℕ → Header → Option Image
image_at c h = if c == 0 then None else Some (record { file = image_name (side_of c); record_number = h.first; place = h.place })

pub record HasImage (fs : Disk) (s : Sizes) (image : Option Image) : Type 0 where
  pub current : ℕ
  pub header : Header
  pub words : List (List ℕ)
  pub table : Table Pending
  pub reader : Reading
  pub opened : IsOpened fs s current header words table reader
  pub told : image ≡ image_at current header

-- ---- the log
-- that of the files, or with the record of the restart
pub record HasLog (F : Files) (end : ℕ) : Type 0 where
  pub log : List Record
  pub goes_on : GoesOnFrom (log_in F) log
  pub rules : Rules
  pub allowed : rules_state (sizes_of log) log ≡ Some rules
  pub weight : end ≡ rules.weight

abbrev pub Weighs : Disk → ℕ → Type 0
Weighs fs end = (F : Files) → Spells fs F → FindsIt F → HasLog F end

-- ---- the whole
abbrev pub IsTooLong : Disk → Type 0
IsTooLong fs = (o : Outcome) × IsReadAs fs o × (2 ^ 30 < restart_length o.rolled o.deleted)

pub record IsInspected (fs : Disk) (i : Inspection) : Type 0 where
  pub gives : Gives fs (outcome i.regions.items i.report)
  pub read : IsReadAs fs (outcome i.regions.items i.report)
  pub image : HasImage fs i.geometry i.image
  pub log : Weighs fs i.end
