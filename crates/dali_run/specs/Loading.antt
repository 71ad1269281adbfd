-- How the rows of a source are loaded.
--     HasRows before rows after        the source was read to its end, and spells these rows
--     HasNone before line kind after   so it was, and this is its first wrong line, and what is wrong with it
--     NoRows s old new halt            no rows were read
--     IsLoadable index heap rows       the script that stores them is such as a script may be
--     StoreStops halt start script end      a command ended a run whose lines stay in memory, or there was none for its lines
--     Refuses count lines halt         the lines of that run don't say that all went well
--     FindsRows rows old new           the store was only read, its count stayed, and a restart would find just these rows
--     NotFoundRows rows halt old new   a restart would find other rows, or the store wasn't inspected
--     Disproved rows lines halt old new     either of these two
--     HasRoom index heap rows          the heap has a cell for each row, and the index an entry
--     NothingDone index heap rows halt start end    the store is as it was: no memory for the script, or no room for the rows
--     Loads index heap rows start end  there was room, the script was run, its lines say that all went well, and then just these rows were found
--     RunsBadly index heap rows halt start end      the script was run, and it or what came of it wasn't right
--     NotLoads index heap rows halt start end    why not: nothing was done, or there was room and the script was run
--     count_text rows                  what is written where they are loaded
use Rattle.std.specs.Prelude.{◌≡◌, ◌⊎◌, ℕ, ◌≤◌, ◌*◌, Bool, false, List, [], ◌∷◌, length, Option, Some}
use Rattle.dali_inspect.specs.declared.inspecting.Inspection.{Inspection}
use Rattle.dali_listing.specs.Listing.{in_memory, IsListing}
use Rattle.dali_listing.specs.declared.Listed.{Listed}
use Rattle.dali_load.specs.Answers.{expected, verdict_of}
use Rattle.dali_load.specs.Rows.{Spelled, IsWrong}
use Rattle.dali_load.specs.Scripts.{script_of}
use Rattle.dali_load.specs.declared.judging.Verdict.TheVariants as verdicts
use Rattle.dali_report.specs.Lines.{texts}
use Rattle.dali_report.specs.declared.printed.Line.TheVariants.{Records}
use Rattle.dali_script.specs.Scripts.{IsRightScript}
use Rattle.dali_script.specs.declared.commands.Command.{Command}
use Rattle.dali_script.specs.declared.faults.Kind.{Kind}
use Rattle.dali_store.specs.Faults.{Rose}
use Rattle.dali_store.specs.declared.store.Store.{Ghosts}
use Rattle.dali_streams.specs.Streams.{ReadAll, ReadTooMany}
use Rattle.dali_streams.specs.declared.streams.Source.{Ghosts as SourceGhosts}
use Rattle.dali_run.specs.declared.halt.Halt.{Halt}
use Rattle.dali_run.specs.declared.halt.Halt.TheVariants.{BadScript, TooLong, ReadFault, LogFull, OutOfMemory, TooSmall, NotLoaded}
use Rattle.dali_run.specs.Looking.{Finds, NotLooked}
use Rattle.dali_run.specs.Scripts.{RanWhole, StoppedIn, CutIn}

-- ---- the source
pub record HasRows (before : Option (List ℕ)) (rows : List Listed) (after : Option (List ℕ)) : Type 0 where
  pub bytes : List ℕ
  pub all : ReadAll before bytes after
  pub short : length bytes ≤ 268435456
  pub spelled : Spelled bytes rows

pub record HasNone (before : Option (List ℕ)) (line : ℕ) (kind : Kind) (after : Option (List ℕ)) : Type 0 where
  pub bytes : List ℕ
  pub all : ReadAll before bytes after
  pub short : length bytes ≤ 268435456
  pub wrong : IsWrong bytes line kind

abbrev pub NoRows : {S : Type 0} → SourceGhosts S → S → S → Halt → Type 0
NoRows s old new (BadScript line kind) = HasNone (s.left old) line kind (s.left new)
NoRows s old new TooLong = ReadTooMany (s.left old) 268435456 (s.left new)
NoRows s old new ReadFault = Rose (s.faults old) (s.faults new)
NoRows s old new OutOfMemory = Unit {0}
NoRows s old new _ = ⊥

abbrev pub IsLoadable : (index heap : ℕ) → List Listed → Type 0
IsLoadable index heap rows = IsRightScript (script_of index heap rows)

-- seven cells a heap region, and 21 entries an index region
abbrev pub HasRoom : (index heap : ℕ) → List Listed → Type 0
HasRoom index heap rows = (length rows ≤ 7 * heap) × (length rows ≤ 21 * index)

-- ---- the lines
abbrev pub Refuses : ℕ → List ℕ → Halt → Type 0
Refuses count lines TooSmall = verdict_of count lines ≡ verdicts.TooSmall
Refuses count lines (LogFull end limit) = verdict_of count lines ≡ verdicts.LogFull end limit
Refuses count lines NotLoaded = verdict_of count lines ≡ verdicts.NotLoaded
Refuses count lines OutOfMemory = Unit {0}
Refuses count lines _ = ⊥

abbrev pub count_text : List Listed → List ℕ
count_text rows = texts (Records (length rows) ∷ [])

-- ---- the store
module _ {V : Type 0} (g : Ghosts V) (limit : ℕ) (precheck : Bool) where
  abbrev pub RunStopped : Halt → V → List Command → V → Type 0
  RunStopped halt start script end = (taken : Option (List ℕ)) × StoppedIn g limit precheck halt start script (Some []) taken end

  abbrev pub RunCut : V → List Command → V → Type 0
  RunCut start script end = (taken : Option (List ℕ)) × CutIn g limit precheck start script (Some []) taken end

  abbrev pub StoreStops : Halt → V → List Command → V → Type 0
  StoreStops OutOfMemory start script end = RunStopped OutOfMemory start script end ⊎ RunCut start script end
  StoreStops halt start script end = RunStopped halt start script end

module _ {V : Type 0} (g : Ghosts V) where
  pub record FindsRows (rows : List Listed) (old new : V) : Type 0 where
    pub found : Inspection
    pub finds : Finds g found old new
    pub listing : IsListing found.geometry (in_memory found.regions.items) rows

  pub record FindsOthers (rows : List Listed) (old new : V) : Type 0 where
    pub others : List Listed
    pub finds : FindsRows others old new
    pub differ : rows ≡ others → ⊥

  abbrev pub NotFoundRows : List Listed → Halt → V → V → Type 0
  NotFoundRows rows NotLoaded old new = FindsOthers rows old new
  NotFoundRows rows halt old new = NotLooked g halt old new

  abbrev pub Disproved : List Listed → List ℕ → Halt → V → V → Type 0
  Disproved rows lines halt old new =
      (Refuses (length rows) lines halt × (new ≡ old)) ⊎ ((lines ≡ expected (length rows)) × NotFoundRows rows halt old new)

  module _ (index heap : ℕ) (rows : List Listed) where
    -- the log has the most room that words may give it, and no call is checked before
    abbrev pub RunsLoad : V → List ℕ → V → Type 0
    RunsLoad start lines end = RanWhole g 268435456 false start (script_of index heap rows) (Some []) (Some lines) end

    pub record Loads (start end : V) : Type 0 where
      pub room : HasRoom index heap rows
      pub stored : V
      pub ran : RunsLoad start (expected (length rows)) stored
      pub finds : FindsRows rows stored end

    pub record Unproved (halt : Halt) (start end : V) : Type 0 where
      pub stored : V
      pub lines : List ℕ
      pub ran : RunsLoad start lines stored
      pub disproved : Disproved rows lines halt stored end

    abbrev pub NothingDone : Halt → V → V → Type 0
    NothingDone OutOfMemory start end = end ≡ start
    NothingDone TooSmall start end = (HasRoom index heap rows → ⊥) × (end ≡ start)
    NothingDone _ start end = ⊥

    -- a command failed; or the run to its end, or what came of it, wasn't right
    abbrev pub RunsBadly : Halt → V → V → Type 0
    RunsBadly halt start end =
        StoreStops g 268435456 false halt start (script_of index heap rows) end ⊎ Unproved halt start end

    -- nothing was done; or the script was run, which is so only where there is room
    abbrev pub NotLoads : Halt → V → V → Type 0
    NotLoads halt start end = NothingDone halt start end ⊎ (HasRoom index heap rows × RunsBadly halt start end)
