-- How a run ends, and what was read, run and written before.
--     Course, course            what a run was handed, and what it left
--     LastLine                  the last line was written behind what was, and the sink's count of faults stayed; or it was cut, and the count rose in it
--     EndedScript               what holds of each status of a script's run, where this was written before the last line, and the sink's count of faults was
--                               this one then
--     EndedGenerator            of a generated script's
--     EndedDump                 of a dump
--     EndedLook P               of a task that tells what P says of what a restart would find
--     EndedLoad                 of the loading of rows
--     Ended task                of each task of the words, and where they are none
--     EndsAs task               a run from its start to its end; each stream's count of faults stayed, until the last line, unless the status says that it failed
--     HasEnded words            so ends what the words mean
use Rattle.std.specs.Prelude.{◌≡◌, ◌⊎◌, ℕ, ◌≤◌, Bool, List, Option, Some, None}
use Rattle.dali_arguments.specs.Meaning.{meaning}
use Rattle.dali_arguments.specs.declared.task.Task.{Task}
use Rattle.dali_arguments.specs.declared.task.Task.TheVariants.{Run, Generate, Dump, Show, Status as Standing, Load}
use Rattle.dali_fuse.specs.Fuse.{inner}
use Rattle.dali_fuse.specs.declared.fuse.Fuse.{Fuse}
use Rattle.dali_inspect.specs.declared.inspecting.Inspection.{Inspection}
use Rattle.dali_listing.specs.declared.Listed.{Listed}
use Rattle.dali_core.specs.declared.whole.Core.{Core}
use Rattle.dali_run.specs.declared.halt.Halt.{Halt}
use Rattle.dali_run.specs.declared.halt.Halt.TheVariants as halts
use Rattle.dali_run.specs.declared.status.Status.{Status}
use Rattle.dali_run.specs.declared.status.Status.TheVariants.{Done, BadWords, BadScript, TooLong, ReadFault, WriteFault, StoreFault, BadStore, Unformatted, Formatted, StoreUnsteady, RecordTooLong, OutOfMemory, LogFull, TooSmall, NotLoaded}
use Rattle.dali_run.specs.Dumping.{Dumps, NotDumped}
use Rattle.dali_run.specs.Generating.{IsFound, IsLost, Summarizes, RefusedIn, NotFound, EndedBy}
use Rattle.dali_run.specs.Halts.{last_line}
use Rattle.dali_run.specs.Looking.{Looks, NotLooked, TellsRecords, TellsStatus}
use Rattle.dali_run.specs.Loading.{HasNone, HasRows, Loads, NotLoads, count_text}
use Rattle.dali_run.specs.Scripts.{Spells, SpellsNone, RanWhole, StoppedIn, CutIn}
use Rattle.dali_script.specs.declared.commands.Command.{Command}
use Rattle.dali_store.specs.Faults.{Rose}
use Rattle.dali_store.specs.declared.store.Store.{Ghosts}
use Rattle.dali_streams.specs.Streams.{ReadTooMany, Appends, AppendsSome}
use Rattle.dali_streams.specs.declared.streams.Sink.{Ghosts as SinkGhosts}
use Rattle.dali_streams.specs.declared.streams.Source.{Ghosts as SourceGhosts}

abbrev pub LastLine : Option (List ℕ) → Status → Option (List ℕ) → ℕ → ℕ → Type 0
LastLine before status after faults faults' = (Appends before (last_line status) after × (faults' ≡ faults)) ⊎ (AppendsSome before (last_line status) after × Rose faults faults')

-- what a run was handed, and what it left: the bytes of the source, those that the sink took, the store, and the counts of faults of both streams
pub record Course (V : Type 0) : Type 0 where
  pub left : Option (List ℕ)
  pub left' : Option (List ℕ)
  pub read_faults : ℕ
  pub read_faults' : ℕ
  pub taken : Option (List ℕ)
  pub taken' : Option (List ℕ)
  pub write_faults : ℕ
  pub write_faults' : ℕ
  pub store : V
  pub store' : V

abbrev pub course : {S K V : Type 0} → SourceGhosts S → SinkGhosts K → S → S → K → K → V → V → Course V
course s k source source' sink sink' store store' = record {
  left = s.left source;
  left' = s.left source';
  read_faults = s.faults source;
  read_faults' = s.faults source';
  taken = k.taken sink;
  taken' = k.taken sink';
  write_faults = k.faults sink;
  write_faults' = k.faults sink';
  store = store;
  store' = store';
}

module _ {V : Type 0} where
  -- the store stays, and nothing was written
  abbrev pub Untouched : Course V → Option (List ℕ) → Type 0
  Untouched c mid = (c.store' ≡ c.store) × (mid ≡ c.taken)

  -- nothing was read
  abbrev pub Unread : Course V → Type 0
  Unread c = (c.left' ≡ c.left) × (c.read_faults' ≡ c.read_faults)

  -- nothing was read or written
  abbrev pub Silent : Course V → Option (List ℕ) → Type 0
  Silent c mid = Unread c × (mid ≡ c.taken)

  -- nothing was read, and this was written
  abbrev pub Tells : Course V → Option (List ℕ) → List ℕ → Type 0
  Tells c mid text = Unread c × Appends c.taken text mid

  -- the sink failed in writing this
  abbrev pub TellsSome : Course V → Option (List ℕ) → ℕ → List ℕ → Type 0
  TellsSome c mid count text = Unread c × AppendsSome c.taken text mid × Rose c.write_faults count

module _ {V : Type 0} (g : Ghosts V) (limit : ℕ) (precheck : Bool) where
  -- a script was read, and run to where P says
  abbrev pub WithScript : Course V → (List Command → Type 0) → Type 0
  WithScript c P = (script : List Command) × Spells c.left script c.left' × P script

  -- a script was read, and a command of it ended the run with this
  abbrev pub HasStopped : Halt → Course V → Option (List ℕ) → Type 0
  HasStopped halt c mid = WithScript c (λ script. StoppedIn g limit precheck halt c.store script c.taken mid c.store')

  abbrev pub EndedScript : Course V → Option (List ℕ) → ℕ → Status → Type 0
  EndedScript c mid count Done = WithScript c (λ script. RanWhole g limit precheck c.store script c.taken mid c.store')
  EndedScript c mid count (BadScript line kind) = SpellsNone c.left line kind c.left' × Untouched c mid
  EndedScript c mid count TooLong = ReadTooMany c.left 1048576 c.left' × Untouched c mid
  EndedScript c mid count ReadFault = Rose c.read_faults c.read_faults' × Untouched c mid
  EndedScript c mid count WriteFault = Rose c.write_faults count × WithScript c (λ script. CutIn g limit precheck c.store script c.taken mid c.store')
  EndedScript c mid count StoreFault = HasStopped halts.StoreFault c mid
  EndedScript c mid count (BadStore file at) = HasStopped (halts.BadStore file at) c mid
  EndedScript c mid count Unformatted = HasStopped halts.Unformatted c mid
  EndedScript c mid count Formatted = HasStopped halts.Formatted c mid
  EndedScript c mid count StoreUnsteady = HasStopped halts.StoreUnsteady c mid
  EndedScript c mid count RecordTooLong = HasStopped halts.RecordTooLong c mid
  EndedScript c mid count OutOfMemory = Untouched c mid ⊎ HasStopped halts.OutOfMemory c mid
  -- the words have a meaning, and no command of a script ends it for want of room
  EndedScript c mid count BadWords = ⊥
  EndedScript c mid count (LogFull end most) = ⊥
  EndedScript c mid count TooSmall = ⊥
  EndedScript c mid count NotLoaded = ⊥

module _ {V : Type 0} (g : Ghosts V) where
  -- the log has the room that it has where nothing is said
  module _ (clients size number : ℕ) where
    abbrev pub Generates : V → List ℕ → V → Type 0
    Generates = Summarizes g 67108864 clients size number

    abbrev pub GeneratorStops : Halt → V → V → Type 0
    GeneratorStops = EndedBy g 67108864 clients size number

    abbrev pub GeneratorIsRefused : Halt → V → V → Type 0
    GeneratorIsRefused = RefusedIn g 67108864 clients size number

    abbrev pub FindsNone : V → V → Type 0
    FindsNone = NotFound g 67108864 clients size number

    abbrev pub GeneratorFinds : V → Core (Fuse V) → Type 0
    GeneratorFinds = IsFound g 67108864 clients size number

    -- it was run to its end, and the store stood so behind it
    abbrev pub FindsLast : V → V → Type 0
    FindsLast start end = (found : Core (Fuse V)) × GeneratorFinds start found × (inner found.vault.store ≡ end)

    -- the store failed in a command, in the round, or in the restart
    abbrev pub GeneratorFails : V → V → Type 0
    GeneratorFails start end = GeneratorStops halts.StoreFault start end ⊎ (GeneratorIsRefused halts.StoreFault start end ⊎ FindsNone start end)

    abbrev pub GeneratorLoses : V → V → Type 0
    GeneratorLoses = IsLost g 67108864 clients size number

    -- nothing was done yet, or a command had no memory, or damage stopped the round, or the summary had no memory
    abbrev pub GeneratorWants : V → V → Type 0
    GeneratorWants start end = (end ≡ start) ⊎ ((GeneratorStops halts.OutOfMemory start end ⊎ GeneratorLoses start end) ⊎ (GeneratorIsRefused halts.OutOfMemory start end ⊎ FindsLast start end))

    abbrev pub EndedGenerator : Course V → Option (List ℕ) → ℕ → Status → Type 0
    EndedGenerator c mid count Done = (text : List ℕ) × Generates c.store text c.store' × Tells c mid text
    EndedGenerator c mid count WriteFault = (text : List ℕ) × Generates c.store text c.store' × TellsSome c mid count text
    EndedGenerator c mid count StoreFault = GeneratorFails c.store c.store' × Silent c mid
    EndedGenerator c mid count (BadStore file at) = GeneratorStops (halts.BadStore file at) c.store c.store' × Silent c mid
    EndedGenerator c mid count Unformatted = GeneratorStops halts.Unformatted c.store c.store' × Silent c mid
    EndedGenerator c mid count Formatted = GeneratorStops halts.Formatted c.store c.store' × Silent c mid
    EndedGenerator c mid count StoreUnsteady = GeneratorStops halts.StoreUnsteady c.store c.store' × Silent c mid
    EndedGenerator c mid count RecordTooLong = GeneratorStops halts.RecordTooLong c.store c.store' × Silent c mid
    EndedGenerator c mid count (LogFull end most) = GeneratorIsRefused (halts.LogFull end most) c.store c.store' × Silent c mid
    EndedGenerator c mid count OutOfMemory = GeneratorWants c.store c.store' × Silent c mid
    EndedGenerator c mid count _ = ⊥

  abbrev pub EndedDump : Course V → Option (List ℕ) → ℕ → Status → Type 0
  EndedDump c mid count Done = (text : List ℕ) × Dumps g c.store text c.store' × Tells c mid text
  EndedDump c mid count WriteFault = (text : List ℕ) × Dumps g c.store text c.store' × TellsSome c mid count text
  EndedDump c mid count StoreFault = NotDumped g halts.StoreFault c.store c.store' × Silent c mid
  EndedDump c mid count (BadStore file at) = NotDumped g (halts.BadStore file at) c.store c.store' × Silent c mid
  EndedDump c mid count Unformatted = NotDumped g halts.Unformatted c.store c.store' × Silent c mid
  EndedDump c mid count OutOfMemory = NotDumped g halts.OutOfMemory c.store c.store' × Silent c mid
  EndedDump c mid count _ = ⊥

  module _ (P : Inspection → List ℕ → Type 0) where
    abbrev pub EndedLook : Course V → Option (List ℕ) → ℕ → Status → Type 0
    EndedLook c mid count Done = (text : List ℕ) × Looks g P c.store text c.store' × Tells c mid text
    EndedLook c mid count WriteFault = (text : List ℕ) × Looks g P c.store text c.store' × TellsSome c mid count text
    EndedLook c mid count StoreFault = NotLooked g halts.StoreFault c.store c.store' × Silent c mid
    EndedLook c mid count (BadStore file at) = NotLooked g (halts.BadStore file at) c.store c.store' × Silent c mid
    EndedLook c mid count Unformatted = NotLooked g halts.Unformatted c.store c.store' × Silent c mid
    EndedLook c mid count RecordTooLong = NotLooked g halts.RecordTooLong c.store c.store' × Silent c mid
    EndedLook c mid count OutOfMemory = NotLooked g halts.OutOfMemory c.store c.store' × Silent c mid
    EndedLook c mid count _ = ⊥

  module _ (index heap : ℕ) where
    -- rows were read, of which this is so; nothing was written
    abbrev pub LoadStops : Halt → Course V → Option (List ℕ) → Type 0
    LoadStops halt c mid = (rows : List Listed) × HasRows c.left rows c.left' × NotLoads g index heap rows halt c.store c.store' × (mid ≡ c.taken)

    abbrev pub EndedLoad : Course V → Option (List ℕ) → ℕ → Status → Type 0
    EndedLoad c mid count Done = (rows : List Listed) × HasRows c.left rows c.left' × Loads g index heap rows c.store c.store' × Appends c.taken (count_text rows) mid
    EndedLoad c mid count WriteFault =
        (rows : List Listed) × HasRows c.left rows c.left' × Loads g index heap rows c.store c.store' × AppendsSome c.taken (count_text rows) mid × Rose c.write_faults count
    EndedLoad c mid count (BadScript line kind) = HasNone c.left line kind c.left' × Untouched c mid
    EndedLoad c mid count TooLong = ReadTooMany c.left 268435456 c.left' × Untouched c mid
    EndedLoad c mid count ReadFault = Rose c.read_faults c.read_faults' × Untouched c mid
    EndedLoad c mid count OutOfMemory = Untouched c mid ⊎ LoadStops halts.OutOfMemory c mid
    EndedLoad c mid count StoreFault = LoadStops halts.StoreFault c mid
    EndedLoad c mid count (BadStore file at) = LoadStops (halts.BadStore file at) c mid
    EndedLoad c mid count Unformatted = LoadStops halts.Unformatted c mid
    EndedLoad c mid count Formatted = LoadStops halts.Formatted c mid
    EndedLoad c mid count StoreUnsteady = LoadStops halts.StoreUnsteady c mid
    EndedLoad c mid count RecordTooLong = LoadStops halts.RecordTooLong c mid
    EndedLoad c mid count (LogFull end most) = LoadStops (halts.LogFull end most) c mid
    EndedLoad c mid count TooSmall = LoadStops halts.TooSmall c mid
    EndedLoad c mid count NotLoaded = LoadStops halts.NotLoaded c mid
    EndedLoad c mid count BadWords = ⊥

  -- the words are those of no command
  abbrev pub EndedNone : Course V → Option (List ℕ) → Status → Type 0
  EndedNone c mid BadWords = Unread c × Untouched c mid
  EndedNone c mid OutOfMemory = Unread c × Untouched c mid
  EndedNone c mid _ = ⊥

  abbrev pub Ended : Option Task → Course V → Option (List ℕ) → ℕ → Status → Type 0
  Ended None c mid count status = EndedNone c mid status
  Ended (Some (Run precheck limit)) c mid count status = EndedScript g limit precheck c mid count status
  Ended (Some (Generate clients size number)) c mid count status = EndedGenerator clients size number c mid count status
  Ended (Some Dump) c mid count status = EndedDump c mid count status
  Ended (Some Show) c mid count status = EndedLook TellsRecords c mid count status
  Ended (Some Standing) c mid count status = EndedLook TellsStatus c mid count status
  Ended (Some (Load index heap)) c mid count status = EndedLoad index heap c mid count status

  pub record EndsAs (task : Option Task) (c : Course V) (status : Status) : Type 0 where
    pub mid : Option (List ℕ)
    pub count : ℕ
    pub ended : Ended task c mid count status
    pub earlier : c.write_faults ≤ count
    pub kept : (status ≡ WriteFault → ⊥) → count ≡ c.write_faults
    pub later : count ≤ c.write_faults'
    pub read : (status ≡ ReadFault → ⊥) → c.read_faults' ≡ c.read_faults
    pub last : LastLine mid status c.taken' count c.write_faults'

  abbrev pub HasEnded : List (List ℕ) → Course V → Status → Type 0
  HasEnded words c status = EndsAs (meaning words) c status
