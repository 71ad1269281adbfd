-- How parts of a run stop.
--     NotRead s .. halt           no script was read
--     CommandStops halt ..        a command ended the run with this, or its lines couldn't be written
--     ScriptStops halt ..         the same of a script
--     GeneratorHalts halt ..      the same of a generated script, and its summary
--     DumpStops halt ..           the log wasn't written out
--     LookStops P halt ..         what P says of what a restart would find wasn't
use Rattle.std.specs.Prelude.{◌≡◌, ℕ, Bool, List}
use Rattle.dali_inspect.specs.declared.inspecting.Inspection.{Inspection}
use Rattle.dali_run.specs.declared.halt.Halt.{Halt}
use Rattle.dali_run.specs.declared.halt.Halt.TheVariants.{BadScript, TooLong, ReadFault, WriteFault, StoreFault, LogFull, OutOfMemory}
use Rattle.dali_run.specs.declared.program.Program.{Program}
use Rattle.dali_run.specs.Dumping.{Dumps, NotDumped}
use Rattle.dali_run.specs.Ends.{Generates, GeneratorFails, GeneratorIsRefused, GeneratorStops, GeneratorWants}
use Rattle.dali_run.specs.Fails.{Fails}
use Rattle.dali_run.specs.Looking.{Looks, NotLooked}
use Rattle.dali_run.specs.Program.{store_of}
use Rattle.dali_run.specs.Scripts.{SpellsNone, StoppedIn, CutIn}
use Rattle.dali_run.specs.Steps.{Steps}
use Rattle.dali_script.specs.declared.commands.Command.{Command}
use Rattle.dali_store.specs.Faults.{Rose}
use Rattle.dali_store.specs.declared.store.Store.{Ghosts}
use Rattle.dali_streams.specs.Streams.{ReadTooMany, AppendsSome}
use Rattle.dali_streams.specs.declared.streams.Sink.{Ghosts as SinkGhosts}
use Rattle.dali_streams.specs.declared.streams.Source.{Ghosts as SourceGhosts}

abbrev pub NotRead : {S : Type 0} → SourceGhosts S → S → S → Halt → Type 0
NotRead s old new (BadScript line kind) = SpellsNone (s.left old) line kind (s.left new)
NotRead s old new TooLong = ReadTooMany (s.left old) 1048576 (s.left new)
NotRead s old new ReadFault = Rose (s.faults old) (s.faults new)
NotRead s old new OutOfMemory = Unit {0}
NotRead s old new _ = ⊥

module _ {V K : Type 0} (g : Ghosts V) (k : SinkGhosts K) (limit : ℕ) (precheck : Bool) where
  pub record LinesCut (command : Command) (old new : Program V) (sink sink' : K) : Type 0 where
    pub text : List ℕ
    pub steps : Steps g limit precheck old command text new
    pub cut : AppendsSome (k.taken sink) text (k.taken sink')

  abbrev pub CommandStops : Halt → Command → Program V → Program V → K → K → Type 0
  CommandStops WriteFault command old new sink sink' = LinesCut command old new sink sink' × Rose (k.faults sink) (k.faults sink')
  CommandStops halt command old new sink sink' = Fails g precheck halt command old (store_of new) × (k.taken sink' ≡ k.taken sink)

  abbrev pub ScriptStops : Halt → V → List Command → V → K → K → Type 0
  ScriptStops WriteFault start script end sink sink' = CutIn g limit precheck start script (k.taken sink) (k.taken sink') end × Rose (k.faults sink) (k.faults sink')
  ScriptStops halt start script end sink sink' = StoppedIn g limit precheck halt start script (k.taken sink) (k.taken sink') end

module _ {V K : Type 0} (g : Ghosts V) (k : SinkGhosts K) where
  abbrev pub DumpStops : Halt → V → V → K → K → Type 0
  DumpStops WriteFault old new sink sink' = (text : List ℕ) × Dumps g old text new × AppendsSome (k.taken sink) text (k.taken sink') × Rose (k.faults sink) (k.faults sink')
  DumpStops halt old new sink sink' = NotDumped g halt old new × (k.taken sink' ≡ k.taken sink)

  abbrev pub LookStops : (Inspection → List ℕ → Type 0) → Halt → V → V → K → K → Type 0
  LookStops P WriteFault old new sink sink' = (text : List ℕ) × Looks g P old text new × AppendsSome (k.taken sink) text (k.taken sink') × Rose (k.faults sink) (k.faults sink')
  LookStops P halt old new sink sink' = NotLooked g halt old new × (k.taken sink' ≡ k.taken sink)

module _ {V : Type 0} (g : Ghosts V) (clients size number : ℕ) where
  -- behind the generation of the blocks
  abbrev pub GeneratorEnds : Halt → V → V → Type 0
  GeneratorEnds StoreFault start end = GeneratorFails g clients size number start end
  GeneratorEnds (LogFull end most) start left = GeneratorIsRefused g clients size number (LogFull end most) start left
  GeneratorEnds OutOfMemory start end = GeneratorWants g clients size number start end
  GeneratorEnds halt start end = GeneratorStops g clients size number halt start end

module _ {V K : Type 0} (g : Ghosts V) (k : SinkGhosts K) (clients size number : ℕ) where
  abbrev pub GeneratorHalts : Halt → V → V → K → K → Type 0
  GeneratorHalts WriteFault start end sink sink' =
      (text : List ℕ) × Generates g clients size number start text end × AppendsSome (k.taken sink) text (k.taken sink') × Rose (k.faults sink) (k.faults sink')
  GeneratorHalts halt start end sink sink' = GeneratorEnds g clients size number halt start end × (k.taken sink' ≡ k.taken sink)
