-- What survives of a run, whatever the store does.
--     HasLog base c            files that a crash leaves: a restart finds them, and their log is a history that begins with the records of base
--     Holds base c             they have such a log, or no database, where base has no record
--     IsOwn base s             the store tells its files, and a crash leaves only such
--     IsOwnWhere P base s      so it is of the files with P that a crash leaves
--     NoneEscapesFrom core c   no damage escapes a crash of the core that leaves the files c: each stray write was found by the audits that passed it, and each
--                              region that was read or written behind one is named by an audit of the log of c
--     NoneEscapesIn Safe p c   so it is while the program is up; while it is down Safe says what is asked of the files
--     NoneEscapesRead Safe p   so it is of the files as they read
--     NoneEscapesOld Safe p c  and of c, if a crash may leave it there
--     NoneEscapesAt core       and of each of the files that a crash leaves
--     NoneEscapesMaking ..     of the files c behind a command that makes or finds a database, and may fail: a crash might have left c before it, and no damage
--                              escapes from c; or none does from the files as they read, nor from c, if it might have been left before
--     IsAPoint Safe base p     the program is up, at a point of a run whose flushed records are base; or its store is such, but for files that aren't Safe
--     SafeBehind Safe ..       what is asked of files behind a command, where it was Safe before: of those that a restart which failed leaves, NoneEscapesMaking
--     NoneEscapesLeft ..       no damage escapes where a command gives the memory up: from the files that a crash keeps, and those that size, open and
--                              restart go on from. Of a restart that failed nothing is asked here
--     NoneEscapesBehind ..     and from the files c that a crash leaves behind a command which failed
--     NoneEscape, SafeAfter .. so it is along a run, at each state at which such a command follows; and what is asked behind it
--     NoneEscapesBefore ..     and so of the commands that a script's run with each status has run
--     IsHonest ..              and of the last one
--     IsLogOf, IsLoggedBy ..   behind a round the flushed records are those of the log that its lines speak of
--     AllSurvive ..            each state of a run is such a point, and what was flushed at the one before, or a crash has to leave of it, begins what is at it
--     Survives ..              so it is of a run with each status, and the store that comes back has what was flushed at the last state
--     RunsSurvive              so it is of each run
use Rattle.std.specs.Prelude.{◌≡◌, ◌⊎◌, ℕ, Bool, true, false, List, [], ◌∷◌, ◌++◌, length, map, take, Option, Some, None, IfSome, is_some}
use Rattle.std.proofs.Common.{inl, inr}
use Rattle.dali_arguments.specs.Meaning.{meaning}
use Rattle.dali_arguments.specs.declared.task.Task.{Task}
use Rattle.dali_arguments.specs.declared.task.Task.TheVariants.{Run, Generate}
use Rattle.dali_log.specs.Batch.{IsUnformatted}
use Rattle.dali_record.specs.declared.records.Record.{Record}
use Rattle.dali_record.specs.Epochs.{last_epoch}
use Rattle.dali_record.specs.Files.{Files}
use Rattle.dali_generator.specs.Generated.{generated}
use Rattle.dali_history.specs.History.{IsHistory}
use Rattle.dali_fuse.specs.Fuse.{inner}
use Rattle.dali_fuse.specs.declared.fuse.Fuse.{Fuse}
use Rattle.dali_store.specs.Store.{Files as Disk}
use Rattle.dali_store.specs.declared.store.Store.{Ghosts}
use Rattle.dali_runs.specs.Crashes.{NoneEscapes}
use Rattle.dali_runs.specs.Run.{log_in}
use Rattle.dali_runs.specs.State.{VaultState, stable}
use Rattle.dali_transcripts.specs.Clients.Said.{Transcribed}
use Rattle.dali_crash.specs.Checkpoints.{Point}
use Rattle.dali_crash.specs.Traces.{Start}
use Rattle.dali_crash.specs.Disks.Disks.{Spells}
use Rattle.dali_resume.specs.Interrupted.Found.{FindsIt}
use Rattle.dali_core.specs.declared.whole.Core.{Core}
use Rattle.dali_restart.specs.Headline.{IsPlaced}
use Rattle.dali_round.specs.Leads.{BeginsAt}
use Rattle.dali_script.specs.declared.commands.Command.{Command}
use Rattle.dali_script.specs.declared.commands.Command.TheVariants.{Size, Open, Round, Poke, Audit, Checkpoint, Crash, Restart}
use Rattle.dali_transcripts.specs.Words.{Act, Pokes, Audits, Checkpoints}
use Rattle.dali_transcripts.specs.Transcripts.{Told}
use Rattle.dali_run.specs.declared.halt.Halt.{Halt}
use Rattle.dali_run.specs.declared.halt.Halt.TheVariants as halts
use Rattle.dali_run.specs.declared.program.Program.{Program}
use Rattle.dali_run.specs.declared.program.Program.TheVariants.{Up, Down}
use Rattle.dali_run.specs.declared.status.Status.{Status}
use Rattle.dali_run.specs.declared.status.Status.TheVariants.{Done, WriteFault, StoreFault, BadStore, Unformatted, Formatted, StoreUnsteady, RecordTooLong, OutOfMemory, LogFull}
use Rattle.dali_run.specs.Ends.{Course, Ended, EndedGenerator, EndedScript, GeneratorFails, GeneratorFinds, GeneratorLoses, GeneratorStops, GeneratorWants, HasEnded, HasStopped, Untouched}
use Rattle.dali_run.specs.Fails.{AloneFails, Breaks, Fails, Lost, StoreFailsIn}
use Rattle.dali_run.specs.Generating.{IsCrashed, IsPlayed}
use Rattle.dali_run.specs.Program.{store_of, told_in, leaves_in, faults_in, fused}
use Rattle.dali_run.specs.Run.{HasRun, RunsAll}
use Rattle.dali_run.specs.Scripts.{CutIn, RanWhole, StoppedIn}
use Rattle.dali_run.specs.Steps.{Plays, Steps, StepsRestart}
use Rattle.dali_run.specs.Told.{told_by, alone}

-- ---- the files that a crash leaves
abbrev pub BeginsWith : List Record → List Record → Type 0
BeginsWith base L = (more : List Record) × (L ≡ base ++ more)

pub record HasLog (base : List Record) (c : Disk) : Type 0 where
  pub files : Files
  pub spells : Spells c files
  pub finds : FindsIt files
  pub history : IsHistory (log_in files)
  pub begins : BeginsWith base (log_in files)

abbrev pub Holds : List Record → Disk → Type 0
Holds base c = (IsUnformatted c.log × (base ≡ [])) ⊎ HasLog base c

-- ---- damage
abbrev pub AnyFiles : Disk → Type 0
AnyFiles c = Unit {0}

module _ {V : Type 0} where
  abbrev pub NoneEscapesFrom : Core (Fuse V) → Disk → Type 0
  NoneEscapesFrom core c = (v : VaultState) (E : Files) → Spells c E → NoneEscapes (last_epoch (log_in E)) (record { regions = core.regions.items; system = core.system.state; vault = v })

  abbrev pub NoneEscapesIn : (Disk → Type 0) → Program V → Disk → Type 0
  NoneEscapesIn Safe (Up core) = NoneEscapesFrom core
  NoneEscapesIn Safe (Down store) = Safe

module _ {V : Type 0} (g : Ghosts V) where
  abbrev pub NoneEscapesRead : (Disk → Type 0) → Program V → Type 0
  NoneEscapesRead Safe p = IfSome (g.told (inner (store_of p))) (NoneEscapesIn Safe p)

  abbrev pub NoneEscapesOld : (Disk → Type 0) → Program V → Disk → Type 0
  NoneEscapesOld Safe p c = g.may_leave (inner (store_of p)) c → NoneEscapesIn Safe p c

  -- from whatever a crash leaves
  abbrev pub NoneEscapesAt : Core (Fuse V) → Type 0
  NoneEscapesAt core = (c : Disk) → leaves_in g core.vault.store c → NoneEscapesFrom core c

  abbrev pub IsOwn : List Record → V → Type 0
  IsOwn base s = (is_some (g.told s) ≡ true) × ((c : Disk) → g.may_leave s c → Holds base c)

  abbrev pub IsOwnWhere : (Disk → Type 0) → List Record → V → Type 0
  IsOwnWhere P base s = (is_some (g.told s) ≡ true) × ((c : Disk) → g.may_leave s c → P c → Holds base c)

  -- of the making or the finding of a database, which may fail: c was left before it; or it comes of the files as they read
  abbrev pub NoneEscapesMaking : (Disk → Type 0) → Program V → Disk → Type 0
  NoneEscapesMaking Safe old c =
      (g.may_leave (inner (store_of old)) c × NoneEscapesIn Safe old c) ⊎ (NoneEscapesRead Safe old × NoneEscapesOld Safe old c)

  pub record IsPointOf (base : List Record) (core : Core (Fuse V)) : Type 0 where
    pub tells : is_some (told_in g core.vault.store) ≡ true
    pub start : Start
    pub placed : IsPlaced start
    pub history : IsHistory start.log
    pub batches : List (List Record)
    pub point : Point
    pub begins : BeginsAt (fused g) start batches point core.regions.items core.system.state core.vault
    pub flushed : base ≡ take (stable point.core) point.log

  abbrev pub IsAPoint : (Disk → Type 0) → List Record → Program V → Type 0
  IsAPoint Safe base (Up core) = IsPointOf base core
  IsAPoint Safe base (Down store) = IsOwnWhere Safe base (inner store)

module _ {V : Type 0} (g : Ghosts V) (precheck : Bool) where
  abbrev pub IsLogOf : (base : List Record) (blocks : List Told) (c : Core (Fuse V)) (transcripts : List Transcribed) (d : Core (Fuse V))
      → Plays g precheck true blocks c transcripts d → IsPointOf g base c → List Record → Type 0
  IsLogOf base blocks c transcripts d plays at base' = let led = plays at.start at.batches at.point at.begins in base' ≡ take (stable led.to.core) led.to.log

module _ {V : Type 0} (g : Ghosts V) (limit : ℕ) (precheck : Bool) where
  -- ---- along the chain of a run's own states
  abbrev pub SafeRestarted : (Disk → Type 0) → (old : Program V) (text : List ℕ) (new : Program V) → StepsRestart g limit old text new → Disk → Type 0
  SafeRestarted Safe old text new (inl step) = AnyFiles
  SafeRestarted Safe old text new (inr stops) = NoneEscapesMaking g Safe old

  abbrev pub SafeBehind : (Disk → Type 0) → (command : Command) (old : Program V) (text : List ℕ) (new : Program V) → Steps g limit precheck old command text new → Disk → Type 0
  SafeBehind Safe (Size index heap) old text new step = AnyFiles
  SafeBehind Safe Open old text new step = SafeRestarted Safe old text new step
  SafeBehind Safe Restart old text new step = SafeRestarted Safe old text new step
  SafeBehind Safe (Crash choice) old text new step = AnyFiles
  SafeBehind Safe _ old text new step = Safe

  abbrev pub NoneEscapesRestarted : (Disk → Type 0) → (old : Program V) (text : List ℕ) (new : Program V) → StepsRestart g limit old text new → Type 0
  NoneEscapesRestarted Safe old text new (inl step) = NoneEscapesRead g Safe old
  NoneEscapesRestarted Safe old text new (inr stops) = Unit {0}

  abbrev pub NoneEscapesLeft : (Disk → Type 0) → (command : Command) (old : Program V) (text : List ℕ) (new : Program V) → Steps g limit precheck old command text new → Type 0
  NoneEscapesLeft Safe (Size index heap) old text new step = NoneEscapesRead g Safe old
  NoneEscapesLeft Safe Open old text new step = NoneEscapesRestarted Safe old text new step
  NoneEscapesLeft Safe Restart old text new step = NoneEscapesRestarted Safe old text new step
  NoneEscapesLeft Safe (Crash choice) old text new step = IfSome (g.told step.store) (NoneEscapesIn Safe old)
  NoneEscapesLeft Safe _ old text new step = Unit {0}

  abbrev pub NoneEscape : (Disk → Type 0) → (commands : List Command) (old : Program V) (text : List ℕ) (new : Program V) → RunsAll g limit precheck old commands text new → Type 0
  NoneEscape Safe [] old text new runs = Unit {0}
  NoneEscape Safe (command ∷ later) old text new runs =
      NoneEscapesLeft Safe command old runs.0 runs.1 runs.3 × NoneEscape (SafeBehind Safe command old runs.0 runs.1 runs.3) later runs.1 runs.2 new runs.4

  abbrev pub SafeAfter : (Disk → Type 0) → (commands : List Command) (old : Program V) (text : List ℕ) (new : Program V) → RunsAll g limit precheck old commands text new → Disk → Type 0
  SafeAfter Safe [] old text new runs = Safe
  SafeAfter Safe (command ∷ later) old text new runs = SafeAfter (SafeBehind Safe command old runs.0 runs.1 runs.3) later runs.1 runs.2 new runs.4

  abbrev pub IsLoggedBy : (Safe : Disk → Type 0) (command : Command) (base : List Record) (old : Program V) (text : List ℕ) (new : Program V)
      → Steps g limit precheck old command text new → IsAPoint g Safe base old → List Record → Type 0
  IsLoggedBy Safe (Round blocks) base (Up core) text new step at base' = IsLogOf g precheck base (map told_by blocks) core step.1.transcripts step.0 step.1.plays at base'
  IsLoggedBy Safe _ base old text new step at base' = Unit {0}

  abbrev pub AllSurvive : (Safe : Disk → Type 0) (commands : List Command) (base : List Record) (old : Program V) → IsAPoint g Safe base old → (text : List ℕ) (new : Program V)
      → RunsAll g limit precheck old commands text new → List Record → Type 0
  AllSurvive Safe [] base old at text new runs base' = base' ≡ base
  AllSurvive Safe (command ∷ later) base old at text new runs base' =
      (mid : List Record) × BeginsWith base mid × (then : IsAPoint g (SafeBehind Safe command old runs.0 runs.1 runs.3) mid runs.1)
      × IsLoggedBy Safe command base old runs.0 runs.1 runs.3 at mid
      × AllSurvive (SafeBehind Safe command old runs.0 runs.1 runs.3) later mid runs.1 then runs.2 new runs.4 base'

  -- behind a command that failed: where a round was cut, or the store failed in one of one client; else where it began
  abbrev pub NoneEscapesCut : (Disk → Type 0) → (blocks : List Told) (old : Program V) (f : Fuse V) → Lost g precheck blocks old f → Disk → Type 0
  NoneEscapesCut Safe blocks (Up core) f (inl none) = NoneEscapesFrom core
  NoneEscapesCut Safe blocks (Up core) f (inr played) = NoneEscapesFrom played.core
  NoneEscapesCut Safe blocks (Down store) f lost = Safe

  abbrev pub NoneEscapesLost : (Disk → Type 0) → (command : Command) (old : Program V) (f : Fuse V) → Breaks g precheck command old f → Disk → Type 0
  NoneEscapesLost Safe (Size index heap) old f breaks = NoneEscapesMaking g Safe old
  NoneEscapesLost Safe Open old f breaks = NoneEscapesMaking g Safe old
  NoneEscapesLost Safe Restart old f breaks = NoneEscapesMaking g Safe old
  NoneEscapesLost Safe (Round blocks) old f breaks = NoneEscapesCut Safe (map told_by blocks) old f breaks
  NoneEscapesLost Safe (Poke region word mask) old f breaks = NoneEscapesCut Safe (alone (Pokes region word mask)) old f breaks
  NoneEscapesLost Safe Audit old f breaks = NoneEscapesCut Safe (alone Audits) old f breaks
  NoneEscapesLost Safe Checkpoint old f breaks = NoneEscapesCut Safe (alone Checkpoints) old f breaks
  NoneEscapesLost Safe _ old f breaks = NoneEscapesIn Safe old

  abbrev pub NoneEscapesAlone : (Disk → Type 0) → (act : Act) (old : Program V) (f : Fuse V) → AloneFails g precheck act old f → Disk → Type 0
  NoneEscapesAlone Safe act (Up core) f fails = NoneEscapesFrom fails.core
  NoneEscapesAlone Safe act (Down store) f fails = Safe

  abbrev pub NoneEscapesFailed : (Disk → Type 0) → (command : Command) (old : Program V) (f : Fuse V) → StoreFailsIn g precheck command old f → Disk → Type 0
  NoneEscapesFailed Safe (Size index heap) old f fails = NoneEscapesMaking g Safe old
  NoneEscapesFailed Safe Open old f fails = NoneEscapesMaking g Safe old
  NoneEscapesFailed Safe Restart old f fails = NoneEscapesMaking g Safe old
  NoneEscapesFailed Safe (Poke region word mask) old f fails = NoneEscapesAlone Safe (Pokes region word mask) old f fails
  NoneEscapesFailed Safe Audit old f fails = NoneEscapesAlone Safe Audits old f fails
  NoneEscapesFailed Safe Checkpoint old f fails = NoneEscapesAlone Safe Checkpoints old f fails
  NoneEscapesFailed Safe _ old f fails = NoneEscapesIn Safe old

  abbrev pub NoneEscapesBehind : (Disk → Type 0) → (halt : Halt) (command : Command) (old : Program V) (f : Fuse V) → Fails g precheck halt command old f → Disk → Type 0
  NoneEscapesBehind Safe halts.StoreFault command old f fails = NoneEscapesFailed Safe command old f fails
  NoneEscapesBehind Safe halts.OutOfMemory command old f fails = NoneEscapesLost Safe command old f fails
  NoneEscapesBehind Safe _ command old f fails = NoneEscapesIn Safe old

  -- some commands of a script were run
  abbrev pub NoneEscapeThere : (start : V) (script : List Command) (count : ℕ) (text : List ℕ) (new : Program V) → HasRun g limit precheck start script count text new → Type 0
  NoneEscapeThere start script count text new run = NoneEscape AnyFiles (take count script) run.first text new run.runs

  abbrev pub SafeThere : (start : V) (script : List Command) (count : ℕ) (text : List ℕ) (new : Program V) → HasRun g limit precheck start script count text new → Disk → Type 0
  SafeThere start script count text new run = SafeAfter AnyFiles (take count script) run.first text new run.runs

  pub record RunSurvives (base : List Record) (start : V) (script : List Command) (count : ℕ) (text : List ℕ) (new : Program V)
      (run : HasRun g limit precheck start script count text new) (base' : List Record) : Type 0 where
    pub at : IsAPoint g AnyFiles base run.first
    pub each : AllSurvive AnyFiles (take count script) base run.first at text new run.runs base'
    pub behind : IsAPoint g (SafeThere start script count text new run) base' new

  -- ---- each way in which a run ends
  pub record WholeSurvives (base : List Record) (start : V) (script : List Command) (before after : Option (List ℕ)) (end : V)
      (ran : RanWhole g limit precheck start script before after end) : Type 0 where
    pub base' : List Record
    pub run : RunSurvives base start script (length script) ran.text ran.state ran.run base'
    pub comes_back : IsOwnWhere g (NoneEscapesIn (SafeThere start script (length script) ran.text ran.state ran.run) ran.state) base' end

  abbrev pub SafeCut : (start : V) (script : List Command) (before after : Option (List ℕ)) (end : V) → CutIn g limit precheck start script before after end → Disk → Type 0
  SafeCut start script before after end cut =
      SafeBehind (SafeThere start script cut.count cut.text cut.earlier cut.ran) cut.command cut.earlier cut.more cut.state cut.steps

  pub record CutSurvives (base : List Record) (start : V) (script : List Command) (before after : Option (List ℕ)) (end : V)
      (cut : CutIn g limit precheck start script before after end) : Type 0 where
    pub mid : List Record
    pub run : RunSurvives base start script cut.count cut.text cut.earlier cut.ran mid
    pub base' : List Record
    pub more : BeginsWith mid base'
    pub last : IsAPoint g (SafeCut start script before after end cut) base' cut.state
    pub comes_back : IsOwnWhere g (NoneEscapesIn (SafeCut start script before after end cut) cut.state) base' end

  abbrev pub SafeStopped : (halt : Halt) (start : V) (script : List Command) (before after : Option (List ℕ)) (end : V)
      → StoppedIn g limit precheck halt start script before after end → Disk → Type 0
  SafeStopped halt start script before after end stops =
      NoneEscapesBehind (SafeThere start script stops.count stops.text stops.state stops.run) halt stops.command stops.state stops.last stops.fails

  pub record StopSurvives (base : List Record) (halt : Halt) (start : V) (script : List Command) (before after : Option (List ℕ)) (end : V)
      (stops : StoppedIn g limit precheck halt start script before after end) : Type 0 where
    pub base' : List Record
    pub run : RunSurvives base start script stops.count stops.text stops.state stops.run base'
    pub comes_back : IsOwnWhere g (SafeStopped halt start script before after end stops) base' end

  module _ (c : Course V) (mid : Option (List ℕ)) (count : ℕ) where
    -- no damage escapes along the commands that were run
    abbrev pub NoneEscapesStopped : (halt : Halt) → HasStopped g limit precheck halt c mid → Type 0
    NoneEscapesStopped halt stopped = let stops = stopped.2 in NoneEscapeThere c.store stopped.0 stops.count stops.text stops.state stops.run

    abbrev pub NoneEscapesWanting : Untouched c mid ⊎ HasStopped g limit precheck halts.OutOfMemory c mid → Type 0
    NoneEscapesWanting (inl untouched) = Unit {0}
    NoneEscapesWanting (inr stopped) = NoneEscapesStopped halts.OutOfMemory stopped

    abbrev pub NoneEscapesBefore : (status : Status) → EndedScript g limit precheck c mid count status → Type 0
    NoneEscapesBefore Done ended = let ran = ended.2 in NoneEscapeThere c.store ended.0 (length ended.0) ran.text ran.state ran.run
    NoneEscapesBefore WriteFault ended = let cut = ended.1.2 in NoneEscapeThere c.store ended.1.0 cut.count cut.text cut.earlier cut.ran
    NoneEscapesBefore StoreFault ended = NoneEscapesStopped halts.StoreFault ended
    NoneEscapesBefore (BadStore file at) ended = NoneEscapesStopped (halts.BadStore file at) ended
    NoneEscapesBefore Unformatted ended = NoneEscapesStopped halts.Unformatted ended
    NoneEscapesBefore Formatted ended = NoneEscapesStopped halts.Formatted ended
    NoneEscapesBefore StoreUnsteady ended = NoneEscapesStopped halts.StoreUnsteady ended
    NoneEscapesBefore RecordTooLong ended = NoneEscapesStopped halts.RecordTooLong ended
    NoneEscapesBefore OutOfMemory ended = NoneEscapesWanting ended
    NoneEscapesBefore _ ended = Unit {0}

    -- nor by the last one: it found the store bad, or without a database, or its lines weren't written
    abbrev pub NoneEscapesFound : (halt : Halt) → HasStopped g limit precheck halt c mid → Type 0
    NoneEscapesFound halt stopped =
        let stops = stopped.2 in NoneEscapesRead g (SafeThere c.store stopped.0 stops.count stops.text stops.state stops.run) stops.state

    abbrev pub NoneEscapesLast : (status : Status) → EndedScript g limit precheck c mid count status → Type 0
    NoneEscapesLast WriteFault ended =
        let cut = ended.1.2 in
        NoneEscapesLeft (SafeThere c.store ended.1.0 cut.count cut.text cut.earlier cut.ran) cut.command cut.earlier cut.more cut.state cut.steps
    NoneEscapesLast (BadStore file at) ended = NoneEscapesFound (halts.BadStore file at) ended
    NoneEscapesLast Unformatted ended = NoneEscapesFound halts.Unformatted ended
    NoneEscapesLast _ ended = Unit {0}

    abbrev pub ScriptIsHonest : (status : Status) → EndedScript g limit precheck c mid count status → Type 0
    ScriptIsHonest status ended = NoneEscapesBefore status ended × NoneEscapesLast status ended

    module _ (base : List Record) where
      -- no command was run
      abbrev pub NoneRan : Type 0
      NoneRan = IsOwn g base c.store'

      abbrev pub HaltSurvives : (halt : Halt) → HasStopped g limit precheck halt c mid → Type 0
      HaltSurvives halt stopped = StopSurvives base halt c.store stopped.0 c.taken mid c.store' stopped.2

      abbrev pub MemorySurvives : Untouched c mid ⊎ HasStopped g limit precheck halts.OutOfMemory c mid → Type 0
      MemorySurvives (inl untouched) = NoneRan
      MemorySurvives (inr stopped) = HaltSurvives halts.OutOfMemory stopped

      -- such files are never bad and read the same each time, and where there is no database nothing was committed
      abbrev pub ScriptSurvives : (status : Status) → EndedScript g limit precheck c mid count status → Type 0
      ScriptSurvives Done ended = WholeSurvives base c.store ended.0 c.taken mid c.store' ended.2
      ScriptSurvives WriteFault ended = CutSurvives base c.store ended.1.0 c.taken mid c.store' ended.1.2
      ScriptSurvives StoreFault ended = HaltSurvives halts.StoreFault ended
      ScriptSurvives (BadStore file at) ended = ⊥
      ScriptSurvives Unformatted ended = (survives : HaltSurvives halts.Unformatted ended) × (survives.base' ≡ [])
      ScriptSurvives Formatted ended = HaltSurvives halts.Formatted ended
      ScriptSurvives StoreUnsteady ended = ⊥
      ScriptSurvives RecordTooLong ended = HaltSurvives halts.RecordTooLong ended
      ScriptSurvives OutOfMemory ended = MemorySurvives ended
      ScriptSurvives (LogFull end limit) ended = ⊥
      ScriptSurvives _ ended = NoneRan

module _ {V : Type 0} (g : Ghosts V) where
  -- ---- a generated script
  module _ (clients size number : ℕ) where
    -- ---- each of its states: the database was made, its round run, the crash and the restart
    pub record PlayedSurvives (base : List Record) (start : V) (ends : Option Halt) (run : IsPlayed g 67108864 clients size number start ends)
        (base' : List Record) : Type 0 where
      pub first : List Record
      pub more : BeginsWith base first
      pub made : IsPointOf g first run.made
      pub later : BeginsWith first base'
      pub logged : IsLogOf g false first (map told_by (generated clients size number)) run.made run.round.round.transcripts run.played run.round.round.plays made base'
      pub played : IsPointOf g base' run.played

    pub record CrashedSurvives (base : List Record) (start : V) (run : IsCrashed g 67108864 clients size number start)
        (base' : List Record) : Type 0 where
      pub earlier : List Record
      pub before : PlayedSurvives base start None run.run earlier
      pub more : BeginsWith earlier base'
      pub crashed : IsAPoint g AnyFiles base' run.crashed

    pub record FoundSurvives (base : List Record) (start : V) (found : Core (Fuse V)) (run : GeneratorFinds g clients size number start found)
        (base' : List Record) : Type 0 where
      pub earlier : List Record
      pub before : CrashedSurvives base start run.run earlier
      pub more : BeginsWith earlier base'
      pub behind : IsPointOf g base' found

    module _ (c : Course V) (mid : Option (List ℕ)) (count : ℕ) (base : List Record) where
      -- the store that comes back has all that was flushed at the last state
      abbrev pub ComesBack : (List Record → Type 0) → Type 0
      ComesBack Ran = (base' : List Record) × Ran base' × IsOwn g base' c.store'

      abbrev pub PlayedBack : (ends : Option Halt) → IsPlayed g 67108864 clients size number c.store ends → Type 0
      PlayedBack ends run = ComesBack (PlayedSurvives base c.store ends run)

      abbrev pub FoundBack : (found : Core (Fuse V)) → GeneratorFinds g clients size number c.store found → Type 0
      FoundBack found run = ComesBack (FoundSurvives base c.store found run)

      abbrev pub StopBack : (halt : Halt) → GeneratorStops g clients size number halt c.store c.store' → Type 0
      StopBack halt (inl first) = IsOwn g base c.store'
      StopBack halt (inr (inl crash)) = PlayedBack None crash.0
      StopBack halt (inr (inr restart)) = ComesBack (CrashedSurvives base c.store restart.0)

      abbrev pub LossBack : GeneratorLoses g clients size number c.store c.store' → Type 0
      LossBack lost = ComesBack (λ base'. BeginsWith base base' × IsPointOf g base' lost.made)

      -- no fuse is set, so none fails a call of the restart
      abbrev pub FaultBack : GeneratorFails g clients size number c.store c.store' → Type 0
      FaultBack (inl stops) = StopBack halts.StoreFault stops
      FaultBack (inr (inl refused)) = PlayedBack (Some halts.StoreFault) refused.run
      FaultBack (inr (inr none)) = ⊥

      abbrev pub WantBack : GeneratorWants g clients size number c.store c.store' → Type 0
      WantBack (inl same) = IsOwn g base c.store'
      WantBack (inr (inl (inl stops))) = StopBack halts.OutOfMemory stops
      WantBack (inr (inl (inr lost))) = LossBack lost
      WantBack (inr (inr (inl refused))) = PlayedBack (Some halts.OutOfMemory) refused.run
      WantBack (inr (inr (inr last))) = FoundBack last.0 last.1

      -- files that a database was just made in are never bad, and a restart finds it; no other status comes
      abbrev pub GeneratorSurvives : (status : Status) → EndedGenerator g clients size number c mid count status → Type 0
      GeneratorSurvives Done ended = FoundBack ended.1.found ended.1.run
      GeneratorSurvives WriteFault ended = FoundBack ended.1.found ended.1.run
      GeneratorSurvives StoreFault ended = FaultBack ended.0
      GeneratorSurvives Formatted ended = IsOwn g base c.store'
      GeneratorSurvives RecordTooLong ended = StopBack halts.RecordTooLong ended.0
      GeneratorSurvives (LogFull end most) ended = PlayedBack (Some (halts.LogFull end most)) ended.0.run
      GeneratorSurvives OutOfMemory ended = WantBack ended.0
      GeneratorSurvives _ ended = ⊥

  -- ---- each task of the words
  module _ (c : Course V) (mid : Option (List ℕ)) (count : ℕ) where
    -- no damage escapes along the run; in a generated one none does by itself
    abbrev pub IsHonest : (task : Option Task) (status : Status) → Ended g task c mid count status → Type 0
    IsHonest (Some (Run precheck limit)) status ended = ScriptIsHonest g limit precheck c mid count status ended
    IsHonest _ status ended = Unit {0}

    module _ (base : List Record) where
      abbrev pub Survives : (task : Option Task) (status : Status) → Ended g task c mid count status → Type 0
      Survives (Some (Run precheck limit)) status ended = ScriptSurvives g limit precheck c mid count base status ended
      Survives (Some (Generate clients size number)) status ended = GeneratorSurvives clients size number c mid count base status ended
      Survives _ status ended = IsOwn g base c.store'

  -- with every status
  abbrev pub RunsSurvive : Type 0
  RunsSurvive =
      (words : List (List ℕ)) (c : Course V) (status : Status) (base : List Record) → IsOwn g base c.store
      → (e : HasEnded g words c status) → IsHonest c e.mid e.count (meaning words) status e.ended
      → Survives c e.mid e.count base (meaning words) status e.ended
