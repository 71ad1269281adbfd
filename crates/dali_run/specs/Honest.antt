-- Which runs meet by themselves that no damage escapes.
--     NonePoked gs             no region was poked since the core was made
--     CoresAreHonest           at a point of a run where none was, no damage escapes a crash
--     IsHonestWithin c d       within a round from the core c to d no damage escapes a crash, wherever it came from between
--     RoundsAreHonest          so it is where no region was poked at the round's end
--     EndsTellRounds           and from files from which none escapes the memory at the round's end, whoever was poked
--     pokes command            whether a command of a script is a poke, or has one in a block
--     PokesNowhere task c      the script that the source has, if the task reads one, has none
--     RoundsEscapeNone ..      so it is within each round of a run, and within one that was cut, or in which the store failed
--     SafeAtEnd ..             what is asked of the files that a crash leaves of the store that comes back, so that no damage escapes from them
--     GeneratorIsHonest ..     no damage escapes along a generated run, nor from the store that comes back
--     AreHonest ..             so it is of a run with each task and status
--     RunsAreHonest            so it is of each run whose script has no poke
use Rattle.std.specs.Prelude.{◌≡◌, ◌⊎◌, ℕ, Bool, true, false, List, [], ◌∷◌, length, map, take, Option, Some, None, slice_get}
use Rattle.std.specs.List.{list_any}
use Rattle.std.proofs.Common.{inl, inr}
use Rattle.dali_arguments.specs.Meaning.{meaning}
use Rattle.dali_arguments.specs.declared.task.Task.{Task}
use Rattle.dali_arguments.specs.declared.task.Task.TheVariants.{Run, Generate}
use Rattle.dali_generator.specs.Generated.{generated}
use Rattle.dali_fuse.specs.declared.fuse.Fuse.{Fuse}
use Rattle.dali_crash.specs.Checkpoints.{Point}
use Rattle.dali_record.specs.declared.records.Record.{Record}
use Rattle.dali_record.specs.Epochs.{last_epoch}
use Rattle.dali_record.specs.Files.{Files as Spelled}
use Rattle.dali_region.specs.State.{RegionState}
use Rattle.dali_round.specs.Moments.{IsRightBetween}
use Rattle.dali_script.specs.declared.commands.Block.{Block}
use Rattle.dali_script.specs.declared.commands.ClientCommand.{ClientCommand}
use Rattle.dali_script.specs.declared.commands.ClientCommand.TheVariants as clients
use Rattle.dali_script.specs.declared.commands.Command.{Command}
use Rattle.dali_script.specs.declared.commands.Command.TheVariants.{Round, Poke, Audit, Checkpoint}
use Rattle.dali_store.specs.Store.{Files}
use Rattle.dali_store.specs.declared.store.Store.{Ghosts}
use Rattle.dali_runs.specs.Crashes.{NoneEscapes}
use Rattle.dali_runs.specs.Run.{log_in}
use Rattle.dali_transcripts.specs.Transcripts.{Told}
use Rattle.dali_transcripts.specs.Words.{Act, Pokes, Audits, Checkpoints}
use Rattle.dali_core.specs.declared.whole.Core.{Core}
use Rattle.dali_run.specs.declared.halt.Halt.{Halt}
use Rattle.dali_run.specs.declared.halt.Halt.TheVariants as halts
use Rattle.dali_run.specs.declared.program.Program.{Program}
use Rattle.dali_run.specs.declared.program.Program.TheVariants.{Up, Down}
use Rattle.dali_run.specs.declared.status.Status.{Status}
use Rattle.dali_run.specs.declared.status.Status.TheVariants.{Done, WriteFault, StoreFault, BadStore, Unformatted, Formatted, StoreUnsteady, RecordTooLong, OutOfMemory, LogFull}
use Rattle.dali_run.specs.Ends.{Course, Ended, EndedGenerator, EndedScript, GeneratorFails, GeneratorFinds, GeneratorLoses, GeneratorStops, GeneratorWants, HasEnded, HasStopped, Untouched}
use Rattle.dali_run.specs.Fails.{AloneFails, Breaks, Fails, Lost, StoreFailsIn}
use Rattle.dali_run.specs.Generating.{IsCutRound, IsPlayed}
use Rattle.dali_run.specs.Run.{RunsAll}
use Rattle.dali_run.specs.Scripts.{Spells}
use Rattle.dali_run.specs.Steps.{Steps}
use Rattle.dali_run.specs.Survives.{AnyFiles, IsOwn, IsPointOf, NoneEscapesAt, NoneEscapesIn, SafeCut, SafeStopped, SafeThere, ScriptIsHonest}
use Rattle.dali_run.specs.Told.{alone, told_by}

abbrev pub NonePoked : List RegionState → Type 0
NonePoked gs = (r : ℕ) (g : RegionState) → slice_get gs r ≡ Some g → g.poked ≡ false

abbrev pub CoresAreHonest : {V : Type 0} → Ghosts V → Type 0
CoresAreHonest {V = V} g =
    (base : List Record) (core : Core (Fuse V)) → IsPointOf g base core → NonePoked core.regions.items → NoneEscapesAt g core

module _ {V : Type 0} (g : Ghosts V) where
  abbrev pub IsHonestWithin : Core (Fuse V) → Core (Fuse V) → Type 0
  IsHonestWithin c d =
      (base : List Record) (a : IsPointOf g base c) (q : Point) (F : Spelled) → q.core.regions ≡ d.regions.items → (is : IsRightBetween a.start a.point q F)
      → NoneEscapes (last_epoch (log_in F)) is.between.core

  abbrev pub RoundsAreHonest : Type 0
  RoundsAreHonest = (c d : Core (Fuse V)) → NonePoked d.regions.items → IsHonestWithin c d

  abbrev pub EndsTellRounds : Type 0
  EndsTellRounds =
      (c d : Core (Fuse V)) (base : List Record) (a : IsPointOf g base c) (q : Point) (F : Spelled) → q.core.regions ≡ d.regions.items
      → (is : IsRightBetween a.start a.point q F) → NoneEscapes (last_epoch (log_in F)) q.core → NoneEscapes (last_epoch (log_in F)) is.between.core

-- ---- scripts
abbrev pub is_poke : ClientCommand → Bool
is_poke (clients.Poke region word mask) = true
is_poke command = false

abbrev pub pokes_in : Block → Bool
pokes_in block = list_any is_poke block.commands

abbrev pub pokes : Command → Bool
pokes (Round blocks) = list_any pokes_in blocks
pokes (Poke region word mask) = true
pokes command = false

abbrev pub PokesNowhere : {V : Type 0} → Option Task → Course V → Type 0
PokesNowhere (Some (Run precheck limit)) c = (script : List Command) → Spells c.left script c.left' → list_any pokes script ≡ false
PokesNowhere task c = Unit {0}

-- ---- within each round
module _ {V : Type 0} (g : Ghosts V) (limit : ℕ) (precheck : Bool) where
  abbrev pub IsHonestIn : Core (Fuse V) → Core (Fuse V) → Type 0
  IsHonestIn c d = IsHonestWithin g c d

  abbrev pub StepIsHonest : (command : Command) (old : Program V) (text : List ℕ) (new : Program V) → Steps g limit precheck old command text new → Type 0
  StepIsHonest (Round blocks) (Up core) text new step = IsHonestIn core step.0
  StepIsHonest (Poke region word mask) (Up core) text new step = IsHonestIn core step.0
  StepIsHonest Audit (Up core) text new step = IsHonestIn core step.0
  StepIsHonest Checkpoint (Up core) text new step = IsHonestIn core step.0
  StepIsHonest command old text new step = Unit {0}

  abbrev pub StepsAreHonest : (commands : List Command) (old : Program V) (text : List ℕ) (new : Program V) → RunsAll g limit precheck old commands text new → Type 0
  StepsAreHonest [] old text new runs = Unit {0}
  StepsAreHonest (command ∷ later) old text new runs = StepIsHonest command old runs.0 runs.1 runs.3 × StepsAreHonest later runs.1 runs.2 new runs.4

  -- a command that failed
  abbrev pub LostIsHonest : (blocks : List Told) (old : Program V) (f : Fuse V) → Lost g precheck blocks old f → Type 0
  LostIsHonest blocks (Up core) f (inl none) = Unit {0}
  LostIsHonest blocks (Up core) f (inr played) = IsHonestIn core played.core
  LostIsHonest blocks (Down store) f lost = Unit {0}

  abbrev pub BrokenIsHonest : (command : Command) (old : Program V) (f : Fuse V) → Breaks g precheck command old f → Type 0
  BrokenIsHonest (Round blocks) old f breaks = LostIsHonest (map told_by blocks) old f breaks
  BrokenIsHonest (Poke region word mask) old f breaks = LostIsHonest (alone (Pokes region word mask)) old f breaks
  BrokenIsHonest Audit old f breaks = LostIsHonest (alone Audits) old f breaks
  BrokenIsHonest Checkpoint old f breaks = LostIsHonest (alone Checkpoints) old f breaks
  BrokenIsHonest command old f breaks = Unit {0}

  abbrev pub LoneIsHonest : (act : Act) (old : Program V) (f : Fuse V) → AloneFails g precheck act old f → Type 0
  LoneIsHonest act (Up core) f fails = IsHonestIn core fails.core
  LoneIsHonest act (Down store) f fails = Unit {0}

  abbrev pub FailedIsHonest : (command : Command) (old : Program V) (f : Fuse V) → StoreFailsIn g precheck command old f → Type 0
  FailedIsHonest (Poke region word mask) old f fails = LoneIsHonest (Pokes region word mask) old f fails
  FailedIsHonest Audit old f fails = LoneIsHonest Audits old f fails
  FailedIsHonest Checkpoint old f fails = LoneIsHonest Checkpoints old f fails
  FailedIsHonest command old f fails = Unit {0}

  abbrev pub FailIsHonest : (halt : Halt) (command : Command) (old : Program V) (f : Fuse V) → Fails g precheck halt command old f → Type 0
  FailIsHonest halts.StoreFault command old f fails = FailedIsHonest command old f fails
  FailIsHonest halts.OutOfMemory command old f fails = BrokenIsHonest command old f fails
  FailIsHonest halt command old f fails = Unit {0}

  module _ (c : Course V) (mid : Option (List ℕ)) (count : ℕ) where
    abbrev pub HaltEscapesNone : (halt : Halt) → HasStopped g limit precheck halt c mid → Type 0
    HaltEscapesNone halt stopped =
        let stops = stopped.2 in
        StepsAreHonest (take stops.count stopped.0) stops.run.first stops.text stops.state stops.run.runs × FailIsHonest halt stops.command stops.state stops.last stops.fails

    abbrev pub WantEscapesNone : Untouched c mid ⊎ HasStopped g limit precheck halts.OutOfMemory c mid → Type 0
    WantEscapesNone (inl untouched) = Unit {0}
    WantEscapesNone (inr stopped) = HaltEscapesNone halts.OutOfMemory stopped

    abbrev pub RoundsEscapeNone : (status : Status) → EndedScript g limit precheck c mid count status → Type 0
    RoundsEscapeNone Done ended = let ran = ended.2 in StepsAreHonest (take (length ended.0) ended.0) ran.run.first ran.text ran.state ran.run.runs
    RoundsEscapeNone WriteFault ended =
        let cut = ended.1.2 in
        StepsAreHonest (take cut.count ended.1.0) cut.ran.first cut.text cut.earlier cut.ran.runs × StepIsHonest cut.command cut.earlier cut.more cut.state cut.steps
    RoundsEscapeNone StoreFault ended = HaltEscapesNone halts.StoreFault ended
    RoundsEscapeNone (BadStore file at) ended = HaltEscapesNone (halts.BadStore file at) ended
    RoundsEscapeNone Unformatted ended = HaltEscapesNone halts.Unformatted ended
    RoundsEscapeNone Formatted ended = HaltEscapesNone halts.Formatted ended
    RoundsEscapeNone StoreUnsteady ended = HaltEscapesNone halts.StoreUnsteady ended
    RoundsEscapeNone RecordTooLong ended = HaltEscapesNone halts.RecordTooLong ended
    RoundsEscapeNone OutOfMemory ended = WantEscapesNone ended
    RoundsEscapeNone _ ended = Unit {0}

-- ---- the store that comes back
module _ {V : Type 0} (g : Ghosts V) (limit : ℕ) (precheck : Bool)
    (c : Course V) (mid : Option (List ℕ)) (count : ℕ) where
  abbrev pub SafeByHalt : (halt : Halt) → HasStopped g limit precheck halt c mid → Files → Type 0
  SafeByHalt halt stopped = SafeStopped g limit precheck halt c.store stopped.0 c.taken mid c.store' stopped.2

  abbrev pub SafeByWant : Untouched c mid ⊎ HasStopped g limit precheck halts.OutOfMemory c mid → Files → Type 0
  SafeByWant (inl untouched) = AnyFiles
  SafeByWant (inr stopped) = SafeByHalt halts.OutOfMemory stopped

  abbrev pub SafeAtEnd : (status : Status) → EndedScript g limit precheck c mid count status → Files → Type 0
  SafeAtEnd Done ended =
      let ran = ended.2 in
      NoneEscapesIn (SafeThere g limit precheck c.store ended.0 (length ended.0) ran.text ran.state ran.run) ran.state
  SafeAtEnd WriteFault ended =
      NoneEscapesIn (SafeCut g limit precheck c.store ended.1.0 c.taken mid c.store' ended.1.2) ended.1.2.state
  SafeAtEnd StoreFault ended = SafeByHalt halts.StoreFault ended
  SafeAtEnd (BadStore file at) ended = SafeByHalt (halts.BadStore file at) ended
  SafeAtEnd Unformatted ended = SafeByHalt halts.Unformatted ended
  SafeAtEnd Formatted ended = SafeByHalt halts.Formatted ended
  SafeAtEnd StoreUnsteady ended = SafeByHalt halts.StoreUnsteady ended
  SafeAtEnd RecordTooLong ended = SafeByHalt halts.RecordTooLong ended
  SafeAtEnd OutOfMemory ended = SafeByWant ended
  SafeAtEnd _ ended = AnyFiles

module _ {V : Type 0} (g : Ghosts V) where
  -- ---- a generated script
  module _ (clients size number : ℕ) where
    abbrev pub PlayedIsHonest : (start : V) (ends : Option Halt) → IsPlayed g 67108864 clients size number start ends → Type 0
    PlayedIsHonest start ends run = NoneEscapesAt g run.played

    abbrev pub FoundIsHonest : (start : V) (found : Core (Fuse V)) → GeneratorFinds g clients size number start found → Type 0
    FoundIsHonest start found run = PlayedIsHonest start None run.run.run × NoneEscapesAt g found

    abbrev pub GeneratorStopIsHonest : (halt : Halt) (start end : V) → GeneratorStops g clients size number halt start end → Type 0
    GeneratorStopIsHonest halt start end (inl first) = Unit {0}
    GeneratorStopIsHonest halt start end (inr (inl crash)) = PlayedIsHonest start None crash.0
    GeneratorStopIsHonest halt start end (inr (inr restart)) = PlayedIsHonest start None restart.0.run

    abbrev pub CutIsHonest : (made : Core (Fuse V)) (f : Fuse V) → IsCutRound g (map told_by (generated clients size number)) made f → Type 0
    CutIsHonest made f (inl none) = NoneEscapesAt g made
    CutIsHonest made f (inr cut) = NoneEscapesAt g cut.0.core

    abbrev pub LossIsHonest : (start end : V) → GeneratorLoses g clients size number start end → Type 0
    LossIsHonest start end lost = CutIsHonest lost.made lost.left lost.cut

    module _ (c : Course V) (mid : Option (List ℕ)) (count : ℕ) where
      abbrev pub FaultIsHonest : GeneratorFails g clients size number c.store c.store' → Type 0
      FaultIsHonest (inl stops) = GeneratorStopIsHonest halts.StoreFault c.store c.store' stops
      FaultIsHonest (inr (inl refused)) = PlayedIsHonest c.store (Some halts.StoreFault) refused.run
      FaultIsHonest (inr (inr none)) = PlayedIsHonest c.store None none.run.run

      abbrev pub WantIsHonest : GeneratorWants g clients size number c.store c.store' → Type 0
      WantIsHonest (inl same) = Unit {0}
      WantIsHonest (inr (inl (inl stops))) = GeneratorStopIsHonest halts.OutOfMemory c.store c.store' stops
      WantIsHonest (inr (inl (inr lost))) = LossIsHonest c.store c.store' lost
      WantIsHonest (inr (inr (inl refused))) = PlayedIsHonest c.store (Some halts.OutOfMemory) refused.run
      WantIsHonest (inr (inr (inr last))) = FoundIsHonest c.store last.0 last.1

      abbrev pub GeneratorIsHonest : (status : Status) → EndedGenerator g clients size number c mid count status → Type 0
      GeneratorIsHonest Done ended = FoundIsHonest c.store ended.1.found ended.1.run
      GeneratorIsHonest WriteFault ended = FoundIsHonest c.store ended.1.found ended.1.run
      GeneratorIsHonest StoreFault ended = FaultIsHonest ended.0
      GeneratorIsHonest (BadStore file at) ended = GeneratorStopIsHonest (halts.BadStore file at) c.store c.store' ended.0
      GeneratorIsHonest Unformatted ended = GeneratorStopIsHonest halts.Unformatted c.store c.store' ended.0
      GeneratorIsHonest Formatted ended = GeneratorStopIsHonest halts.Formatted c.store c.store' ended.0
      GeneratorIsHonest StoreUnsteady ended = GeneratorStopIsHonest halts.StoreUnsteady c.store c.store' ended.0
      GeneratorIsHonest RecordTooLong ended = GeneratorStopIsHonest halts.RecordTooLong c.store c.store' ended.0
      GeneratorIsHonest (LogFull end most) ended = PlayedIsHonest c.store (Some (halts.LogFull end most)) ended.0.run
      GeneratorIsHonest OutOfMemory ended = WantIsHonest ended.0
      GeneratorIsHonest _ ended = Unit {0}

  module _ (c : Course V) (mid : Option (List ℕ)) (count : ℕ) where
    abbrev pub AreHonest : (task : Option Task) (status : Status) → Ended g task c mid count status → Type 0
    AreHonest (Some (Run precheck limit)) status ended =
        ScriptIsHonest g limit precheck c mid count status ended
        × ((fs : Files) → g.may_leave c.store' fs → SafeAtEnd g limit precheck c mid count status ended fs)
        × RoundsEscapeNone g limit precheck c mid count status ended
    AreHonest (Some (Generate clients size number)) status ended = GeneratorIsHonest clients size number c mid count status ended
    AreHonest _ status ended = Unit {0}

  abbrev pub RunsAreHonest : Type 0
  RunsAreHonest =
      (words : List (List ℕ)) (c : Course V) (status : Status) (base : List Record) → IsOwn g base c.store → PokesNowhere (meaning words) c
      → (e : HasEnded g words c status) → AreHonest c e.mid e.count (meaning words) status e.ended
