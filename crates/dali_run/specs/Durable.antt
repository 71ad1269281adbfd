-- What was acknowledged is durable, with damage too: it is in the log of each of the files that a crash may leave.
--     IsDurable kept c         the log of the files c has just what was told of the transactions of kept, and each survives there or is deleted by a chain
--                              (`KeepsIn`); or there is no database, and kept is empty
--     DurableLeft kept s       so it is of each of the files that a crash may leave of the store s
--     DurableWithin kept p f   and at each moment from the state p on, until its store is f
--     NoneMissedIn p           while the program is up, no audit of this memory passed a region whose stray writes cancelled
--     IsSound sound p          no audit missed one in the memory that is there; or sound says so of the memory that was given up last
--     ComesUp command sound old new    where the command finds a database and the program is up then, this is asked of what it found: else its core has words that
--                              its log doesn't say, and stands at no point of a run
--     DurableAlong Behind ..   so it is at each state of a run and within each command, also in a `crash` and a restart of what an audit missed; and behind the
--                              last one what Behind says. Only what is run on behind such a restart is left out
--     ScriptIsDurable ..       of a script with each status: along it, within the command that ended it, and of the store that comes back
--     AcknowledgedStay         of each run of a script
use Rattle.std.specs.Prelude.{◌≡◌, ◌⊎◌, ℕ, Bool, false, List, [], ◌∷◌, ◌++◌, Option, Some, length, slice_get, take}
use Rattle.std.proofs.Common.{inl, inr}
use Rattle.dali_arguments.specs.Meaning.{meaning}
use Rattle.dali_arguments.specs.declared.task.Task.{Task}
use Rattle.dali_arguments.specs.declared.task.Task.TheVariants.{Run}
use Rattle.dali_log.specs.Batch.{IsUnformatted}
use Rattle.dali_fuse.specs.Fuse.{inner}
use Rattle.dali_fuse.specs.declared.fuse.Fuse.{Fuse}
use Rattle.dali_record.specs.declared.records.Record.{Record}
use Rattle.dali_region.specs.State.{RegionState}
use Rattle.dali_script.specs.declared.commands.Command.{Command}
use Rattle.dali_script.specs.declared.commands.Command.TheVariants.{Open, Restart}
use Rattle.dali_served.specs.Oks.{Transaction}
use Rattle.dali_store.specs.Store.{Files as Disk}
use Rattle.dali_store.specs.declared.store.Store.{Ghosts}
use Rattle.dali_run.specs.declared.halt.Halt.{Halt}
use Rattle.dali_run.specs.declared.halt.Halt.TheVariants as halts
use Rattle.dali_run.specs.declared.program.Program.{Program}
use Rattle.dali_run.specs.declared.program.Program.TheVariants.{Up, Down}
use Rattle.dali_run.specs.declared.status.Status.{Status}
use Rattle.dali_run.specs.declared.status.Status.TheVariants.{Done, WriteFault, StoreFault, BadStore, Unformatted, Formatted, StoreUnsteady, RecordTooLong, OutOfMemory}
use Rattle.dali_run.specs.Ends.{Course, Ended, EndedScript, HasEnded, HasStopped, Untouched}
use Rattle.dali_run.specs.Headline.{Stays, oks_by, transactions_in}
use Rattle.dali_run.specs.Program.{store_of}
use Rattle.dali_run.specs.Run.{RunsAll}
use Rattle.dali_run.specs.Survives.{IsOwn}

abbrev pub IsDurable : List Transaction → Disk → Type 0
IsDurable kept c = (IsUnformatted c.log × (kept ≡ [])) ⊎ Stays kept c

module _ {V : Type 0} where
  abbrev pub NoneMissedIn : Program V → Type 0
  NoneMissedIn (Up core) = (r : ℕ) (x : RegionState) → slice_get core.regions.items r ≡ Some x → x.missed ≡ false
  NoneMissedIn (Down store) = Unit {0}

  abbrev pub IsSound : Type 0 → Program V → Type 0
  IsSound sound (Up core) = NoneMissedIn (Up core)
  IsSound sound (Down store) = sound

  abbrev pub SoundWhere : Type 0 → Program V → Program V → Type 0
  SoundWhere sound old (Up core) = IsSound sound old
  SoundWhere sound old (Down store) = Unit {0}

  abbrev pub ComesUp : Command → Type 0 → Program V → Program V → Type 0
  ComesUp Open sound old new = SoundWhere sound old new
  ComesUp Restart sound old new = SoundWhere sound old new
  ComesUp _ sound old new = Unit {0}

module _ {V : Type 0} (g : Ghosts V) where
  abbrev pub DurableLeft : List Transaction → V → Type 0
  DurableLeft kept s = (c : Disk) → g.may_leave s c → IsDurable kept c

  abbrev pub DurableWithin : List Transaction → Program V → Fuse V → Type 0
  DurableWithin kept p f = (c : Disk) → g.left_since (inner f) (g.moment (inner (store_of p))) c → IsDurable kept c

module _ {V : Type 0} (g : Ghosts V) (limit : ℕ) (precheck : Bool) where
  abbrev pub DurableAlong : (Behind : List Transaction → Type 0) (commands : List Command) (kept : List Transaction) (sound : Type 0) (old : Program V) (text : List ℕ) (new : Program V)
      → RunsAll g limit precheck old commands text new → Type 0
  DurableAlong Behind [] kept sound old text new runs = DurableLeft g kept (inner (store_of old)) × Behind kept
  -- the last moment within a command is the state behind it
  DurableAlong Behind (command ∷ later) kept sound old text new runs =
      DurableLeft g kept (inner (store_of old)) × DurableWithin g kept old (store_of runs.1)
      × (ComesUp command sound old runs.1 → DurableAlong Behind later (kept ++ oks_by g limit precheck command old runs.0 runs.1 runs.3) (IsSound sound old) runs.1 runs.2 new runs.4)

  module _ (c : Course V) (mid : Option (List ℕ)) (count : ℕ) (kept : List Transaction) where
    abbrev pub StoppedIsDurable : (halt : Halt) → HasStopped g limit precheck halt c mid → Type 0
    StoppedIsDurable halt stopped =
        let stops = stopped.2 in
        DurableAlong (λ now. DurableWithin g now stops.state stops.last × DurableLeft g now c.store')
        (take stops.count stopped.0) kept (Unit {0}) stops.run.first stops.text stops.state stops.run.runs

    abbrev pub WantingIsDurable : Untouched c mid ⊎ HasStopped g limit precheck halts.OutOfMemory c mid → Type 0
    WantingIsDurable (inl untouched) = DurableLeft g kept c.store'
    WantingIsDurable (inr stopped) = StoppedIsDurable halts.OutOfMemory stopped

    abbrev pub ScriptIsDurable : (status : Status) → EndedScript g limit precheck c mid count status → Type 0
    ScriptIsDurable Done ended =
        let ran = ended.2 in DurableAlong (λ now. DurableLeft g now c.store') (take (length ended.0) ended.0) kept (Unit {0}) ran.run.first ran.text ran.state ran.run.runs
    -- all lines of the last command are meant, also those that weren't written
    ScriptIsDurable WriteFault ended =
        let cut = ended.1.2 in
        DurableAlong
        (λ now. DurableWithin g now cut.earlier (store_of cut.state)
        × DurableLeft g (now ++ oks_by g limit precheck cut.command cut.earlier cut.more cut.state cut.steps) c.store')
        (take cut.count ended.1.0) kept (Unit {0}) cut.ran.first cut.text cut.earlier cut.ran.runs
    ScriptIsDurable StoreFault ended = StoppedIsDurable halts.StoreFault ended
    ScriptIsDurable (BadStore file at) ended = StoppedIsDurable (halts.BadStore file at) ended
    ScriptIsDurable Unformatted ended = StoppedIsDurable halts.Unformatted ended
    ScriptIsDurable Formatted ended = StoppedIsDurable halts.Formatted ended
    ScriptIsDurable StoreUnsteady ended = StoppedIsDurable halts.StoreUnsteady ended
    ScriptIsDurable RecordTooLong ended = StoppedIsDurable halts.RecordTooLong ended
    ScriptIsDurable OutOfMemory ended = WantingIsDurable ended
    ScriptIsDurable _ ended = DurableLeft g kept c.store'

module _ {V : Type 0} (g : Ghosts V) where
  abbrev pub TaskIsDurable : (c : Course V) (mid : Option (List ℕ)) (count : ℕ) (kept : List Transaction) (task : Option Task) (status : Status) → Ended g task c mid count status → Type 0
  TaskIsDurable c mid count kept (Some (Run precheck limit)) status ended = ScriptIsDurable g limit precheck c mid count kept status ended
  TaskIsDurable c mid count kept _ status ended = Unit {0}

  -- what base has committed counts from the beginning
  abbrev pub AcknowledgedStay : Type 0
  AcknowledgedStay =
      (words : List (List ℕ)) (c : Course V) (status : Status) (base : List Record) → IsOwn g base c.store
      → (e : HasEnded g words c status) → TaskIsDurable c e.mid e.count (transactions_in base) (meaning words) status e.ended
