-- Which runs come to their end.
--     FindsItsGate base script s   the first command finds what it asks for: to make one, a store without a database; to open one, a database, which base
--                                  begins
--     IsRead c script              the source has the bytes of a script
--     OwnRose old f                the store's own count of faults rose, or it and the calls that the fuse failed come to their type's end together
--     FaultRises                   so it is in the command that ended a run with a failure of the store
--     StoreFaultsRise              of each run over files of this program
--     GeneratorFaultRises          so it is in the command that ended a generated run so, its round too
--     GeneratorFaultsRise          of each generated run over files of this program
--     NoneRises                    no count rose: the source's, the sink's, and the store's in the command that ended the run
--     MayEnd status                a run to its end, or memory was refused, or the record of a restart would be too long
--     RunsComplete                 so ends each run that reads a script whose gate is found, over files of this program, where no count rises
use Rattle.std.specs.Prelude.{◌≡◌, ◌⊎◌, ◌<◌, ◌≤◌, ℕ, ◌+◌, ◌^◌, Bool, List, ◌∷◌, Option, Some, IfSome, length}
use Rattle.std.proofs.Common.{inl, inr}
use Rattle.dali_arguments.specs.declared.task.Task.TheVariants.{Run, Generate}
use Rattle.dali_log.specs.Batch.{IsUnformatted}
use Rattle.dali_fuse.specs.Fuse.{inner}
use Rattle.dali_fuse.specs.declared.fuse.Fuse.{Fuse}
use Rattle.dali_record.specs.declared.records.Record.{Record}
use Rattle.dali_script.specs.declared.commands.Command.{Command}
use Rattle.dali_script.specs.declared.commands.Command.TheVariants.{Size, Open}
use Rattle.dali_script.specs.Grammar.{IsSpelled}
use Rattle.dali_store.specs.Faults.{Rose}
use Rattle.dali_store.specs.declared.store.Store.{Ghosts}
use Rattle.dali_run.specs.declared.halt.Halt.TheVariants as halts
use Rattle.dali_run.specs.declared.status.Status.{Status}
use Rattle.dali_run.specs.declared.status.Status.TheVariants.{Done, StoreFault, RecordTooLong, OutOfMemory}
use Rattle.dali_run.specs.Ends.{Course, EndedScript, EndsAs, GeneratorFails, GeneratorStops, HasStopped}
use Rattle.dali_run.specs.Program.{faults_in, store_of}
use Rattle.dali_run.specs.Survives.{IsOwn, NoneEscapesBefore, ScriptIsHonest}

pub record IsRead {V : Type 0} (c : Course V) (script : List Command) : Type 0 where
  pub bytes : List ℕ
  pub left : c.left ≡ Some bytes
  pub short : length bytes ≤ 1048576
  pub spelled : IsSpelled bytes script

abbrev pub MayEnd : Status → Type 0
MayEnd Done = Unit {0}
MayEnd OutOfMemory = Unit {0}
MayEnd RecordTooLong = Unit {0}
MayEnd _ = ⊥

module _ {V : Type 0} (g : Ghosts V) where
  abbrev pub FindsItsGate : List Record → List Command → V → Type 0
  FindsItsGate base (Size index heap ∷ later) s = IfSome (g.told s) (λ fs. IsUnformatted fs.log)
  FindsItsGate base (Open ∷ later) s = 0 < length base
  FindsItsGate base _ s = ⊥

  abbrev pub OwnRose : Fuse V → Fuse V → Type 0
  OwnRose old f = (g.faults (inner old) < g.faults (inner f)) ⊎ (2 ^ 64 ≤ faults_in g f + 1)

module _ {V : Type 0} (g : Ghosts V) (limit : ℕ) (precheck : Bool) where
  module _ (c : Course V) (mid : Option (List ℕ)) (count : ℕ) where
    abbrev pub FaultRises : HasStopped g limit precheck halts.StoreFault c mid → Type 0
    FaultRises stopped = let stops = stopped.2 in OwnRose g (store_of stops.state) stops.last

    -- of the store nothing is asked where no failure of it ended the run
    abbrev pub StoreIsCalm : (status : Status) → EndedScript g limit precheck c mid count status → Type 0
    StoreIsCalm StoreFault ended = FaultRises ended → ⊥
    StoreIsCalm _ ended = Unit {0}

    pub record NoneRises (status : Status) (ended : EndedScript g limit precheck c mid count status) : Type 0 where
      pub source : Rose c.read_faults c.read_faults' → ⊥
      pub sink : Rose c.write_faults c.write_faults' → ⊥
      pub store : StoreIsCalm status ended

  abbrev pub StoreFaultsRise : Type 0
  StoreFaultsRise =
      (c : Course V) (base : List Record) → IsOwn g base c.store
      → (e : EndsAs g (Some (Run precheck limit)) c StoreFault)
      → NoneEscapesBefore g limit precheck c e.mid e.count StoreFault e.ended
      → FaultRises c e.mid e.count e.ended

  abbrev pub RunsComplete : Type 0
  RunsComplete =
      (c : Course V) (status : Status) (base : List Record) (script : List Command)
      → IsOwn g base c.store → IsRead c script → FindsItsGate g base script c.store
      → (e : EndsAs g (Some (Run precheck limit)) c status)
      → ScriptIsHonest g limit precheck c e.mid e.count status e.ended
      → NoneRises c e.mid e.count status e.ended
      → MayEnd status

module _ {V : Type 0} (g : Ghosts V) where
  module _ (clients size number : ℕ) (c : Course V) where
    abbrev pub StopRises : GeneratorStops g clients size number halts.StoreFault c.store c.store' → Type 0
    StopRises (inl first) = OwnRose g (store_of first.0) first.2.last
    StopRises (inr (inl crash)) = OwnRose g crash.0.played.vault.store crash.1.last
    StopRises (inr (inr restart)) = OwnRose g (store_of restart.0.crashed) restart.1.last

    -- no fuse is set: none fails a call of the restart
    abbrev pub GeneratorFaultRises : GeneratorFails g clients size number c.store c.store' → Type 0
    GeneratorFaultRises (inl stops) = StopRises stops
    GeneratorFaultRises (inr (inl refused)) = OwnRose g refused.run.made.vault.store refused.run.played.vault.store
    GeneratorFaultRises (inr (inr none)) = ⊥

  abbrev pub GeneratorFaultsRise : Type 0
  GeneratorFaultsRise =
      (c : Course V) (base : List Record) (clients size number : ℕ) → IsOwn g base c.store
      → (e : EndsAs g (Some (Generate clients size number)) c StoreFault) → GeneratorFaultRises clients size number c e.ended.0
