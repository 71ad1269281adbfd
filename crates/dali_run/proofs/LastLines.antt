-- That what was read, run and written before the last line doesn't depend on what the sink has behind it.
use Rattle.std.proofs.Common.{ℕ, Bool, List, Option, Some, None}
use Rattle.dali_arguments.specs.declared.task.Task.{Task}
use Rattle.dali_arguments.specs.declared.task.Task.TheVariants.{Run, Generate, Dump, Show, Status as Standing, Load}
use Rattle.dali_inspect.specs.declared.inspecting.Inspection.{Inspection}
use Rattle.dali_store.specs.declared.store.Store.{Ghosts}
use Rattle.dali_run.specs.declared.status.Status.{Status}
use Rattle.dali_run.specs.declared.status.Status.TheVariants.{Done, BadWords, BadScript, TooLong, ReadFault, WriteFault, StoreFault, BadStore, Unformatted, Formatted, StoreUnsteady, RecordTooLong, OutOfMemory, LogFull, TooSmall, NotLoaded}
use Rattle.dali_run.specs.Ends.{Course, Ended, EndedDump, EndedGenerator, EndedLoad, EndedLook, EndedNone, EndedScript}
use Rattle.dali_run.specs.Looking.{TellsRecords, TellsStatus}

module _ {V : Type 0} (g : Ghosts V)
    (c : Course V) (taken' : Option (List ℕ)) (write_faults' : ℕ) (mid : Option (List ℕ)) (count : ℕ) where
  abbrev later : Course V
  later = record c { taken' = taken'; write_faults' = write_faults' }

  of_script : (precheck : Bool) (limit : ℕ) (status : Status) → EndedScript g limit precheck c mid count status → EndedScript g limit precheck later mid count status
  of_script precheck limit Done e = e
  of_script precheck limit BadWords e = e
  of_script precheck limit (BadScript line kind) e = e
  of_script precheck limit TooLong e = e
  of_script precheck limit ReadFault e = e
  of_script precheck limit WriteFault e = e
  of_script precheck limit StoreFault e = e
  of_script precheck limit (BadStore file at) e = e
  of_script precheck limit Unformatted e = e
  of_script precheck limit Formatted e = e
  of_script precheck limit StoreUnsteady e = e
  of_script precheck limit RecordTooLong e = e
  of_script precheck limit OutOfMemory e = e
  of_script precheck limit (LogFull end most) e = e
  of_script precheck limit TooSmall e = e
  of_script precheck limit NotLoaded e = e

  of_generator : (clients size number : ℕ) (status : Status) → EndedGenerator g clients size number c mid count status → EndedGenerator g clients size number later mid count status
  of_generator clients size number Done e = e
  of_generator clients size number BadWords e = e
  of_generator clients size number (BadScript line kind) e = e
  of_generator clients size number TooLong e = e
  of_generator clients size number ReadFault e = e
  of_generator clients size number WriteFault e = e
  of_generator clients size number StoreFault e = e
  of_generator clients size number (BadStore file at) e = e
  of_generator clients size number Unformatted e = e
  of_generator clients size number Formatted e = e
  of_generator clients size number StoreUnsteady e = e
  of_generator clients size number RecordTooLong e = e
  of_generator clients size number OutOfMemory e = e
  of_generator clients size number (LogFull end most) e = e
  of_generator clients size number TooSmall e = e
  of_generator clients size number NotLoaded e = e

  of_dump : (status : Status) → EndedDump g c mid count status → EndedDump g later mid count status
  of_dump Done e = e
  of_dump BadWords e = e
  of_dump (BadScript line kind) e = e
  of_dump TooLong e = e
  of_dump ReadFault e = e
  of_dump WriteFault e = e
  of_dump StoreFault e = e
  of_dump (BadStore file at) e = e
  of_dump Unformatted e = e
  of_dump Formatted e = e
  of_dump StoreUnsteady e = e
  of_dump RecordTooLong e = e
  of_dump OutOfMemory e = e
  of_dump (LogFull end most) e = e
  of_dump TooSmall e = e
  of_dump NotLoaded e = e

  of_look : (P : Inspection → List ℕ → Type 0) (status : Status) → EndedLook g P c mid count status → EndedLook g P later mid count status
  of_look P Done e = e
  of_look P BadWords e = e
  of_look P (BadScript line kind) e = e
  of_look P TooLong e = e
  of_look P ReadFault e = e
  of_look P WriteFault e = e
  of_look P StoreFault e = e
  of_look P (BadStore file at) e = e
  of_look P Unformatted e = e
  of_look P Formatted e = e
  of_look P StoreUnsteady e = e
  of_look P RecordTooLong e = e
  of_look P OutOfMemory e = e
  of_look P (LogFull end most) e = e
  of_look P TooSmall e = e
  of_look P NotLoaded e = e

  of_load : (index heap : ℕ) (status : Status) → EndedLoad g index heap c mid count status → EndedLoad g index heap later mid count status
  of_load index heap Done e = e
  of_load index heap BadWords e = e
  of_load index heap (BadScript line kind) e = e
  of_load index heap TooLong e = e
  of_load index heap ReadFault e = e
  of_load index heap WriteFault e = e
  of_load index heap StoreFault e = e
  of_load index heap (BadStore file at) e = e
  of_load index heap Unformatted e = e
  of_load index heap Formatted e = e
  of_load index heap StoreUnsteady e = e
  of_load index heap RecordTooLong e = e
  of_load index heap OutOfMemory e = e
  of_load index heap (LogFull end most) e = e
  of_load index heap TooSmall e = e
  of_load index heap NotLoaded e = e

  of_none : (status : Status) → EndedNone g c mid status → EndedNone g later mid status
  of_none Done e = e
  of_none BadWords e = e
  of_none (BadScript line kind) e = e
  of_none TooLong e = e
  of_none ReadFault e = e
  of_none WriteFault e = e
  of_none StoreFault e = e
  of_none (BadStore file at) e = e
  of_none Unformatted e = e
  of_none Formatted e = e
  of_none StoreUnsteady e = e
  of_none RecordTooLong e = e
  of_none OutOfMemory e = e
  of_none (LogFull end most) e = e
  of_none TooSmall e = e
  of_none NotLoaded e = e

  pub ended_still : (task : Option Task) (status : Status) → Ended g task c mid count status → Ended g task later mid count status
  ended_still None status e = of_none status e
  ended_still (Some (Run precheck limit)) status e = of_script precheck limit status e
  ended_still (Some (Generate clients size number)) status e = of_generator clients size number status e
  ended_still (Some Dump) status e = of_dump status e
  ended_still (Some Show) status e = of_look TellsRecords status e
  ended_still (Some Standing) status e = of_look TellsStatus status e
  ended_still (Some (Load index heap)) status e = of_load index heap status e
