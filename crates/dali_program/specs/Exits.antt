-- The numbers that the program ends with.
--     number_of status      the number of a status
--     ExitsWith number      the run ended with a status of this number; what was committed survives, where no damage escapes; the headline holds of each of its
--                           states, and of the store that comes back; and what a script's lines acknowledged is durable, with damage too
--     Refuses number        there was no memory before the run: nothing was read or run, and the last line was written
use Rattle.std.specs.Prelude.{◌≡◌, ℕ, List}
use Rattle.dali_arguments.specs.Meaning.{meaning}
use Rattle.dali_record.specs.declared.records.Record.{Record}
use Rattle.dali_run.specs.declared.status.Status.{Status}
use Rattle.dali_run.specs.declared.status.Status.TheVariants.{Done, BadWords, BadScript, TooLong, ReadFault, WriteFault, StoreFault, BadStore, Unformatted, Formatted, OutOfMemory, LogFull, StoreUnsteady, RecordTooLong, TooSmall, NotLoaded}
use Rattle.dali_run.specs.Durable.{TaskIsDurable}
use Rattle.dali_run.specs.Ends.{Course, HasEnded, LastLine}
use Rattle.dali_run.specs.Headline.{Kept, transactions_in}
use Rattle.dali_run.specs.Survives.{IsOwn, IsHonest, Survives}
use Rattle.dali_store.specs.declared.store.Store.{Ghosts}

abbrev pub number_of : Status → ℕ
number_of Done = 0
number_of BadWords = 1
number_of (BadScript line kind) = 2
number_of TooLong = 3
number_of ReadFault = 4
number_of WriteFault = 5
number_of StoreFault = 6
number_of (BadStore file at) = 7
number_of Unformatted = 8
number_of Formatted = 9
number_of OutOfMemory = 10
number_of (LogFull end limit) = 11
number_of StoreUnsteady = 12
number_of RecordTooLong = 13
number_of TooSmall = 14
number_of NotLoaded = 15

module _ {V : Type 0} (g : Ghosts V) where
  pub record ExitsWith (words : List (List ℕ)) (c : Course V) (number : ℕ) : Type 0 where
    pub status : Status
    pub is_number : number ≡ number_of status
    pub ended : HasEnded g words c status
    pub survives :
        (base : List Record) → IsOwn g base c.store
        → IsHonest g c ended.mid ended.count (meaning words) status ended.ended
        → Survives g c ended.mid ended.count base (meaning words) status ended.ended
    pub headline :
        (base : List Record) → IsOwn g base c.store
        → Kept g c ended.mid ended.count (transactions_in base) (meaning words) status ended.ended
    pub durable :
        (base : List Record) → IsOwn g base c.store
        → TaskIsDurable g c ended.mid ended.count (transactions_in base) (meaning words) status ended.ended

pub record Refuses {V : Type 0} (c : Course V) (number : ℕ) : Type 0 where
  pub is_number : number ≡ number_of OutOfMemory
  pub unread : (c.left' ≡ c.left) × (c.read_faults' ≡ c.read_faults)
  pub store : c.store' ≡ c.store
  pub last : LastLine c.taken OutOfMemory c.taken' c.write_faults c.write_faults'
