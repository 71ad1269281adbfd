-- What the summary of a generated run says.
--     SummaryDepends       where the words are to generate, and the status is Done, what the sink took is the summary that follows from the three numbers alone
use Rattle.std.specs.Prelude.{◌≡◌, ℕ, List, Some}
use Rattle.dali_arguments.specs.Meaning.{meaning}
use Rattle.dali_arguments.specs.declared.task.Task.TheVariants.{Generate}
use Rattle.dali_generator.specs.Summary.{summary_left}
use Rattle.dali_record.specs.declared.records.Record.{Record}
use Rattle.dali_store.specs.declared.store.Store.{Ghosts}
use Rattle.dali_streams.specs.Streams.{Appends}
use Rattle.dali_run.specs.declared.status.Status.TheVariants.{Done}
use Rattle.dali_run.specs.Ends.{Course, HasEnded}
use Rattle.dali_run.specs.Survives.{IsOwn}

module _ {V : Type 0} (g : Ghosts V) where
  abbrev pub SummaryDepends : Type 0
  SummaryDepends =
      (words : List (List ℕ)) (c : Course V) (base : List Record) (clients size number : ℕ)
      → meaning words ≡ Some (Generate clients size number) → IsOwn g base c.store
      → HasEnded g words c Done → Appends c.taken (summary_left clients size number) c.taken'
