-- Where the state of a transaction's row comes from.
--     CameFrom before st       where a step leaves the state st, this is what stood before it
--     StatesComeFrom           so it is at each step of a run
use Rattle.std.specs.Prelude.{◌≡◌, ℕ, ◌⊎◌, List, Option, Some, None}
use Rattle.dali_record.specs.declared.records.Record.{Record}
use Rattle.dali_att.specs.declared.state.State.{State}
use Rattle.dali_att.specs.declared.state.State.TheVariants.{Live, Dead, Cleaning, Committed}
use Rattle.dali_runs.specs.State.{CoreState, state_of}
use Rattle.dali_runs.specs.Run.{Bases, RunsOn}
use Rattle.dali_runs.specs.Courses.{Step, IsStep}

-- a row is Live only where it was or is new. It is Dead only where it was with the same region, or was Live or claimed. It is claimed only
-- where it was, or was Dead, and with the same region; and Committed only where it was, or was Live
abbrev pub CameFrom : Option State → State → Type 0
CameFrom before Live = (before ≡ Some Live) ⊎ (before ≡ None)
CameFrom before (Dead latched) = (before ≡ Some (Dead latched)) ⊎ ((before ≡ Some Live) ⊎ ((was : Option ℕ) × (before ≡ Some (Cleaning was))))
CameFrom before (Cleaning latched) = (before ≡ Some (Cleaning latched)) ⊎ (before ≡ Some (Dead latched))
CameFrom before Committed = (before ≡ Some Committed) ⊎ (before ≡ Some Live)

abbrev pub StatesComeFrom : Type 0
StatesComeFrom =
    (bases : Bases) (L M : List Record) (c d : CoreState) (x : Step) → RunsOn bases L c
    → IsStep L c x M d
    → (t : ℕ) (st : State) → state_of d.system t ≡ Some st → CameFrom (state_of c.system t) st
