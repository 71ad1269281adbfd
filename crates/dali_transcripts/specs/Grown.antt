-- Each step of the engine is one in which the world goes on.
--     world_of ..              the world of a moment
--     StepsGrow, CoursesGrow   a step, and a list of steps, leads from a world to one that goes on from it, whatever its clients do in it
use Rattle.std.specs.Prelude.{Bool, List, ◌++◌}
use Rattle.dali_record.specs.declared.records.Record.{Record}
use Rattle.dali_runs.specs.State.{CoreState}
use Rattle.dali_runs.specs.Courses.{Step, Moment, IsStepAt, IsCourse}
use Rattle.dali_transcripts.specs.World.{Happening, World, Grows}

abbrev pub world_of : CoreState → List Record → Bool → List Happening → CoreState → World
world_of old before precheck happened c = record { old = old; before = before; precheck = precheck; happened = happened; core = c }

abbrev pub StepsGrow : Type 0
StepsGrow =
    (old : CoreState) (before : List Record) (precheck : Bool) (happened more : List Happening) (m n : Moment) (x : Step)
    → IsStepAt m x n
    → Grows (world_of old before precheck happened m.core) (world_of old before precheck (happened ++ more) n.core)

abbrev pub CoursesGrow : Type 0
CoursesGrow =
    (old : CoreState) (before : List Record) (precheck : Bool) (happened more : List Happening) (m n : Moment) (xs : List Step)
    → IsCourse m xs n
    → Grows (world_of old before precheck happened m.core) (world_of old before precheck (happened ++ more) n.core)
