-- A core with its store, along any steps, those of checkpoints among the others, and stray writes too.
--     PointWholeKeeps          each step keeps the core whole
--     PointWholeCourseKeeps    and so does each list of steps, from a core that is a run
--     PointCourseKeepsTheBase  the base of the last epoch stays right
use Rattle.std.specs.Prelude.{List}
use Rattle.dali_record.specs.declared.records.Record.{Record}
use Rattle.dali_runs.specs.Run.{Bases, RunsOn, no_image}
use Rattle.dali_runs.specs.Courses.{RunsAt}
use Rattle.dali_runs.specs.Wholes.{IsWhole}
use Rattle.dali_crash.specs.Checkpoints.{StoreStep, Point, moment_of, IsPointStep, IsPointCourse}
use Rattle.dali_crash.specs.Restarts.{HasRightBase}

abbrev pub PointWholeKeeps : Type 0
PointWholeKeeps =
    (bases : Bases) (p q : Point) (x : StoreStep) → RunsOn bases p.log p.core → IsWhole p.core
    → IsPointStep p x q
    → IsWhole q.core

abbrev pub PointWholeCourseKeeps : Type 0
PointWholeCourseKeeps =
    (bases : Bases) (before : List Record) (p q : Point) (xs : List StoreStep) → RunsAt bases before no_image (moment_of p) → IsWhole p.core
    → IsPointCourse p xs q
    → IsWhole q.core

abbrev pub PointCourseKeepsTheBase : Type 0
PointCourseKeepsTheBase =
    (bases : Bases) (p q : Point) (xs : List StoreStep) → HasRightBase bases p.core.system.sizes p.log → IsPointCourse p xs q
    → HasRightBase bases q.core.system.sizes q.log
