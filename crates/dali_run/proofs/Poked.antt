-- A region that was poked stays so: where none was at the end of some steps, none was at any point before.
use Rattle.std.proofs.Common.{◌≡◌, List, [], ◌∷◌, Some, length, ap, sym, subst, ◌∙◌, arith}
use Rattle.std.proofs.lemmas.Option.{slice_get_within}
use Rattle.dali_lists.proofs.Lists.{get_within}
use Rattle.dali_geometry.specs.Places.{regions}
use Rattle.dali_record.specs.declared.records.Record.{Record}
use Rattle.dali_region.specs.State.{RegionState}
use Rattle.dali_runs.specs.Courses.{RunsAt}
use Rattle.dali_runs.specs.Run.{Bases, no_image}
use Rattle.dali_runs.proofs.Courses.{runs_on}
use Rattle.dali_crash.specs.Checkpoints.{Point, StoreStep, IsPointStep, IsPointCourse, moment_of}
use Rattle.dali_crash.proofs.StoreRuns.{store_step_none}
use Rattle.dali_crash.proofs.StoreStarts.{store_goes}
use Rattle.dali_run.specs.Honest.{NonePoked}
use Rattle.dali_run.proofs.Lasts.{point_was, never_yet}

step_unpoked : (bases : Bases) (before : List Record) (p q : Point) (x : StoreStep) → RunsAt bases before no_image (moment_of p) → IsPointStep p x q → NonePoked q.core.regions → NonePoked p.core.regions
step_unpoked bases before p q x run s none r g e =
    let on = store_step_none bases before p q x run s in
    let count : length q.core.regions ≡ length p.core.regions =
    (runs_on bases before no_image (moment_of q) on).whole ∙ (ap regions (store_goes p q x s).sizes ∙ sym (runs_on bases before no_image (moment_of p) run).whole) in
    let within = slice_get_within p.core.regions r g e in
    let there = get_within q.core.regions r (omega (arith, within, count)) in
    let w = point_was p q x s r there.0 there.1 in
    let same : w.was ≡ g = some_is (sym w.at ∙ e) in
    never_yet g.poked (λ f. sym (w.lasts.poked (ap (λ (z : RegionState). z.poked) same ∙ f)) ∙ none r there.0 there.1)
  where
    some_is : {a b : RegionState} → Some a ≡ Some b → a ≡ b
    some_is f = cc

pub course_runs : (bases : Bases) (before : List Record) (p q : Point) (xs : List StoreStep) → RunsAt bases before no_image (moment_of p) → IsPointCourse p xs q → RunsAt bases before no_image (moment_of q)
course_runs bases before p q [] run course = subst (λ (z : Point). RunsAt bases before no_image (moment_of z)) course run
course_runs bases before p q (x ∷ xs) run course = course_runs bases before course.0 q xs (store_step_none bases before p course.0 x run course.1) course.2

pub course_unpoked : (bases : Bases) (before : List Record) (p q : Point) (xs : List StoreStep) → RunsAt bases before no_image (moment_of p) → IsPointCourse p xs q → NonePoked q.core.regions → NonePoked p.core.regions
course_unpoked bases before p q [] run course none = subst (λ (z : Point). NonePoked z.core.regions) (sym course) none
course_unpoked bases before p q (x ∷ xs) run course none =
    step_unpoked bases before p course.0 x run course.1 (course_unpoked bases before course.0 q xs (store_step_none bases before p course.0 x run course.1) course.2 none)
