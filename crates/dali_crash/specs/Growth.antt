-- What only grows along steps.
--     HasGrown before c d      from the core c to d the current number and the flushed records have only grown, what was acknowledged is still,
--                              and a vault that was stopped is stopped
--     GoesOn before p q        so it is from the point p to q, and the log of q is that of p with more records
--     CourseGrows              so it is along each list of steps
use Rattle.std.specs.Prelude.{◌≡◌, ℕ, ◌≤◌, true, List, ◌++◌, take}
use Rattle.dali_record.specs.declared.records.Record.{Record}
use Rattle.dali_runs.specs.State.{CoreState, stable}
use Rattle.dali_runs.specs.Run.{Bases, no_image}
use Rattle.dali_runs.specs.Crashes.{IsAcknowledged}
use Rattle.dali_crash.specs.Checkpoints.{StoreStep, IsPointCourse, Point, moment_of}
use Rattle.dali_runs.specs.Courses.{RunsAt}

pub record HasGrown (before : List Record) (c d : CoreState) : Type 0 where
  pub current : c.vault.current ≤ d.vault.current
  pub flushed : stable c ≤ stable d
  pub acknowledged : (t : ℕ) → IsAcknowledged before c t → IsAcknowledged before d t
  pub stopped : c.vault.stopped ≡ true → d.vault.stopped ≡ true

-- besides, the log has only got more records: those that were flushed stand as they did
pub record GoesOn (before : List Record) (p q : Point) : Type 0 where
  pub grown : HasGrown before p.core q.core
  pub more : List Record
  pub log : q.log ≡ p.log ++ more
  pub records : take (stable p.core) q.log ≡ take (stable p.core) p.log

abbrev pub CourseGrows : Type 0
CourseGrows =
    (bases : Bases) (before : List Record) (p q : Point) (xs : List StoreStep) → RunsAt bases before no_image (moment_of p)
    → IsPointCourse p xs q
    → GoesOn before p q
