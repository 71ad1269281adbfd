-- Lists of steps of a core that call no store.
--     is_quiet x               the step x calls no store, and is none of a checkpoint
--     WentOn, QuietCourse      along such steps a run goes on, with its vault as it is
use Rattle.std.specs.Prelude.{◌≡◌, ℕ, Bool, true, false, not, ◌&&◌, List, Option, map}
use Rattle.std.specs.List.{list_all}
use Rattle.dali_record.specs.declared.records.Record.{Record}
use Rattle.dali_store.specs.Store.{Files as Disk}
use Rattle.dali_store.specs.declared.store.Store.{Ghosts}
use Rattle.dali_runs.specs.Courses.{Step, Flushes, Faults, ReadFails, Moment, IsCourse}
use Rattle.dali_crash.specs.Checkpoints.{Does, Point, IsPointCourse, is_of_checkpoint, moment_of}
use Rattle.dali_crash.specs.Traces.{Start}
use Rattle.dali_core.specs.Vault.Vaulted.{Vaulted}
use Rattle.dali_core.specs.Steps.At.{IsAt}
use Rattle.dali_core.specs.Steps.Called.{KeepsImage}

abbrev pub calls_none : Step → Bool
calls_none Flushes = false
calls_none (Faults n) = false
calls_none (ReadFails n) = false
calls_none x = true

abbrev pub is_quiet : Step → Bool
is_quiet x = not (is_of_checkpoint x) && calls_none x

module _ {V : Type 0} (means : Ghosts V) where
  pub record WentOn (s : Start) (B : List (List Record)) (p : Point) (n : Moment) (xs : List Step) (v : Vaulted V) : Type 0 where
    pub to : Point
    pub course : IsPointCourse p (map Does xs) to
    pub moment : moment_of to ≡ n
    pub is : IsAt means s B to v
    pub keeps : KeepsImage means p to v.store v.store

  abbrev pub QuietCourse : Type 0
  QuietCourse =
      (s : Start) (B : List (List Record)) (p : Point) (n : Moment) (xs : List Step) (v : Vaulted V) → IsAt means s B p v
      → list_all is_quiet xs ≡ true → IsCourse (moment_of p) xs n
      → WentOn s B p n xs v
