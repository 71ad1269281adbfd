-- Entries that are steps of the core that the history tells: such an entry owes nothing more.
--     BeginsAt bases p o       a run has come to the point p, where the round begins
--     said_in e, who_in e      the deed that the entry tells, if it tells one, and its client
--     Stands bases p o T q     by the steps of the history a run went on from p to q, where just the core that it tells stands;  all holds together, and
--                              each deed is right
--     stop_told o T            why the engine is stopped, as the deeds of the history tell it
--     Landing o T e q to       from q the steps of the entry lead to this point, told by its deed, where the core with its effect stands
--     Way o T q rest r         the entries of rest, behind those of T, have landed one after another, from q on, in the end at r
--     Lands bases p o T e      so they do from wherever the history has come
--     AllLand bases p o T      so does each entry of the history
--     HistoryLands             then all stands behind it
--     StopStands               where it stands, the deeds tell why the engine is stopped
--     ToldIsWhole              where it stands, the core that is told is a run, and whole: so a step may ask of values that aren't in hand
--     CourseLands              an entry lands whose steps are told by its deed, from the core that the history tells to the one with its effect
--     IsTaken ..               one step x of the core, told by the deed of the entry, if it tells one, leads from the core that the history tells to the
--                              one with its effect
--     StepLands                then the entry lands: it owes nothing more, whatever kind the step is of
--     MeetsLands               so does a refusal
--     TieLands                 and a tie
use Rattle.std.specs.Prelude.{◌≡◌, ℕ, true, false, List, [], ◌∷◌, ◌++◌, Option, Some, IsSome, length, slice_get, take}
use Rattle.dali_record.specs.declared.records.Record.{Record}
use Rattle.dali_runs.specs.declared.causes.Cause.{Cause}
use Rattle.dali_runs.specs.State.{CoreState}
use Rattle.dali_runs.specs.Run.{Bases, RunsOn, no_image}
use Rattle.dali_runs.specs.Wholes.{IsWhole}
use Rattle.dali_runs.specs.Passes.{Audits}
use Rattle.dali_runs.specs.Courses.{Step, IsStep, AuditsBy}
use Rattle.dali_crash.specs.Checkpoints.{StoreStep, Does, Point, IsPointCourse, is_of_checkpoint}
use Rattle.dali_crash.specs.StoreRuns.{StoreRun, FlagTells}
use Rattle.dali_transcripts.specs.Words.{Why}
use Rattle.dali_transcripts.specs.World.{Deed, Meets, stop_at}
use Rattle.dali_transcripts.specs.Rounds.{IsBetween}
use Rattle.dali_transcripts.specs.Telling.Deeds.{AreOfCore}
use Rattle.dali_transcripts.specs.Telling.Laws.{IsNoFault, AreOfCourse}
use Rattle.dali_transcripts.specs.Telling.Tells.{after, AreRightThen, Tells, Goes}
use Rattle.dali_concurrent.specs.Entries.{Entry, Did, deeds_of}
use Rattle.dali_concurrent.specs.Rules.{Outset, before, log_by}
use Rattle.dali_concurrent.specs.Told.{Effect, Leaves, effect_on, Line, History, plain, core_told, world_told, Comes, is_tie}

-- ---- where the round begins
pub record BeginsAt (bases : Bases) (p : Point) (o : Outset) : Type 0 where
  pub core : p.core ≡ o.old
  pub log : p.log ≡ before o
  pub run : StoreRun bases o.made no_image p
  pub between : IsBetween p.core
  pub whole : IsWhole p.core
  pub keeps : FlagTells p

-- ---- where a history has come to
abbrev pub said_in : Entry → List Deed
said_in (Did x c) = x ∷ []
said_in e = []

abbrev pub who_in : Entry → ℕ
who_in (Did x c) = c
who_in e = 0

-- a store that failed has stopped the engine
abbrev pub Halts : CoreState → Type 0
Halts c = c.vault.stopped ≡ true → IsSome c.system.stop

pub record Landing (o : Outset) (T : History) (e : Line) (q to : Point) : Type 0 where
  pub course : IsPointCourse q e.1.2 to
  pub core : to.core ≡ core_told o (T ++ e ∷ [])
  pub goes : Goes (world_told o T) (who_in e.1.0) q (said_in e.1.0) (after (world_told o T) (who_in e.1.0) (said_in e.1.0) to.core) to
  pub halts : Halts to.core

abbrev pub Way : Outset → History → Point → History → Point → Type 0
Way o T q [] r = q ≡ r
Way o T q (e ∷ rest) r = (to : Point) × Landing o T e q to × Way o (T ++ e ∷ []) to rest r

pub record Stands (bases : Bases) (p : Point) (o : Outset) (T : History) (q : Point) : Type 0 where
  pub comes : Comes p o T q
  pub way : Way o [] p T q
  pub run : StoreRun bases o.made no_image q
  pub tells : Tells (world_told o T) q
  pub halts : Halts q.core

abbrev pub stop_told : Outset → History → Option Cause
stop_told o T = stop_at (world_told o T) (length (deeds_of (plain T)))

abbrev pub StopStands : Type 0
StopStands = (bases : Bases) (p : Point) (o : Outset) (T : History) (q : Point) → Stands bases p o T q → stop_told o T ≡ (core_told o T).system.stop

abbrev pub ToldIsWhole : Type 0
ToldIsWhole =
    (bases : Bases) (p : Point) (o : Outset) (T : History) (q : Point) → BeginsAt bases p o → Stands bases p o T q
    → IsWhole (core_told o T) × RunsOn bases (log_by o (plain T)) (core_told o T)

-- ---- what an entry owes
abbrev pub Lands : Bases → Point → Outset → History → Line → Type 0
Lands bases p o T e = (q : Point) → Stands bases p o T q → (to : Point) × Landing o T e q to

abbrev pub AllLand : Bases → Point → Outset → History → Type 0
AllLand bases p o T = (i : ℕ) (e : Line) → slice_get T i ≡ Some e → Lands bases p o (take i T) e

abbrev pub HistoryLands : Type 0
HistoryLands = (bases : Bases) (p : Point) (o : Outset) (T : History) → BeginsAt bases p o → AllLand bases p o T → (q : Point) × Stands bases p o T q

-- ---- a list of steps
abbrev pub CourseLands : Type 0
CourseLands =
    (bases : Bases) (p : Point) (o : Outset) (T : History) (k : List ℕ) (e : Entry) (f : Effect) (xs : List StoreStep)
    → ((q : Point) → Stands bases p o T q
    → (to : Point) × AreOfCourse (world_told o T) (who_in e) q xs to (said_in e) × (to.core ≡ effect_on (core_told o T) f) × Halts to.core)
    → Lands bases p o T (k, (e, f, xs))

-- ---- one step of the core
pub record IsTaken (bases : Bases) (p : Point) (o : Outset) (T : History) (e : Entry) (f : Effect) (x : Step) (q : Point) : Type 0 where
  pub other : is_of_checkpoint x ≡ false
  pub log : List Record
  pub step : IsStep (log_by o (plain T)) (core_told o T) x log (effect_on (core_told o T) f)
  pub audits : Audits
  pub passes : AuditsBy q.audits audits (log_by o (plain T)) (core_told o T) x
  pub are : AreOfCore (world_told o T) (who_in e) q x (said_in e)
  pub right : AreRightThen (world_told o T) (who_in e) (said_in e) (effect_on (core_told o T) f)
  pub halts : Halts (effect_on (core_told o T) f)

abbrev pub StepLands : Type 0
StepLands =
    (bases : Bases) (p : Point) (o : Outset) (T : History) (k : List ℕ) (e : Entry) (f : Effect) (x : Step)
    → ((q : Point) → Stands bases p o T q → IsTaken bases p o T e f x q) → Lands bases p o T (k, (e, f, Does x ∷ []))

abbrev pub MeetsLands : Type 0
MeetsLands =
    (bases : Bases) (p : Point) (o : Outset) (T : History) (k : List ℕ) (why : Why) (c : ℕ) → IsNoFault why
    → ((q : Point) → Stands bases p o T q → AreRightThen (world_told o T) c (Meets why ∷ []) (core_told o T))
    → Lands bases p o T (k, (Did (Meets why) c, Leaves, []))

abbrev pub TieLands : Type 0
TieLands = (bases : Bases) (p : Point) (o : Outset) (T : History) (k : List ℕ) (e : Entry) → is_tie e ≡ true → Lands bases p o T (k, (e, Leaves, []))
