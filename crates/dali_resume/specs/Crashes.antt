-- What a crash of a run with its store leaves, given to a restart.
--     EveryHistoryResumes      the files of a history that fit at its last epoch pass the tests, and what is handed out is right
--     CrashResumes             where a restart of the log is right, its files pass the tests, the image that is handed out of them is the recovered
--                              one, and the lists are those of the recovered epoch. Where that epoch is the last one, it may be made again
use Rattle.std.specs.Prelude.{◌≡◌, ℕ, List, [], ◌∷◌, IsSome, drop}
use Rattle.dali_record.specs.declared.records.Record.{Record}
use Rattle.dali_record.specs.declared.records.Record.TheVariants.{Restarted}
use Rattle.dali_record.specs.Epochs.{last_epoch}
use Rattle.dali_record.specs.Legal.{sizes_of}
use Rattle.dali_record.specs.Files.{Files}
use Rattle.dali_history.specs.Recovered.{base_of, recovered}
use Rattle.dali_history.specs.History.{IsHistory, RestartGives}
use Rattle.dali_runs.specs.State.{CoreState}
use Rattle.dali_runs.specs.Run.{log_in}
use Rattle.dali_crash.specs.Fitting.{FitsWhole}
use Rattle.dali_crash.specs.StoreRuns.{CrashIsRightWith}
use Rattle.dali_resume.specs.Tests.{known_at, tests}
use Rattle.dali_resume.specs.Again.{restarts_to, IsAgain}

abbrev pub GivesAll : List Record → Files → Type 0
GivesAll K F = RestartGives K (restarts_to (sizes_of K) F K).image (restarts_to (sizes_of K) F K).rolled (restarts_to (sizes_of K) F K).deleted

pub record Resumes (K : List Record) (F : Files) : Type 0 where
  pub pass : IsSome (tests (sizes_of K) F.first (known_at F.first F.next F.table) (drop F.first K))
  pub image : (restarts_to (sizes_of K) F K).image ≡ recovered (sizes_of K) K
  -- the last epoch has a record
  pub gives : (r : Record) (E : List Record) → (last_epoch K).records ≡ r ∷ E → GivesAll K F
  pub again : (r : Record) (E : List Record) → (last_epoch K).records ≡ r ∷ E → IsAgain K F
  -- or it has none, and the image stands before the Restarted that ends the log
  pub told : (rs ds : List ℕ) → (last_epoch K).records ≡ [] → drop F.first K ≡ Restarted rs ds ∷ [] → GivesAll K F

abbrev pub EveryHistoryResumes : Type 0
EveryHistoryResumes = (K : List Record) (F : Files) → IsHistory K → FitsWhole (sizes_of K) (base_of (sizes_of K) K) K F (last_epoch K) → Resumes K F

abbrev pub CrashResumes : Type 0
CrashResumes = (before : List Record) (c : CoreState) (F : Files) → CrashIsRightWith before c F → Resumes (log_in F) F
