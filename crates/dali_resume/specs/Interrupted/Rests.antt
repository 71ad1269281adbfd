-- Where files stand that a restart finds, by what stands behind their image; and that all stages of a restart say the same.
--     IsToBegin F              the last epoch has a record, and so has the log behind the image
--     StandsAlone, StandsTold  no record stands behind the image; or a Restarted alone: the files rest
--     EndsLogged F             a Restarted ends the log behind another record: that is the second stage of the restart that logged it
--     TellsStage               one of these is so of files that a disk spells
--     SaysOf L G               what the log of G says is what L says, whose last epoch has a record, and some of it is read
--     StagesSay                so it is at each stage of the restart of L, of files that are found again
use Rattle.std.specs.Prelude.{◌≡◌, ◌⊎◌, ◌<◌, ℕ, false, List, [], ◌∷◌, drop, length}
use Rattle.dali_record.specs.declared.records.Record.{Record}
use Rattle.dali_record.specs.declared.records.Record.TheVariants.{Restarted}
use Rattle.dali_record.specs.Epochs.{last_epoch, recovered_epoch}
use Rattle.dali_record.specs.Files.{Files}
use Rattle.dali_record.specs.Legal.{sizes_of}
use Rattle.dali_record.specs.Log.{last_of}
use Rattle.dali_history.specs.History.{IsHistory}
use Rattle.dali_history.specs.Recovered.{recovered}
use Rattle.dali_store.specs.Store.{Files as Disk}
use Rattle.dali_runs.specs.Run.{log_in}
use Rattle.dali_crash.specs.Disks.Disks.{Spells}
use Rattle.dali_resume.specs.Again.{closed_log}
use Rattle.dali_resume.specs.Rules.{ends_restarted}
use Rattle.dali_resume.specs.Interrupted.Found.{FindsIt, IsResting}
use Rattle.dali_resume.specs.Interrupted.Stages.{IsFound, IsLogged, IsRestarting, IsTurned}

-- ---- what stands behind the image
pub record IsToBegin (F : Files) : Type 0 where
  pub restarting : IsRestarting (log_in F) F.batches
  pub behind : F.first < length (log_in F)
  pub last : ends_restarted (last_of (log_in F)) ≡ false

abbrev pub StandsAlone : Files → Type 0
StandsAlone F = (drop F.first (log_in F) ≡ []) × IsResting F

pub record StandsTold (F : Files) : Type 0 where
  pub rolled : List ℕ
  pub deleted : List ℕ
  pub alone : drop F.first (log_in F) ≡ Restarted rolled deleted ∷ []
  pub resting : IsResting F

pub record EndsLogged (F : Files) : Type 0 where
  pub log : List Record
  pub batches : List (List Record)
  pub restarting : IsRestarting log batches
  pub behind : F.first < length log
  pub logged : IsLogged log batches F.gates F

abbrev pub TellsStage : Type 0
TellsStage = (fs : Disk) (F : Files) → Spells fs F → FindsIt F → IsToBegin F ⊎ StandsAlone F ⊎ StandsTold F ⊎ EndsLogged F

-- ---- what they say
pub record SaysOf (L : List Record) (G : Files) : Type 0 where
  pub finds : FindsIt G
  pub log : (log_in G ≡ L) ⊎ (log_in G ≡ closed_log L)
  pub image : recovered (sizes_of (log_in G)) (log_in G) ≡ recovered (sizes_of L) L
  pub epoch : recovered_epoch (log_in G) ≡ last_epoch L
  pub behind : G.first < length (log_in G)
  pub history : IsHistory L → IsHistory (log_in G)

pub record AllSay (L : List Record) (B : List (List Record)) (n : ℕ) (G : Files) : Type 0 where
  pub found : IsFound L B n G → SaysOf L G
  pub logged : IsLogged L B n G → SaysOf L G
  pub turned : IsTurned L B n G → SaysOf L G

abbrev pub StagesSay : Type 0
StagesSay = (L : List Record) (B : List (List Record)) (n : ℕ) (G : Files) → IsRestarting L B → AllSay L B n G
