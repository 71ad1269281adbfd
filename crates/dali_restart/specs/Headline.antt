-- A run with its store, a crash at any moment, restarts that are stopped, and one that ends.
--     OnWayGoesOn                    what comes of a restart that is stopped, and then of the next one, comes of the first
--     IsRightAnswer before c E o     the log of the crash image E is a history that keeps what the core c acknowledged, and o is what serial replay of its
--                                    survivors leaves, with just those who were rolled back and deleted in the recovered epoch
--     AnswersRight before c E o      o is what the log of E says; and where the start was a history and no damage escapes, it is right
--     EachRestart E P                of each disk that spells E, and of each that restarts left which were stopped, any number of them, a restart gives what
--                                    has P
--     IsPlaced s                     the start of a run that has no checkpoint's image, or whose log has a record behind the format
--     CrashRestartsRight             they answer right: of each crash image that came along any steps of a run with its store, and of each inside one step
--                                    more, where no audit missed a stray write
--     CrashIsFoundBut                whatever an audit missed, the files of each crash image are found but for the words of their image
--     IsUndamaged before c E o       the answer is right, and nobody of the last epoch is deleted
--     UnpokedRestartsRight           so it is where there was no stray write
use Rattle.std.specs.Prelude.{◌≡◌, ◌⊎◌, ◌<◌, false, List, [], ◌∷◌, length}
use Rattle.std.specs.List.{list_any}
use Rattle.dali_record.specs.declared.records.Record.{Record}
use Rattle.dali_record.specs.Damage.{deleted_list, rolled_list}
use Rattle.dali_record.specs.Epochs.{last_epoch, recovered_epoch}
use Rattle.dali_record.specs.Files.{Files}
use Rattle.dali_history.specs.History.{HasExpected, IsHistory}
use Rattle.dali_store.specs.Store.{Files as Disk}
use Rattle.dali_runs.specs.Crashes.{NoneEscapes}
use Rattle.dali_runs.specs.Run.{log_in}
use Rattle.dali_runs.specs.State.{CoreState}
use Rattle.dali_crash.specs.Checkpoints.{Inside, IsPointStep, Point, StoreStep, Traced}
use Rattle.dali_crash.specs.Restarts.{RestartsRight}
use Rattle.dali_crash.specs.Traces.{Start, StartsAt, start_point}
use Rattle.dali_crash.specs.Unpoked.{store_pokes}
use Rattle.dali_crash.specs.Disks.Disks.{Spells}
use Rattle.dali_resume.specs.Again.{Outcome}
use Rattle.dali_resume.specs.Interrupted.Found.{NoneMissed}
use Rattle.dali_restart.specs.Restarting.{FindsBut, Gives, IsOnWay, told_by}

abbrev pub OnWayGoesOn : Type 0
OnWayGoesOn = (F G H : Files) → IsOnWay F G → IsOnWay G H → IsOnWay F H

-- ---- the answer
pub record IsRightAnswer (before : List Record) (c : CoreState) (E : Files) (o : Outcome) : Type 0 where
  -- each transaction whose commit was acknowledged is among the survivors, or was deleted since damage reached it
  pub restarts : RestartsRight before c E
  pub records : HasExpected (log_in E) o.image
  pub rolled : o.rolled ≡ rolled_list (recovered_epoch (log_in E))
  pub deleted : o.deleted ≡ deleted_list (recovered_epoch (log_in E))

pub record AnswersRight (before : List Record) (c : CoreState) (E : Files) (o : Outcome) : Type 0 where
  pub told : o ≡ told_by E
  pub right : IsHistory before → NoneEscapes (last_epoch (log_in E)) c → IsRightAnswer before c E o

pub record EachRestart (E : Files) (P : Outcome → Type 0) : Type 0 where
  pub first : (fs : Disk) (o : Outcome) → Spells fs E → Gives fs o → P o
  pub again : (G : Files) → IsOnWay E G → (fs : Disk) (o : Outcome) → Spells fs G → Gives fs o → P o

-- ---- a crash
pub record RestartsSo (s : Start) (p : Point) (E : Files) : Type 0 where
  pub behind : EachRestart E (AnswersRight s.log p.core E)
  pub inside : (x : StoreStep) (q : Point) (F : Files) → IsPointStep p x q → Inside p x E F → EachRestart F (AnswersRight s.log p.core F)

abbrev pub IsPlaced : Start → Type 0
IsPlaced s = (s.vault.current ≡ 0) ⊎ (1 < length s.log)

abbrev pub CrashRestartsRight : Type 0
CrashRestartsRight =
    (s : Start) (D : Files) → StartsAt s D → IsPlaced s
    → (xs : List StoreStep) (p : Point) (E : Files) → Traced (start_point s) D xs p E → NoneMissed p.core
    → RestartsSo s p E

abbrev pub CrashIsFoundBut : Type 0
CrashIsFoundBut =
    (s : Start) (D : Files) → StartsAt s D → IsPlaced s
    → (xs : List StoreStep) (p : Point) (E : Files) → Traced (start_point s) D xs p E
    → FindsBut E

-- behind a damaged epoch its lists are told again until a record stands in the next one
pub record IsUndamaged (before : List Record) (c : CoreState) (E : Files) (o : Outcome) : Type 0 where
  pub right : IsRightAnswer before c E o
  pub deleted : (r : Record) (X : List Record) → (last_epoch (log_in E)).records ≡ r ∷ X → o.deleted ≡ []

abbrev pub UnpokedRestartsRight : Type 0
UnpokedRestartsRight =
    (s : Start) (D : Files) → IsHistory s.log → StartsAt s D → IsPlaced s
    → (xs : List StoreStep) (p : Point) (E : Files) → list_any store_pokes xs ≡ false → Traced (start_point s) D xs p E
    → EachRestart E (IsUndamaged s.log p.core E)
