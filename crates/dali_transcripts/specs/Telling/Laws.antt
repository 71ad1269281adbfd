-- The steps of a core, and the deeds by which the clients of a round tell them.
--     StepTells                each step of a core that a client makes, with the deeds that tell it, keeps what a round says of all its deeds
--     MeetsTells               so does a refusal, for which the core makes no step
--     AreOfCourse w c p xs q ds    these deeds tell a list of steps from p to q, and have what they ask for
--     CourseTells              and so does each list of steps
--     GoesOn                   what was done goes on with what is done next
--     RoundTells               it holds where a round begins
--     StopIsTold               where a store that failed has stopped the engine, the deeds tell why the engine is stopped, if it is
--     is_fault x               a store call fails in the step x
--     FailureTells             the vault's fault and the system's stop behind it are told by one deed, made on both: who sees either value sees that deed, and
--                              the deeds tell why the engine is stopped
use Rattle.std.specs.Prelude.{◌≡◌, ℕ, ◌+◌, Bool, true, false, List, [], ◌∷◌, ◌++◌, IsSome, length}
use Rattle.dali_record.specs.declared.records.Record.{Record}
use Rattle.dali_runs.specs.Run.{Bases, no_image}
use Rattle.dali_runs.specs.Courses.{Faults, Stops}
use Rattle.dali_crash.specs.Checkpoints.{StoreStep, Does, CopyFails, HeadFails, SyncFails, TurnFails, Point, IsPointStep}
use Rattle.dali_crash.specs.StoreRuns.{StoreRun}
use Rattle.dali_transcripts.specs.Words.{Why, StoppedBy, Full, Damaged, StoreFailed, UnderWay}
use Rattle.dali_transcripts.specs.World.{Deed, Meets, World, stop_at}
use Rattle.dali_transcripts.specs.Rounds.{IsBetween}
use Rattle.dali_transcripts.specs.Telling.Deeds.{AreOf}
use Rattle.dali_transcripts.specs.Telling.Effects.{IsLeft}
use Rattle.dali_transcripts.specs.Telling.Tells.{after, AreRightThen, Tells, Goes}

abbrev pub StepTells : Type 0
StepTells =
    (bases : Bases) (before : List Record) (w : World) (c : ℕ) (p q : Point) (x : StoreStep) (ds : List Deed)
    → StoreRun bases before no_image p → Tells w p → IsPointStep p x q → AreOf w c p x ds → AreRightThen w c ds q.core → Goes w c p ds (after w c ds q.core) q

-- the store's own failure is told by the step that fails
abbrev pub IsNoFault : Why → Type 0
IsNoFault (StoppedBy cause) = Unit {0}
IsNoFault (Full end limit) = Unit {0}
IsNoFault (Damaged region codeword found) = Unit {0}
IsNoFault UnderWay = Unit {0}
IsNoFault why = ⊥

abbrev pub MeetsTells : Type 0
MeetsTells = (w : World) (c : ℕ) (p : Point) (why : Why) → Tells w p → IsNoFault why → AreRightThen w c (Meets why ∷ []) p.core → Goes w c p (Meets why ∷ []) (after w c (Meets why ∷ []) p.core) p

abbrev pub AreOfCourse : World → (client : ℕ) → Point → List StoreStep → Point → List Deed → Type 0
AreOfCourse w c p [] q ds = (p ≡ q) × (ds ≡ [])
AreOfCourse w c p (x ∷ xs) q ds =
    (mid : Point) × (own more : List Deed) × IsPointStep p x mid × AreOf w c p x own × AreRightThen w c own mid.core × AreOfCourse (after w c own mid.core) c mid xs q more × (ds ≡ own ++ more)

abbrev pub CourseTells : Type 0
CourseTells =
    (bases : Bases) (before : List Record) (w : World) (c : ℕ) (p q : Point) (xs : List StoreStep) (ds : List Deed)
    → StoreRun bases before no_image p → Tells w p → AreOfCourse w c p xs q ds → Goes w c p ds (after w c ds q.core) q

abbrev pub GoesOn : Type 0
GoesOn =
    (u v w : World) (c : ℕ) (p q r : Point) (ds es : List Deed) → Goes u c p ds v q → Goes v c q es w r → Goes u c p (ds ++ es) w r

abbrev pub RoundTells : Type 0
RoundTells =
    (bases : Bases) (before : List Record) (p : Point) (precheck : Bool) → StoreRun bases before no_image p → IsBetween p.core
    → Tells (record { old = p.core; before = p.log; precheck = precheck; happened = []; core = p.core }) p

abbrev pub StopIsTold : Type 0
StopIsTold =
    (bases : Bases) (before : List Record) (w : World) (p : Point) → StoreRun bases before no_image p → Tells w p
    → (p.core.vault.stopped ≡ true → IsSome p.core.system.stop)
    → stop_at w (length w.happened) ≡ p.core.system.stop

-- ---- the store fails
abbrev pub is_fault : StoreStep → Bool
is_fault (Does (Faults n)) = true
is_fault (CopyFails r ws n) = true
is_fault (HeadFails head n) = true
is_fault (SyncFails n) = true
is_fault (TurnFails n) = true
is_fault x = false

pub record HasFailed (w : World) (c : ℕ) (p q : Point) : Type 0 where
  pub goes : Goes w c p (Meets StoreFailed ∷ []) (after w c (Meets StoreFailed ∷ []) q.core) q
  pub leaves : IsLeft (Meets StoreFailed) p.core q.core
  pub vault : (p.core.vault.stopped ≡ false) × (q.core.vault.stopped ≡ true)
  pub system : IsSome q.core.system.stop
  pub told : stop_at (after w c (Meets StoreFailed ∷ []) q.core) (length w.happened + 1) ≡ q.core.system.stop

abbrev pub FailureTells : Type 0
FailureTells =
    (bases : Bases) (before : List Record) (w : World) (c : ℕ) (p mid q : Point) (x : StoreStep) → StoreRun bases before no_image p → Tells w p
    → is_fault x ≡ true → IsPointStep p x mid → IsPointStep mid (Does Stops) q → HasFailed w c p q
