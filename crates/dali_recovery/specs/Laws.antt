-- Whoever takes the records behind an image, one after another, hands out what a restart computes of them.
--     IsBehind s F Q x         x stands behind the records Q, each of which may follow those before it, where it began behind the image of the files F
--     outcome_of o             what is handed out
--     BeginsBehind             so it begins
--     TakesFurther             a record that is taken leads behind it
--     NamesMisfit              the first record that isn't taken as one that may not follow is the first that may not, and the answer of these files
--     TellsUnscanned           without a scan it is told exactly of an epoch in which an audit failed that it has to be read again, and within a scan that
--                              assumes the epoch's damage it isn't
--     ScansOn, StaysAssumed    where a scan begins the records are those that were taken, and its damage is assumed up to the epoch's end
--     HandsOutVerdict          behind all records that is handed out which these files give, with the numbers that go on from there
--     NamesOverBatches         a record that isn't taken, or is a Restarted behind the first record of its batch, is the first that fails a test of either kind
--     HandsOutOverBatches      and where none is, that is handed out which the batches give
--     NoneIsMisfit             of a legal log, whose image fitted a front of it, each record may follow
--     RecoversLegal            and what is handed out of it is what the whole log says
--     RecoversHistory          of a history these are exactly the records of the survivors, and the right lists
use Rattle.std.specs.Prelude.{◌≡◌, ◌↔◌, ◌<◌, ◌≤◌, ◌+◌, ◌^◌, ℕ, true, false, List, [], ◌∷◌, ◌++◌, Some, None, IsSome, length, drop}
use Rattle.dali_geometry.specs.Sizes.{Sizes}
use Rattle.dali_record.specs.declared.records.Record.{Record}
use Rattle.dali_record.specs.Damage.{Damage}
use Rattle.dali_record.specs.Files.{Files, is_restarted, next_after}
use Rattle.dali_record.specs.Legal.{IsLegalFor, sizes_of}
use Rattle.dali_history.specs.History.{AreSpelled, IsHistory, RestartGives}
use Rattle.dali_resume.specs.Again.{Outcome}
use Rattle.dali_resume.specs.Batches.{misplaced, records_of, verdict_over}
use Rattle.dali_resume.specs.Onward.{FitsFront, HandedOut, IsResumed, Misfit as NamedMisfit, goes_through, going_at, verdict_of}
use Rattle.dali_resume.specs.Resumed.{damage_from}
use Rattle.dali_resume.specs.Tests.{known_at, tests}
use Rattle.dali_recovery.specs.Standing.{Fails, HandsOn, IsFor, Scans, Stands, Takes, is_unscanned}
use Rattle.dali_recovery.specs.declared.error.RecoveryError.TheVariants.{Misfit}
use Rattle.dali_recovery.specs.declared.recovery.Recovery.{Recovery}
use Rattle.dali_recovery.specs.declared.recovery.Recovered.{Recovered}

pub record IsBehind (s : Sizes) (F : Files) (Q : List Record) (x : Recovery) : Type 0 where
  pub stands : Stands s F.first x (goes_through s F Q)
  pub passed : IsSome (tests s F.first (known_at F.first F.next F.table) Q)

abbrev pub outcome_of : Recovered → Outcome
outcome_of o = record { image = o.regions.items; rolled = o.rolled_back.items; deleted = o.deleted.items }

-- ---- on the way
abbrev pub BeginsBehind : Type 0
BeginsBehind = (s : Sizes) (F : Files) (x : Recovery) → Stands s F.first x (going_at F) → IsBehind s F [] x

-- the count of records stays below what a number can hold
abbrev pub TakesFurther : Type 0
TakesFurther =
    (s : Sizes) (F : Files) (Q : List Record) (x y : Recovery) (r : Record) → IsBehind s F Q x → Takes x y r → F.first + length Q + 1 < 2 ^ 64
    → IsBehind s F (Q ++ r ∷ []) y

abbrev pub NamesMisfit : Type 0
NamesMisfit =
    (s : Sizes) (F : Files) (L Q Z : List Record) (x y : Recovery) (r : Record) → IsBehind s F Q x → drop F.first L ≡ Q ++ r ∷ Z → Fails x y r Misfit
    → (verdict_of s F L ≡ NamedMisfit (F.first + length Q)) × IsBehind s F Q y

abbrev pub damage_through : Sizes → Files → List Record → Damage
damage_through s F Q = damage_from (goes_through s F Q).known.first (goes_through s F Q).known.seen

abbrev pub TellsUnscanned : Type 0
TellsUnscanned =
    (s : Sizes) (F : Files) (Q : List Record) (x : Recovery) → IsBehind s F Q x
    → (x.scan ≡ None → (is_unscanned x ≡ true) ↔ ((goes_through s F Q).known.failed ≡ true))
    × (IsFor (damage_through s F Q).clean (damage_through s F Q).failing x.scan → is_unscanned x ≡ false)

abbrev pub ScansOn : Type 0
ScansOn =
    (s : Sizes) (F : Files) (Q : List Record) (x y : Recovery) (clean : ℕ) (failing : List ℕ) → IsBehind s F Q x → Scans x y clean failing
    → IsBehind s F Q y × IsFor clean failing y.scan

abbrev pub StaysAssumed : Type 0
StaysAssumed =
    (s : Sizes) (F : Files) (Q : List Record) (x y : Recovery) (r : Record) (clean : ℕ) (failing : List ℕ) → IsBehind s F Q x → Takes x y r
    → F.first + length Q + 1 < 2 ^ 64 → is_restarted r ≡ false → IsFor clean failing x.scan → IsFor clean failing y.scan

-- ---- the end
pub record IsHandedOut (s : Sizes) (F : Files) (L : List Record) (o : Recovered) : Type 0 where
  pub verdict : verdict_of s F L ≡ HandedOut (outcome_of o)
  pub number : o.number ≡ F.first + length (drop F.first L)
  pub next : o.next ≡ (goes_through s F (drop F.first L)).known.next

abbrev pub HandsOutVerdict : Type 0
HandsOutVerdict = (s : Sizes) (F : Files) (L : List Record) (x : Recovery) (o : Recovered) → IsBehind s F (drop F.first L) x → HandsOn x o → IsHandedOut s F L o

-- ---- batches
-- a Restarted that isn't the first record of its batch is misplaced, which the reader of batches knows
abbrev pub NamesOverBatches : Type 0
NamesOverBatches =
    (s : Sizes) (F : Files) (bs : List (List Record)) (Q Z : List Record) (x : Recovery) (r : Record) → IsBehind s F Q x → records_of bs ≡ Q ++ r ∷ Z
    → (misplaced bs ≡ Some (length Q) → verdict_over s F bs ≡ NamedMisfit (F.first + length Q))
    × ((y : Recovery) → Fails x y r Misfit → ((j : ℕ) → misplaced bs ≡ Some j → length Q ≤ j) → verdict_over s F bs ≡ NamedMisfit (F.first + length Q))

abbrev pub HandsOutOverBatches : Type 0
HandsOutOverBatches =
    (s : Sizes) (F : Files) (bs : List (List Record)) (x : Recovery) (o : Recovered) → IsBehind s F (records_of bs) x → misplaced bs ≡ None → HandsOn x o
    → verdict_over s F bs ≡ HandedOut (outcome_of o)

-- ---- a legal log
pub record FitsLegal (s : Sizes) (K Z : List Record) (F : Files) : Type 0 where
  pub index : 0 < s.index
  pub heap : 0 < s.heap
  pub front : FitsFront s K F
  pub some : 0 < length K
  pub legal : IsLegalFor s (K ++ Z)
  pub spelled : AreSpelled (K ++ Z)

abbrev pub NoneIsMisfit : Type 0
NoneIsMisfit =
    (s : Sizes) (K Z : List Record) (F : Files) (Q R : List Record) (x y : Recovery) (r : Record) → FitsLegal s K Z F → drop F.first (K ++ Z) ≡ Q ++ r ∷ R
    → IsBehind s F Q x → Fails x y r Misfit → ⊥

pub record IsRecoveredWhole (s : Sizes) (L : List Record) (n : ℕ) (o : Recovered) : Type 0 where
  pub resumed : IsResumed s L n (outcome_of o)
  pub number : o.number ≡ length L
  pub next : o.next ≡ next_after L

abbrev pub RecoversLegal : Type 0
RecoversLegal =
    (s : Sizes) (K Z : List Record) (F : Files) (x : Recovery) (o : Recovered) → FitsLegal s K Z F → IsBehind s F (drop F.first (K ++ Z)) x → HandsOn x o
    → IsRecoveredWhole s (K ++ Z) F.first o

abbrev pub RecoversHistory : Type 0
RecoversHistory =
    (K Z : List Record) (F : Files) (x : Recovery) (o : Recovered) → IsHistory (K ++ Z) → 0 < length K → FitsFront (sizes_of K) K F → F.first < length (K ++ Z)
    → IsBehind (sizes_of K) F (drop F.first (K ++ Z)) x → HandsOn x o
    → RestartGives (K ++ Z) o.regions.items o.rolled_back.items o.deleted.items
