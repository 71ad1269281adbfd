-- What the rules ask of a record, said of the whole log before it, where n is the number of the image from which a restart reads.
--     is_active_in E t         of the epoch's records E, transaction t is at work; waits_in: it has committed and not ended
--     number_next Y            the number that the next transaction may have at least
--     has_audit n Y b          b is the number of an AuditBegin of this epoch, or stands before the image
--     may_stand s n Y r        r may stand behind Y
--     AllMayStand s n P Q      so may each record of Q behind the log P and those before it
--     StandsAt P F             the image of F stands at the end of P, or right before the Restarted that ends P, with an empty table
--     FrontsStand              files that fit a front of a log stand so in it
--     TestsAreRules            the tests behind an image, which begin with its table and numbers, are these rules
--     FindsMisfit              so what is answered tells the first record that may not stand
--     LegalStands              and those of a legal log all may
use Rattle.std.specs.Prelude.{◌≡◌, ◌⊎◌, ◌<◌, ℕ, ◌+◌, ◌^◌, Bool, true, false, not, ◌&&◌, ◌||◌, List, [], ◌∷◌, ◌++◌, ◌==◌, nat_lt, nat_le, Option, Some, None, take, drop, length, fold, slice_get}
use Rattle.std.specs.List.{list_any, list_all}
use Rattle.dali_geometry.specs.Sizes.{Sizes}
use Rattle.dali_geometry.specs.Places.{regions}
use Rattle.dali_record.specs.declared.records.Record.{Record}
use Rattle.dali_record.specs.declared.records.Record.TheVariants.{Format, Begin, Forward, Done, Commit, Ended, Solo, AuditBegin, AuditClean, AuditFail, Restarted, Back}
use Rattle.dali_record.specs.Log.{undos_of, begun, committed, ended, last_of}
use Rattle.dali_record.specs.Epochs.{Epoch, last_epoch}
use Rattle.dali_record.specs.Damage.{has}
use Rattle.dali_record.specs.Legal.{IsLegalFor, is_none_left, on_kind}
use Rattle.dali_record.specs.Files.{Files, table_before, next_after, is_restarted}
use Rattle.dali_history.specs.History.{AreSpelled}
use Rattle.dali_resume.specs.Resumed.{records_from, rolled_by, deleted_by}
use Rattle.dali_resume.specs.Tests.{Known, known_at, may_follow, next_behind, same_numbers, tests, undoes_last}
use Rattle.dali_resume.specs.Laws.{is_audit_fail, scan_all}
use Rattle.dali_resume.specs.Again.{Outcome}
use Rattle.dali_resume.specs.Onward.{FitsFront, HandedOut, Misfit, goes_through, hands_on, verdict_of}

-- ---- a transaction
abbrev pub is_active_in : List Record → ℕ → Bool
is_active_in E t = has (begun E) t && (not (has (committed E) t) && not (has (ended E) t))

abbrev pub waits_in : List Record → ℕ → Bool
waits_in E t = has (committed E) t && not (has (ended E) t)

-- a number that was drawn is below the next one
abbrev pub number_next : List Record → ℕ
number_next Y = fold next_behind 1 Y

abbrev pub is_new : List Record → ℕ → Bool
is_new Y t = nat_lt t (2 ^ 40) && nat_le (number_next Y) t

-- ---- an audit
abbrev pub begins_audit : Option Record → Bool
begins_audit (Some AuditBegin) = true
begins_audit _ = false

abbrev pub has_audit : ℕ → List Record → ℕ → Bool
has_audit n Y b = (nat_le (last_epoch Y).first b && begins_audit (slice_get Y b)) || nat_lt b n

-- ---- a restart
abbrev pub ends_restarted : Option Record → Bool
ends_restarted None = false
ends_restarted (Some r) = is_restarted r

-- the lists are what a scan of the epoch from the image on computes
abbrev pub tells_epoch : ℕ → Epoch → List ℕ → List ℕ → Bool
tells_epoch n e rs ds = same_numbers rs (rolled_by (table_before e n) (records_from n e)) && same_numbers ds (deleted_by (table_before e n) (records_from n e) (scan_all e n))

-- ---- a record
abbrev pub stands_by : Sizes → ℕ → List Record → Record → Bool
stands_by s n Y (Format i h) = length Y == 0
stands_by s n Y (Begin t) = is_new Y t
stands_by s n Y (Forward t b) = is_active_in (last_epoch Y).records t && on_kind s b.region b.op
stands_by s n Y (Done t c a) = is_active_in (last_epoch Y).records t
stands_by s n Y (Back t b) = (is_active_in (last_epoch Y).records t && undoes_last b (last_of (undos_of t (last_epoch Y).records))) && on_kind s b.region b.op
stands_by s n Y (Commit t) = is_active_in (last_epoch Y).records t
stands_by s n Y (Ended t) = waits_in (last_epoch Y).records t || (is_active_in (last_epoch Y).records t && is_none_left (undos_of t (last_epoch Y).records))
stands_by s n Y (Solo t p b) = is_new Y t && (waits_in (last_epoch Y).records p && on_kind s b.region b.op)
stands_by s n Y AuditBegin = true
stands_by s n Y (AuditClean b) = has_audit n Y b
stands_by s n Y (AuditFail b rs) = has_audit n Y b && list_all (λ r. nat_lt r (regions s)) rs
-- not right behind another one; and at the image's place its lists are taken as they are
stands_by s n Y (Restarted rs ds) = not (ends_restarted (last_of (drop n Y))) && ((length Y == n) || tells_epoch n (last_epoch Y) rs ds)

-- behind a failed audit of the epoch only a Restarted may stand
abbrev pub may_stand : Sizes → ℕ → List Record → Record → Bool
may_stand s n Y r = stands_by s n Y r && (not (list_any is_audit_fail (records_from n (last_epoch Y))) || is_restarted r)

abbrev pub AllMayStand : Sizes → ℕ → List Record → List Record → Type 0
AllMayStand s n P Q = (i : ℕ) (r : Record) → slice_get Q i ≡ Some r → may_stand s n (P ++ take i Q) r ≡ true

-- ---- an image in a log
pub record IsImageIn (P : List Record) (F : Files) : Type 0 where
  pub first : F.first ≡ length P
  pub next : F.next ≡ next_after P
  pub table : F.table ≡ table_before (last_epoch P) (length P)

pub record IsImageBefore (P : List Record) (F : Files) : Type 0 where
  pub front : List Record
  pub rolled : List ℕ
  pub deleted : List ℕ
  pub log : P ≡ front ++ Restarted rolled deleted ∷ []
  pub first : F.first ≡ length front
  pub next : F.next ≡ next_after front
  pub table : F.table ≡ []

abbrev pub StandsAt : List Record → Files → Type 0
StandsAt P F = IsImageIn P F ⊎ IsImageBefore P F

abbrev pub FrontsStand : Type 0
FrontsStand = (s : Sizes) (K : List Record) (F : Files) → FitsFront s K F → 0 < F.first → IsLegalFor s K → (P Q : List Record) × (P ++ Q ≡ K) × (0 < length P) × StandsAt P F

-- ---- the tests
abbrev pub TestsAreRules : Type 0
TestsAreRules =
    (s : Sizes) (P Q : List Record) (F : Files) (k : Known) (r : Record) → 0 < length P → IsLegalFor s P → StandsAt P F
    → tests s F.first (known_at F.first F.next F.table) (drop F.first (P ++ Q)) ≡ Some k
    → may_follow s F.first k r ≡ may_stand s F.first (P ++ Q) r

-- whatever the records Q are
abbrev pub FindsMisfit : Type 0
FindsMisfit =
    (s : Sizes) (P Q : List Record) (F : Files) → 0 < length P → IsLegalFor s P → StandsAt P F
    → ((o : Outcome) → verdict_of s F (P ++ Q) ≡ HandedOut o → AllMayStand s F.first P Q)
    × (AllMayStand s F.first P Q → verdict_of s F (P ++ Q) ≡ HandedOut (hands_on s (goes_through s F (drop F.first (P ++ Q)))))
    × ((m : ℕ) → verdict_of s F (P ++ Q) ≡ Misfit m
    → (i : ℕ) × (r : Record) × (m ≡ length P + i) × (slice_get Q i ≡ Some r) × (may_stand s F.first (P ++ take i Q) r ≡ false) × AllMayStand s F.first P (take i Q))

abbrev pub LegalStands : Type 0
LegalStands =
    (s : Sizes) (K Z : List Record) (F : Files) → 0 < s.index → 0 < s.heap → FitsFront s K F → 0 < F.first → IsLegalFor s (K ++ Z) → AreSpelled (K ++ Z)
    → (P Q : List Record) × (P ++ Q ≡ K ++ Z) × StandsAt P F × AllMayStand s F.first P Q
