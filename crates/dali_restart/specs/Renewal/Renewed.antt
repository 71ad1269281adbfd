-- What a renewal makes of the stages of a restart: the record Restarted, the image that the restart came to, and the anchor's move to it.
--     header_at p              the header of that image: its number is the next one, and it stands where the log ended without the record
--     IsStanding L B n p words these numbers and words are what the restart of the log L with the batches B came to, where n gates of the anchor are open
--     StandsAt logged          the files from which a renewal begins: as they were found, or with that record; its end is known where it stands there
--     Names logged rs ds L     the lists are those of the record, where it is to be logged
--     AnyStage                 the files as they were found, with that record, or with that image
--     LeftAt logged L B n F    the stages that a crash at any moment of a renewal leaves
--     end_before logged p      where the log ends before the renewal
--     end_of logged p rs ds    and where it ends behind it
--     KeepLogs old new         each disk's log is that of one from before
--     AreReady may end n       what a vault asks of each disk: the log's gate at its end is closed, and so many gates of the anchor are open
--     log_calls logged         how many store calls add that record
--     renewal_calls logged n   how many a renewal of n regions makes
--     ImageTurns, TurnStops    what the image and the move make of files with that record, and what a crash at any moment of them leaves
--     LogTurns, LogStops       so with the record before them; body is its bytes
--     Renews, Stops            so it is of a renewal
--     AnswersAlike             whatever a crash at any moment of it leaves, a restart from there hands out the same
--     AllAre may F             each disk of these spells the files F
--     MayBeRenewed p words F   these numbers are those of the files F, and the image can be spelled
--     EndsWith p r F           their log ends at this place, and the record r can be spelled
--     IsLeftOf p logged .. F c the disk c spells F; or F with the record that is to be logged; or these with the image. So the batches of F stay
--     TurnKeeps, LogKeeps      a crash at any moment of the image and the move, or of these and the record, leaves only such disks, whatever the image's words are
--     Keeps                    so it is of a renewal
--     StartsRun                behind it a run may start
--     EndsBehind               with the end that it answers
use Rattle.std.specs.Prelude.{◌≡◌, ◌⊎◌, ◌≤◌, ◌+◌, ℕ, ⊤, List, [], ◌∷◌, ◌++◌, Option, Some, None, length, sum_by}
use Rattle.dali_record.specs.declared.records.Record.{Record}
use Rattle.dali_record.specs.Legal.{sizes_of, rules_state}
use Rattle.dali_record.specs.Spelling.{CanBeSpelled, record_length, spelling}
use Rattle.dali_record.specs.Files.{Files, batch_length, next_after, with_batch}
use Rattle.dali_history.specs.Recovered.{recovered}
use Rattle.dali_history.specs.History.{IsHistory}
use Rattle.dali_store.specs.Store.{Files as Disk, LeavesOnly}
use Rattle.dali_log.specs.Appending.{next_place}
use Rattle.dali_log.specs.Batch.{IsClosedAt}
use Rattle.dali_crash.specs.Checkpoints.{Head, turned as turned_to}
use Rattle.dali_crash.specs.Traces.{MayRun, Start, StartsAt}
use Rattle.dali_log.specs.Anchors.{AreAnchored}
use Rattle.dali_crash.specs.Disks.Disks.{AllSpell, CanBeImage, Spells, sizes_in}
use Rattle.dali_image.specs.declared.header.Header.{Header}
use Rattle.dali_resume.specs.Again.{closing, closed_log}
use Rattle.dali_resume.specs.Interrupted.Stages.{IsRestarting, IsLogged, IsTurned, IsAppending, IsMoving, AnswersAs}
use Rattle.dali_restart.specs.declared.renewal.renewing.Standing.{Standing}
use Rattle.dali_restart.specs.Renewal.Written.{head_in, image_calls}
use Rattle.dali_restart.specs.Renewal.Logged.{restart_of, restart_bodies, restart_body}

abbrev pub header_at : Standing → Header
header_at p = record { geometry = p.geometry; number = p.current + 1; place = p.place; first = p.first; weight = p.weight; next = p.next; table = 4 }

pub record IsStanding (L : List Record) (B : List (List Record)) (n : ℕ) (p : Standing) (words : List (List ℕ)) : Type 0 where
  pub restarting : IsRestarting L B
  pub sizes : p.geometry ≡ sizes_of L
  pub current : p.current ≡ n
  pub place : p.place ≡ sum_by batch_length B
  pub first : p.first ≡ length L
  pub weight : p.weight ≡ sum_by record_length L
  pub next : p.next ≡ next_after L
  pub image : words ≡ recovered (sizes_of L) L

abbrev pub StandsAt : Option ℕ → List Record → List (List Record) → ℕ → Files → Type 0
StandsAt None L B n F = IsAppending L B n F
StandsAt (Some end) L B n F = IsLogged L B n F

abbrev pub Names : Option ℕ → List ℕ → List ℕ → List Record → Type 0
Names None rs ds L = restart_of rs ds ≡ closing L
Names (Some end) rs ds L = ⊤

abbrev pub AnyStage : List Record → List (List Record) → ℕ → Files → Type 0
AnyStage L B n F = IsAppending L B n F ⊎ IsTurned L B n F

-- where that record stands already, it stays
abbrev pub LeftAt : Option ℕ → List Record → List (List Record) → ℕ → Files → Type 0
LeftAt None L B n F = AnyStage L B n F
LeftAt (Some end) L B n F = IsMoving L B n F

abbrev pub end_before : Option ℕ → Standing → ℕ
end_before None p = p.place
end_before (Some end) p = end

abbrev pub end_of : Option ℕ → Standing → List ℕ → List ℕ → ℕ
end_of None p rs ds = next_place p.place (restart_bodies rs ds)
end_of (Some end) p rs ds = end

abbrev pub log_calls : Option ℕ → ℕ
log_calls None = 4
log_calls (Some end) = 0

-- the record, the image, and the anchor's move
abbrev pub renewal_calls : Option ℕ → ℕ → ℕ
renewal_calls logged n = log_calls logged + (image_calls n + 4)

abbrev pub KeepLogs : (Disk → Type 0) → (Disk → Type 0) → Type 0
KeepLogs old new = (c : Disk) → new c → (d : Disk) × old d × (c.log ≡ d.log)

pub record AreReady (may : Disk → Type 0) (end n : ℕ) : Type 0 where
  pub closed : (c : Disk) → may c → IsClosedAt end c.log
  pub anchored : AreAnchored may n

-- the disk spells files that have P
abbrev pub SpellsSome : (Files → Type 0) → Disk → Type 0
SpellsSome P c = (F : Files) × Spells c F × P F

-- ---- whatever the words of the image are
abbrev pub AllAre : (Disk → Type 0) → Files → Type 0
AllAre may F = (c : Disk) → may c → Spells c F

abbrev pub head_at : Standing → Head
head_at p = head_in (header_at p)

abbrev pub with_restart : List ℕ → List ℕ → Files → Files
with_restart rs ds F = with_batch F (restart_of rs ds ∷ [])

abbrev pub with_image : Standing → List (List ℕ) → Files → Files
with_image p words F = turned_to F (head_at p) words

pub record MayBeRenewed (p : Standing) (words : List (List ℕ)) (F : Files) : Type 0 where
  pub gates : F.gates ≡ p.current
  pub sizes : sizes_in F ≡ p.geometry
  pub image : CanBeImage p.geometry (head_at p) words

pub record EndsWith (p : Standing) (r : Record) (F : Files) : Type 0 where
  pub place : sum_by batch_length F.batches ≡ p.place
  pub spelled : CanBeSpelled r

-- where the record stands already, it isn't added
abbrev pub MayAdd : Standing → Option ℕ → List ℕ → List ℕ → Files → Type 0
MayAdd p None rs ds F = EndsWith p (restart_of rs ds) F
MayAdd p (Some end) rs ds F = ⊤

abbrev pub IsLeftOf : Standing → Option ℕ → List ℕ → List ℕ → List (List ℕ) → Files → Disk → Type 0
IsLeftOf p None rs ds words F c = Spells c F ⊎ Spells c (with_restart rs ds F) ⊎ Spells c (with_image p words (with_restart rs ds F))
IsLeftOf p (Some end) rs ds words F c = Spells c F ⊎ Spells c (with_image p words F)

module _ {V : Type 0} (may_leave : V → Disk → Type 0) (moment : V → ℕ) (left_since : V → ℕ → Disk → Type 0) where
  abbrev pub ImageTurns : Standing → List (List ℕ) → V → V → Type 0
  ImageTurns p words old new =
      (L : List Record) (B : List (List Record)) (n : ℕ) → IsStanding L B n p words → AllSpell (may_leave old) (IsLogged L B n)
      → AllSpell (may_leave new) (IsTurned L B n)

  abbrev pub TurnStops : Standing → List (List ℕ) → V → V → Type 0
  TurnStops p words old new =
      (L : List Record) (B : List (List Record)) (n : ℕ) → IsStanding L B n p words → AllSpell (may_leave old) (IsLogged L B n)
      → LeavesOnly moment left_since old new (SpellsSome (IsMoving L B n))

  abbrev pub LogTurns : Standing → List ℕ → List (List ℕ) → V → V → Type 0
  LogTurns p body words old new =
      (L : List Record) (B : List (List Record)) (n : ℕ) → IsStanding L B n p words → body ≡ spelling (closing L)
      → AllSpell (may_leave old) (IsAppending L B n)
      → AllSpell (may_leave new) (IsTurned L B n)

  abbrev pub LogStops : Standing → List ℕ → List (List ℕ) → V → V → Type 0
  LogStops p body words old new =
      (L : List Record) (B : List (List Record)) (n : ℕ) → IsStanding L B n p words → body ≡ spelling (closing L)
      → AllSpell (may_leave old) (IsAppending L B n)
      → LeavesOnly moment left_since old new (SpellsSome (AnyStage L B n))

  abbrev pub Renews : Standing → Option ℕ → List ℕ → List ℕ → List (List ℕ) → V → V → Type 0
  Renews p logged rs ds words old new =
      (L : List Record) (B : List (List Record)) (n : ℕ) → IsStanding L B n p words → Names logged rs ds L
      → AllSpell (may_leave old) (StandsAt logged L B n)
      → AllSpell (may_leave new) (IsTurned L B n)

  abbrev pub Stops : Standing → Option ℕ → List ℕ → List ℕ → List (List ℕ) → V → V → Type 0
  Stops p logged rs ds words old new =
      (L : List Record) (B : List (List Record)) (n : ℕ) → IsStanding L B n p words → Names logged rs ds L
      → AllSpell (may_leave old) (StandsAt logged L B n)
      → LeavesOnly moment left_since old new (SpellsSome (LeftAt logged L B n))

  abbrev pub AnswersAlike : Standing → Option ℕ → List ℕ → List ℕ → List (List ℕ) → V → V → Type 0
  AnswersAlike p logged rs ds words old new =
      (L : List Record) (B : List (List Record)) (n : ℕ) → IsHistory L → IsStanding L B n p words → Names logged rs ds L
      → AllSpell (may_leave old) (StandsAt logged L B n)
      → LeavesOnly moment left_since old new (SpellsSome (AnswersAs L))

  -- the log is only added to, of any files whose end and numbers these are
  abbrev pub TurnKeeps : Standing → List (List ℕ) → V → V → Type 0
  TurnKeeps p words old new =
      (F : Files) → MayBeRenewed p words F → AllAre (may_leave old) F
      → LeavesOnly moment left_since old new (λ c. Spells c F ⊎ Spells c (with_image p words F))

  abbrev pub LogKeeps : Standing → List ℕ → List (List ℕ) → V → V → Type 0
  LogKeeps p body words old new =
      (F : Files) (rs ds : List ℕ) → MayBeRenewed p words F → EndsWith p (restart_of rs ds) F → body ≡ restart_body rs ds → AllAre (may_leave old) F
      → LeavesOnly moment left_since old new (IsLeftOf p None rs ds words F)

  abbrev pub Keeps : Standing → Option ℕ → List ℕ → List ℕ → List (List ℕ) → V → V → Type 0
  Keeps p logged rs ds words old new =
      (F : Files) → MayBeRenewed p words F → MayAdd p logged rs ds F → AllAre (may_leave old) F
      → LeavesOnly moment left_since old new (IsLeftOf p logged rs ds words F)

-- the log ends where the vault says, behind the record
module _ {V : Type 0} (may_leave : V → Disk → Type 0) where
  abbrev pub StartsRun : Type 0
  StartsRun =
      (L : List Record) (B : List (List Record)) (n : ℕ) (store : V) (s : Start) → IsRestarting L B → AllSpell (may_leave store) (IsTurned L B n)
      → s.log ≡ closed_log L → rules_state (sizes_of s.log) s.log ≡ Some s.rules → s.limit ≤ 268435456 → MayRun s.log s.vault
      → s.vault.end ≡ sum_by batch_length (B ++ (closing L ∷ []) ∷ []) → s.vault.current ≡ n + 1
      → AllSpell (may_leave store) (StartsAt s)

-- the end that a renewal answers, where it logged the record
abbrev pub EndsBehind : Type 0
EndsBehind =
    (L : List Record) (B : List (List Record)) (n : ℕ) (p : Standing) (words : List (List ℕ)) (rs ds : List ℕ) → IsStanding L B n p words → Names None rs ds L
    → end_of None p rs ds ≡ sum_by batch_length (B ++ (closing L ∷ []) ∷ [])
