-- The stages of a restart, as crash images. The log L that is found has the batches B and a record in its last epoch, and n gates of its anchor are open.
-- Where the last epoch has none a restart logs nothing. It writes nothing either where no record stands from the image's place on, of which no law here
-- speaks, or Restarted alone, as at the third stage. Else the log ends with the batch of Restarted, and the restart goes on from the second stage.
--     IsRestarting L B         what is asked of the log, honest or not: but for what a restart hands out, which is said of a history
--     HasPlace F               the image stands behind the first batch, its number is hardly above that of the records before it, and a record stands
--                              behind the image, where a gate is open
--     IsFound L B n F          the files as they are found: their image fits a front of the log at its last epoch, whose batches are the first of the
--                              disk's. Any batches stand behind these, where each Restarted is the first record of its batch
--     IsLogged L B n F         with the batch of Restarted
--     IsTurned L B n F         with the image that the restart came to as the current one; it stands before that batch
--     AnswersAs L F            a restart from these files hands out what L says, the recovered image and the two lists. So it is of the records
--                              behind the image, and, with the test of the batches too, of the batches from the image's place on
--     EveryStageAnswers        so it is at each of the three
--     StartsBehind             behind the third a run may start
--     FoundLogged              files that end with that batch, and without it are at the first stage, are at the second: a restart that finds them goes
--                              on from there
--     IsAppending, IsMoving    at the first or the second, as while the batch is appended and behind a fault in that; at the second or the third, as while
--                              the anchor is moved and behind a fault in that
--     AppendStages, Appended   what a crash leaves spells the first or the second while the batch is appended, and the second behind it
--     Written                  and goes on to spell the first or the second, or the second alone, whatever is written to the file of the image that the
--                              anchor doesn't name
--     LogSettles               behind a sync of the log they are at one of the two, as reads of it tell
--     closing_bodies L         the body of that batch
--     HoldsImage L B n d       that file spells the image that the restart came to
--     MoveStages, Moved        what a crash leaves spells the second or the third while the anchor is moved, and the third behind it
--     AnchorSettles            behind a sync of the anchor they are at one of the two, as reads of it tell
use Rattle.std.specs.Prelude.{◌≡◌, ◌⊎◌, ◌<◌, ◌≤◌, ℕ, ◌+◌, ◌^◌, List, [], ◌∷◌, ◌++◌, Some, drop, length, sum_by, take, true}
use Rattle.std.specs.List.{list_all}
use Rattle.dali_record.specs.declared.records.Record.{Record}
use Rattle.dali_record.specs.declared.records.Record.TheVariants.{Restarted}
use Rattle.dali_record.specs.Epochs.{last_epoch}
use Rattle.dali_record.specs.Legal.{sizes_of, rules_state, IsLegalFor}
use Rattle.dali_record.specs.Files.{Files, batch_length, is_restarted_first}
use Rattle.dali_history.specs.Recovered.{recovered}
use Rattle.dali_history.specs.History.{IsHistory}
use Rattle.dali_store.specs.Store.{Files as Disk, SameBut}
use Rattle.dali_log.specs.Appending.{SomeAdded, AllAdded}
use Rattle.dali_log.specs.Batch.{IsClosedAt}
use Rattle.dali_log.specs.Log.{LogOf, bodies, records_in}
use Rattle.dali_runs.specs.Run.{log_in}
use Rattle.dali_crash.specs.Checkpoints.{side_of}
use Rattle.dali_crash.specs.Starts.{IsLawful}
use Rattle.dali_crash.specs.Traces.{IsRead, MayRun, Start, StartsAt}
use Rattle.dali_crash.specs.Disks.Disks.{AllSpell, IsImageOf, image_file, image_name}
use Rattle.dali_log.specs.Anchors.{IsAnchor}
use Rattle.dali_log.specs.Anchors.{HasMoved, MayHaveMoved, AreAnchored}
use Rattle.dali_crash.specs.Disks.Bridges.{closed_head}
use Rattle.dali_resume.specs.Again.{closing, closed_log, with_closing, turned, outcome_is}
use Rattle.dali_resume.specs.Onward.{FitsFront, HandedOut, verdict_of}
use Rattle.dali_resume.specs.Batches.{records_of, verdict_over}

pub record IsRestarting (L : List Record) (B : List (List Record)) : Type 0 where
  pub lawful : IsLawful L
  pub batches : records_in B ≡ L
  pub some : (r : Record) × (E : List Record) × ((last_epoch L).records ≡ r ∷ E)

-- ---- the files
-- The image stands behind the first batch, and hardly more checkpoints were made than records stand before it: so the anchor may be moved; and none
-- was made of a log of the format alone. A record stands behind the image of a checkpoint or a restart: so the lists of the last restart are read. Where
-- an image was put behind the last Restarted by hand, nobody is told, whoever that one named (`a_restart_names_nobody_behind_the_end` of dali_resume)
pub record HasPlace (F : Files) : Type 0 where
  pub placed : 0 < F.place
  pub moved : F.gates ≤ F.first + 1 + 2 ^ 61
  pub some : (F.gates ≡ 0) ⊎ (1 < length (log_in F))
  pub read : IsRead F

pub record IsFound (L : List Record) (B : List (List Record)) (n : ℕ) (F : Files) : Type 0 where
  pub batches : F.batches ≡ B
  pub gates : F.gates ≡ n
  pub place : HasPlace F
  -- the log that the image fits, and the batches behind those of that log
  pub front : List Record
  pub more : List (List Record)
  pub log : front ++ records_of more ≡ L
  pub some : 0 < length front
  pub fits : FitsFront (sizes_of front) front F
  pub parts : fits.0 ++ more ≡ B
  pub good : list_all is_restarted_first more ≡ true

abbrev pub IsLogged : List Record → List (List Record) → ℕ → Files → Type 0
IsLogged L B n F = (D : Files) × IsFound L B n D × (F ≡ with_closing L D)

abbrev pub IsTurned : List Record → List (List Record) → ℕ → Files → Type 0
IsTurned L B n F = (D : Files) × IsFound L B n D × (F ≡ turned L D)

-- with that batch or without it; with the new image or without it. A fault without a crash may leave some disks at the one and some at the other
abbrev pub IsAppending : List Record → List (List Record) → ℕ → Files → Type 0
IsAppending L B n F = IsFound L B n F ⊎ IsLogged L B n F

abbrev pub IsMoving : List Record → List (List Record) → ℕ → Files → Type 0
IsMoving L B n F = IsLogged L B n F ⊎ IsTurned L B n F

abbrev pub FoundLogged : Type 0
FoundLogged =
    (L : List Record) (B : List (List Record)) (n : ℕ) (F : Files) (rs ds : List ℕ) → IsRestarting L B
    → IsLegalFor (sizes_of L) (L ++ Restarted rs ds ∷ []) → F.batches ≡ B ++ (Restarted rs ds ∷ []) ∷ []
    → IsFound L B n (record F { batches = B })
    → IsLogged L B n F

pub record AnswersAs (L : List Record) (F : Files) : Type 0 where
  pub records : verdict_of (sizes_of L) F (log_in F) ≡ HandedOut (outcome_is L)
  -- the batches that begin at the image's place
  pub batches : (k : ℕ) × (F.place ≡ sum_by batch_length (take k F.batches)) × (verdict_over (sizes_of L) F (drop k F.batches) ≡ HandedOut (outcome_is L))

pub record AllAnswer (L : List Record) (B : List (List Record)) (n : ℕ) (F : Files) : Type 0 where
  pub found : IsFound L B n F → AnswersAs L F
  pub logged : IsLogged L B n F → AnswersAs L F
  pub turned : IsTurned L B n F → AnswersAs L F

abbrev pub EveryStageAnswers : Type 0
EveryStageAnswers = (L : List Record) (B : List (List Record)) (n : ℕ) (F : Files) → IsHistory L → IsRestarting L B → AllAnswer L B n F

abbrev pub StartsBehind : Type 0
StartsBehind =
    (L : List Record) (B : List (List Record)) (n : ℕ) (F : Files) (s : Start) → IsRestarting L B → IsTurned L B n F
    → s.log ≡ closed_log L → rules_state (sizes_of s.log) s.log ≡ Some s.rules → s.limit ≤ 268435456 → MayRun s.log s.vault
    → s.vault.end ≡ sum_by batch_length F.batches → s.vault.current ≡ n + 1
    → StartsAt s F

-- ---- the disks
abbrev pub closing_bodies : List Record → List (List ℕ)
closing_bodies L = bodies ((closing L ∷ []) ∷ [])

abbrev pub HoldsImage : List Record → List (List Record) → ℕ → Disk → Type 0
HoldsImage L B n d = IsImageOf (sizes_of L) (image_file (side_of (n + 1)) d) (closed_head (n + 1) B) (recovered (sizes_of L) L)

-- An append asks that each disk has a closed gate where its batch goes, and the anchor's move that each has as many open gates as its number. So behind a
-- fault without a crash they are made again only where no disk has what they add; else a sync comes first.
module _ (old : Disk → Type 0) where
  abbrev pub AppendStages : Type 0
  AppendStages =
      (L : List Record) (B : List (List Record)) (n : ℕ) → IsRestarting L B → AllSpell old (IsAppending L B n)
      → ((d : Disk) → old d → IsClosedAt (sum_by batch_length B) d.log)
      → AllSpell (SomeAdded old (sum_by batch_length B) (closing_bodies L)) (IsAppending L B n)

  abbrev pub Appended : Type 0
  Appended =
      (L : List Record) (B : List (List Record)) (n : ℕ) → IsRestarting L B → AllSpell old (IsAppending L B n)
      → ((d : Disk) → old d → IsClosedAt (sum_by batch_length B) d.log)
      → AllSpell (AllAdded old (sum_by batch_length B) (closing_bodies L)) (IsLogged L B n)

  abbrev pub MoveStages : Type 0
  MoveStages =
      (L : List Record) (B : List (List Record)) (n : ℕ) → IsRestarting L B → AllSpell old (IsMoving L B n) → AreAnchored old n
      → ((d : Disk) → old d → HoldsImage L B n d)
      → AllSpell (MayHaveMoved old n) (IsMoving L B n)

  abbrev pub Moved : Type 0
  Moved =
      (L : List Record) (B : List (List Record)) (n : ℕ) → IsRestarting L B → AllSpell old (IsMoving L B n) → AreAnchored old n
      → ((d : Disk) → old d → HoldsImage L B n d)
      → AllSpell (HasMoved old n) (IsTurned L B n)

module _ (old new : Disk → Type 0) where
  abbrev pub Written : Type 0
  Written =
      (L : List Record) (B : List (List Record)) (n : ℕ)
      → ((c : Disk) → new c → (d : Disk) × old d × SameBut (image_name (side_of (n + 1))) d c)
      → (AllSpell old (IsAppending L B n) → AllSpell new (IsAppending L B n)) × (AllSpell old (IsLogged L B n) → AllSpell new (IsLogged L B n))

  -- of what reads give: the log without the batch, or with it
  abbrev pub LogSettles : Type 0
  LogSettles =
      (L : List Record) (B : List (List Record)) (n end : ℕ) (fs : Disk) → AllSpell old (IsAppending L B n)
      → ((c : Disk) → new c → old c × (c.log ≡ fs.log))
      → (LogOf fs.log B end → AllSpell new (IsFound L B n)) × (LogOf fs.log (B ++ (closing L ∷ []) ∷ []) end → AllSpell new (IsLogged L B n))

  -- the anchor as it was, or with one open gate more
  abbrev pub AnchorSettles : Type 0
  AnchorSettles =
      (L : List Record) (B : List (List Record)) (n : ℕ) (fs : Disk) → AllSpell old (IsMoving L B n)
      → ((c : Disk) → new c → old c × (c.anchor ≡ fs.anchor))
      → (IsAnchor fs.anchor n → AllSpell new (IsLogged L B n)) × (IsAnchor fs.anchor (n + 1) → AllSpell new (IsTurned L B n))
