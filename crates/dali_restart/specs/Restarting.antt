-- What a restart answers, and what it leaves.
--     outcome gs r             the words of a core's regions, with the two lists of its report
--     BeginsAt fs s F          the disk has these files, of the sizes s, before the first record behind its current image, which is theirs
--     IsReadAs fs o            the log from that image's place on is one of batches to its end, and this is their answer (verdict_over)
--     IsBadTail, IsBadAnywhere     the disk is bad at this place: in the log from the image's place on; or before that
--     told_by F                what the log of the files F says: the recovered words, and the lists of the recovered epoch
--     Gives fs o               so the answer is, where the disk spells files that are found (FindsIt); and of a history the words have the survivors' records
--     IsOnWay F G              the files G come of the restart of F: their log is that of F, or has one record more, that of the restart; they say the same
--     SpellsOnWay F c          the disk c spells such files
--     LeavesAtRest fs c        so it does where fs spells files that are found, and no record stands behind their image, or one of a restart alone
--     StopsAlike fs old new    a crash at any moment leaves what it might have left before, or such a disk, where fs spells files that are found
--     FindsBut F               files that are found, but for the words of their image, as where memory was written astray and no audit saw it
--     IsLaterOf F G            so are the files G, whose log is that of F, or has one record more, that of the restart
--     StopsAppending fs old new    a crash at any moment leaves what it might have left before, or a disk that spells such files, where fs spells files
--                              that are found but for those words: so the log is only added to
--     StaysIdle fs old new     where they have no record behind their image, or one of a restart alone, the store is only read
--     IsLeft old new           what a crash at any moment leaves, and what else is so whatever is answered
--     IsFresh                  a core that was just made: no operation, transaction or lock, and a vault that runs
--     BeginsRun                a run begins with it, over the log of these files or that with the record of the restart
use Rattle.std.specs.Prelude.{◌≡◌, ◌⊎◌, ◌≤◌, ◌<◌, ℕ, Bool, List, [], ◌∷◌, Option, Some, IfSome, is_some, drop, length, map}
use Rattle.dali_geometry.specs.Sizes.{Sizes}
use Rattle.dali_record.specs.declared.records.Record.{Record}
use Rattle.dali_record.specs.declared.records.Record.TheVariants.{Restarted}
use Rattle.dali_record.specs.Blocks.{AllAreWords}
use Rattle.dali_record.specs.Files.{Files}
use Rattle.dali_record.specs.Legal.{Rules, rules_state, sizes_of}
use Rattle.dali_history.specs.History.{HasExpected, IsHistory}
use Rattle.dali_region.specs.declared.Side.{Side}
use Rattle.dali_region.specs.State.{RegionState}
use Rattle.dali_store.specs.declared.store.FileName.{FileName}
use Rattle.dali_store.specs.declared.store.FileName.TheVariants.{Log}
use Rattle.dali_store.specs.Store.{Files as Disk, LeavesOnly}
use Rattle.dali_store.specs.Calls.{PassesFewer}
use Rattle.dali_store.specs.declared.store.Store.{Ghosts}
use Rattle.dali_log.specs.Log.{TailOf}
use Rattle.dali_log.specs.Reads.{OnlyReads}
use Rattle.dali_log.specs.Stream.{Reading}
use Rattle.dali_runs.specs.State.{SystemState}
use Rattle.dali_runs.specs.Images.{Told}
use Rattle.dali_runs.specs.Run.{log_in}
use Rattle.dali_system.specs.Served.{Served}
use Rattle.dali_crash.specs.Checkpoints.{Head}
use Rattle.dali_crash.specs.Traces.{start_point}
use Rattle.dali_crash.specs.Disks.Disks.{Spells, head_of}
use Rattle.dali_core.specs.Vault.Vaulted.{Vaulted}
use Rattle.dali_core.specs.Cores.{IsCoreAt}
use Rattle.dali_image.specs.Laws.{CanBeTable, header_of, table_of}
use Rattle.dali_resume.specs.Again.{Outcome, closed_log}
use Rattle.dali_resume.specs.Batches.{verdict_over}
use Rattle.dali_resume.specs.Onward.{HandedOut, history_says}
use Rattle.dali_resume.specs.Interrupted.Found.{FindsIt}
use Rattle.dali_recovery.specs.Reload.Reading.{FailsAt, IsBadBehind}
use Rattle.dali_restart.specs.declared.rise.rising.Resting.{Resting}
use Rattle.dali_restart.specs.Rise.Risen.{IsRisen, start_at}
use Rattle.dali_restart.specs.declared.restarting.Report.{Report}
use Rattle.dali_restart.specs.Opening.{IsBadStore, IsOpened}

abbrev pub outcome : List RegionState → Report → Outcome
outcome gs r = record { image = map (λ g. g.words) gs; rolled = r.rolled_back.items; deleted = r.deleted.items }

-- ---- any files
-- whatever their batches are
pub record BeginsAt (fs : Disk) (s : Sizes) (F : Files) : Type 0 where
  pub reader : Reading
  pub opened : IsOpened fs s F.gates (header_of s (head_of F)) F.image (table_of F.table) reader
  pub rows : CanBeTable s F.next F.table
  pub words : AllAreWords F.image

pub record IsReadAs (fs : Disk) (o : Outcome) : Type 0 where
  pub sizes : Sizes
  pub files : Files
  pub image : BeginsAt fs sizes files
  pub batches : List (List Record)
  pub end : ℕ
  pub log : TailOf fs.log files.place batches end
  pub verdict : verdict_over sizes files batches ≡ HandedOut o

pub record IsBadTail (fs : Disk) (file : FileName) (at : ℕ) : Type 0 where
  pub sizes : Sizes
  pub files : Files
  pub image : BeginsAt fs sizes files
  pub name : file ≡ Log
  pub bad : IsBadBehind fs.log sizes files at ⊎ FailsAt fs.log sizes files at

abbrev pub IsBadAnywhere : Disk → FileName → ℕ → Type 0
IsBadAnywhere fs file at = IsBadStore fs file at ⊎ IsBadTail fs file at

-- ---- files that are found
abbrev pub told_by : Files → Outcome
told_by F = history_says (log_in F)

pub record IsTold (F : Files) (o : Outcome) : Type 0 where
  pub told : o ≡ told_by F
  pub records : IsHistory (log_in F) → HasExpected (log_in F) o.image

abbrev pub Gives : Disk → Outcome → Type 0
Gives fs o = (F : Files) → Spells fs F → FindsIt F → IsTold F o

-- ---- what is left
abbrev pub GoesOnFrom : List Record → List Record → Type 0
GoesOnFrom L M = (M ≡ L) ⊎ (M ≡ closed_log L)

pub record IsOnWay (F G : Files) : Type 0 where
  pub finds : FindsIt G
  pub log : GoesOnFrom (log_in F) (log_in G)
  pub told : told_by G ≡ told_by F
  pub history : IsHistory (log_in F) → IsHistory (log_in G)

abbrev pub SpellsOnWay : Files → Disk → Type 0
SpellsOnWay F c = (G : Files) × Spells c G × IsOnWay F G

abbrev pub IsAtRest : Files → Type 0
IsAtRest G = (drop G.first (log_in G) ≡ []) ⊎ ((rs ds : List ℕ) × (drop G.first (log_in G) ≡ Restarted rs ds ∷ []))

abbrev pub LeavesAtRest : Disk → Disk → Type 0
LeavesAtRest fs c = (F : Files) → Spells fs F → FindsIt F → (G : Files) × Spells c G × IsOnWay F G × IsAtRest G

-- ---- files that are found, but for the words of their image
abbrev pub with_words : Files → List (List ℕ) → Files
with_words F image = record F { image = image }

pub record FindsBut (F : Files) : Type 0 where
  -- the words that it would have
  pub right : List (List ℕ)
  pub words : AllAreWords right
  pub finds : FindsIt (with_words F right)

pub record IsLaterOf (F G : Files) : Type 0 where
  pub finds : FindsBut G
  pub log : GoesOnFrom (log_in F) (log_in G)

abbrev pub SpellsLater : Files → Disk → Type 0
SpellsLater F c = (G : Files) × Spells c G × IsLaterOf F G

module _ {V : Type 0} (may_leave : V → Disk → Type 0) (moment : V → ℕ) (left_since : V → ℕ → Disk → Type 0) where
  -- what might have been left before, as where a sync is cut short; or what says the same as the files that reads gave
  abbrev pub StopsAlike : Disk → V → V → Type 0
  StopsAlike fs old new = (F : Files) → Spells fs F → FindsIt F → LeavesOnly moment left_since old new (λ c. may_leave old c ⊎ SpellsOnWay F c)

  -- whatever words the image has
  abbrev pub StopsAppending : Disk → V → V → Type 0
  StopsAppending fs old new = (F : Files) → Spells fs F → FindsBut F → LeavesOnly moment left_since old new (λ c. may_leave old c ⊎ SpellsLater F c)

module _ {V : Type 0} (told : V → Option Disk) (may_leave : V → Disk → Type 0) (moment : V → ℕ) (left_since : V → ℕ → Disk → Type 0) where
  abbrev pub StaysIdle : Disk → V → V → Type 0
  StaysIdle fs old new = (F : Files) → Spells fs F → FindsIt F → IsAtRest F → OnlyReads told moment left_since may_leave old new

module _ {V : Type 0} (means : Ghosts V) where
  pub record IsLeft (old new : V) : Type 0 where
    pub any_moment : IfSome (means.told old) (λ fs. StopsAlike means.may_leave means.moment means.left_since fs old new)
    pub appends : IfSome (means.told old) (λ fs. StopsAppending means.may_leave means.moment means.left_since fs old new)
    -- and so reads the store that comes back
    pub comes_back : IfSome (means.told old) (λ fs. IfSome (means.told new) (λ gs. (F : Files) → Spells fs F → FindsIt F → SpellsOnWay F gs))
    pub tells : is_some (means.told new) ≡ is_some (means.told old)
    pub later : means.faults old ≤ means.faults new
    pub passes : PassesFewer (means.lets_pass old) (means.lets_pass new)

-- ---- the core
pub record IsFresh {V : Type 0} (limit : ℕ) (gs : List RegionState) (y : Served) (v : Vaulted V) : Type 0 where
  pub resting : Resting
  pub words : List (List ℕ)
  pub risen : IsRisen resting words limit v.store gs y v

module _ {V : Type 0} (means : Ghosts V) where
  pub record RunsFrom (limit : ℕ) (F : Files) (gs : List RegionState) (y : SystemState) (v : Vaulted V) : Type 0 where
    pub log : List Record
    pub goes_on : GoesOnFrom (log_in F) log
    pub history : IsHistory (log_in F) → IsHistory log
    -- no checkpoint was made of a log of the format alone: so each disk's files have their image's place (HasPlace)
    pub begun : (v.current ≡ 0) ⊎ (1 < length log)
    pub rules : Rules
    pub allowed : rules_state (sizes_of log) log ≡ Some rules
    pub batches : List (List Record)
    -- whatever it takes the words, heads and syncs of the image files for, which aren't read before a checkpoint
    pub begins : (words : Told) (heads : Side → Head) (synced : Side → Bool)
        → let start =
        start_at means log rules limit v words heads synced in IsCoreAt means start batches (start_point start) gs y v

  abbrev pub BeginsRun : ℕ → Disk → List RegionState → SystemState → Vaulted V → Type 0
  BeginsRun limit fs gs y v = (F : Files) → Spells fs F → FindsIt F → RunsFrom limit F gs y v
