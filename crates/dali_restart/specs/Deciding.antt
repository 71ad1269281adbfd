-- What a restart writes behind what it has read, and where a core begins then.
--     IsBase s F b             the image that it began with is that of the files F, of the sizes s
--     IsInRoom b                its numbers are in range, whatever a store tells
--     ReadsAll fs x            so it is for the files that the disk has before the first record behind the image, and the log from there on is read as theirs
--     at_end x                 where a restart stands at the end of the log that was read
--     due_of x                 what is to be written: nothing where no record was read or one of a restart alone. Behind another record of a restart, which
--                              ends the log, it is the image that stands before it; else a record of its own and the image
--     resting_of p             where a core begins over a log that ends so
--     LogsRecord x r           where it begins behind the record of this restart
--     WritesImage x r          and where it begins where that record stood there already
--     IsSmallRest x r          its numbers are in range
--     Asked                    what a renewal is asked to write
--     record_of x, image_of p x    the record of the restart and the image; the image alone
--     IsWritten                what a renewal made of the stages of a restart, and what a crash at any moment of it leaves
--     WritesOrFails            it fails by the store exactly where the count of faults rose; where it fails otherwise nothing was written
--     IsRestingOn M B r G      the files G have these batches, and a run may start from them over the log M, where the vault is told this end and number
--     IsSettled, Settles       so it is of each disk that a crash may leave then, where the disk that was read spells files that are found
use Rattle.std.specs.Prelude.{◌≡◌, ◌⊎◌, ◌<◌, ◌≤◌, ◌+◌, ◌-◌, ◌^◌, ◌==◌, ℕ, ⊤, Contains, List, [], Option, Some, None, Result, OnOk, OnErr, IfSome, is_some, if◌then◌else◌, map, nat_le, length}
use Rattle.dali_geometry.specs.Sizes.{Sizes}
use Rattle.dali_record.specs.declared.records.Record.{Record}
use Rattle.dali_record.specs.Damage.{Damage}
use Rattle.dali_record.specs.Files.{Files}
use Rattle.dali_record.specs.Legal.{Rules}
use Rattle.dali_history.specs.History.{IsHistory}
use Rattle.dali_store.specs.Calls.{PassesFewer}
use Rattle.dali_store.specs.Faults.{Rose}
use Rattle.dali_store.specs.Store.{Files as Disk, Only}
use Rattle.dali_store.specs.declared.store.Store.{Ghosts}
use Rattle.dali_log.specs.Stream.{Reading}
use Rattle.dali_runs.specs.Run.{log_in}
use Rattle.dali_runs.specs.State.{VaultState}
use Rattle.dali_crash.specs.Traces.{IsRestingImage, MayRun}
use Rattle.dali_crash.specs.Disks.Disks.{Spells, head_of}
use Rattle.dali_image.specs.Laws.{header_of}
use Rattle.dali_resume.specs.Interrupted.Found.{FindsIt}
use Rattle.dali_recovery.specs.Standing.{IsOrderedOut}
use Rattle.dali_recovery.specs.declared.recovery.Damage.{Damage as Told}
use Rattle.dali_recovery.specs.declared.recovery.Recovery.{Recovery}
use Rattle.dali_recovery.specs.Reload.Reading.{IsAtImage, IsReloaded}
use Rattle.dali_recovery.specs.Reload.Scanning.{AreFound, AreSmall, FindsDamage, told_of}
use Rattle.dali_recovery.specs.declared.reload.counts.BeforeRestart.{BeforeRestart}
use Rattle.dali_restart.specs.Renewal.Logged.{restart_of}
use Rattle.dali_restart.specs.Renewal.Renewed.{Keeps, Renews, Stops, end_of}
use Rattle.dali_restart.specs.declared.renewal.renewing.Standing.{Standing}
use Rattle.dali_restart.specs.Rise.Behind.{resting_behind}
use Rattle.dali_restart.specs.Rise.Risen.{IsAtLog}
use Rattle.dali_restart.specs.declared.rise.rising.Resting.{Resting}
use Rattle.dali_restart.specs.Restarting.{BeginsAt, GoesOnFrom, IsAtRest, IsOnWay}
use Rattle.dali_restart.specs.declared.restarting.Base.{Base}
use Rattle.dali_restart.specs.declared.restarting.Due.{Due}
use Rattle.dali_restart.specs.declared.restarting.Due.TheVariants as dues
use Rattle.dali_restart.specs.declared.restarting.Found.{Found}
use Rattle.dali_restart.specs.declared.restarting.Step.{Step}
use Rattle.dali_restart.specs.declared.restarting.Step.TheVariants.{Whole, Damaged}

-- ---- what was read
pub record IsBase (s : Sizes) (F : Files) (b : Base) : Type 0 where
  pub geometry : b.geometry ≡ s
  pub current : b.current ≡ F.gates
  pub header : b.header ≡ header_of s (head_of F)

pub record IsInRoom (b : Base) : Type 0 where
  pub geometry : b.header.geometry ≡ b.geometry
  pub current : b.current < 2 ^ 62
  pub first : (0 < b.header.first) × (b.header.first < 2 ^ 40)
  pub weight : b.header.weight < 2 ^ 40

pub record IsBegunIn (fs : Disk) (may : Disk → Type 0) (b : Base) (r : Reading) (x : Recovery) : Type 0 where
  pub files : Files
  pub begins : BeginsAt fs b.geometry files
  pub at_image : (s : Sizes) (F : Files) → BeginsAt fs s F → IsBase s F b × IsAtImage fs.log s F r x
  pub only : Only fs may

abbrev pub ReadsAll : Disk → Found → Type 0
ReadsAll fs x = (s : Sizes) (F : Files) → BeginsAt fs s F → IsBase s F x.base × IsReloaded fs.log s F x.reloaded

pub record IsReadIn (fs : Disk) (may : Disk → Type 0) (x : Found) : Type 0 where
  pub files : Files
  pub begins : BeginsAt fs x.base.geometry files
  pub reads : ReadsAll fs x
  pub only : Only fs may

pub record IsInOrder (x : Found) : Type 0 where
  pub room : IsInRoom x.base
  pub small : AreSmall x.reloaded
  pub ordered : IsOrderedOut x.base.geometry x.reloaded.recovered

abbrev pub IfRead : Step → (Found → Type 0) → Type 0
IfRead (Whole x) P = P x
IfRead (Damaged d) P = ⊤

abbrev pub IfLost : Step → (Told → Type 0) → Type 0
IfLost (Whole x) P = ⊤
IfLost (Damaged d) P = P d

pub record FindsNext (fs : Disk) (ds : List Told) (d : Told) : Type 0 where
  pub sizes : Sizes
  pub files : Files
  pub begins : BeginsAt fs sizes files
  pub first : (s : Sizes) (F : Files) → BeginsAt fs s F → 0 < F.first
  pub finds : (s : Sizes) (F : Files) → BeginsAt fs s F → AreFound fs.log s F ds → FindsDamage fs.log s F (map told_of ds) (told_of d)

-- the last one that is known is of the epoch that begins here
abbrev pub EndsWith : List Told → ℕ → Type 0
EndsWith ds last = (last ≡ 0) ⊎ ((d : Damage) × Contains (map told_of ds) d × (d.first ≡ last))

-- the damages that are known were found one after another
abbrev pub AreKnown : Disk → List Told → ℕ → Type 0
AreKnown fs ds last = (s : Sizes) (F : Files) → BeginsAt fs s F → AreFound fs.log s F ds × EndsWith ds last

-- ---- what is due
abbrev pub at_end : Found → Standing
at_end x = record {
  geometry = x.base.geometry;
  current = x.base.current;
  place = x.reloaded.end;
  first = x.base.header.first + x.reloaded.counts.records;
  weight = x.base.header.weight + x.reloaded.counts.bytes;
  next = x.reloaded.recovered.next;
}

-- before the record of a restart
abbrev pub before : Found → BeforeRestart → Standing
before x m = record (at_end x) { place = m.place; first = (at_end x).first - 1; weight = x.base.header.weight + m.bytes }

abbrev pub due_by : Found → Option BeforeRestart → Due
due_by x None = if x.reloaded.counts.records == 0 then dues.Nothing else dues.Record
due_by x (Some m) = if nat_le x.reloaded.counts.records 1 then dues.Nothing else dues.Image (before x m)

abbrev pub due_of : Found → Due
due_of x = due_by x x.reloaded.counts.restarted

-- ---- where a core begins
abbrev pub resting_of : Standing → Resting
resting_of p = record { geometry = p.geometry; records = p.first; weight = p.weight; next = p.next; end = p.place; current = p.current }

abbrev pub LogsRecord : Found → Resting → Type 0
LogsRecord x r =
    let rs = x.reloaded.recovered.rolled_back.items in
    let ds = x.reloaded.recovered.deleted.items in r ≡ resting_behind (at_end x) (end_of None (at_end x) rs ds) (restart_of rs ds)

abbrev pub WritesImage : Found → Resting → Type 0
WritesImage x r = r ≡ record (resting_of (at_end x)) { current = x.base.current + 1 }

-- whatever a store tells
pub record IsSmallRest (x : Found) (r : Resting) : Type 0 where
  pub records : r.records < 2 ^ 63
  pub weight : r.weight < 2 ^ 63
  pub next : r.next < 2 ^ 63
  pub geometry : r.geometry ≡ x.base.geometry

pub record Asked : Type 0 where
  pub standing : Standing
  -- where the log ends behind the record, if that stands there already
  pub logged : Option ℕ
  pub rolled : List ℕ
  pub deleted : List ℕ
  pub words : List (List ℕ)

abbrev pub record_of : Found → Asked
record_of x =
    let o = x.reloaded.recovered in record { standing = at_end x; logged = None; rolled = o.rolled_back.items; deleted = o.deleted.items; words = o.regions.items }

abbrev pub image_of : Standing → Found → Asked
image_of p x = record { standing = p; logged = Some x.reloaded.end; rolled = []; deleted = []; words = x.reloaded.recovered.regions.items }

module _ {V : Type 0} (means : Ghosts V) where
  pub record IsWritten {T E : Type 0} (a : Asked) (old new : V) (result : Result T E) : Type 0 where
    pub renews : OnOk result (IfSome (means.told old) (λ _. Renews means.may_leave means.moment means.left_since a.standing a.logged a.rolled a.deleted a.words old new))
    pub stops : IfSome (means.told old) (λ _. Stops means.may_leave means.moment means.left_since a.standing a.logged a.rolled a.deleted a.words old new)
    pub keeps : IfSome (means.told old) (λ _. Keeps means.may_leave means.moment means.left_since a.standing a.logged a.rolled a.deleted a.words old new)

  pub record WritesOrFails {T E : Type 0} (failed : Type 0) (old new : V) (result : Result T E) : Type 0 where
    pub untouched : (failed → ⊥) → OnErr result (new ≡ old)
    pub tells : is_some (means.told new) ≡ is_some (means.told old)
    pub later : means.faults old ≤ means.faults new
    pub fault : failed → Rose (means.faults old) (means.faults new)
    pub kept : (failed → ⊥) → means.faults new ≡ means.faults old
    pub passes : PassesFewer (means.lets_pass old) (means.lets_pass new)

-- ---- files that are found
pub record IsRestingOn (M : List Record) (B : List (List Record)) (r : Resting) (G : Files) : Type 0 where
  pub log : log_in G ≡ M
  pub batches : G.batches ≡ B
  pub rests : (v : VaultState) → MayRun M v → v.end ≡ r.end → v.current ≡ r.current → IsRestingImage M v G

pub record IsSettled (F : Files) (x : Found) (r : Resting) (may : Disk → Type 0) : Type 0 where
  pub log : List Record
  pub goes_on : GoesOnFrom (log_in F) log
  pub history : IsHistory (log_in F) → IsHistory log
  -- no checkpoint was made of a log of the format alone
  pub begun : (r.current ≡ 0) ⊎ (1 < length log)
  pub rules : Rules
  pub at : IsAtLog log rules r x.reloaded.recovered.regions.items
  pub batches : List (List Record)
  pub disks : (c : Disk) → may c → (G : Files) × Spells c G × IsOnWay F G × IsAtRest G × IsRestingOn log batches r G

abbrev pub Settles : Disk → Found → Resting → (Disk → Type 0) → Type 0
Settles fs x r may = ReadsAll fs x → (F : Files) → Spells fs F → FindsIt F → IsSettled F x r may
