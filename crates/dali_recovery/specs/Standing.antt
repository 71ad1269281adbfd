-- What a recovery tells of a restart over lists.
--     undamaged p              no region failed
--     assumed_by o p           the damage that the scan o assumes of the epoch whose first record has number p: without a scan that no region failed
--     IsFor clean failing o    o is a scan that assumes this damage
--     SameDamage o q           q assumes the damage that o does
--     FollowsBy s o p k        the tables of the scan, if there is one, follow the scan of the present epoch with that damage
--     is_unscanned x           the damage that is assumed isn't that of the epoch's records: without a scan, an audit failed
--     Stands s n x c           x is where the restart c stands, of an image with the record number n
--     Starts F m               the table m is that of the files F, and their image claims a number behind the first
--     Takes x y r              wherever x stands, the record r may follow, and y stands behind it; what is assumed stays within an epoch, and ends with it
--     Refuses x r, Allows x r  wherever x stands, r may not follow, or may
--     Fails x y r e            what the error e tells of r; y stands where x does, but for want of memory within a scan
--     Makes a o m r b q        the redo b and the scan q have come behind the record r with number m, from a and o
--     Refuses a o m r e b q    what the error e tells of r then
--     Finds x rs ds            these are whom a restart of the present epoch rolls back, and whom it deletes
--     Tells x rs ds b          b is whether a Restarted with these lists may end the epoch
--     Scans x y d              y is where x stands, where the epoch begins, and it assumes the damage d of it
--     IsRecovered a b          b is the redo a with its undos performed, and what is dead freed
--     EndsScanned x r          where r ends an epoch behind the image's place, x isn't unscanned
--     HandsOn x o              o is what is handed out where no record follows
--     Ascend rs ds             both lists ascend
--     IsOrdered s x            whatever records were taken: x is of these sizes, the lists of a restart ascend, and the next number is 2^40 at most
--     KeepsOrder x y           so it is of y, where it is of x
--     IsOrderedOut s o         what is handed out has as many regions as the sizes say, and so on
--     MakesOrdered a r b       the redo b is of the sizes of a, and its next number is the one behind the record r, which is 2^40 at most
--     Passes x y r             y is x behind the record r, but for what an audit tells
--     Reopens x y rs ds        y is x with these lists, but for what begins anew with an epoch
use Rattle.std.specs.Prelude.{◌≡◌, ◌⊎◌, ◌≤◌, ◌<◌, ◌+◌, ◌^◌, ◌&&◌, ◌==◌, not, ℕ, ⊤, Bool, true, false, List, [], map, fold, length, Option, Some, None, IsSomeAnd}
use Rattle.std.specs.List.{list_any}
use Rattle.std.specs.List.Sorted.{IsStrictlyIncreasing}
use Rattle.dali_geometry.specs.Sizes.{Sizes}
use Rattle.dali_geometry.specs.Places.{regions}
use Rattle.dali_att.specs.Table.{Table, undos_at}
use Rattle.dali_record.specs.declared.operations.Pending.{Pending}
use Rattle.dali_record.specs.declared.records.Record.{Record}
use Rattle.dali_record.specs.Damage.{Damage, has}
use Rattle.dali_record.specs.Epochs.{clean_step, failing_step}
use Rattle.dali_record.specs.Files.{Files, is_restarted}
use Rattle.dali_record.specs.Spelling.{ascends}
use Rattle.dali_history.specs.Recovered.{freed}
use Rattle.dali_resume.specs.Laws.{is_audit_fail}
use Rattle.dali_resume.specs.Onward.{Going, going_next, hands_on}
use Rattle.dali_resume.specs.Resumed.{damage_from, deleted_by, rolled_by, row_undos, scan}
use Rattle.dali_resume.specs.Tests.{Known, known_next, may_follow, next_behind, same_numbers, status_in, tells_lists}
use Rattle.dali_redo.specs.Taint.Following.{Begins as BeginsTables, Follows as FollowsTables}
use Rattle.dali_redo.specs.Taint.Tables.{has_number}
use Rattle.dali_redo.specs.declared.taint.taint.Judgement.{Judgement}
use Rattle.dali_redo.specs.declared.taint.taint.Judgement.TheVariants.{Keep, Drop}
use Rattle.dali_redo.specs.Following.{Redoes}
use Rattle.dali_redo.specs.Redoing.{Redoing, status_at}
use Rattle.dali_redo.specs.Steps.{Applies, RollsBack, Skips}
use Rattle.dali_recovery.specs.declared.error.RecoveryError.{RecoveryError}
use Rattle.dali_recovery.specs.declared.error.RecoveryError.TheVariants.{Misfit, Unscanned, OutOfMemory}
use Rattle.dali_recovery.specs.declared.scan.Scan.{Scan}
use Rattle.dali_recovery.specs.declared.recovery.Recovery.{Recovery}
use Rattle.dali_recovery.specs.declared.recovery.Recovered.{Recovered}

abbrev pub undamaged : ℕ → Damage
undamaged p = record { first = p; clean = p; failing = [] }

abbrev pub assumed_by : Option Scan → ℕ → Damage
assumed_by None p = undamaged p
assumed_by (Some z) p = record { first = p; clean = z.clean; failing = z.failing.items }

-- the damage that is assumed stays
abbrev pub IsFor : ℕ → List ℕ → Option Scan → Type 0
IsFor clean failing o = IsSomeAnd o (λ z. (z.clean ≡ clean) × (z.failing.items ≡ failing))

abbrev pub SameDamage : Option Scan → Option Scan → Type 0
SameDamage None q = q ≡ None
SameDamage (Some z) q = IsFor z.clean z.failing.items q

abbrev pub FollowsBy : Sizes → Option Scan → ℕ → Known → Type 0
FollowsBy s None p k = ⊤
FollowsBy s (Some z) p k = FollowsTables s z.taint (assumed_by (Some z) p) k

abbrev pub unscanned_by : Option Scan → Bool → ℕ → List ℕ → Bool
unscanned_by None failed clean failing = failed
unscanned_by (Some z) failed clean failing = not ((z.clean == clean) && same_numbers z.failing.items failing)

abbrev pub is_unscanned : Recovery → Bool
is_unscanned x = unscanned_by x.scan x.failed x.clean x.failing.items

pub record Stands (s : Sizes) (n : ℕ) (x : Recovery) (c : Going) : Type 0 where
  pub geometry : x.geometry ≡ s
  pub sizes : x.redo.sizes ≡ s
  pub image : x.image ≡ n
  pub positive : 0 < n
  pub behind : n ≤ c.known.number
  pub counted : c.known.number ≡ c.known.first + length c.known.seen
  pub fresh : c.known.number ≡ n → c.known.seen ≡ []
  pub redoes : Redoes c.image x.redo (assumed_by x.scan c.known.first) c.known
  pub follows : FollowsBy s x.scan c.known.first c.known
  pub begins : c.known.seen ≡ [] → BeginsTables (undamaged c.known.first) c.known x.redo.table
  pub first : x.first ≡ c.known.first
  pub clean : x.clean ≡ fold clean_step c.known.first c.known.seen
  pub failing : x.failing.items ≡ fold failing_step [] c.known.seen
  pub number : x.number ≡ c.known.number
  pub next : x.next ≡ c.known.next
  pub audits : (b : ℕ) → has_number x.audits b ≡ has c.known.audits b
  pub failed : x.failed ≡ c.known.failed
  pub fails : list_any is_audit_fail c.known.seen ≡ c.known.failed
  pub restarted : x.restarted ≡ c.known.restarted
  pub rolled : x.rolled_back.items ≡ c.rolled
  pub deleted : x.deleted.items ≡ c.deleted

pub record Starts (F : Files) (m : Table Pending) : Type 0 where
  pub positive : 0 < F.first
  pub statuses : (t : ℕ) → status_at m t ≡ status_in F.table t
  pub ascend : IsStrictlyIncreasing (map (λ w. w.txn) F.table)
  pub drawn : (t : ℕ) → has (map (λ w. w.txn) F.table) t ≡ true → t < F.next
  pub undos : (t : ℕ) → row_undos F.table t ≡ undos_at m t

-- ---- a record
abbrev pub passed : Recovery → Record → Recovery
passed x r = record x { number = x.number + 1; next = next_behind x.next r; restarted = false }

-- the count of records stays below what a number can hold
abbrev pub Takes : Recovery → Recovery → Record → Type 0
Takes x y r =
    (s : Sizes) (n : ℕ) (c : Going) → Stands s n x c → c.known.number + 1 < 2 ^ 64
    → (may_follow s n c.known r ≡ true) × Stands s n y (going_next s n c r) × (is_restarted r ≡ false → SameDamage x.scan y.scan) × (is_restarted r ≡ true → y.scan ≡ None)

abbrev pub EndsScanned : Recovery → Record → Type 0
EndsScanned x r = is_restarted r ≡ true → (x.number ≡ x.image) ⊎ (is_unscanned x ≡ false)

abbrev pub Follows : Bool → Recovery → Record → Type 0
Follows b x r = (s : Sizes) (n : ℕ) (c : Going) → Stands s n x c → may_follow s n c.known r ≡ b

abbrev pub StandsOn : Recovery → Recovery → Type 0
StandsOn x y = (s : Sizes) (n : ℕ) (c : Going) → Stands s n x c → Stands s n y c

abbrev pub Because : Recovery → Record → RecoveryError → Type 0
Because x r Misfit = Follows false x r
Because x r Unscanned = (is_restarted r ≡ true) × (is_unscanned x ≡ true)
Because x r OutOfMemory = is_restarted r ≡ false → Follows true x r

-- what is wanting within a scan may leave its tables a record ahead
abbrev pub Leaves : Recovery → Recovery → RecoveryError → Type 0
Leaves x y OutOfMemory = x.scan ≡ None → StandsOn x y
Leaves x y _ = StandsOn x y

abbrev pub Fails : Recovery → Recovery → Record → RecoveryError → Type 0
Fails x y r e = Because x r e × Leaves x y e

-- ---- a record of a transaction
pub record IsAt (s : Sizes) (a : Redoing) (o : Option Scan) (m : ℕ) (base : List (List ℕ)) (p : ℕ) (k : Known) : Type 0 where
  pub sizes : a.sizes ≡ s
  pub redoes : Redoes base a (assumed_by o p) k
  pub follows : FollowsBy s o p k
  pub number : m ≡ k.number
  pub sound : k.failed ≡ false

pub record IsMade (s : Sizes) (b : Redoing) (q : Option Scan) (base : List (List ℕ)) (p : ℕ) (k : Known) : Type 0 where
  pub sizes : b.sizes ≡ s
  pub redoes : Redoes base b (assumed_by q p) k
  pub follows : FollowsBy s q p k

abbrev pub Makes : Redoing → Option Scan → ℕ → Record → Redoing → Option Scan → Type 0
Makes a o m r b q =
    (s : Sizes) (n : ℕ) (base : List (List ℕ)) (p : ℕ) (k : Known) → IsAt s a o m base p k
    → (may_follow s n k r ≡ true) × IsMade s b q base p (known_next k r) × SameDamage o q

abbrev pub MayBy : Bool → Redoing → Option Scan → ℕ → Record → Type 0
MayBy b a o m r = (s : Sizes) (n : ℕ) (base : List (List ℕ)) (p : ℕ) (k : Known) → IsAt s a o m base p k → may_follow s n k r ≡ b

abbrev pub Refuses : Redoing → Option Scan → ℕ → Record → RecoveryError → Redoing → Option Scan → Type 0
Refuses a o m r Misfit b q = MayBy false a o m r × (b ≡ a) × (q ≡ o)
Refuses a o m r Unscanned b q = ⊥
Refuses a o m r OutOfMemory b q = MayBy true a o m r × (o ≡ None → (b ≡ a) × (q ≡ None))

abbrev pub JudgedBy : Judgement → Redoing → Redoing → Record → Type 0
JudgedBy Keep a b r = Applies a b r
JudgedBy Drop a b r = Skips a b r

-- ---- an epoch's end
-- of an epoch whose damage is assumed rightly
pub record IsFound (c : Going) (rs ds : List ℕ) : Type 0 where
  pub rolled : rs ≡ rolled_by c.known.table c.known.seen
  pub deleted : ds ≡ deleted_by c.known.table c.known.seen (scan (damage_from c.known.first c.known.seen) c.known.table c.known.seen)

abbrev pub FindsDeleted : Recovery → List ℕ → Type 0
FindsDeleted x ds =
    (s : Sizes) (n : ℕ) (c : Going) → Stands s n x c → is_unscanned x ≡ false
    → ds ≡ deleted_by c.known.table c.known.seen (scan (damage_from c.known.first c.known.seen) c.known.table c.known.seen)

abbrev pub Finds : Recovery → List ℕ → List ℕ → Type 0
Finds x rs ds = (s : Sizes) (n : ℕ) (c : Going) → Stands s n x c → is_unscanned x ≡ false → IsFound c rs ds

abbrev pub Tells : Recovery → List ℕ → List ℕ → Bool → Type 0
Tells x rs ds b = (s : Sizes) (n : ℕ) (c : Going) → Stands s n x c → is_unscanned x ≡ false → b ≡ tells_lists c.known rs ds

abbrev pub IsRecovered : Redoing → Redoing → Type 0
IsRecovered a b = (z : Redoing) × RollsBack a z × (b ≡ record z { image = freed z.sizes z.image })

-- the next epoch begins over the redo that was recovered
pub record Begins (x y : Recovery) (rs ds : List ℕ) : Type 0 where
  pub geometry : y.geometry ≡ x.geometry
  pub redo : y.redo ≡ x.redo
  pub scan : y.scan ≡ None
  pub image : y.image ≡ x.image
  pub first : y.first ≡ x.number + 1
  pub clean : y.clean ≡ x.number + 1
  pub failing : y.failing.items ≡ []
  pub number : y.number ≡ x.number + 1
  pub next : y.next ≡ x.next
  pub audits : (b : ℕ) → has_number y.audits b ≡ false
  pub failed : y.failed ≡ false
  pub restarted : y.restarted ≡ true
  pub rolled : y.rolled_back.items ≡ rs
  pub deleted : y.deleted.items ≡ ds

-- ---- the log's end
abbrev pub HandsLists : Recovery → List ℕ → List ℕ → Type 0
HandsLists x rs ds = (s : Sizes) (n : ℕ) (c : Going) → Stands s n x c → is_unscanned x ≡ false → (rs ≡ (hands_on s c).rolled) × (ds ≡ (hands_on s c).deleted)

pub record IsHanded (s : Sizes) (c : Going) (o : Recovered) : Type 0 where
  pub image : o.regions.items ≡ (hands_on s c).image
  pub rolled : o.rolled_back.items ≡ (hands_on s c).rolled
  pub deleted : o.deleted.items ≡ (hands_on s c).deleted
  pub number : o.number ≡ c.known.number
  pub next : o.next ≡ c.known.next

abbrev pub HandsOn : Recovery → Recovered → Type 0
HandsOn x o = (s : Sizes) (n : ℕ) (c : Going) → Stands s n x c → IsHanded s c o

abbrev pub EndFails : Recovery → RecoveryError → Type 0
EndFails x Misfit = ⊥
EndFails x Unscanned = is_unscanned x ≡ true
EndFails x OutOfMemory = is_unscanned x ≡ false

-- ---- the damage
abbrev pub TellsDamage : Recovery → ℕ → ℕ → List ℕ → Type 0
TellsDamage x first clean failing =
    (s : Sizes) (n : ℕ) (c : Going) → Stands s n x c
    → (let d : Damage = record { first = first; clean = clean; failing = failing } in d) ≡ damage_from c.known.first c.known.seen

pub record Scans (x y : Recovery) (clean : ℕ) (failing : List ℕ) : Type 0 where
  pub stands : StandsOn x y
  pub assumes : IsFor clean failing y.scan

-- ---- whatever records were taken
abbrev pub Ascend : List ℕ → List ℕ → Type 0
Ascend rs ds = (ascends rs ≡ true) × (ascends ds ≡ true)

pub record IsOrdered (s : Sizes) (x : Recovery) : Type 0 where
  pub geometry : x.geometry ≡ s
  pub sizes : x.redo.sizes ≡ s
  pub rolled : ascends x.rolled_back.items ≡ true
  pub deleted : ascends x.deleted.items ≡ true
  pub next : (x.redo.next ≤ 2 ^ 40) × (x.next ≤ 2 ^ 40)

abbrev pub KeepsOrder : Recovery → Recovery → Type 0
KeepsOrder x y = (s : Sizes) → IsOrdered s x → IsOrdered s y

pub record IsOrderedOut (s : Sizes) (o : Recovered) : Type 0 where
  pub whole : length o.regions.items ≡ regions s
  pub rolled : ascends o.rolled_back.items ≡ true
  pub deleted : ascends o.deleted.items ≡ true
  pub next : o.next ≤ 2 ^ 40

pub record MakesOrdered (a : Redoing) (r : Record) (b : Redoing) : Type 0 where
  pub sizes : b.sizes ≡ a.sizes
  pub low : next_behind 0 r ≤ 2 ^ 40
  pub next : b.next ≡ next_behind a.next r

pub record Passes (x y : Recovery) (r : Record) : Type 0 where
  pub geometry : y.geometry ≡ x.geometry
  pub redo : y.redo ≡ x.redo
  pub rolled : y.rolled_back ≡ x.rolled_back
  pub deleted : y.deleted ≡ x.deleted
  pub next : next_behind 0 r ≤ 2 ^ 40 → y.next ≡ next_behind x.next r

pub record Reopens (x y : Recovery) (rs ds : List ℕ) : Type 0 where
  pub geometry : y.geometry ≡ x.geometry
  pub redo : y.redo ≡ x.redo
  pub rolled : y.rolled_back.items ≡ rs
  pub deleted : y.deleted.items ≡ ds
  pub next : y.next ≡ x.next
