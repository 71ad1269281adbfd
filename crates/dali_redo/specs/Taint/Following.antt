-- What the tables of a scan know is what a scan over lists comes to.
--     scanned d k              the scan, with the damage d, of the present epoch's records, where k is what the tests of these know
--     is_begun k t             t has begun in the present epoch, or stands in its table; is_committed: and it has a Commit
--     IsOrderly k c            what is so of numbers and transactions where each record passed the tests, and c is the scan of them
--     FollowsScan s x d k c    the tables x tell of the scan all that judges a further record, and who is deleted so far
--     Follows s x d k          they do of the scan of the present epoch
--     Begins d k m             k is known where an epoch begins whose table has the undo lists m, and d is its damage
--     judgement b              what is told of a record, where b says whether it is left out
--     JudgedIn x n r j y       where the record r with number n may follow, j is how the scan judges it, and the tables y behind it follow further
--     FollowsOn x y            y follows whatever x does
use Rattle.std.specs.Prelude.{◌≡◌, ℕ, ◌≤◌, ◌<◌, Bool, true, false, ◌&&◌, [], if◌then◌else◌, length, map}
use Rattle.std.specs.List.Sorted.{IsStrictlyIncreasing}
use Rattle.dali_geometry.specs.Sizes.{Sizes}
use Rattle.dali_geometry.specs.Places.{regions}
use Rattle.dali_att.specs.Table.{Table, undos_at}
use Rattle.dali_record.specs.declared.operations.Pending.{Pending}
use Rattle.dali_record.specs.declared.records.Record.{Record}
use Rattle.dali_record.specs.Epochs.{separates}
use Rattle.dali_record.specs.Damage.{Damage, has}
use Rattle.dali_resume.specs.Resumed.{Scan, scan, row_undos, begun_by, committed_by, is_left_out}
use Rattle.dali_resume.specs.Tests.{Known, is_running, known_next, may_follow, status_in}
use Rattle.dali_redo.specs.Taint.Tables.{word_set, has_item, has_number}
use Rattle.dali_redo.specs.declared.taint.taint.Taint.{Taint}
use Rattle.dali_redo.specs.declared.taint.taint.Judgement.{Judgement}
use Rattle.dali_redo.specs.declared.taint.taint.Judgement.TheVariants.{Keep, Drop}

abbrev pub scanned : Damage → Known → Scan
scanned d k = scan d k.table k.seen

abbrev pub is_begun : Known → ℕ → Bool
is_begun k t = has (begun_by k.table k.seen) t

abbrev pub is_committed : Known → ℕ → Bool
is_committed k t = committed_by k.table k.seen t

-- of a number that wasn't drawn yet
pub record IsNew (k : Known) (c : Scan) (t : ℕ) : Type 0 where
  pub unbegun : is_begun k t ≡ false
  pub sound : c.corrupt t ≡ false
  pub undos : c.undos t ≡ []

pub record IsOrderly (k : Known) (c : Scan) : Type 0 where
  pub number : c.number ≡ k.number
  pub ascend : IsStrictlyIncreasing (begun_by k.table k.seen)
  pub begun : (t : ℕ) → is_committed k t ≡ true → is_begun k t ≡ true
  pub works : (t : ℕ) → is_running (k.statuses t) ≡ true → (is_begun k t ≡ true) × (is_committed k t ≡ false)
  -- the items of the undos that a corrupt one left
  pub marked : (t i : ℕ) → c.corrupt t ≡ true → has (map (λ u. u.key) (c.undos t)) i ≡ true → c.items i ≡ true
  pub new : (t : ℕ) → k.next ≤ t → IsNew k c t

pub record FollowsScan (s : Sizes) (x : Taint) (d : Damage) (k : Known) (c : Scan) : Type 0 where
  pub orderly : IsOrderly k c
  pub clean : x.clean ≡ d.clean
  pub failing : (r : ℕ) → has_number x.failing r ≡ has d.failing r
  pub regions : length x.words.items ≡ regions s
  pub words : (r : ℕ) → word_set x.words.items r ≡ c.words r
  pub items : (i : ℕ) → has_item x.items i ≡ c.items i
  pub corrupt : (t : ℕ) → has_number x.corrupt t ≡ c.corrupt t
  -- of those at work alone; a corrupt one needs none, since its items are marked
  pub undos : (t : ℕ) → is_running (k.statuses t) ≡ true → c.corrupt t ≡ false → undos_at x.undos t ≡ c.undos t
  pub gone : (t : ℕ) → c.corrupt t ≡ true → undos_at x.undos t ≡ []
  pub new : (t : ℕ) → k.next ≤ t → undos_at x.undos t ≡ []
  pub deleted : (t : ℕ) → has_number x.deleted t ≡ (is_committed k t && c.corrupt t)

abbrev pub Follows : Sizes → Taint → Damage → Known → Type 0
Follows s x d k = FollowsScan s x d k (scanned d k)

pub record Begins (d : Damage) (k : Known) (m : Table Pending) : Type 0 where
  pub number : d.first ≡ k.number
  pub seen : k.seen ≡ []
  pub statuses : (t : ℕ) → k.statuses t ≡ status_in k.table t
  pub ascend : IsStrictlyIncreasing (map (λ w. w.txn) k.table)
  pub drawn : (t : ℕ) → has (map (λ w. w.txn) k.table) t ≡ true → t < k.next
  pub undos : (t : ℕ) → row_undos k.table t ≡ undos_at m t

abbrev pub judgement : Bool → Judgement
judgement b = if b then Drop else Keep

abbrev pub JudgedIn : Taint → ℕ → Record → Judgement → Taint → Type 0
JudgedIn x n r j y =
    (s : Sizes) (m : ℕ) (d : Damage) (k : Known) → Follows s x d k → n ≡ k.number → may_follow s m k r ≡ true → separates r ≡ false
    → (j ≡ judgement (is_left_out d (scanned d k) r)) × Follows s y d (known_next k r)

abbrev pub FollowsOn : Taint → Taint → Type 0
FollowsOn x y = (s : Sizes) (d : Damage) (k : Known) → Follows s x d k → Follows s y d k
