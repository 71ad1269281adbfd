-- What the tables of a scan tell, and what a record does to them.
--     word_set ws r            the set of the words of region r that are marked
--     has_item items k         item k is marked
--     has_number ns t          t is in a set of numbers
--     reads_failing x n b      block b, with number n, reads a failing region at or behind the clean place
--     is_reached x n b         it does, or reads a marked word, or is on a marked item
--     is_left_out x n r        the record r, with number n, is of a transaction that is corrupt or becomes so by it
--     is_block_of t r          r is a block of t
--     is_end_of t r            r is a Commit or Ended of t
--     Drops x y r              the tables y behind x and a record r that is left out
--     Keeps x y r              the same behind one that is applied
--     Stays x y                both tell the same
use Rattle.std.specs.Prelude.{◌≡◌, ℕ, ◌<◌, Bool, not, ◌&&◌, ◌||◌, List, [], ◌∷◌, ◌++◌, if◌then◌else◌, ◌==◌, nat_le, nat_eq, Some, length, bit_and, slice_index_or}
use Rattle.std.specs.Ordering.{nat_cmp}
use Rattle.std.specs.BTreeSet as tree
use Rattle.std.specs.HashSet as hash
use Rattle.dali_att.specs.Table.{Table, undos_at}
use Rattle.dali_record.specs.declared.operations.Block.{Block}
use Rattle.dali_record.specs.declared.operations.Pending.{Pending}
use Rattle.dali_record.specs.declared.records.Record.{Record}
use Rattle.dali_record.specs.Log.{Touch, touch_of, txn_of, undo_added, undo_step, committed, ended}
use Rattle.dali_record.specs.Damage.{has, any_touch, any_txn}
use Rattle.dali_resume.specs.Resumed.{marks_item, words_touched}
use Rattle.dali_redo.specs.declared.taint.taint.Taint.{Taint}

abbrev pub word_set : List ℕ → ℕ → ℕ
word_set ws r = slice_index_or ws r 0

abbrev pub has_item : {S : Type 0} → hash.HashSet ℕ S → ℕ → Bool
has_item items k = hash.contains nat_eq items k

abbrev pub has_number : tree.BTreeSet ℕ → ℕ → Bool
has_number ns t = tree.contains nat_cmp ns t

abbrev pub reads_failing : Taint → ℕ → Block → Bool
reads_failing x n b = nat_le x.clean n && has_number x.failing b.region && not (b.read == 0)

abbrev pub is_reached : Taint → ℕ → Block → Bool
is_reached x n b = reads_failing x n b || (not (bit_and (word_set x.words.items b.region) b.read == 0) || has_item x.items b.key)

abbrev pub is_left_out : Taint → ℕ → Record → Bool
is_left_out x n r = any_txn (λ t. has_number x.corrupt t || any_touch (λ b. is_reached x n b.block) (touch_of r)) (txn_of r)

-- ---- undo lists
abbrev pub AddsUndo : Table Pending → Table Pending → ℕ → Block → Type 0
AddsUndo m n t b = (u : ℕ) → undos_at n u ≡ (if t == u then undos_at m u ++ undo_added b b.undo else undos_at m u)

abbrev pub SameUndos : Table Pending → Table Pending → Type 0
SameUndos m n = (u : ℕ) → undos_at n u ≡ undos_at m u

-- ---- a record
abbrev pub is_block_of : ℕ → Record → Bool
is_block_of t r = any_touch (λ b. b.txn == t) (touch_of r)

abbrev pub is_commit_of : ℕ → Record → Bool
is_commit_of t r = has (committed (r ∷ [])) t

abbrev pub is_end_of : ℕ → Record → Bool
is_end_of t r = is_commit_of t r || has (ended (r ∷ [])) t

-- what no record changes
pub record IsSteady (x y : Taint) : Type 0 where
  pub clean : y.clean ≡ x.clean
  pub failing : y.failing ≡ x.failing
  pub regions : length y.words.items ≡ length x.words.items

pub record Drops (x y : Taint) (r : Record) : Type 0 where
  pub steady : IsSteady x y
  pub words : ((b : Touch) → touch_of r ≡ Some b → b.block.region < length x.words.items) → (q : ℕ) → word_set y.words.items q ≡ words_touched (word_set x.words.items) (touch_of r) q
  pub items : (k : ℕ) → has_item y.items k ≡ (has_item x.items k || any_touch (marks_item (undos_at x.undos) k) (touch_of r))
  pub corrupt : (t : ℕ) → has_number y.corrupt t ≡ (has_number x.corrupt t || is_block_of t r)
  pub undos : (t : ℕ) → undos_at y.undos t ≡ (if is_block_of t r then [] else undos_at x.undos t)
  pub deleted : (t : ℕ) → has_number y.deleted t ≡ (has_number x.deleted t || is_commit_of t r)

pub record Keeps (x y : Taint) (r : Record) : Type 0 where
  pub steady : IsSteady x y
  pub words : y.words.items ≡ x.words.items
  pub items : (k : ℕ) → has_item y.items k ≡ has_item x.items k
  pub corrupt : y.corrupt ≡ x.corrupt
  pub undos : (t : ℕ) → undos_at y.undos t ≡ (if is_end_of t r then [] else undo_step t (undos_at x.undos t) r)
  pub deleted : y.deleted ≡ x.deleted

pub record Stays (x y : Taint) : Type 0 where
  pub steady : IsSteady x y
  pub words : y.words.items ≡ x.words.items
  pub items : (k : ℕ) → has_item y.items k ≡ has_item x.items k
  pub corrupt : (t : ℕ) → has_number y.corrupt t ≡ has_number x.corrupt t
  pub undos : SameUndos x.undos y.undos
  pub deleted : (t : ℕ) → has_number y.deleted t ≡ has_number x.deleted t
