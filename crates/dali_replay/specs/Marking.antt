-- What the functions that look for damage compute, of records and marks that stand side by side.
--     toucher r                    the transaction of the block of r, if r has one
--     touches c b                  c writes a word that b reads, or changes b's item
--     reaches u b r                r is a block of u that touches b
--     undo_keys u E                the keys of the undos that the records leave to u
--     links_from before since u t b      a block of u, with which `since` begins, is linked to the block b of t behind `since`
--     linked_after before rs ks t b      so it is with some marked record of rs, before which stands `before`
--     mark_by d rs ks r            whether r is corrupt behind the records rs with the marks ks
--     marks_only d E               the marks of the records E
--     corrupted rs ks t            a marked record is a block of t
--     deleted_of e                 the transactions that are deleted in the epoch e
use Rattle.std.specs.Prelude.{if◌then◌else◌, ◌+◌, nat_le, ℕ, Bool, true, false, not, ◌&&◌, ◌||◌, List, [], ◌∷◌, ◌++◌, ◌==◌, Option, Some, None, map, filter, fold, length, bit_and}
use Rattle.std.specs.List.{list_any}
use Rattle.dali_record.specs.declared.operations.Block.{Block}
use Rattle.dali_record.specs.declared.operations.Undo.{Undo}
use Rattle.dali_record.specs.declared.records.Record.{Record}
use Rattle.dali_record.specs.declared.records.Record.TheVariants.{Forward, Back}
use Rattle.dali_record.specs.Blocks.{changes_item}
use Rattle.dali_record.specs.Log.{Touch, touch_of, undos_of, drop_last, committed}
use Rattle.dali_record.specs.Epochs.{Epoch}
use Rattle.dali_record.specs.Damage.{Damage, damage_of, has, any_touch, any_txn, marks, has_corrupt}

abbrev pub txn_in : Option Touch → Option ℕ
txn_in None = None
txn_in (Some a) = Some a.txn

abbrev pub toucher : Record → Option ℕ
toucher r = txn_in (touch_of r)

abbrev pub touches : Block → Block → Bool
touches c b = ((c.region == b.region) && not (bit_and c.write b.read == 0)) || (changes_item c && (c.key == b.key))

abbrev pub reaches : ℕ → Block → Record → Bool
reaches u b r = any_touch (λ c. (c.txn == u) && touches c.block b) (touch_of r)

abbrev pub undo_keys : ℕ → List Record → List ℕ
undo_keys u E = map (λ p. p.key) (undos_of u E)

-- one record more, on the keys alone
abbrev pub key_added : Block → Option Undo → List ℕ
key_added b None = []
key_added b (Some p) = b.key ∷ []

abbrev pub key_step : ℕ → List ℕ → Record → List ℕ
key_step u ks (Forward t b) = if t == u then ks ++ key_added b b.undo else ks
key_step u ks (Back t b) = if t == u then drop_last ks else ks
key_step u ks _ = ks

abbrev pub links_from : List Record → List Record → ℕ → ℕ → Block → Bool
links_from before since u t b = not (u == t) && (list_any (reaches u b) since || has (undo_keys u before) b.key)

-- the first of these records
abbrev pub linked_here : List Record → List Record → List Bool → ℕ → Block → Bool
linked_here before [] ks t b = false
linked_here before (r ∷ rs) [] t b = false
linked_here before (r ∷ rs) (k ∷ ks) t b = k && any_txn (λ u. links_from before (r ∷ rs) u t b) (toucher r)

abbrev pub linked_after : List Record → List Record → List Bool → ℕ → Block → Bool
linked_after before [] ks t b = false
linked_after before (r ∷ rs) [] t b = false
linked_after before (r ∷ rs) (k ∷ ks) t b = linked_here before (r ∷ rs) (k ∷ ks) t b || linked_after (before ++ r ∷ []) rs ks t b

abbrev pub block_is_first : Damage → ℕ → Block → Bool
block_is_first d p b = nat_le d.clean (d.first + p) && has d.failing b.region && not (b.read == 0)

-- whether the block of t behind the records is corrupt
abbrev pub block_mark : Damage → List Record → List Bool → ℕ → Block → Bool
block_mark d rs ks t b = block_is_first d (length rs) b || linked_after [] rs ks t b

abbrev pub mark_by : Damage → List Record → List Bool → Record → Bool
mark_by d rs ks r = any_touch (λ b. block_mark d rs ks b.txn b.block) (touch_of r)

abbrev pub marks_only : Damage → List Record → List Bool
marks_only d E = map (λ m. m.1) (marks d E)

abbrev pub corrupt_here : List Record → List Bool → ℕ → Bool
corrupt_here [] ks t = false
corrupt_here (r ∷ rs) [] t = false
corrupt_here (r ∷ rs) (k ∷ ks) t = k && any_txn (λ u. u == t) (toucher r)

abbrev pub corrupted : List Record → List Bool → ℕ → Bool
corrupted [] ks t = false
corrupted (r ∷ rs) [] t = false
corrupted (r ∷ rs) (k ∷ ks) t = corrupt_here (r ∷ rs) (k ∷ ks) t || corrupted rs ks t

abbrev pub deleted_of : Epoch → List ℕ
deleted_of e = filter (λ t. has_corrupt (marks (damage_of e) e.records) t) (committed e.records)
