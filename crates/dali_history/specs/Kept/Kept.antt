-- The law of kept records: records of one epoch, some of whose transactions may be cut, on a base that keeps the index's invariant.
--     kept_state s t K         where t stands after K, where solos may be missing
--     KeepsCalls s K           each transaction's records in K are the beginning of those of one that keeps the rules
--     IsLockLegalBut cuts K    a conflict has its Ended between, or the first owner was cut, left no undo on the item, and stands before the second block
--     AreKept s base cuts K    what the law asks
--     Stands s base K order    what it gives, where the transactions without Commit are taken back in this order
--     LawOfKeptRecords         so it is for any order
use Rattle.std.specs.Prelude.{◌≡◌, ℕ, ◌<◌, true, false, not, ◌⊎◌, List, [], ◌∷◌, if◌then◌else◌, ◌==◌, Option, Some, None, IsSome, fold, filter, map, IsPermutation}
use Rattle.dali_geometry.specs.Sizes.{Sizes}
use Rattle.dali_access.specs.Index.Invariant.{IsImage, IsIndexed, IsTidy}
use Rattle.dali_record.specs.declared.operations.Pending.{Pending}
use Rattle.dali_record.specs.declared.operations.Block.{Block}
use Rattle.dali_record.specs.declared.records.Record.{Record}
use Rattle.dali_record.specs.declared.records.Record.TheVariants.{Ended, Solo}
use Rattle.dali_record.specs.Log.{Touch, touch_at, undos_of, begun, committed}
use Rattle.dali_record.specs.Locks.{conflicts, EndedBetween}
use Rattle.dali_record.specs.Damage.{has}
use Rattle.dali_record.specs.Settled.{redo_all, AreSound}
use Rattle.dali_record.specs.Legal.{TxnState, Unbegun, Over, Committed, txn_step, is_of, freeing_op, on_kind, allowed}
use Rattle.dali_history.specs.Serial.{Map, serial}
use Rattle.dali_history.specs.Images.{map_of, HasRecords}
use Rattle.dali_history.specs.Blocks.{HasValues}
use Rattle.dali_history.specs.Undos.{undos_in, undone, FindsAll}
use Rattle.dali_history.specs.Recovered.{freed}

-- ---- the records
-- a solo frees one of these, and those before it have none
abbrev pub freed_later : Block → List Pending → Option TxnState
freed_later b [] = None
freed_later b (p ∷ ps) = let later = freed_later b ps in if is_of (freeing_op p.undo) p b then Some (Committed ps) else later

abbrev pub kept_step : Sizes → ℕ → TxnState → Record → Option TxnState
kept_step s t (Committed ps) (Ended u) = if u == t then Some Over else Some (Committed ps)
kept_step s t (Committed ps) (Solo u p b) = allowed (not (u == t)) (if p == t then freed_later b ps else Some (Committed ps))
kept_step s t x r = txn_step s t x r

abbrev pub kept_next : Sizes → ℕ → Option TxnState → Record → Option TxnState
kept_next s t None r = None
kept_next s t (Some x) r = kept_step s t x r

abbrev pub kept_state : Sizes → ℕ → List Record → Option TxnState
kept_state s t K = fold (kept_next s t) (Some Unbegun) K

pub record KeepsCalls (s : Sizes) (K : List Record) : Type 0 where
  pub txns : (t : ℕ) → IsSome (kept_state s t K)
  pub kinds : (i : ℕ) (a : Touch) → touch_at K i ≡ Some a → on_kind s a.block.region a.block.op ≡ true

abbrev pub IsRecordOf : ℕ → List Record → ℕ → Type 0
IsRecordOf t K k = (a : Touch) × (touch_at K k ≡ Some a) × (a.txn ≡ t)

abbrev pub IsCutBefore : List ℕ → List Record → ℕ → ℕ → ℕ → Type 0
IsCutBefore cuts K t key j = (has cuts t ≡ true) × (has (map (λ u. u.key) (undos_of t K)) key ≡ false) × ((k : ℕ) → IsRecordOf t K k → k < j)

abbrev pub IsLockLegalBut : List ℕ → List Record → Type 0
IsLockLegalBut cuts K =
    (i j : ℕ) (a b : Touch) → i < j → touch_at K i ≡ Some a → touch_at K j ≡ Some b → conflicts a b ≡ true
    → EndedBetween a.owner i j K ⊎ IsCutBefore cuts K a.owner a.block.key j

-- the transactions without a Commit
abbrev pub uncommitted : List Record → List ℕ
uncommitted K = filter (λ t. not (has (committed K) t)) (begun K)

-- ---- the law
pub record AreKept (s : Sizes) (base : List (List ℕ)) (cuts : List ℕ) (K : List Record) : Type 0 where
  pub image : IsImage s base
  pub indexed : IsIndexed s base
  pub tidy : IsTidy s base
  pub values : HasValues K
  pub uncut : (t : ℕ) → has cuts t ≡ true → has (committed K) t ≡ false
  pub calls : KeepsCalls s K
  pub sound : AreSound base K
  pub locks : IsLockLegalBut cuts K

pub record Stands (s : Sizes) (base : List (List ℕ)) (K : List Record) (order : List ℕ) : Type 0 where
  pub found : FindsAll (redo_all base K) (undos_in order K)
  pub same : freed s (undone (redo_all base K) (undos_in order K)) ≡ freed s (undone (redo_all base K) (undos_in (uncommitted K) K))
  pub image : IsImage s (freed s (undone (redo_all base K) (undos_in order K)))
  pub indexed : IsIndexed s (freed s (undone (redo_all base K) (undos_in order K)))
  pub tidy : IsTidy s (freed s (undone (redo_all base K) (undos_in order K)))
  pub replayed : (m : Map) × (serial (map_of s base) (committed K) K ≡ Some m) × HasRecords s (freed s (undone (redo_all base K) (undos_in order K))) m

abbrev pub LawOfKeptRecords : Type 0
LawOfKeptRecords =
    (s : Sizes) (base : List (List ℕ)) (cuts : List ℕ) (K : List Record) (order : List ℕ)
    → AreKept s base cuts K → IsPermutation order (uncommitted K) → Stands s base K order
