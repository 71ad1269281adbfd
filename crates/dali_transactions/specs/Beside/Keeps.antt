-- A core between the calls of its clients stays so behind each of these.
--     BeginKeeps, PerformKeeps, DieKeeps, CleanKeeps       a begin, a whole call that is answered, a death in an operation, a clean-up
--     EndKeeps, CommitKeeps, FailureKeeps      an abort, a commit, and a commit that the store failed
use Rattle.std.specs.Prelude.{◌≡◌, ℕ, Bool, List, [], ◌∷◌, Option, Some}
use Rattle.dali_record.specs.declared.records.Answer.{Answer}
use Rattle.dali_record.specs.declared.records.Call.{Call}
use Rattle.dali_record.specs.declared.records.Record.{Record}
use Rattle.dali_record.specs.declared.records.Record.TheVariants.{Begin, Ended}
use Rattle.dali_region.specs.State.{RegionState}
use Rattle.dali_att.specs.declared.state.State.TheVariants.{Live}
use Rattle.dali_store.specs.Store.{Files as Disk}
use Rattle.dali_store.specs.declared.store.Store.{Ghosts}
use Rattle.dali_runs.specs.State.{SystemState, VaultState, state_of}
use Rattle.dali_runs.specs.Steps.{begun}
use Rattle.dali_runs.specs.Keeps.{HasRoom}
use Rattle.dali_core.specs.Vault.Vaulted.{Vaulted}
use Rattle.dali_calls.specs.Plans.{Planned}
use Rattle.dali_calls.specs.Others.{IsGone}
use Rattle.dali_calls.specs.Single.Stands.{core}
use Rattle.dali_calls.specs.Single.Single.{MayCall, IsAnswered, OthersStay as RowsStay}
use Rattle.dali_calls.specs.Single.Ending.{IsBackOf}
use Rattle.dali_clean.specs.Cleaned.{AreDead, IsDead, Ends}
use Rattle.dali_clean.specs.Others.{OthersStay}
use Rattle.dali_calls.specs.Stepwise.Stepwise.{IsDeath}
use Rattle.dali_transactions.specs.Ended.{Comes}
use Rattle.dali_transactions.specs.Committed.{CommitGoes, CommitFails}
use Rattle.dali_transactions.specs.Beside.Went.{AreBetween}

module _ {V : Type 0} (means : Ghosts V) where
  abbrev pub BeginKeeps : Type 0
  BeginKeeps =
      (gs : List RegionState) (y : SystemState) (v : Vaulted V) → AreBetween means gs y v → HasRoom y (Begin y.next)
      → AreBetween means gs (begun y) v

  abbrev pub PerformKeeps : Type 0
  PerformKeeps =
      (precheck : Bool) (gs hs : List RegionState) (y z : SystemState) (v : Vaulted V) (t : ℕ) (call : Call) (a : Answer) → AreBetween means gs y v → state_of y t ≡ Some Live
      → ((L : List Record) (u : VaultState) → MayCall L (core gs y u) t → IsAnswered precheck L (core gs y u) t call a (core hs z u)) → RowsStay y t z
      → AreBetween means hs z v

  abbrev pub DieKeeps : Type 0
  DieKeeps =
      (precheck : Bool) (gs hs : List RegionState) (y z : SystemState) (v : Vaulted V) (plan : Planned) → AreBetween means gs y v → state_of y plan.txn ≡ Some Live
      → IsDeath precheck plan gs y hs z → RowsStay y plan.txn z
      → AreBetween means hs z v

  abbrev pub CleanKeeps : Type 0
  CleanKeeps =
      (gs hs : List RegionState) (y z : SystemState) (v : Vaulted V) (t : ℕ) → AreBetween means gs y v
      → AreDead hs → Ends gs y t hs z → OthersStay gs y t hs z → IsDead (state_of y t) → IsGone z t
      → AreBetween means hs z v

  abbrev pub EndKeeps : Type 0
  EndKeeps =
      (gs hs : List RegionState) (y z : SystemState) (v : Vaulted V) (t : ℕ) → AreBetween means gs y v
      → Comes means t (IsBackOf t) (Ended t ∷ []) gs y v hs z → OthersStay gs y t hs z → IsGone z t
      → AreBetween means hs z v

  abbrev pub CommitKeeps : Type 0
  CommitKeeps =
      (gs hs : List RegionState) (y z : SystemState) (v w : Vaulted V) (t : ℕ) → AreBetween means gs y v → state_of y t ≡ Some Live
      → CommitGoes means gs y v t hs z w → OthersStay gs y t hs z → IsGone z t
      → AreBetween means hs z w

  abbrev pub FailureKeeps : Type 0
  FailureKeeps =
      (gs : List RegionState) (y z : SystemState) (v w : Vaulted V) (t : ℕ) → AreBetween means gs y v → state_of y t ≡ Some Live
      → CommitFails means gs y v t z w → OthersStay gs y t gs z
      → AreBetween means gs z w
