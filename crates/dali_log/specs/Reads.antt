-- A call that only reads.
--     OnlyReads told moment left_since may old new     reads give what they gave, and a crash during the call or after it leaves what it might have left before
--     ReadsOrFails told moment left_since may faults lets_pass failed old new     it only reads, and is told as failed by the store exactly where the count of faults rose
use Rattle.std.specs.Prelude.{◌≡◌, ◌≤◌, ℕ, Option}
use Rattle.dali_store.specs.Calls.{PassesFewer}
use Rattle.dali_store.specs.Faults.{Rose}
use Rattle.dali_store.specs.Store.{Files, LeavesOnly}
use Rattle.dali_store.specs.declared.store.Store.{Ghosts}

pub record OnlyReads {V : Type 0} (told : V → Option Files) (moment : V → ℕ) (left_since : V → ℕ → Files → Type 0) (may_leave : V → Files → Type 0) (old new : V) : Type 0 where
  pub same : told new ≡ told old
  pub crash : (c : Files) → may_leave new c → may_leave old c
  pub any_moment : LeavesOnly moment left_since old new (may_leave old)

pub record ReadsOrFails {V : Type 0} (means : Ghosts V) (failed : Type 0) (old new : V) : Type 0 where
  pub reads : OnlyReads means.told means.moment means.left_since means.may_leave old new
  pub later : means.faults old ≤ means.faults new
  pub fault : failed → Rose (means.faults old) (means.faults new)
  pub kept : (failed → ⊥) → means.faults new ≡ means.faults old
  pub passes : PassesFewer (means.lets_pass old) (means.lets_pass new)
