-- What an end asks of regions and system, whoever made them.
--     is_covered y t u         the undo u of t is on a region of its kind, and t has its key alone
--     is_releasable o            a hold is of a client that died, if there is one
--     is_releasable_on gs u      so is that on the region of the undo u
--     MayFreeOn gs y t u       t is committed, the regions are those of the system's sizes, the removal u may be freed, and no client that is alive has
--                              latched its region
--     MayEnd gs y t            t is live, the regions are those of the system's sizes, its undos may be performed, and no client that is alive has latched
--                              the region of one
--     MayFlush v               the end of the vault's log leaves room for its next frame
--     UpMayEnd                 wherever a core stands in a run, each live transaction may be ended, no region is latched for a client that is alive, and
--                              the vault may flush
--     UpMayFree                there each removal that the rules of the log leave to a committed transaction may be freed
use Rattle.std.specs.Prelude.{◌≡◌, ◌&&◌, ◌<◌, ◌^◌, ℕ, Bool, true, List, Option, Some, slice_get, length}
use Rattle.std.specs.List.{AllByRecursion, list_all}
use Rattle.std.specs.Option.{option_map_or}
use Rattle.dali_geometry.specs.Places.{regions}
use Rattle.dali_record.specs.declared.operations.Pending.{Pending}
use Rattle.dali_record.specs.declared.records.Record.{Record}
use Rattle.dali_region.specs.declared.Hold.{Hold}
use Rattle.dali_region.specs.State.{RegionState}
use Rattle.dali_att.specs.Table.{undos_at}
use Rattle.dali_att.specs.declared.state.State.TheVariants.{Live, Committed}
use Rattle.dali_store.specs.Store.{Files as Disk}
use Rattle.dali_store.specs.declared.store.Store.{Ghosts}
use Rattle.dali_runs.specs.State.{SystemState, state_of, lock_of, hold_in}
use Rattle.dali_runs.specs.Run.{covers}
use Rattle.dali_runs.specs.Wholes.{is_of_kind}
use Rattle.dali_crash.specs.Checkpoints.{Point}
use Rattle.dali_crash.specs.Traces.{Start}
use Rattle.dali_core.specs.Vault.Vaulted.{Vaulted}
use Rattle.dali_runs.specs.Facts.Ends.{IsEnding}
use Rattle.dali_calls.specs.Single.Single.{AreCovered}
use Rattle.dali_calls.specs.Single.Settling.{MayFree}
use Rattle.dali_clean.specs.Cleaned.{AreDead}
use Rattle.dali_transactions.specs.Stands.{StandsAt, IsUp}

abbrev pub is_covered : SystemState → ℕ → Pending → Bool
is_covered y t u = is_of_kind y.sizes u && covers (lock_of y t u.key) true

abbrev pub is_releasable : Option Hold → Bool
is_releasable o = option_map_or (λ (h : Hold). h.dead) o true

abbrev pub is_releasable_on : List RegionState → Pending → Bool
is_releasable_on gs u = is_releasable (hold_in (slice_get gs u.region))

pub record MayEnd (gs : List RegionState) (y : SystemState) (t : ℕ) : Type 0 where
  pub whole : length gs ≡ regions y.sizes
  pub lives : state_of y t ≡ Some Live
  pub covered : AreCovered y t
  pub releasable : list_all (is_releasable_on gs) (undos_at y.table t) ≡ true

pub record MayFreeOn (gs : List RegionState) (y : SystemState) (t : ℕ) (u : Pending) : Type 0 where
  pub whole : length gs ≡ regions y.sizes
  pub committed : state_of y t ≡ Some Committed
  pub may : MayFree y t u
  pub releasable : is_releasable_on gs u ≡ true

abbrev pub MayFlush : {V : Type 0} → Vaulted V → Type 0
MayFlush v = v.end < 2 ^ 62

module _ {V : Type 0} (means : Ghosts V) where
  abbrev pub UpMayEnd : Type 0
  UpMayEnd =
      (gs : List RegionState) (y : SystemState) (v : Vaulted V) → IsUp means gs y v
      → ((t : ℕ) → state_of y t ≡ Some Live → MayEnd gs y t) × AreDead gs × MayFlush v

  abbrev pub UpMayFree : Type 0
  UpMayFree =
      (s : Start) (B : List (List Record)) (p : Point) (gs : List RegionState) (y : SystemState) (v : Vaulted V) → StandsAt means s B p gs y v
      → (t : ℕ) (us : List Pending) → IsEnding y.sizes p.log t us → AllByRecursion (MayFreeOn gs y t) us
