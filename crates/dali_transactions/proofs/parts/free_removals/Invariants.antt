use Rattle.std.proofs.Common.{◌≡◌, ◌<◌, ℕ, Some, None, slice_get, length}
use Rattle.dali_geometry.specs.Places.{regions}
use Rattle.dali_record.specs.declared.operations.Pending.{Pending}
use Rattle.dali_runs.specs.State.{hold_in}
use Rattle.dali_calls.specs.Flags.{FlagsStay}
use Rattle.dali_transactions.specs.Left.{HoldsStay, Cleared}
use Rattle.dali_transactions.proofs.parts.free_removals.Given as goal

abbrev pub invariant-loop-removal : goal.invariant-loop-removal
invariant-loop-removal l = record {
  cleared : Cleared l.txn l.initial.regions l.initial.system l.regions l.system;
  whole : length l.regions ≡ regions l.system.state.sizes;
  flags : FlagsStay l.initial.regions l.regions;
  holds : HoldsStay l.removals l.initial.regions l.regions;
  unheld : (i : ℕ) (u : Pending) → i < l.removal-index → slice_get l.removals i ≡ Some u → hold_in (slice_get l.regions u.region) ≡ None;
}
