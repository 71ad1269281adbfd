use Rattle.std.proofs.Common.{◌≡◌, ℕ, false, Some, None, [], length}
use Rattle.std.specs.List.{list_any}
use Rattle.dali_geometry.specs.Places.{regions}
use Rattle.dali_att.specs.Table.{undos_at}
use Rattle.dali_att.specs.declared.state.State.TheVariants.{Live}
use Rattle.dali_runs.specs.State.{state_of}
use Rattle.dali_calls.specs.Flags.{FlagsStay}
use Rattle.dali_calls.specs.Single.Single.{AreCovered}
use Rattle.dali_calls.specs.Single.Ending.{IsBackOf}
use Rattle.dali_transactions.specs.Left.{held, is_on, HoldsStay, IsRunning, Left}
use Rattle.dali_transactions.proofs.parts.take_back.Given as goal

abbrev pub invariant-loop-cause : goal.invariant-loop-cause
invariant-loop-cause l = record {
  left : Left (IsBackOf l.txn) [] l.txn l.initial.regions l.initial.system l.regions l.system;
  whole : length l.regions ≡ regions l.system.state.sizes;
  lives : state_of l.system.state l.txn ≡ Some Live;
  covered : AreCovered l.system.state l.txn;
  runs : l.system.state.stop ≡ None;
  flags : FlagsStay l.initial.regions l.regions;
  holds : IsRunning l.initial.regions l.initial.system.state → HoldsStay (undos_at l.initial.system.state.table l.txn) l.initial.regions l.regions;
  fewer : IsRunning l.initial.regions l.initial.system.state
      → (r : ℕ) → list_any (is_on r) (undos_at l.initial.system.state.table l.txn) ≡ false → list_any (is_on r) (undos_at l.system.state.table l.txn) ≡ false;
}

abbrev pub decreases-loop-cause : goal.decreases-loop-cause
decreases-loop-cause l = held l.regions
