use Rattle.std.proofs.Common.{◌≡◌, ◌≤◌, ◌+◌, ℕ, [], Some, length, vec_len, vec_capacity}
use Rattle.std.specs.Prelude.{slice_get}
use Rattle.dali_region.specs.State.{RegionState}
use Rattle.dali_notes.specs.History.{AreFresh}
use Rattle.dali_concurrent.specs.Kept.{RegionTold}
use Rattle.dali_locked.specs.Begun.{Of, homed}
use Rattle.dali_locked.proofs.sharing.share_regions.Given as goal

abbrev pub invariant-loop-region : goal.invariant-loop-region
invariant-loop-region g l = record {
  fresh : AreFresh (homed g.H.Home.table g.B.Beginning.begun).table 0 l.list.items;
  each : length l.list.items ≡ length l.regions.items + 2;
  within : length l.regions.items ≤ length l.fn.regions.items;
  told : (r : ℕ) (h : RegionState) → slice_get l.regions.items r ≡ Some h → Of (homed g.H.Home.table g.B.Beginning.begun) (λ o T. RegionTold o r h T) [];
  room : vec_len l.locks + length l.regions.items ≡ length l.fn.regions.items;
  spare : (vec_capacity l.regions ≡ vec_capacity l.fn.regions) × (vec_capacity l.list ≡ vec_capacity l.fn.list);
  capacity : vec_capacity l.locks ≡ vec_capacity l.fn.locks;
}

abbrev pub decreases-loop-region : goal.decreases-loop-region
decreases-loop-region g l = vec_len l.regions
