use Rattle.std.proofs.Common.{◌≡◌, ◌≤◌, ◌*◌, min, length, flat_map, vec_capacity, take}
use Rattle.dali_record.specs.Spelling.{words_bytes}
use Rattle.dali_store.specs.Calls.{fewer}
use Rattle.dali_store.specs.Store.{HoldsIn}
use Rattle.dali_restart.specs.Renewal.Written.{WritesOnly}
use Rattle.dali_restart.proofs.renewal.imaging.write_regions.Given as goal

abbrev pub invariant-loop-number : goal.invariant-loop-number
invariant-loop-number g l = record {
  written : HoldsIn l.file 64 (flat_map words_bytes (take (128 * l.number) l.regions)) (g.V.Store.told l.initial.store) (g.V.Store.told l.store);
  only : WritesOnly g.V.Store.told g.V.Store.may_leave g.V.Store.moment g.V.Store.left_since l.file l.initial.store l.store;
  faults : g.V.Store.faults l.store ≡ g.V.Store.faults l.initial.store;
  calls : g.V.Store.lets_pass l.store ≡ fewer l.number (g.V.Store.lets_pass l.initial.store);
  room : 512 * min 128 (length l.regions) ≤ vec_capacity l.buffer;
  within : l.number ≤ l.count;
}
