use Rattle.std.proofs.Common.{◌≡◌, ◌+◌, drop, length}
use Rattle.dali_calls.specs.Flags.{FlagsStay}
use Rattle.dali_calls.specs.Others.{PromisesStay}
use Rattle.dali_calls.specs.Single.Settling.{AreFreed, IsPromised, settle_room}
use Rattle.dali_calls.proofs.single.settling.free_all.Given as goal

abbrev pub invariant-loop-removal : goal.invariant-loop-removal
invariant-loop-removal l = record {
  goes : AreFreed l.initial.regions l.initial.system.state l.txn l.removals (drop l.removal-index l.removals) l.regions l.system.state;
  next : l.system.state.next ≡ l.initial.system.state.next + l.removal-index;
  promised : IsPromised l.initial.system l.txn (settle_room (length l.removals)) → IsPromised l.system l.txn (settle_room (length (drop l.removal-index l.removals)));
  promises : PromisesStay l.initial.system l.txn l.system;
  flags : FlagsStay l.initial.regions l.regions;
}
