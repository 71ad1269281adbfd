use Rattle.std.proofs.Common.{◌≡◌, take}
use Rattle.dali_calls.specs.Flags.{FlagsStay}
use Rattle.dali_run.specs.Steps.{CleansAll}
use Rattle.dali_run.proofs.cleaning.clean_all.Given as goal

abbrev pub invariant-loop-txn : goal.invariant-loop-txn
invariant-loop-txn g l = record {
  cleans : CleansAll g.V.Store (take l.txn-index l.dead) l.fn.core l.core;
  vault : l.core.vault ≡ l.fn.core.vault;
  flags : FlagsStay l.fn.core.regions.items l.core.regions.items;
}
