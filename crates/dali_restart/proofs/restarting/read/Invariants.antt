use Rattle.std.proofs.Common.{◌≡◌, ◌-◌, ◌^◌, IfSome}
use Rattle.dali_store.specs.Calls.{PassesFewer}
use Rattle.dali_log.specs.Reads.{OnlyReads}
use Rattle.dali_restart.specs.Deciding.{AreKnown}
use Rattle.dali_restart.proofs.restarting.read.Given as goal

abbrev pub invariant-passes : goal.invariant-passes
invariant-passes g l = record {
  known : IfSome (g.V.Store.told l.fn.store) (λ fs. AreKnown fs l.known.items l.last);
  reads : OnlyReads g.V.Store.told g.V.Store.moment g.V.Store.left_since g.V.Store.may_leave l.fn.store l.store;
  passes : PassesFewer (g.V.Store.lets_pass l.fn.store) (g.V.Store.lets_pass l.store);
  kept : g.V.Store.faults l.store ≡ g.V.Store.faults l.fn.store;
}

abbrev pub decreases-passes : goal.decreases-passes
decreases-passes g l = 2 ^ 64 - l.last
