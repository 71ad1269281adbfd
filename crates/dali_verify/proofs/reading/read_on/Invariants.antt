use Rattle.std.proofs.Common.{◌≡◌, ◌-◌, ◌<◌, ◌^◌, ◌++◌, List, IfSome}
use Rattle.dali_record.specs.declared.records.Record.{Record}
use Rattle.dali_log.specs.Log.{IsRun, records_in}
use Rattle.dali_log.specs.Reads.{OnlyReads}
use Rattle.dali_core.specs.Vault.Vaulted.{with_store}
use Rattle.dali_verify.proofs.reading.read_on.Given as goal

abbrev pub invariant-batches : goal.invariant-batches
invariant-batches g l = record {
  small : l.at < 2 ^ 62;
  run : IfSome (g.V.Store.told l.fn.vault.store) (λ fs. (L : List (List Record)) × IsRun fs.log l.start L l.at × (l.records.items ≡ l.fn.records.items ++ records_in L));
  same : l.vault ≡ with_store l.fn.vault l.vault.store;
  reads : OnlyReads g.V.Store.told g.V.Store.moment g.V.Store.left_since g.V.Store.may_leave l.fn.vault.store l.vault.store;
  kept : g.V.Store.faults l.vault.store ≡ g.V.Store.faults l.fn.vault.store;
}

abbrev pub decreases-batches : goal.decreases-batches
decreases-batches g l = 2 ^ 62 - l.at
