use Rattle.std.proofs.Common.{◌≡◌, ◌-◌, ◌^◌, IfSome}
use Rattle.dali_store.specs.Calls.{PassesFewer}
use Rattle.dali_log.specs.Reads.{OnlyReads}
use Rattle.dali_log.specs.Stream.{IsWhole, IsReadTo}
use Rattle.dali_log.proofs.reading.read_log.Given as goal

abbrev pub invariant-records : goal.invariant-records
invariant-records g l = record {
  whole : IsWhole l.reader;
  read : IfSome (g.V.Store.told l.fn.store) (λ fs. IsReadTo fs.log l.reader l.records.items);
  reads : OnlyReads g.V.Store.told g.V.Store.moment g.V.Store.left_since g.V.Store.may_leave l.fn.store l.store;
  passes : PassesFewer (g.V.Store.lets_pass l.fn.store) (g.V.Store.lets_pass l.store);
  kept : g.V.Store.faults l.store ≡ g.V.Store.faults l.fn.store;
}

abbrev pub decreases-records : goal.decreases-records
decreases-records g l = 2 ^ 62 - l.reader.at
