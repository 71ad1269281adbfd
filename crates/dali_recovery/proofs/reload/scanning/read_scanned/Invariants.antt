use Rattle.std.proofs.Common.{◌≡◌, ◌-◌, ◌^◌, IfSome}
use Rattle.dali_geometry.specs.Sizes.{Sizes}
use Rattle.dali_record.specs.Files.{Files}
use Rattle.dali_store.specs.Calls.{PassesFewer}
use Rattle.dali_log.specs.Reads.{OnlyReads}
use Rattle.dali_recovery.specs.Standing.{IsOrdered}
use Rattle.dali_recovery.specs.Reload.Reading.{IsAtImage}
use Rattle.dali_recovery.proofs.ReloadLemmas.Going.{IsPass}
use Rattle.dali_recovery.proofs.reload.scanning.read_scanned.Given as goal

abbrev pub invariant-records : goal.invariant-records
invariant-records g l = record {
  read : IfSome (g.V.Store.told l.fn.store) (λ fs. (s : Sizes) (F : Files) → IsAtImage fs.log s F l.fn.reader l.fn.recovery → IsPass fs.log s F l.fn.known l.reader l.recovery l.counts);
  ordered : (s : Sizes) → IsOrdered s l.fn.recovery → IsOrdered s l.recovery;
  reads : OnlyReads g.V.Store.told g.V.Store.moment g.V.Store.left_since g.V.Store.may_leave l.fn.store l.store;
  passes : PassesFewer (g.V.Store.lets_pass l.fn.store) (g.V.Store.lets_pass l.store);
  kept : g.V.Store.faults l.store ≡ g.V.Store.faults l.fn.store;
}

abbrev pub decreases-records : goal.decreases-records
decreases-records g l = 2 ^ 62 - l.reader.at
