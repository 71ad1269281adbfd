use Rattle.dali_calls.specs.Plans.{is_back}
use Rattle.dali_locked.specs.Regions.{logged_item, freed_item}
use Rattle.dali_locked.proofs.region.LockedRegion.commit.Given as goal

abbrev pub ghosts-log : goal.ghosts-log
ghosts-log g a = record { item = logged_item a.id (is_back a.plan.now) a.plan.now.txn a.plan.now.operation a.system.now.state }

abbrev pub ghosts-tell_both : goal.ghosts-tell_both
ghosts-tell_both g a = record { item = freed_item a.id a.about.now }
