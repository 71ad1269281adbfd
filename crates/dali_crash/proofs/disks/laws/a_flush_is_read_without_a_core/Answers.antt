use Rattle.dali_crash.proofs.DisksLemmas.Bridges.{flush_spells, fault_spells}
use Rattle.dali_crash.proofs.disks.laws.a_flush_is_read_without_a_core.Goals as goal

pub returns-clause-flush : goal.returns-clause-flush
returns-clause-flush g c v = flush_spells (g.V.Store.may_leave v)

pub returns-clause-fault : goal.returns-clause-fault
returns-clause-fault g c v = fault_spells (g.V.Store.may_leave v)
