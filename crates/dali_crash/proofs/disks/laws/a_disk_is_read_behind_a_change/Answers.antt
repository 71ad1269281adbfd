use Rattle.dali_crash.proofs.DisksLemmas.Changes.{spells_beside, spells_longer, spells_turned}
use Rattle.dali_crash.proofs.DisksLemmas.Bridges.{spells_grown}
use Rattle.dali_crash.proofs.disks.laws.a_disk_is_read_behind_a_change.Goals as goal

pub returns-clause-other : goal.returns-clause-other
returns-clause-other c = spells_beside

pub returns-clause-log : goal.returns-clause-log
returns-clause-log c = spells_longer

pub returns-clause-grown : goal.returns-clause-grown
returns-clause-grown c = spells_grown

pub returns-clause-anchor : goal.returns-clause-anchor
returns-clause-anchor c = spells_turned
