use Rattle.dali_crash.proofs.DisksLemmas.Once.{spells_one}
use Rattle.dali_crash.proofs.disks.laws.a_disk_has_one_reading.Goals as goal

pub returns : goal.returns
returns c = spells_one
