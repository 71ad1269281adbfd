use Rattle.dali_crash.proofs.DisksLemmas.NewFiles.{header_begins, copy_continues, skip_continues, quiet_continues, table_ends}
use Rattle.dali_crash.proofs.disks.laws.a_checkpoint_writes_a_new_file_in_order.Goals as goal

pub returns : goal.returns
returns c = record { header = header_begins; copy = copy_continues; skip = skip_continues; quiet = quiet_continues; table = table_ends }
