use Rattle.dali_crash.proofs.DisksLemmas.NewFiles.{start_reads, header_reads, copy_reads, table_reads, quiet_reads, has_places}
use Rattle.dali_crash.proofs.disks.laws.what_was_written_since_the_load_is_read.Goals as goal

pub returns : goal.returns
returns c = record { start = start_reads; header = header_reads; copy = copy_reads; table = table_reads; quiet = quiet_reads; places = has_places }
