use Rattle.dali_bytes.proofs.Numbers.{number32_taken, number64_taken, bytes_taken}
use Rattle.dali_bytes.proofs.laws.numbers_are_written_so.Goals as goal

pub returns : goal.returns
returns c = record { number32 = number32_taken; number64 = number64_taken; bytes = bytes_taken }
