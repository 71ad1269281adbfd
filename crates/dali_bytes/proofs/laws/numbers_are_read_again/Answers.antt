use Rattle.dali_bytes.proofs.Numbers.{number32_again, number64_again, bytes_again}
use Rattle.dali_bytes.proofs.laws.numbers_are_read_again.Goals as goal

pub returns : goal.returns
returns c = record { number32 = number32_again; number64 = number64_again; bytes = bytes_again }
