use Rattle.dali_words.proofs.Writes.{write_twice}
use Rattle.dali_words.proofs.laws.writing_twice_is_writing_once.Goals as goal

pub returns : goal.returns
returns c = write_twice
