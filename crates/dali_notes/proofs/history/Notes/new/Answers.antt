use Rattle.dali_notes.proofs.Moves.{begins}
use Rattle.dali_notes.proofs.history.Notes.new.Goals as goal

pub of_words-requires : goal.of_words-requires
of_words-requires g c = begins c.from.result
