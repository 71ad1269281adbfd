use Rattle.std.proofs.Common.{ap, ◌∙◌}
use Rattle.std.specs.Prelude.{fold}
use Rattle.dali_history.specs.Recovered.{free_word}
use Rattle.dali_redo.proofs.Writes.{states_of_cells}
use Rattle.dali_redo.proofs.words.free_cells.Goals as goal

pub returns : goal.returns
returns c = c.free_words.ensures ∙ ap (fold free_word c.args.words.now) states_of_cells
