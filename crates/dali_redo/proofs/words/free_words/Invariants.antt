use Rattle.std.proofs.Common.{◌≡◌, take}
use Rattle.std.specs.Prelude.{fold}
use Rattle.dali_history.specs.Recovered.{free_word}
use Rattle.dali_redo.proofs.words.free_words.Given as goal

abbrev pub invariant-loop-place : goal.invariant-loop-place
invariant-loop-place l = l.words ≡ fold free_word l.initial.words (take l.place-index l.places)
