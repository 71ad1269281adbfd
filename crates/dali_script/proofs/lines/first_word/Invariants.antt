use Rattle.std.proofs.Common.{◌≡◌, ◌≤◌, length}
use Rattle.dali_script.specs.Lines.{words_of}
use Rattle.dali_script.proofs.lines.first_word.Given as goal

abbrev pub invariant-loop-end : goal.invariant-loop-end
invariant-loop-end l = record {
  words : words_of l.text ≡ words_of l.line;
  short : length l.text ≤ length l.line;
}

abbrev pub decreases-loop-end : goal.decreases-loop-end
decreases-loop-end l = length l.text
