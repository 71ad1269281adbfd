use Rattle.std.proofs.Common.{◌≡◌}
use Rattle.dali_script.specs.Lines.{lines_of, lines_left}
use Rattle.dali_script.proofs.LinesLeft.{weight_of}
use Rattle.dali_load.specs.Answers.{first_refusal}
use Rattle.dali_load.proofs.judging.first_refusal.Given as goal

-- no line that was seen refuses a row
abbrev pub invariant-loop-rest : goal.invariant-loop-rest
invariant-loop-rest l = first_refusal (lines_left l.rest) ≡ first_refusal (lines_of l.text)

abbrev pub decreases-loop-rest : goal.decreases-loop-rest
decreases-loop-rest l = weight_of l.rest
