use Rattle.std.proofs.Common.{◌≡◌, ◌-◌}
use Rattle.std.specs.List.{slice_get}
use Rattle.dali_script.specs.Lines.{lines_of, lines_left}
use Rattle.dali_script.proofs.LinesLeft.{weight_of}
use Rattle.dali_script.proofs.reasons.line_at.Given as goal

abbrev pub invariant-loop-rest : goal.invariant-loop-rest
invariant-loop-rest l = slice_get (lines_left l.rest) (l.left - 1) ≡ slice_get (lines_of l.script) (l.line - 1)

abbrev pub decreases-loop-rest : goal.decreases-loop-rest
decreases-loop-rest l = weight_of l.rest
