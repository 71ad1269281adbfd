use Rattle.std.proofs.Common.{◌≡◌, ◌+◌, length}
use Rattle.dali_script.specs.Lines.{lines_of, lines_left}
use Rattle.dali_script.proofs.LinesLeft.{weight_of}
use Rattle.dali_load.specs.Reader.{state_of}
use Rattle.dali_load.specs.Reading.{read_lines, at_start}
use Rattle.dali_load.proofs.reading.read.Given as goal

abbrev pub invariant-loop-rest : goal.invariant-loop-rest
invariant-loop-rest l = record {
  total : read_lines (l.line + 1) (lines_left l.rest) (state_of l.reader) ≡ read_lines 1 (lines_of l.bytes) at_start;
  count : l.line + length (lines_left l.rest) ≡ length (lines_of l.bytes);
}

abbrev pub decreases-loop-rest : goal.decreases-loop-rest
decreases-loop-rest l = weight_of l.rest
