use Rattle.std.proofs.Common.{◌≡◌, map, take}
use Rattle.dali_report.specs.Lines.{texts}
use Rattle.dali_run.specs.Texts.{shown}
use Rattle.dali_run.proofs.texts.text_of_records.Given as goal

abbrev pub invariant-loop-row : goal.invariant-loop-row
invariant-loop-row l = l.text.items ≡ texts (map shown (take l.row-index l.rows))
