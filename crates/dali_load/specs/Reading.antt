-- What reading lines comes to.
--     State                     the rows so far, and whether they have ended
--     says words s              what a line says there
--     read_line n line s        the state behind the line with the number n
--     outcome bytes             the rows that bytes spell, or the first line that is wrong, with its fault
use Rattle.std.specs.Prelude.{ℕ, ◌+◌, Bool, true, false, List, [], ◌∷◌, ◌++◌, Option, Some, None, Result, Ok, Err, if◌then◌else◌}
use Rattle.dali_listing.specs.declared.Listed.{Listed}
use Rattle.dali_script.specs.Faults.{◌>>=◌}
use Rattle.dali_script.specs.Lines.{lines_of, command_in}
use Rattle.dali_script.specs.Reading.{Fault, in_line}
use Rattle.dali_script.specs.declared.faults.Kind.{Kind}
use Rattle.dali_script.specs.declared.faults.Kind.TheVariants as kind
use Rattle.dali_load.specs.Rows.{Line, verdict}

pub record State : Type 0 where
  pub rows : List Listed
  pub ended : Bool

abbrev pub at_start : State
at_start = record { rows = []; ended = false }

abbrev pub says : List (List ℕ) → State → Result (Option Listed) Kind
says words s = if s.ended then Err kind.Place else verdict s.rows words

abbrev pub told : Option Listed → State → State
told (Some row) s = record s { rows = s.rows ++ row ∷ [] }
told None s = record s { ended = true }

abbrev pub read_words : Option Line → State → Result State Fault
read_words None s = Ok s
read_words (Some line) s = in_line line.0 (says line.1 s) >>= λ said. Ok (told said s)

abbrev pub read_line : ℕ → List ℕ → State → Result State Fault
read_line n line s = read_words (command_in n line) s

abbrev pub read_lines : ℕ → List (List ℕ) → State → Result State Fault
read_lines n [] s = Ok s
read_lines n (line ∷ lines) s = read_line n line s >>= λ t. read_lines (n + 1) lines t

abbrev pub outcome : List ℕ → Result (List Listed) Fault
outcome bytes = read_lines 1 (lines_of bytes) at_start >>= λ s. Ok s.rows
