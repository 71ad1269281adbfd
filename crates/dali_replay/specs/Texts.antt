-- How a log is written in the tests.
--     digits bs              bytes in hexadecimal, two digits each
--     text_of L              a line for each record of the log: its spelling in hexadecimal
use Rattle.std.specs.Prelude.{ℕ, ◌+◌, ◌/◌, ◌%◌, List, [], ◌∷◌, ◌++◌, if◌then◌else◌, flat_map, nat_lt}
use Rattle.dali_record.specs.declared.records.Record.{Record}
use Rattle.dali_record.specs.Spelling.{spelling}

abbrev pub digit : ℕ → ℕ
digit n = if nat_lt n 10 then 48 + n else 87 + n

abbrev pub digits : List ℕ → List ℕ
digits bs = flat_map (λ b. digit (b / 16) ∷ digit (b % 16) ∷ []) bs

abbrev pub text_of : List Record → List ℕ
text_of L = flat_map (λ r. digits (spelling r) ++ 10 ∷ []) L
