-- What is left of a script.
use Rattle.std.proofs.Common.{◌≡◌, ℕ, ◌+◌, ◌≤◌, ◌==◌, List, length, Option, Some, None, ap, arith}
use Rattle.std.proofs.lemmas.List.Splits.{length-slice_split}
use Rattle.std.proofs.lemmas.List.Sums.{count_by-le-length}
use Rattle.dali_script.specs.Lines.{lines_of, lines_left}
use denote.Ref.{Bor}

abbrev pub weight_of : Option (Bor (List ℕ)) → ℕ
weight_of None = 0
weight_of (Some text) = length text.now + 1

-- a script has at most one line more than bytes
pub next_line_is_counted : (line : ℕ) (rest : Option (Bor (List ℕ))) (text : Bor (List ℕ)) (bytes : List ℕ) → rest ≡ Some text → line + length (lines_left rest) ≡ length (lines_of bytes) → line + 1 ≤ length bytes + 1
next_line_is_counted line rest text bytes is count = omega (arith, count, ap (λ (r : Option (Bor (List ℕ))). length (lines_left r)) is, length-slice_split (λ byte. byte == 10) bytes, length-slice_split (λ byte. byte == 10) text.now, count_by-le-length (λ byte. byte == 10) bytes)
