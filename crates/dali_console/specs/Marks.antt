-- How much of a whole a part is.
--     percent_of part whole    in percent, rounded down, where there is a whole
use Rattle.std.specs.Prelude.{ℕ, ◌*◌, ◌/◌, ◌==◌, Option, Some, None, if◌then◌else◌}

abbrev pub percent_of : ℕ → ℕ → Option ℕ
percent_of part whole = if whole == 0 then None else Some ((100 * part) / whole)
