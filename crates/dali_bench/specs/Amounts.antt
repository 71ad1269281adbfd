-- What a timing says.
--     rate_of count nanoseconds         how many a second, where no time counts as a nanosecond
--     text_of timing                    the line that it prints
use Rattle.std.specs.Prelude.{ℕ, ◌*◌, ◌/◌, max, List, ◌++◌, codes, decimal}
use Rattle.std.specs.Duration.{as_nanos}
use Rattle.dali_bench.specs.declared.timing.Timing.{Timing}

abbrev pub rate_of : ℕ → ℕ → ℕ
rate_of count nanoseconds = count * 1_000_000_000 / max nanoseconds 1

abbrev pub text_of : Timing → List ℕ
text_of timing = decimal (rate_of timing.count (as_nanos timing.elapsed)) ++ codes " " ++ timing.unit.now ++ codes " a second, check " ++ decimal timing.check
