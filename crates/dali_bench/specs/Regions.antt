-- The regions that are updated.
--     worked t i g              a region after an operation of transaction t that has read word i and set it to t
use Rattle.std.specs.Prelude.{ℕ, ◌^◌}
use Rattle.dali_region.specs.State.{RegionState, latched, with_reads, updated, touched}

abbrev pub worked : ℕ → ℕ → RegionState → RegionState
worked txn word g = touched (updated word txn (with_reads (2 ^ word) (latched txn g)))
