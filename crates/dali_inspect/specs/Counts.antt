-- How much of the regions is in use.
--     one b                    1 where it is so
--     sum_below f n            the sum of f at the numbers below n
--     live_cells, live_entries ws          the live cells and the live entries of a region with these words
--     cells_in_use, entries_in_use s image     those of all regions of their kind
use Rattle.std.specs.Prelude.{ℕ, zero, suc, ◌+◌, Bool, List, if◌then◌else◌, ◌==◌}
use Rattle.dali_geometry.specs.Sizes.{Sizes}
use Rattle.dali_access.specs.Heap.Cells as cell
use Rattle.dali_access.specs.Index.Entries as entry
use Rattle.dali_access.specs.Index.Records.{words_of}

abbrev pub one : Bool → ℕ
one b = if b then 1 else 0

-- not an abbrev: a sum up to a numeral would unfold as often in each goal
unfoldable pub sum_below : (ℕ → ℕ) → ℕ → ℕ
sum_below f zero = 0
sum_below f (suc n) = sum_below f n + f n

-- a region has the cells 1 to 7
abbrev pub live_cell : List ℕ → ℕ → ℕ
live_cell ws n = one (cell.state_of ws (n + 1) == 1)

abbrev pub live_entry : List ℕ → ℕ → ℕ
live_entry ws e = one (entry.state_of ws e == 1)

abbrev pub live_cells : List ℕ → ℕ
live_cells ws = sum_below (live_cell ws) 7

abbrev pub live_entries : List ℕ → ℕ
live_entries ws = sum_below (live_entry ws) 21

-- the heap regions stand behind the index regions
abbrev pub cells_in_use : Sizes → List (List ℕ) → ℕ
cells_in_use s image = sum_below (λ n. live_cells (words_of image (s.index + n))) s.heap

abbrev pub entries_in_use : Sizes → List (List ℕ) → ℕ
entries_in_use s image = sum_below (λ r. live_entries (words_of image r)) s.index
