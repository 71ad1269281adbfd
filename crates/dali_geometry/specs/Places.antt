-- Where a region, a cell and a key stand.
--     regions s                  how many regions there are: first the index regions, then the heap regions
--     is_index s r, is_heap s r  whether r is an index region, a heap region
--     home s k                   the index region at which the walk of key k begins
--     next_index s r             the index region after r, in a circle
--     heap_start s t             the heap region at which transaction t begins to look for room
--     next_heap s r              the heap region after r, in a circle
--     place r c                  the place of cell c of region r
--     region_at p, cell_at p     the region and the cell that a place names
--     is_place s p               whether p names a cell of a heap region
--     cell_of s p                that region and cell, where it does
--     formatted s r, formatted_image s      the words of a region, and of all regions, before anything is stored
use Rattle.std.specs.Prelude.{ℕ, ◌+◌, ◌*◌, ◌/◌, ◌%◌, Bool, ◌&&◌, List, ◌∷◌, ◌++◌, if◌then◌else◌, nat_lt, nat_le, ◌==◌, replicate, Option, Some, None}
use Rattle.dali_geometry.specs.Sizes.{Sizes}

abbrev pub regions : Sizes → ℕ
regions s = s.index + s.heap

abbrev pub is_index : Sizes → ℕ → Bool
is_index s r = nat_lt r s.index

abbrev pub is_heap : Sizes → ℕ → Bool
is_heap s r = nat_le s.index r && nat_lt r (regions s)

abbrev pub home : Sizes → ℕ → ℕ
home s key = key % s.index

abbrev pub next_index : Sizes → ℕ → ℕ
next_index s r = if r + 1 == s.index then 0 else r + 1

abbrev pub heap_start : Sizes → ℕ → ℕ
heap_start s txn = s.index + txn % s.heap

abbrev pub next_heap : Sizes → ℕ → ℕ
next_heap s r = if r + 1 == regions s then s.index else r + 1

abbrev pub place : ℕ → ℕ → ℕ
place region cell = 8 * region + cell

abbrev pub region_at : ℕ → ℕ
region_at p = p / 8

abbrev pub cell_at : ℕ → ℕ
cell_at p = p % 8

abbrev pub is_place : Sizes → ℕ → Bool
is_place s p = is_heap s (region_at p) && nat_le 1 (cell_at p)

abbrev pub cell_of : Sizes → ℕ → Option (ℕ × ℕ)
cell_of s p = if is_place s p then Some (region_at p, cell_at p) else None

-- all words are 0, but word 0 of a heap region is 1
abbrev pub formatted : Sizes → ℕ → List ℕ
formatted s r = if is_heap s r then 1 ∷ replicate 63 0 else replicate 64 0

abbrev pub formatted_image : Sizes → List (List ℕ)
formatted_image s = replicate s.index (replicate 64 0) ++ replicate s.heap (1 ∷ replicate 63 0)
