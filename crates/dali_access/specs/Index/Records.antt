-- The records that an image stores. An image is the list of its regions, each a list of 64 words: first the index regions, then the heap regions.
--     words_of image r          the words of region r
--     is_reached s image k r    whether the walk from the home of key k comes to index region r: the overflow flag is raised in each region before it
--     stored s image r e        the pair that entry e of region r stands for, where it is live and reached, and names a live cell of its key with a value
--     records s image           all pairs, by region and entry
--     IsRecord s image k v      some entry stands for the pair of k and v
use Rattle.std.specs.Prelude.{ℕ, zero, suc, ◌<◌, ◌≡◌, Bool, true, false, ◌&&◌, List, [], ◌∷◌, ◌++◌, if◌then◌else◌, ◌==◌, slice_index_or, Option, Some, None, filter_map, flat_map}
use Rattle.dali_words.specs.Values.{is_size, unpacked}
use Rattle.dali_geometry.specs.Sizes.{Sizes}
use Rattle.dali_geometry.specs.Places.{home, next_index, is_place, region_at, cell_at}
use Rattle.dali_access.specs.Heap.Cells as cell
use Rattle.dali_access.specs.Index.Entries.{entries, state_of, key_of, place_of, flag_of}

abbrev pub words_of : List (List ℕ) → ℕ → List ℕ
words_of image r = slice_index_or image r []

-- within n more regions, from `here` on
abbrev pub reaches : Sizes → List (List ℕ) → ℕ → ℕ → ℕ → Bool
reaches s image zero here r = false
reaches s image (suc n) here r =
    let later = reaches s image n (next_index s here) r in
    if here == r then true else (if flag_of (words_of image here) == 0 then false else later)

abbrev pub is_reached : Sizes → List (List ℕ) → ℕ → ℕ → Bool
is_reached s image key r = reaches s image s.index (home s key) r

-- the value of a live cell of this key
abbrev pub cell_value : List ℕ → ℕ → ℕ → Option (List ℕ)
cell_value ws c key =
    if (cell.state_of ws c == 1) && (cell.key_of ws c == key) && is_size (cell.length_of ws c)
    then Some (unpacked (cell.length_of ws c) (cell.value_of ws c))
    else None

abbrev pub pair_of : ℕ → Option (List ℕ) → Option (ℕ × List ℕ)
pair_of key None = None
pair_of key (Some v) = Some (key, v)

abbrev pub stored : Sizes → List (List ℕ) → ℕ → ℕ → Option (ℕ × List ℕ)
stored s image r e =
    let ws = words_of image r in
    if (state_of ws e == 1) && is_place s (place_of ws e) && is_reached s image (key_of ws e) r
    then pair_of (key_of ws e) (cell_value (words_of image (region_at (place_of ws e))) (cell_at (place_of ws e)) (key_of ws e))
    else None

-- the numbers below n
abbrev pub below : ℕ → List ℕ
below zero = []
below (suc n) = below n ++ n ∷ []

abbrev pub records : Sizes → List (List ℕ) → List (ℕ × List ℕ)
records s image = flat_map (λ r. filter_map (stored s image r) entries) (below s.index)

-- key k has value v in the image
abbrev pub IsRecord : Sizes → List (List ℕ) → ℕ → List ℕ → Type 0
IsRecord s image k v = (r e : ℕ) × (r < s.index) × (e < 21) × (stored s image r e ≡ Some (k, v))
