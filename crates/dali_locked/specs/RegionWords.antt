-- Which word an update has written, by the region before and behind it.
--     same_list xs ys          these lists are equal
--     is_update g h word       behind an update of this word of the region g its region is h
--     found n f                the last number below n that passes the test f
--     word_of g h, value_of g h    such a word, and its value
--     word_item c r g h        what is told of an update
use Rattle.std.specs.Prelude.{ℕ, zero, suc, ◌^◌, ◌==◌, ◌&&◌, not, Bool, true, false, List, [], ◌∷◌, if◌then◌else◌, nat_lt, slice_index, slice_set, bit_and, bit_or, bit_xor}
use Rattle.dali_region.specs.State.{RegionState, written}
use Rattle.dali_concurrent.specs.Told.{Item}
use Rattle.dali_locked.specs.Regions.{read_in, update_item}

abbrev pub same_list : List ℕ → List ℕ → Bool
same_list [] [] = true
same_list [] (y ∷ ys) = false
same_list (x ∷ xs) [] = false
same_list (x ∷ xs) (y ∷ ys) = (x == y) && same_list xs ys

abbrev pub is_update : RegionState → RegionState → ℕ → Bool
is_update g h word =
    same_list (slice_set g.words word (slice_index h.words word)) h.words
    && ((bit_xor g.codeword (bit_xor (slice_index g.words word) (slice_index h.words word)) == h.codeword)
    && ((bit_or (written g.hold) (2 ^ word) == written h.hold)
    && (not (bit_and (read_in g.hold) (2 ^ word) == 0) && nat_lt (slice_index h.words word) 18446744073709551616)))

unfoldable pub found : ℕ → (ℕ → Bool) → ℕ
found zero f = 0
found (suc n) f = if f n then n else found n f

abbrev pub word_of : RegionState → RegionState → ℕ
word_of g h = found 64 (is_update g h)

abbrev pub value_of : RegionState → RegionState → ℕ
value_of g h = slice_index h.words (word_of g h)

abbrev pub word_item : ℕ → ℕ → RegionState → RegionState → Item
word_item c r g h = update_item c r (word_of g h) (value_of g h) h
