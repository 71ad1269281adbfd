-- The regions of the formatted image, and how many there are.
use Rattle.std.proofs.Common.{◌≡◌, ℕ, ◌-◌, ◌<◌, ◌≤◌, Bool, true, false, List, [], ◌∷◌, ◌++◌, length, replicate, get_or, refl, ◌∙◌, arith}
use Rattle.std.specs.Prelude.{nat_le}
use Rattle.std.proofs.lemmas.Bool.Decides.{nat_tests}
use Rattle.std.proofs.lemmas.List.{length-append, length-replicate, get_or-replicate, get_or_append_left, get_or-append_right}
use Rattle.dali_geometry.specs.Sizes.{Sizes}
use Rattle.dali_geometry.specs.Places.{regions, is_heap, formatted, formatted_image}

pub region_is_formatted : (s : Sizes) (r : ℕ) → r < regions s → get_or (formatted_image s) r [] ≡ formatted s r
region_is_formatted s r below = by_kind (nat_le s.index r) refl
  where
    zeros : List ℕ
    zeros = replicate 64 0

    heads : List ℕ
    heads = 1 ∷ replicate 63 0

    front : length (replicate s.index zeros) ≡ s.index
    front = length-replicate s.index zeros

    by_kind : (b : Bool) → nat_le s.index r ≡ b → get_or (formatted_image s) r [] ≡ formatted s r
    by_kind true e =
        let low : s.index ≤ r = grind (arith, nat_tests) in
        let heap : is_heap s r ≡ true = grind (arith, nat_tests) in
        rw heap (get_or-append_right (replicate s.index zeros) (replicate s.heap heads) s.index r [] front low ∙ get_or-replicate s.heap (r - s.index) heads [] (omega arith))
    by_kind false e =
        let low : r < s.index = grind (arith, nat_tests) in
        let index : is_heap s r ≡ false = grind (arith, nat_tests) in
        rw index (get_or_append_left (replicate s.index zeros) (replicate s.heap heads) [] r (omega (arith, front)) ∙ get_or-replicate s.index r zeros [] low)

pub length_formatted : (s : Sizes) → length (formatted_image s) ≡ regions s
length_formatted s = parts (replicate 64 0) (1 ∷ replicate 63 0)
  where
    parts : (zeros heads : List ℕ) → length (replicate s.index zeros ++ replicate s.heap heads) ≡ regions s
    parts zeros heads =
        omega (arith, length-append (replicate s.index zeros) (replicate s.heap heads), length-replicate s.index zeros, length-replicate s.heap heads)
