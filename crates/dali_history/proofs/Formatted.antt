-- The formatted image: it is an image, indexed and tidy, and has no records.
use Rattle.std.proofs.Common.{◌≡◌, ℕ, zero, suc, ◌+◌, ◌<◌, List, [], ◌∷◌, ◌++◌, refl, arith}
use Rattle.std.specs.Prelude.{replicate, slice_index, slice_index_or}
use Rattle.dali_geometry.specs.Sizes.{Sizes}
use Rattle.dali_geometry.specs.Places.{formatted_image}
use Rattle.dali_access.specs.Heap.Cells as cell
use Rattle.dali_access.specs.Index.Entries as entry
use Rattle.dali_access.proofs.IndexLemmas.Forms.{formatted_records}
use Rattle.dali_record.specs.Settled.{words_in}
use Rattle.dali_history.specs.Serial.{empty_map}
use Rattle.dali_history.specs.Images.{HasRecords}

zeros : (n i : ℕ) → slice_index (replicate n 0) i ≡ 0
zeros zero i = refl
zeros (suc n) zero = refl
zeros (suc n) (suc i) = zeros n i

-- what holds of the words of both kinds of region, and of none, holds of each region's
each_region : (P : List ℕ → Type 0) (xs ys : List ℕ) → P xs → P ys → P [] → (a b r : ℕ) → P (slice_index_or (replicate a xs ++ replicate b ys) r [])
each_region P xs ys p q o zero zero r = o
each_region P xs ys p q o zero (suc b) zero = q
each_region P xs ys p q o zero (suc b) (suc r) = each_region P xs ys p q o zero b r
each_region P xs ys p q o (suc a) b zero = p
each_region P xs ys p q o (suc a) b (suc r) = each_region P xs ys p q o a b r

-- each word but a region's first is 0
pub formatted_word : (s : Sizes) (r n : ℕ) → 0 < n → slice_index (words_in (formatted_image s) r) n ≡ 0
formatted_word s r zero h = absurd (omega arith)
formatted_word s r (suc n) h = each_region (λ ws. slice_index ws (suc n) ≡ 0) (replicate 64 0) (1 ∷ replicate 63 0) (zeros 64 (suc n)) (zeros 63 n) refl s.index s.heap r

-- so they are those of the empty map
pub formatted_has_none : (s : Sizes) → HasRecords s (formatted_image s) empty_map
formatted_has_none s k v = (λ c. absurd (omega (arith, (rw (formatted_records s) at c).1)), λ e. absurd (cc))
