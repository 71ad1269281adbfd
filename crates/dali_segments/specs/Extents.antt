-- Where a log in segments ends, as lengths tell it.
-- Words: piece_from, IsLast, Measures, StopsIn; IsFixed, key_at.
use Rattle.std.specs.Prelude.{◌≡◌, ◌≢◌, ◌⊎◌, ◌<◌, ℕ, zero, suc, ◌+◌, List, length, min}
use Rattle.dali_files.specs.Files.{Contents}
use Rattle.dali_files.specs.declared.key.FileKey.{FileKey}
use Rattle.dali_files.specs.declared.key.FileKey.TheVariants.{ImageA as KeyA, ImageB as KeyB, Anchor as KeyAnchor, Segment}
use Rattle.dali_segments.specs.Segments.{mark, piece_by, EndsIn}

-- what a segment reads as, where so many are dropped
abbrev pub piece_from : ℕ → ℕ → Contents → ℕ → List ℕ
piece_from size dropped files n = piece_by size dropped (λ k. files (Segment k)) n

-- the first segment that isn't full, dropped ones counted as full, or the last one of all
pub record IsLast (size dropped last : ℕ) (files : Contents) : Type 0 where
  pub full : (n : ℕ) → n < last → length (piece_from size dropped files n) ≡ size
  pub stops : (length (piece_from size dropped files last) ≢ size) ⊎ (last ≡ 4094)

-- what was measured: how many are dropped, where the log stops, and how long that segment is
pub record Measures (size dropped last behind : ℕ) (files : Contents) : Type 0 where
  pub marked : dropped ≡ min (length (files mark)) 4095
  pub last_one : IsLast size dropped last files
  pub behind_is : behind ≡ length (piece_from size dropped files last)

-- the log ends in this segment, and nothing behind it counts
pub record StopsIn (size last dropped : ℕ) (files : Contents) : Type 0 where
  pub ends : EndsIn size last dropped files
  pub stops : (length (piece_from size dropped files last) ≢ size) ⊎ (last ≡ 4094)

-- of each outcome the mark, the images and the segments up to the last one are those of the files, and none of them is going
pub record IsFixed (last : ℕ) (outcomes : Contents → Type 0) (going : FileKey → Type 0) (fs : Contents) : Type 0 where
  pub marks : (c : Contents) → outcomes c → c mark ≡ fs mark
  pub segments : (c : Contents) → outcomes c → (n : ℕ) → n < last + 1 → c (Segment n) ≡ fs (Segment n)
  pub images : (c : Contents) → outcomes c → (c KeyA ≡ fs KeyA) × ((c KeyB ≡ fs KeyB) × (c KeyAnchor ≡ fs KeyAnchor))
  pub mark_stays : going mark → ⊥
  pub segments_stay : (n : ℕ) → n < last + 1 → going (Segment n) → ⊥
  pub images_stay : (going KeyA → ⊥) × ((going KeyB → ⊥) × (going KeyAnchor → ⊥))

-- the images, and then the segments of the log, in a row
abbrev pub key_at : ℕ → FileKey
key_at zero = KeyA
key_at (suc zero) = KeyB
key_at (suc (suc zero)) = KeyAnchor
key_at (suc (suc (suc n))) = Segment n
