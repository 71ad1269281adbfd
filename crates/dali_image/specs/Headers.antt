-- The header of an image file.
--     heading h                the bytes of a header
--     HasHeading bytes h       a file begins with them
--     NoHeading bytes at       a file begins with no header: it is bad at 0, or at the sizes
--     bad_header h x           the first place whose number isn't as the log and the anchor want it, or is out of range
--     IsWanted h x             none is
use Rattle.std.specs.Prelude.{◌≡◌, ◌⊎◌, ℕ, ◌<◌, ◌≤◌, ◌^◌, Bool, ◌||◌, ◌==◌, not, List, [], ◌∷◌, ◌++◌, length, take, Option, Some, None, if◌then◌else◌, nat_lt, nat_le}
use Rattle.dali_geometry.specs.Sizes.{Sizes, AreInRange}
use Rattle.dali_bytes.specs.Fields.{number32, number64}
use Rattle.dali_record.specs.Spelling.{fields}
use Rattle.dali_crash.specs.Disks.Disks.{mark}
use Rattle.dali_image.specs.declared.header.Header.{Header}
use Rattle.dali_image.specs.declared.header.Expected.{Expected}

abbrev pub heading : Header → List ℕ
heading h = fields (mark ∷ number32 h.geometry.index ∷ number32 h.geometry.heap ∷ number64 h.number ∷ number64 h.place ∷ number64 h.first ∷ number64 h.weight ∷ number64 h.next ∷ number64 h.table ∷ [])

abbrev pub HasHeading : List ℕ → Header → Type 0
HasHeading bytes h = (rest : List ℕ) × (bytes ≡ heading h ++ rest)

-- the sizes of no database stand behind the mark
abbrev pub HasNoSizes : List ℕ → Type 0
HasNoSizes bytes = (s : Sizes) × (rest : List ℕ) × (bytes ≡ mark ++ (number32 s.index ++ (number32 s.heap ++ rest))) × (s.index < 2 ^ 32) × (s.heap < 2 ^ 32) × (AreInRange s → ⊥)

abbrev pub NoHeading : List ℕ → ℕ → Type 0
NoHeading bytes at = ((at ≡ 0) × ((length bytes < 64) ⊎ (take 8 bytes ≡ mark → ⊥))) ⊎ ((at ≡ 8) × (64 ≤ length bytes) × HasNoSizes bytes)

-- each place with what makes it wrong
abbrev pub are_wrong : Header → Expected → List (ℕ × Bool)
are_wrong h x =
    (8, not (h.geometry.index == x.geometry.index) || not (h.geometry.heap == x.geometry.heap))
    ∷ (16, not (h.number == x.number))
    ∷ (24, nat_lt h.place 15 || nat_le x.log h.place)
    ∷ (32, nat_le (2 ^ 40) h.first || (h.first == 0))
    ∷ (40, nat_le (2 ^ 40) h.weight)
    ∷ (48, nat_le (2 ^ 40) h.next || (h.next == 0))
    ∷ []

abbrev pub first_of : List (ℕ × Bool) → Option ℕ
first_of [] = None
first_of (p ∷ ps) = if p.1 then Some p.0 else first_of ps

abbrev pub bad_header : Header → Expected → Option ℕ
bad_header h x = first_of (are_wrong h x)

pub record IsWanted (h : Header) (x : Expected) : Type 0 where
  pub geometry : h.geometry ≡ x.geometry
  pub number : h.number ≡ x.number
  pub place : (15 ≤ h.place) × (h.place < x.log)
  pub first : (0 < h.first) × (h.first < 2 ^ 40)
  pub weight : h.weight < 2 ^ 40
  pub next : (0 < h.next) × (h.next < 2 ^ 40)
