-- Reading from the left: a field and the bytes after it, or None where the bytes end inside the field.
--     byte_at, number32_at, number64_at, bytes_at n     one field
--     Reads result rest read                            what a reader answered, and what is left then, is what reading gives
use Rattle.std.specs.Prelude.{◌≡◌, ℕ, List, [], ◌∷◌, length, take, drop, Option, Some, None, Result, Ok, Err, nat_lt, if◌then◌else◌}
use Rattle.byteorder.specs.Endian.{big_number}

abbrev pub byte_at : List ℕ → Option (ℕ × List ℕ)
byte_at [] = None
byte_at (b ∷ bs) = Some (b, bs)

unfoldable pub number32_at : List ℕ → Option (ℕ × List ℕ)
number32_at bs = if nat_lt (length bs) 4 then None else Some (big_number 4 bs, drop 4 bs)

unfoldable pub number64_at : List ℕ → Option (ℕ × List ℕ)
number64_at bs = if nat_lt (length bs) 8 then None else Some (big_number 8 bs, drop 8 bs)

unfoldable pub bytes_at : ℕ → List ℕ → Option (List ℕ × List ℕ)
bytes_at n bs = if nat_lt (length bs) n then None else Some (take n bs, drop n bs)

abbrev pub Reads : {X E : Type 0} → Result X E → List ℕ → Option (X × List ℕ) → Type 0
Reads (Ok x) rest read = read ≡ Some (x, rest)
Reads (Err e) rest read = read ≡ None
