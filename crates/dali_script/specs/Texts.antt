-- Numbers, masks and values as they stand in a script.
--     number_of text     the number below 2^64 that one to twenty digits spell
--     mask_of text       the number other than 0 that one to sixteen hexadecimal digits spell
--     value_in text      the one to forty bytes that a text stands for
--     o >>= f            f of what is in o, where something is
use Rattle.std.specs.Prelude.{ℕ, zero, suc, ◌+◌, ◌-◌, ◌*◌, ◌^◌, Bool, nat_lt, ◌==◌, ◌||◌, not, List, [], ◌∷◌, length, Option, Some, None, if◌then◌else◌}
use Rattle.std.specs.Char.{digit_value}
use Rattle.dali_words.specs.Values.{value_of}

infixl 10 ◌>>=◌
abbrev pub ◌>>=◌ : {A B : Type 0} → Option A → (A → Option B) → Option B
(Some x) >>= f = f x
None >>= f = None

-- a byte from low to high
abbrev pub within : ℕ → ℕ → ℕ → Bool
within low high byte = not (nat_lt byte low || nat_lt high byte)

-- digits behind the number n
abbrev pub digits_from : ℕ → List ℕ → Option ℕ
digits_from n [] = Some n
digits_from n (byte ∷ bytes) = if within 48 57 byte then digits_from (10 * n + (byte - 48)) bytes else None

abbrev pub fits : ℕ → Option ℕ
fits n = if nat_lt n (2 ^ 64) then Some n else None

abbrev pub number_of : List ℕ → Option ℕ
number_of text = if (length text == 0) || nat_lt 20 (length text) then None else digits_from 0 text >>= fits

abbrev pub hex_of : ℕ → Option ℕ
hex_of byte = if nat_lt (digit_value byte) 16 then Some (digit_value byte) else None

-- hexadecimal digits behind the number n
abbrev pub hex_from : ℕ → List ℕ → Option ℕ
hex_from n [] = Some n
hex_from n (byte ∷ bytes) = hex_of byte >>= λ digit. hex_from (16 * n + digit) bytes

abbrev pub nonzero : ℕ → Option ℕ
nonzero n = if n == 0 then None else Some n

abbrev pub mask_of : List ℕ → Option ℕ
mask_of text = if (length text == 0) || nat_lt 16 (length text) then None else hex_from 0 text >>= nonzero

-- what a backslash stands before
abbrev pub escaped : List ℕ → Option (ℕ × List ℕ)
escaped (x ∷ high ∷ low ∷ rest) = if x == 120 then (hex_of high >>= λ h. hex_of low >>= λ l. Some (16 * h + l, rest)) else None
escaped [] = None
escaped (x ∷ []) = None
escaped (x ∷ high ∷ []) = None

-- the first byte that the text stands for, and the text behind it
abbrev pub first_byte : ℕ → List ℕ → Option (ℕ × List ℕ)
first_byte byte rest = if byte == 92 then escaped rest else (if within 33 126 byte then Some (byte, rest) else None)

abbrev pub first_of : List ℕ → Option (ℕ × List ℕ)
first_of [] = None
first_of (byte ∷ rest) = first_byte byte rest

abbrev pub seen_first : {X Y : Type 0} → (X → Y) → Option X → Option Y
seen_first view (Some x) = Some (view x)
seen_first view None = None

-- the bytes that a text stands for, where they are at most n
abbrev pub bytes_of : ℕ → List ℕ → Option (List ℕ)
bytes_of n [] = Some []
bytes_of zero (byte ∷ rest) = None
bytes_of (suc n) (byte ∷ rest) = first_byte byte rest >>= λ x. bytes_of n x.1 >>= λ bytes. Some (x.0 ∷ bytes)

abbrev pub value_in : List ℕ → Option (List ℕ)
value_in text = bytes_of 40 text >>= value_of
