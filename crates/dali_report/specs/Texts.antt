-- The texts of values and numbers.
--     hex_text n                  sixteen lower-case hexadecimal digits
--     value_text v                a value byte by byte: those from 21 to 7e but the backslash as they are,
--                                 all others as a backslash, x and two hexadecimal digits
--     list_text ns                numbers with a blank between two of them, or none
--     IsFront front whole         the bytes begin so
use Rattle.std.specs.Prelude.{◌≡◌, ℕ, ◌/◌, ◌%◌, Bool, ◌&&◌, not, nat_le, ◌==◌, if◌then◌else◌, List, [], ◌∷◌, ◌++◌, length, take, codes, flat_map}
use Rattle.std.specs.Char.{digit_char}
use Rattle.std.specs.Fmt.{decimal}
use Rattle.dali_bytes.specs.Fields.{number64}

abbrev pub hex_byte : ℕ → List ℕ
hex_byte byte = digit_char (byte / 16) ∷ digit_char (byte % 16) ∷ []

abbrev pub hex_text : ℕ → List ℕ
hex_text n = flat_map hex_byte (number64 n)

abbrev pub is_plain : ℕ → Bool
is_plain byte = nat_le 33 byte && nat_le byte 126 && not (byte == 92)

abbrev pub byte_text : ℕ → List ℕ
byte_text byte =
    if is_plain byte then byte ∷ []
    else 92 ∷ 120 ∷ hex_byte byte

abbrev pub value_text : List ℕ → List ℕ
value_text bytes = flat_map byte_text bytes

abbrev pub list_of : {N : Type 0} → (N → List ℕ) → List N → List ℕ
list_of text [] = codes "none"
list_of text (n ∷ ns) = text n ++ flat_map (λ m. 32 ∷ text m) ns

abbrev pub list_text : List ℕ → List ℕ
list_text ns = list_of decimal ns

abbrev pub IsFront : List ℕ → List ℕ → Type 0
IsFront front whole = take (length front) whole ≡ front
