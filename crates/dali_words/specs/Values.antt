-- Values, and the five words that hold one.
--     is_size n              whether n is the length of a value
--     IsValue v              v is a value: 1 to 40 bytes
--     value_of bs            the value that these bytes are, where they are one
--     packed v               the value as five words: most significant byte first, padded with zero bytes
--     bytes_of_words ws      the bytes of words, each from its most significant byte on
--     unpacked n ws          the first n bytes that the words hold
--     unpacked_value n ws    the value that they are, where n is the length of one
use Rattle.std.specs.Prelude.{◌≡◌, ◌<◌, ℕ, ◌+◌, ◌-◌, ◌*◌, ◌/◌, ◌%◌, ◌^◌, Bool, true, ◌&&◌, List, [], ◌∷◌, ◌++◌, take, drop, length, replicate, nat_le, flat_map, All, Option, Some, None, if◌then◌else◌}

abbrev pub is_size : ℕ → Bool
is_size n = nat_le 1 n && nat_le n 40

abbrev pub IsValue : List ℕ → Type 0
IsValue v = (is_size (length v) ≡ true) × All (λ b. b < 256) v

abbrev pub value_of : List ℕ → Option (List ℕ)
value_of bs = if is_size (length bs) then Some bs else None

-- the number whose digits in base 256 are these, behind those of n
abbrev pub number_after : ℕ → List ℕ → ℕ
number_after n [] = n
number_after n (b ∷ bs) = number_after (256 * n + b) bs

abbrev pub word_at : List ℕ → ℕ → ℕ
word_at bs i = number_after 0 (take 8 (drop (8 * i) bs))

abbrev pub packed : List ℕ → List ℕ
packed v =
    let bs = v ++ replicate (40 - length v) 0 in
    word_at bs 0 ∷ word_at bs 1 ∷ word_at bs 2 ∷ word_at bs 3 ∷ word_at bs 4 ∷ []

abbrev pub bytes_of_word : ℕ → List ℕ
bytes_of_word w =
    w / 2 ^ 56 % 256 ∷ w / 2 ^ 48 % 256 ∷ w / 2 ^ 40 % 256 ∷ w / 2 ^ 32 % 256 ∷ w / 2 ^ 24 % 256 ∷ w / 2 ^ 16 % 256 ∷ w / 2 ^ 8 % 256 ∷ w % 256 ∷ []

abbrev pub bytes_of_words : List ℕ → List ℕ
bytes_of_words ws = flat_map bytes_of_word ws

abbrev pub unpacked : ℕ → List ℕ → List ℕ
unpacked n ws = take n (bytes_of_words ws)

abbrev pub unpacked_value : ℕ → List ℕ → Option (List ℕ)
unpacked_value n ws = if is_size n then Some (unpacked n ws) else None
