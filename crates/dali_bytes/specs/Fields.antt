-- Numbers as they stand in a file, the highest byte first.
--     number32 n     in four bytes
--     number64 n     in eight bytes
use Rattle.std.specs.Prelude.{ℕ, List}
use Rattle.byteorder.specs.Endian.{big_bytes}

unfoldable pub number32 : ℕ → List ℕ
number32 n = big_bytes 4 n

unfoldable pub number64 : ℕ → List ℕ
number64 n = big_bytes 8 n
