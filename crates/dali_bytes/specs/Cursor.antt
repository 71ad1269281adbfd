-- How far bytes have been read.
--     Cursor         all bytes, and the place of the next one
--     left c         the bytes that are left
--     moved n c      the cursor n bytes on
--     IsBytes bs     each number is a byte
use Rattle.std.specs.Prelude.{ℕ, ◌+◌, ◌<◌, List, drop, slice_index}

pub record Cursor : Type 0 where
  pub all : List ℕ
  pub at : ℕ

abbrev pub left : Cursor → List ℕ
left c = drop c.at c.all

abbrev pub moved : ℕ → Cursor → Cursor
moved n c = record { all = c.all; at = c.at + n }

abbrev pub IsBytes : List ℕ → Type 0
IsBytes bs = (i : ℕ) → slice_index bs i < 256
