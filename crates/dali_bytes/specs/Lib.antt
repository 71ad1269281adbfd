-- A reader is a `Cursor` of `all` bytes and the place `at`; `left` is what begins there. `number32` and `number64` are
-- the big-endian bytes of a number.
pub mod Cursor
pub mod Fields
pub mod Reading
