-- Bytes *spell* rows (`Spelled`) where each of their lines with words is a key above the one before and a value, and
-- the last one may say how many there are. `expected` is what the script of so many rows prints where all goes well,
-- `verdict_of` what other lines tell.
pub mod Rows
pub mod Reading
pub mod Reader
pub mod Scripts
pub mod Answers
