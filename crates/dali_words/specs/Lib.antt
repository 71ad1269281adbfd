-- A region is a list of 64 numbers, a set of words a number in which bit i stands for word i (`mask_of`). `under m ws`
-- are the words in the set, ascending; `write_under m news ws` writes new words over them. `effect_of ws reads writes`
-- is the effect of reading the words with these numbers and writing these pairs of number and value, in order. `packed
-- v` is five words, most significant byte first, padded with zero bytes; `unpacked n ws` the first n bytes of the
-- words.
pub mod Words
pub mod Values
pub mod Effects
pub mod Laws
