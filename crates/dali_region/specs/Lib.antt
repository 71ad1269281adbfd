-- A *region* is 64 words with a codeword. Its *hold* is the latch of the one operation that may be open on it: which
-- transaction, whether its client died, which words were read, their exclusive-or, and which were written. *The words
-- taken back* are the words as they would be without the updates of that operation: each word that it has written has
-- its value from before its first update, all others are as they stand. *Touches* counts the operations done since the
-- load, *sound* those done before the first poke, *stray* is the exclusive-or of the masks of all pokes, and a region
-- is *missed* where a check answered 0 although it was poked. Codeword exclusive-or parity is stray, always.
pub mod State
pub mod Answers
pub mod Fields
