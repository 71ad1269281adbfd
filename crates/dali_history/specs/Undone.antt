-- `slot_at image p` are the words of the slot that the undo p names: state, key, length and value of a cell, state, key
-- and place of an entry. `IsPushed t K n i b p`: the block b at place i of K left the undo p, number n of t from the
-- first, and it has stood since. `IsAsLeft base K t n p image`: in this image that slot is word by word as it stood
-- right behind this block. `FindAsLeft base K image order`: so each undo of these transactions finds its slot, taken
-- back one transaction after another.
pub mod AsLeft
pub mod Worked
