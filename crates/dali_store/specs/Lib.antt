-- `told s` are the four files as reads give them, where the store tells it. `may_leave s` is what a crash now may leave
-- of them, `left_since s t` what a crash at some moment since t might have left; `cuts s n` is what a cut with choice n
-- makes of them. `lets_pass s` is how many calls it still makes, where it counts them: `fewer n` are left after n
-- calls, and `PassesFewer before now` says that none were added. `TornIn f at n old new`: a write of n bytes at a place
-- of the file f was cut short. `droppable s n` is how many bytes of the log a drop below n would drop, `dropped_to s`
-- the end of what is dropped; `DroppedIn n old new`: some bytes of the log from 64 up to n read as 00 now. `LeavesOnly
-- .. old new P`: each crash since old leaves files that have P.
pub mod Calls
pub mod Faults
pub mod Store
pub mod Drops
pub mod Laws
