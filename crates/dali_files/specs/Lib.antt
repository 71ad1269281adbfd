-- `told s` are the bytes of each file as reads give them, where they are told. `may_leave s` is what a crash now may leave
-- of them, `left_since s t` what a crash at some moment since t might have left; `cuts s n` is what a cut with choice n
-- makes of them. `is_going s f`: f was removed, and not synced since. `TornIn f at n old new`: a write of n bytes at a
-- place of the file f was cut short; `EmptiedIn f old new`: a removal of f was cut short.
pub mod Keys
pub mod Files
