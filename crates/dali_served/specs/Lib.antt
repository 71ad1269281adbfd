-- A `Transaction` is one as its client was told of it: its number, and its calls with their answers. `oks_of lines` are
-- those that lines `commit ok` of a round's clients acknowledge; one `StandsIn` a log where that has its Commit, and
-- before it just these calls of it. A line is *served* (`is_served`) where it says that a transaction began or was
-- committed, or that a call was answered and there was room for it. `acts_of` are whole transactions as a client is
-- told them. A log *has served* calls (`HasServed`) where its committed transactions are just these, each once, each
-- client's in its order with its calls, and no audit failed in it. A *front* (`IsFront`) of a round's log has all that
-- is flushed. A line is *answered* (`is_answered`) where it is served, whether there was room or not.
pub mod Served
pub mod Generates
pub mod Steady
pub mod Apart
pub mod Free
pub mod Oks
