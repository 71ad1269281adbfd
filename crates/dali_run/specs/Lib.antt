-- A *state* (`Program`) is the core over its store behind a fuse, or that store alone. Here `base` is a list of
-- records, and no image. `g` is all that is said of a store, as one value, in a clause `V.Store`; `fused g` says it of
-- the fuse. `Steps old command text new` is what a command did and printed, by the contract of the call that it makes;
-- `RunsAll` is a chain of them. `IsOwn base s`: a crash leaves of the store s no database, or files whose log a restart
-- finds and whose history begins with the records of base. `IsAPoint base state`: the state is a point of a run where a
-- round may begin, whose flushed records are base, or a store of its own with base. `NoneEscapesFrom core c`: no damage
-- escapes a crash that leaves the files c. `NoneEscapesBefore`: none escapes where one of the commands that were run
-- gives the memory up, from the files that are kept; `IsHonest`: nor with the last one. `Survives`: each state is such
-- a point, its base begins the next one's, and the store that comes back has the last one's.
pub mod Complete
pub mod Dumping
pub mod Ends
pub mod Fails
pub mod Generating
pub mod Halts
pub mod Headline
pub mod Honest
pub mod Looking
pub mod Loading
pub mod Masks
pub mod Program
pub mod Run
pub mod Scripts
pub mod Steps
pub mod Stops
pub mod Strays
pub mod Summaries
pub mod Survives
pub mod Texts
pub mod Told
pub mod Unpoked
pub mod Chain
pub mod Shown
pub mod Durable
