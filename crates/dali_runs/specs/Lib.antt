-- `SystemState`, `VaultState` and `CoreState` are what contracts see; `row_of y t` is the row of a transaction,
-- `lock_of y t k` the mode in which it holds a key. `blocks_on r E` counts the blocks on a region, `certified_on r e`
-- those before the clean place. `IsNext s L t x`: the rules allow x as the next record of t. `only F` is the crash
-- image F by itself, and `no_image` none, where nothing is said of crashes: `RunsAt bases before (only F) m`. `CameBy L
-- c x D F`: F, behind the step x, came from the crash image D before it. `IsOpen g owner b`: b is the operation that
-- the region's hold has done, but for its logging. `MayChange x g`: the step x may be taken on the region g.
pub mod State
pub mod Run
pub mod Steps
pub mod Regions
pub mod Keeps
pub mod Flushes
pub mod Audits
pub mod Passes
pub mod Loads
pub mod Courses
pub mod Wholes
pub mod Crashes
pub mod Images
pub mod ImageSteps
pub mod Worked
pub mod Facts
pub mod Parts
pub mod Counts
