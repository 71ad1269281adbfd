-- `cut_to m e` is the epoch e cut off after m records. `HasRightBase bases s L`: the base of the last epoch is what
-- restarts gave, and no damage escaped in the epochs before. `RestartsRight before c F`: the log of the crash image F
-- is a history, a restart of it is right, and keeps what was acknowledged. `FitsWhole s base K F e`: the files fit the
-- log at the epoch e, and image and base have all regions. `recover_from s image n e` writes the records from number n
-- on over an image, by the marks of the whole epoch e, whose undos it performs. What a restart computes from the image
-- and the records behind it alone is `recover_by` of `dali_resume`; it is the same. `Head` is what head and table of an
-- image file say; `turned D h image` are the files D once the anchor names this image. `Traced p D xs q F`: the steps
-- xs lead from the point p to q, and the crash image F came along them from D. `StartsAt s D`: D is at rest, and a core
-- may be made over it. `IsLawful L`: L is spelled, legal and lock-legal, honest or not. `IsCopied base e r g k ws`: the
-- place reads what the blocks below some number leave, or a stray write came to the region, which is missed if an audit
-- passed it since.
pub mod CrashLogs
pub mod Restarts
pub mod Worked
pub mod Fitting
pub mod Starts
pub mod Checkpoints
pub mod StoreRuns
pub mod Checkpointed
pub mod Damaged
pub mod Unpoked
pub mod CheckpointFaults
pub mod Restarted
pub mod Growth
pub mod Traces
pub mod Disks
