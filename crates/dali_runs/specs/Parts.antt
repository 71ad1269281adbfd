-- `SystemRun`, `RegionRun` and `VaultRun (only F)` are what a run says of the system, of one region, and of the vault
-- for the crash image F; `IsSystemStep`, `IsRegionStep` and `IsVaultStep` are what a step does to each. `PartsAreARun`:
-- the parts together are just `RunsOn`. `IsInHand s g owner b`: the region g is protected, and the block b is the
-- operation that is open there, of this owner, which is what a block asks of the regions. `MayBeLogged s L x`: x may
-- follow L, by what the log's part alone asks of it.
pub mod Tables
pub mod Locks
pub mod Counts
pub mod Systems
pub mod Regions
pub mod Vaults
pub mod Joined
pub mod Shares
pub mod Logs
