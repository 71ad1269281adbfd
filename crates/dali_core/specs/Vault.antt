-- `vault_in faults n v` is the vault v as a run sees it, where the store had n faults when the vault was made.
-- `IsFrameOf f rs`: the frame f has just the records rs.
pub mod Vaulted
pub mod Stepped
