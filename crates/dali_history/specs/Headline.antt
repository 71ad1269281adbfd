-- `Holds s image m`: an image that keeps the index's invariant, with nothing dead, and with the records of m. `IsFront
-- L F`: F is L up to its last epoch. `IsRunning L`: L keeps all that a history keeps, but honesty of its last epoch.
pub mod Holds
pub mod Rollback
pub mod Bridge
