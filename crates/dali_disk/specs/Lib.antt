-- A `State` is one file: what it began with (`start`), what reads give (`seen`), what the last sync kept (`synced`), the
-- ranges written since (`spans`). `IsImage s c`: a crash may leave c of it. `wrote`, `kept`, `dropped` and `mixed` are
-- what a write, a sync and a crash make of it, `cut_by n f s` what a cut with choice n makes of it, f being its number.
pub mod State
pub mod Mixed
pub mod Sound
pub mod Laws
