-- After a request for a lock.
use Rattle.std.specs.Prelude.{ℕ}
use Rattle.dali_locks.specs.declared.mode.Mode.{Mode}
use Rattle.dali_locks.specs.declared.mode.LockAnswer.{LockAnswer}
use Rattle.dali_locks.specs.declared.mode.LockAnswer.TheVariants.{Granted, Wait, Busy}
use Rattle.dali_runs.specs.State.{SystemState}
use Rattle.dali_runs.specs.Steps.{granted, refused}

abbrev pub after_request : SystemState → ℕ → ℕ → Mode → LockAnswer → SystemState
after_request y t k m Granted = granted y t k m
after_request y t k m (Wait h) = y
after_request y t k m (Busy h) = refused y t k m h
