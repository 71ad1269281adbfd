-- What a call answers that logs a record which uses no room.
--     GivesReceipt y stays result     the number of the record, where none stands in its way; else why it isn't logged, and what stays then
use Rattle.std.specs.Prelude.{◌≡◌, Result, None, Err, OnOk, OnErr, IfOk, IfErr, IfSome}
use Rattle.dali_region.specs.declared.Receipt.{Receipt}
use Rattle.dali_runs.specs.State.{SystemState}
use Rattle.dali_system.specs.declared.error.SystemError.{SystemError}
use Rattle.dali_system.specs.declared.error.SystemError.TheVariants.{OutOfMemory}
use Rattle.dali_system.specs.Refused.{stop_refusal}

pub record GivesReceipt (y : SystemState) (stays : Type 0) (result : Result Receipt SystemError) : Type 0 where
  pub number : IfOk result (λ receipt. receipt.number ≡ y.records)
  pub runs : OnOk result (y.stop ≡ None)
  pub err : OnErr result stays
  pub refused : IfSome (stop_refusal y) (λ e. result ≡ Err e)
  pub memory : stop_refusal y ≡ None → IfErr result (λ e. e ≡ OutOfMemory)
