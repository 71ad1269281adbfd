use Rattle.dali_bench.specs.Calls.{MayServe}
use Rattle.dali_bench.proofs.calls.call_all.Given as goal

abbrev pub invariant-loop-place : goal.invariant-loop-place
invariant-loop-place l = MayServe l.regions l.system.state l.txn
