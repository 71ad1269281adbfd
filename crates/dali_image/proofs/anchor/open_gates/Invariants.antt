use Rattle.std.proofs.Common.{ℕ, ◌<◌}
use Rattle.dali_log.specs.Batch.{IsOpenAt}
use Rattle.dali_image.proofs.anchor.open_gates.Given as goal

abbrev pub invariant-loop-place : goal.invariant-loop-place
invariant-loop-place l = (i : ℕ) → i < l.place → IsOpenAt i l.gates
