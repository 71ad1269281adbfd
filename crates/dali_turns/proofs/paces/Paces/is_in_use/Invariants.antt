use Rattle.std.proofs.Common.{◌≡◌, ℕ, ◌<◌, false}
use Rattle.dali_turns.specs.Paces.{is_in, begun_at}
use Rattle.dali_turns.proofs.paces.Paces.is_in_use.Given as goal

abbrev pub invariant-loop-place : goal.invariant-loop-place
invariant-loop-place l = (i : ℕ) → i < l.place → is_in l.region (begun_at l.self i) ≡ false
