use Rattle.std.proofs.Common.{◌≡◌, length}
use Rattle.dali_streams.proofs.standard.read_some.Given as goal

abbrev pub invariant-loop : goal.invariant-loop
invariant-loop g l = record { size : length l.into ≡ length l.fn.into }
