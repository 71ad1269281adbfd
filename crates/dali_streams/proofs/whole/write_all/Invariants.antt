use Rattle.std.proofs.Common.{◌≡◌, length}
use Rattle.dali_streams.proofs.Steps.{Writes, IsRest}
use Rattle.dali_streams.proofs.whole.write_all.Given as goal

abbrev pub invariant-loop-rest : goal.invariant-loop-rest
invariant-loop-rest g l = record {
  so_far : Writes (g.K.Sink.taken l.fn.sink) l.bytes l.rest (g.K.Sink.taken l.sink);
  rest : IsRest l.bytes l.rest;
  kept : g.K.Sink.faults l.sink ≡ g.K.Sink.faults l.fn.sink;
}

abbrev pub decreases-loop-rest : goal.decreases-loop-rest
decreases-loop-rest g l = length l.rest
