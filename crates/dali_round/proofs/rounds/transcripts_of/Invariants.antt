use Rattle.std.proofs.Common.{◌≡◌, ◌+◌, ◌≤◌, length}
use Rattle.std.specs.Prelude.{vec_len, vec_capacity}
use Rattle.std.specs.Vec.Iter.{into_iter_items, into_iter_len}
use Rattle.dali_round.proofs.Handing.{AllNamed}
use Rattle.dali_round.proofs.rounds.transcripts_of.Given as goal

abbrev pub invariant-loop-client : goal.invariant-loop-client
invariant-loop-client l = record {
  can : (goal.iterator-loop-client).can_next l.client-iterator;
  finite : (goal.iterator-loop-client).is_finite l.client-iterator;
  same : AllNamed l.blocks l.fn.clients.items l.transcripts.items (into_iter_items l.client-iterator);
  len : into_iter_len l.client-iterator ≡ length (into_iter_items l.client-iterator);
  room : vec_len l.transcripts + into_iter_len l.client-iterator ≤ vec_capacity l.transcripts;
  left : vec_len l.transcripts + into_iter_len l.client-iterator ≡ length l.blocks;
}
