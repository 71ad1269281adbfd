use Rattle.std.proofs.Common.{◌≡◌, flat_map}
use Rattle.std.specs.List.{range_with_len}
use Rattle.dali_generator.specs.Generated.{state, draw, transaction}
use Rattle.dali_generator.proofs.transactions.commands_of.Given as goal

abbrev pub invariant-loop-transaction : goal.invariant-loop-transaction
invariant-loop-transaction l = record {
  made : l.commands.items ≡ flat_map (λ j. transaction l.client j (draw l.number l.client j)) (range_with_len 0 l.transaction);
  drawn : l.state ≡ state l.number l.client l.transaction;
}
