use Rattle.std.proofs.Common.{◌≡◌, ◌+◌, ◌-◌, ◌≤◌, map}
use Rattle.std.specs.List.{range_with_len}
use Rattle.dali_generator.specs.Generated.{block}
use Rattle.dali_generator.proofs.transactions.blocks.Given as goal

abbrev pub invariant-loop-client : goal.invariant-loop-client
invariant-loop-client l = record {
  made : l.blocks.items ≡ map (block l.number l.size) (range_with_len 1 (l.client - 1));
  within : l.client ≤ l.clients + 1;
}
