use Rattle.std.proofs.Common.{take}
use Rattle.dali_round.specs.Played.{AreNew}
use Rattle.dali_round.proofs.rounds.clients_of.Given as goal

abbrev pub invariant-loop-block : goal.invariant-loop-block
invariant-loop-block l = AreNew (take l.block-index l.blocks) l.clients.items
