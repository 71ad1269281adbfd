use Rattle.std.proofs.Common.{Bool}
use Rattle.dali_core.specs.Cores.{IsNoShorter}
use Rattle.dali_round.specs.Played.{HavePlaces}
use Rattle.dali_round.specs.Moments.{HaltsOn}
use Rattle.dali_round.proofs.rounds.halt_all.Given as goal

abbrev pub invariant-loop-client : goal.invariant-loop-client
invariant-loop-client g l = record {
  moments : (precheck : Bool) → HaltsOn g.V.Store l.client-index precheck l.fn.clients l.fn.core.regions.items l.fn.core.system.state l.fn.core.vault l.core.regions.items l.core.system.state l.core.vault;
  places : HavePlaces g.V.Store.told l.fn.clients l.core.regions.items l.core.vault;
  longer : IsNoShorter g.V.Store.told l.fn.core.vault l.core.vault;
}
