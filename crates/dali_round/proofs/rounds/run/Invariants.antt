use Rattle.std.proofs.Common.{◌≡◌, true, length}
use Rattle.dali_core.specs.Cores.{IsNoShorter}
use Rattle.dali_round.specs.Played.{HavePlaces, PlayGoes}
use Rattle.dali_round.specs.Moments.{PlayEnds}
use Rattle.dali_round.proofs.rounds.run.Given as goal

abbrev pub invariant-loop : goal.invariant-loop
invariant-loop g l = record {
  goes : PlayGoes g.V.Store l.setting.precheck l.fn.clients l.fn.core.regions.items l.fn.core.system.state l.fn.core.vault true l.clients l.core.regions.items l.core.system.state l.core.vault;
  places : HavePlaces g.V.Store.told l.clients l.core.regions.items l.core.vault;
  longer : IsNoShorter g.V.Store.told l.fn.core.vault l.core.vault;
  size : length l.clients ≡ length l.fn.clients;
  moments : PlayEnds g.V.Store true l.setting.precheck l.fn.clients l.fn.core.regions.items l.fn.core.system.state l.fn.core.vault l.clients l.core.regions.items l.core.system.state l.core.vault;
}
