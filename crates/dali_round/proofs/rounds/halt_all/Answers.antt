use Rattle.std.proofs.Common.{◌≡◌, Some, arith, ap}
use Rattle.std.specs.Prelude.{slice_get}
use Rattle.dali_turns.proofs.Commands.{lent_there}
use Rattle.dali_round.proofs.Keeping.{halts_keep, as_long, longer_on}
use Rattle.dali_round.proofs.Halts.{none_asked, halts_on, halts_go, halts_end}
use Rattle.dali_round.proofs.rounds.halt_all.Goals as goal

pub loop-client-init : goal.loop-client-init
loop-client-init g c = record {
  moments = λ precheck. none_asked g.V.Store precheck c.args.clients.now c.args.core.now.regions.items c.args.core.now.system.state c.args.core.now.vault (λ d past. g.met.V.Store.only_now c.args.core.now.vault.store d past);
  places = c.requires;
  longer = as_long g.V.Store.told c.args.core.now.vault;
}

pub loop-client-preserved : goal.loop-client-preserved
loop-client-preserved g c =
    let k = c.client-item.result in
    let at_k : slice_get c.args.clients.now c.loop-client.client-index ≡ Some k = lent_there c.args.clients.now c.loop-client.client-index k c.loop-client-test.true c.client-item.is in
    record {
      moments = λ precheck.
          halts_on g.V.Store precheck c.args.clients.now c.args.core.now.regions.items c.args.core.now.system.state c.args.core.now.vault
          c.loop-client.client-index k c.loop-client.core.regions.items c.halt.new.core.regions.items c.loop-client.core.system.state c.halt.new.core.system.state c.loop-client.core.vault c.halt.new.core.vault at_k
          c.loop-client.invariant.longer (λ d past. g.met.V.Store.only_now c.loop-client.core.vault.store d past) c.halt.ensures.goes c.halt.ensures.any_moment
          (λ e. let same = c.halt.ensures.gone e in (ap (λ x. x.regions.items) same, ap (λ x. x.system.state) same, ap (λ x. x.vault) same)) (c.loop-client.invariant.moments precheck);
      places = halts_keep g.V.Store.told c.args.clients.now c.loop-client.core.regions.items c.halt.new.core.regions.items c.loop-client.core.vault c.halt.new.core.vault c.loop-client.client-index k at_k c.halt.ensures.places c.loop-client.invariant.places;
      longer = longer_on g.V.Store.told c.args.core.now.vault c.loop-client.core.vault c.halt.new.core.vault c.loop-client.invariant.longer c.halt.ensures.places.longer;
    }

pub returns-clause-goes : goal.returns-clause-goes
returns-clause-goes g c = λ precheck.
    halts_go g.V.Store precheck c.args.clients.now c.args.core.now.regions.items c.args.core.now.system.state c.args.core.now.vault c.loop-client.client-index _ _ _ (omega (arith, c.loop-client-test.false)) (c.loop-client.invariant.moments precheck)

pub returns-clause-places : goal.returns-clause-places
returns-clause-places g c = c.loop-client.invariant.places

pub returns-clause-longer : goal.returns-clause-longer
returns-clause-longer g c = c.loop-client.invariant.longer

pub returns-clause-any_moment : goal.returns-clause-any_moment
returns-clause-any_moment g c = λ precheck.
    halts_end g.V.Store precheck c.args.clients.now c.args.core.now.regions.items c.args.core.now.system.state c.args.core.now.vault c.loop-client.client-index _ _ _ (c.loop-client.invariant.moments precheck)
