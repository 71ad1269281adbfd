use Rattle.std.proofs.Common.{is_some, ap}
use Rattle.dali_turns.specs.declared.client.State.TheVariants.{Within}
use Rattle.dali_turns.proofs.CleanSteps.{call_clears}
use Rattle.dali_turns.proofs.Placed.{places_beside, cleared_reaches}
use Rattle.dali_turns.proofs.steps.calls.clean_holder.Goals as goal

pub clear_way-requires : goal.clear_way-requires
clear_way-requires g c = ap is_some c.requires.next.1

pub returns-clause-goes : goal.returns-clause-goes
returns-clause-goes g c = λ precheck.
    call_clears g.V.Store precheck c.args.client.now c.clear_way.new.client c.args.core.now.regions.items c.clear_way.new.core.regions.items c.args.core.now.system.state c.clear_way.new.core.system.state c.args.core.now.vault c.clear_way.new.core.vault c.args.transaction c.args.holder c.clear_way.ensures.vault c.requires.next.0 c.requires.next.1 (λ may. c.requires.dead) c.clear_way.result c.clear_way.ensures.clears

pub returns-clause-places : goal.returns-clause-places
returns-clause-places g c =
    places_beside g.V.Store.told (Within c.args.transaction) c.clear_way.new.client.state c.args.core.now.regions.items c.clear_way.new.core.regions.items c.args.core.now.vault c.clear_way.new.core.vault c.clear_way.ensures.flags c.clear_way.ensures.vault
    (cleared_reaches g.V.Store.told c.args.core.now.regions.items c.clear_way.new.core.regions.items c.args.holder c.args.transaction (Within c.args.transaction) c.args.client.now c.clear_way.new.client c.args.core.now.system.state c.clear_way.new.core.system.state c.clear_way.new.core.vault c.requires.stands (ap is_some c.requires.next.1) tt c.clear_way.result c.clear_way.ensures.clears)
