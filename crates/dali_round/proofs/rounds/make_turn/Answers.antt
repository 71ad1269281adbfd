use Rattle.std.proofs.Common.{ap}
use Rattle.dali_turns.specs.declared.client.Client.{Client}
use Rattle.dali_turns.proofs.Placed.{places_none}
use Rattle.dali_round.proofs.Keeping.{gone_places}
use Rattle.dali_round.proofs.Playing.{not_due, moves}
use Rattle.dali_round.proofs.Between.{stays_right}
use Rattle.dali_round.proofs.rounds.make_turn.Goals as goal

pub returns-then-not-due : goal.returns-then-not-due
returns-then-not-due g c = record {
  goes = not_due g.V.Store c.args.setting.now.precheck c.args.client.now c.args.core.now.regions.items c.args.core.now.system.state c.args.core.now.vault;
  places = places_none g.V.Store.told c.args.client.now.state c.args.core.now.regions.items c.args.core.now.vault;
  idle = λ e. absurd (cc);
  any_moment = stays_right g.V.Store c.args.setting.now.precheck c.args.client.now c.args.core.now.regions.items c.args.core.now.system.state c.args.core.now.vault (λ d past. g.met.V.Store.only_now c.args.core.now.vault.store d past);
}

pub returns-in-Ok-clause-goes : goal.returns-in-Ok-clause-goes
returns-in-Ok-clause-goes g c =
    moves g.V.Store c.args.setting.now.precheck c.args.client.now c.turn.new.client c.args.core.now.regions.items c.turn.new.core.regions.items c.args.core.now.system.state c.turn.new.core.system.state c.args.core.now.vault c.turn.new.core.vault
    c.in-Ok.ensures.goes

pub returns-in-Err-clause-goes : goal.returns-in-Err-clause-goes
returns-in-Err-clause-goes g c = (c.turn.new.client, c.in-Err.ensures.goes, c.leave.ensures)

pub returns-in-Err-clause-places : goal.returns-in-Err-clause-places
returns-in-Err-clause-places g c =
    gone_places g.V.Store.told c.args.client.now.state c.turn.new.client.state c.leave.new.self.state c.args.core.now.regions.items c.turn.new.core.regions.items c.args.core.now.vault c.turn.new.core.vault (ap (λ (k : Client). k.state) c.leave.ensures) c.turn.ensures.places
