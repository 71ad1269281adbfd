use Rattle.std.proofs.Common.{Ok, is_ok, ap, ◌∙◌}
use Rattle.dali_system.specs.Served.{Served}
use Rattle.dali_round.proofs.Outcomes.{done_leads, end_cut}
use Rattle.dali_round.proofs.Keeping.{longer_on}
use Rattle.dali_round.proofs.Playing.{goes_either}
use Rattle.dali_round.proofs.Moments.{ends_either, done_leaves, halts_leave}
use Rattle.dali_round.proofs.rounds.play.Goals as goal

pub returns-in-Ok-true-clause-goes : goal.returns-in-Ok-true-clause-goes
returns-in-Ok-true-clause-goes g c = λ s p bs f.
    done_leads g.V.Store c.args.setting.now.precheck s p bs c.run.new.clients c.run.new.core.regions.items c.run.new.core.system.state c.run.new.core.vault (c.in-Ok-true.ensures.turns.goes s p bs f)
    (c.run.ensures.over (c.in-Ok-true.is ∙ ap Ok c.in-Ok-true.field-0-test))

pub halt_all-requires : goal.halt_all-requires
halt_all-requires g c = c.run.ensures.turns.places

pub returns-in-Ok-false-clause-goes : goal.returns-in-Ok-false-clause-goes
returns-in-Ok-false-clause-goes g c = λ s p bs f.
    end_cut g.V.Store c.args.setting.now.precheck s p bs c.run.new.clients c.halt_all.new.core.regions.items c.halt_all.new.core.system.state c.halt_all.new.core.vault c.end_copy.new.self.state
    (ap (λ (z : Served). z.state) c.end_copy.ensures)
    (c.halt_all.ensures.goes c.args.setting.now.precheck s p bs
    (goes_either g.V.Store c.args.setting.now.precheck c.args.clients.now c.run.new.clients c.args.core.now.regions.items c.run.new.core.regions.items c.args.core.now.system.state c.run.new.core.system.state c.args.core.now.vault c.run.new.core.vault (is_ok c.run.result) c.run.ensures.turns.goes s p bs f))

pub returns-in-Ok-true-clause-longer : goal.returns-in-Ok-true-clause-longer
returns-in-Ok-true-clause-longer g c = c.run.ensures.turns.longer

pub returns-in-Ok-true-clause-places : goal.returns-in-Ok-true-clause-places
returns-in-Ok-true-clause-places g c = c.run.ensures.turns.places.files

pub returns-in-Ok-false-clause-longer : goal.returns-in-Ok-false-clause-longer
returns-in-Ok-false-clause-longer g c = longer_on g.V.Store.told c.args.core.now.vault c.run.new.core.vault c.halt_all.new.core.vault c.run.ensures.turns.longer c.halt_all.ensures.longer

pub returns-in-Ok-false-clause-places : goal.returns-in-Ok-false-clause-places
returns-in-Ok-false-clause-places g c = c.halt_all.ensures.places.files

pub returns-in-Ok-true-clause-any_moment : goal.returns-in-Ok-true-clause-any_moment
returns-in-Ok-true-clause-any_moment g c =
    done_leaves g.V.Store c.args.setting.now.precheck c.args.clients.now c.run.new.clients c.args.core.now.regions.items c.run.new.core.regions.items c.args.core.now.system.state c.run.new.core.system.state c.args.core.now.vault c.run.new.core.vault c.in-Ok-true.ensures.turns.any_moment

pub returns-in-Ok-false-clause-any_moment : goal.returns-in-Ok-false-clause-any_moment
returns-in-Ok-false-clause-any_moment g c =
    halts_leave g.V.Store c.args.setting.now.precheck c.args.clients.now c.run.new.clients c.args.core.now.regions.items c.run.new.core.regions.items c.halt_all.new.core.regions.items c.args.core.now.system.state c.run.new.core.system.state c.halt_all.new.core.system.state c.end_copy.new.self.state c.args.core.now.vault c.run.new.core.vault c.halt_all.new.core.vault (ap (λ (z : Served). z.state.since) c.end_copy.ensures) c.run.ensures.turns.longer
    (ends_either g.V.Store c.args.setting.now.precheck c.args.clients.now c.run.new.clients c.args.core.now.regions.items c.run.new.core.regions.items c.args.core.now.system.state c.run.new.core.system.state c.args.core.now.vault c.run.new.core.vault (is_ok c.run.result) c.run.ensures.turns.any_moment) (c.halt_all.ensures.any_moment c.args.setting.now.precheck)
