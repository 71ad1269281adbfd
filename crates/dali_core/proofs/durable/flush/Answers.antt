use Rattle.std.proofs.Common.{◌∙◌, ap, sym}
use Rattle.dali_runs.specs.Steps.{store_stopped}
use Rattle.dali_system.specs.Served.{Served}
use Rattle.dali_core.proofs.Flushing.{flushes_all, flush_fails, still_whole}
use Rattle.dali_core.proofs.durable.flush.Goals as goal

pub returns-in-Ok-clause-durable : goal.returns-in-Ok-clause-durable
returns-in-Ok-clause-durable g c =
    flushes_all g.V.Store c.args.core.now.regions.items c.args.core.now.system.state c.write_out.new.system.state c.args.core.now.vault c.write_out.new.vault (sym c.stopped.ensures ∙ c.if-stopped.false) c.in-Ok.ensures.ok
    (ap (λ (s : Served). s.state) c.write_out.ensures.taken)

pub returns-in-Ok-clause-whole : goal.returns-in-Ok-clause-whole
returns-in-Ok-clause-whole g c =
    still_whole g.V.Store c.args.core.now.regions.items c.args.core.now.system.state c.write_out.new.system.state c.args.core.now.vault c.write_out.new.vault c.write_out.ensures.torn.0 c.write_out.ensures.torn.1
    (ap (λ (s : Served). s.state.sizes) c.write_out.ensures.taken) (ap (λ (s : Served). s.state.table) c.write_out.ensures.taken)

pub returns-in-Err-clause-stops : goal.returns-in-Err-clause-stops
returns-in-Err-clause-stops g c e =
    flush_fails g.V.Store c.args.core.now.regions.items c.args.core.now.system.state c.stop.new.self.state c.args.core.now.vault c.write_out.new.vault c.in-Err.ensures.fault.1
    (ap (λ (s : Served). s.state) c.stop.ensures ∙ ap (λ (s : Served). store_stopped s.state) c.write_out.ensures.taken)

pub returns-in-Err-clause-whole : goal.returns-in-Err-clause-whole
returns-in-Err-clause-whole g c =
    still_whole g.V.Store c.args.core.now.regions.items c.args.core.now.system.state c.stop.new.self.state c.args.core.now.vault c.write_out.new.vault c.write_out.ensures.torn.0 c.write_out.ensures.torn.1
    (ap (λ (s : Served). s.state.sizes) c.stop.ensures ∙ ap (λ (s : Served). s.state.sizes) c.write_out.ensures.taken) (ap (λ (s : Served). s.state.table) c.stop.ensures ∙ ap (λ (s : Served). s.state.table) c.write_out.ensures.taken)

pub returns-in-Ok-clause-tells : goal.returns-in-Ok-clause-tells
returns-in-Ok-clause-tells g c = c.in-Ok.ensures.ok.2.ok.tells

pub returns-in-Err-clause-tells : goal.returns-in-Err-clause-tells
returns-in-Err-clause-tells g c = c.in-Err.ensures.fault.1.2.tells

pub returns-in-Ok-clause-files : goal.returns-in-Ok-clause-files
returns-in-Ok-clause-files g c = c.write_out.ensures.files

pub returns-in-Err-clause-files : goal.returns-in-Err-clause-files
returns-in-Err-clause-files g c = c.write_out.ensures.files
