use Rattle.dali_checkpoint.proofs.Made.{made_ok, made_clean, made_regions, made_logged, made_room, made_calls, made_in_progress, made_stopped, made_err, made_whole, made_goes}
use Rattle.dali_checkpoint.proofs.making.make_checkpoint.Goals as goal

pub returns-clause-ok : goal.returns-clause-ok
returns-clause-ok g c =
    made_ok g.V.Store c.args.core.now.regions.items c.make.new.core.regions.items c.args.core.now.system.state c.make.new.core.system.state c.args.core.now.vault c.make.new.core.vault
    c.make.result c.make.ensures.ok

pub returns-clause-clean : goal.returns-clause-clean
returns-clause-clean g c =
    made_clean g.V.Store c.args.core.now.regions.items c.make.new.core.regions.items c.args.core.now.system.state c.make.new.core.system.state c.args.core.now.vault c.make.new.core.vault
    c.make.result c.make.ensures.ok

pub returns-clause-regions : goal.returns-clause-regions
returns-clause-regions g c =
    made_regions g.V.Store c.args.core.now.regions.items c.make.new.core.regions.items c.args.core.now.system.state c.make.new.core.system.state c.args.core.now.vault c.make.new.core.vault
    c.make.result c.make.ensures.ok

pub returns-clause-logged : goal.returns-clause-logged
returns-clause-logged g c =
    made_logged g.V.Store c.args.core.now.regions.items c.make.new.core.regions.items c.args.core.now.system.state c.make.new.core.system.state c.args.core.now.vault c.make.new.core.vault
    c.make.result c.make.ensures.ok

pub returns-clause-room : goal.returns-clause-room
returns-clause-room g c =
    made_room g.V.Store c.args.core.now.regions.items c.make.new.core.regions.items c.args.core.now.system.state c.make.new.core.system.state c.args.core.now.vault c.make.new.core.vault
    c.make.result c.make.ensures.ok

pub returns-clause-calls : goal.returns-clause-calls
returns-clause-calls g c =
    made_calls g.V.Store c.args.core.now.regions.items c.make.new.core.regions.items c.args.core.now.system.state c.make.new.core.system.state c.args.core.now.vault c.make.new.core.vault
    c.make.result c.make.ensures.ok

pub returns-clause-in_progress : goal.returns-clause-in_progress
returns-clause-in_progress g c =
    made_in_progress g.V.Store c.args.core.now.regions.items c.make.new.core.regions.items c.args.core.now.system.state c.make.new.core.system.state c.args.core.now.vault c.make.new.core.vault
    c.make.result c.make.ensures.ok c.make.ensures.err

pub returns-clause-stopped : goal.returns-clause-stopped
returns-clause-stopped g c =
    made_stopped g.V.Store c.args.core.now.regions.items c.make.new.core.regions.items c.args.core.now.system.state c.make.new.core.system.state c.args.core.now.vault c.make.new.core.vault
    c.make.result c.make.ensures.ok c.make.ensures.err

pub returns-clause-err : goal.returns-clause-err
returns-clause-err g c =
    made_err g.V.Store c.args.core.now.regions.items c.make.new.core.regions.items c.args.core.now.system.state c.make.new.core.system.state c.args.core.now.vault c.make.new.core.vault
    c.make.result c.make.ensures.err

pub returns-clause-whole : goal.returns-clause-whole
returns-clause-whole g c =
    made_whole g.V.Store c.args.core.now.regions.items c.make.new.core.regions.items c.args.core.now.system.state c.make.new.core.system.state c.args.core.now.vault c.make.new.core.vault
    c.make.result c.make.ensures.ok c.make.ensures.err

pub returns-clause-goes : goal.returns-clause-goes
returns-clause-goes g c =
    made_goes g.V.Store c.args.core.now.regions.items c.make.new.core.regions.items c.args.core.now.system.state c.make.new.core.system.state c.args.core.now.vault c.make.new.core.vault
    c.make.result c.make.ensures.ok c.make.ensures.err
