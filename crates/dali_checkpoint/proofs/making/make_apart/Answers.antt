use Rattle.std.proofs.Common.{ap, refl, ◌∙◌}
use Rattle.dali_system.specs.Served.{Served}
use Rattle.dali_checkpoint.proofs.Made.{start_refused, started_count, made_none, image_audited, made_by, ended_by}
use Rattle.dali_checkpoint.proofs.Onward.{start_stays_right, image_stays_right, end_stays_right}
use Rattle.dali_checkpoint.proofs.Results.{err_same, same_err, stopped_same, none_of_ok}
use Rattle.dali_checkpoint.proofs.Lengths.{no_shorter_tells}
use Rattle.dali_checkpoint.proofs.making.make_apart.Goals as goal

pub returns-in-Err-clause-err : goal.returns-in-Err-clause-err
returns-in-Err-clause-err g c =
    start_refused g.V.Store c.args.regions.now c.args.system.now.state c.start.new.system.state c.args.vault.now c.start.new.vault c.requires.whole c.in-Err.error
    (λ busy. err_same (c.in-Err.ensures.in_progress busy))
    (λ is. c.in-Err.ensures.alone (same_err is))
    (λ idle. stopped_same _ _ c.in-Err.error (c.in-Err.ensures.stopped idle))
    c.in-Err.ensures.runs
    (λ is. ap (λ (s : Served). s.state) (c.in-Err.ensures.stops (same_err is)))
    (λ is. c.in-Err.ensures.fault (same_err is))
    (λ other. let same = c.in-Err.ensures.same (λ is. other (err_same is)) in (ap (λ (s : Served). s.state) same.0, same.1))
    c.in-Err.ensures.files

pub write_image-requires-clause-all : goal.write_image-requires-clause-all
write_image-requires-clause-all g c =
    started_count g.V.Store c.args.regions.now c.args.system.now.state c.start.new.system.state c.args.vault.now c.start.new.vault c.in-Ok.checkpoint
    c.requires.whole c.in-Ok.ensures.flag.0 (none_of_ok _ c.in-Ok.checkpoint (c.in-Ok.ensures.stopped c.in-Ok.ensures.flag.0)) c.in-Ok.ensures.ok (ap (λ (s : Served). s.state) c.in-Ok.ensures.flag.1) c.in-Ok.ensures.files

pub certify-requires-clause-audited : goal.certify-requires-clause-audited
certify-requires-clause-audited g c =
    image_audited g.V.Store c.args.regions.now c.args.system.now.state c.start.new.system.state c.args.vault.now c.start.new.vault c.in-Ok.checkpoint
    c.requires.whole c.in-Ok.ensures.flag.0 (none_of_ok _ c.in-Ok.checkpoint (c.in-Ok.ensures.stopped c.in-Ok.ensures.flag.0)) c.in-Ok.ensures.ok (ap (λ (s : Served). s.state) c.in-Ok.ensures.flag.1) c.in-Ok.ensures.files
    c.write_image.new.regions c.write_image.new.system.state c.write_image.new.vault c.write_image.new.checkpoint c.in-Ok-write_image.verdict c.in-Ok-write_image.ensures.ok

pub returns-in-Ok-write_image-clause-ok : goal.returns-in-Ok-write_image-clause-ok
returns-in-Ok-write_image-clause-ok g c =
    made_by g.V.Store c.args.regions.now c.args.system.now.state c.start.new.system.state c.args.vault.now c.start.new.vault c.in-Ok.checkpoint
    c.requires.whole c.in-Ok.ensures.flag.0 (none_of_ok _ c.in-Ok.checkpoint (c.in-Ok.ensures.stopped c.in-Ok.ensures.flag.0)) c.in-Ok.ensures.ok (ap (λ (s : Served). s.state) c.in-Ok.ensures.flag.1) c.in-Ok.ensures.files
    c.write_image.new.regions c.write_image.new.system.state c.write_image.new.vault c.write_image.new.checkpoint c.in-Ok-write_image.verdict c.in-Ok-write_image.ensures.ok
    c.certify.result c.write_image.new.system c.certify.new.system c.certify.new.vault refl c.certify.ensures.ok c.certify.ensures.turned c.certify.ensures.flag c.certify.ensures.files c.certify.ensures.store.calls c.in-Ok.ensures.store.calls

pub returns-in-Ok-write_image-clause-err : goal.returns-in-Ok-write_image-clause-err
returns-in-Ok-write_image-clause-err g c =
    ended_by g.V.Store c.args.regions.now c.args.system.now.state c.start.new.system.state c.args.vault.now c.start.new.vault c.in-Ok.checkpoint
    c.requires.whole c.in-Ok.ensures.flag.0 (none_of_ok _ c.in-Ok.checkpoint (c.in-Ok.ensures.stopped c.in-Ok.ensures.flag.0)) c.in-Ok.ensures.ok (ap (λ (s : Served). s.state) c.in-Ok.ensures.flag.1) c.in-Ok.ensures.files
    c.write_image.new.regions c.write_image.new.system.state c.write_image.new.vault c.write_image.new.checkpoint c.in-Ok-write_image.verdict c.in-Ok-write_image.ensures.ok
    c.certify.result c.write_image.new.system c.certify.new.system c.certify.new.vault c.first-first.ensures.counted refl c.certify.ensures.kept c.certify.ensures.failed c.certify.ensures.fault c.certify.ensures.ends c.certify.ensures.files

pub returns-in-Err-write_image-clause-err : goal.returns-in-Err-write_image-clause-err
returns-in-Err-write_image-clause-err g c =
    made_none g.V.Store c.args.regions.now c.args.system.now.state c.start.new.system.state c.args.vault.now c.start.new.vault c.in-Ok.checkpoint
    c.requires.whole c.in-Ok.ensures.flag.0 (none_of_ok _ c.in-Ok.checkpoint (c.in-Ok.ensures.stopped c.in-Ok.ensures.flag.0)) c.in-Ok.ensures.ok (ap (λ (s : Served). s.state) c.in-Ok.ensures.flag.1) c.in-Ok.ensures.files
    c.write_image.new.regions c.write_image.new.system.state c.give_up.new.system.state c.write_image.new.vault c.write_image.new.checkpoint c.in-Err-write_image.error c.in-Err-write_image.ensures.err
    (ap (λ (s : Served). s.state) c.give_up.ensures)

pub returns-in-Err-clause-any_moment : goal.returns-in-Err-clause-any_moment
returns-in-Err-clause-any_moment g c = start_stays_right g.V.Store c.args.regions.now c.args.system.now.state c.args.vault.now c.start.new.vault c.start.ensures.any_moment

pub returns-in-Ok-write_image-clause-any_moment : goal.returns-in-Ok-write_image-clause-any_moment
returns-in-Ok-write_image-clause-any_moment g c =
    end_stays_right g.V.Store c.args.regions.now c.args.system.now.state c.start.new.system.state c.args.vault.now c.start.new.vault c.in-Ok.checkpoint c.in-Ok.ensures.ok (ap (λ (s : Served). s.state) c.in-Ok.ensures.flag.1)
    (start_stays_right g.V.Store c.args.regions.now c.args.system.now.state c.args.vault.now c.start.new.vault c.start.ensures.any_moment)
    c.write_image.new.regions c.write_image.new.system.state c.write_image.new.vault c.certify.new.vault c.write_image.new.checkpoint c.in-Ok-write_image.verdict c.in-Ok-write_image.ensures.ok c.write_image.ensures.any_moment
    c.certify.ensures.any_moment c.certify.ensures.failing_moment

pub returns-in-Err-write_image-clause-any_moment : goal.returns-in-Err-write_image-clause-any_moment
returns-in-Err-write_image-clause-any_moment g c = image_stays_right g.V.Store c.args.regions.now c.args.system.now.state c.start.new.system.state c.args.vault.now c.start.new.vault c.in-Ok.checkpoint c.in-Ok.ensures.ok (ap (λ (s : Served). s.state) c.in-Ok.ensures.flag.1)
    (start_stays_right g.V.Store c.args.regions.now c.args.system.now.state c.args.vault.now c.start.new.vault c.start.ensures.any_moment)
    c.write_image.new.vault c.write_image.ensures.any_moment

pub returns-in-Err-clause-tells : goal.returns-in-Err-clause-tells
returns-in-Err-clause-tells g c = no_shorter_tells (g.V.Store.told c.args.vault.now.store) (g.V.Store.told c.start.new.vault.store) c.in-Err.ensures.files

pub returns-in-Ok-write_image-clause-tells : goal.returns-in-Ok-write_image-clause-tells
returns-in-Ok-write_image-clause-tells g c =
    no_shorter_tells (g.V.Store.told c.write_image.new.vault.store) (g.V.Store.told c.certify.new.vault.store) c.certify.ensures.files
    ∙ (c.write_image.ensures.tells ∙ no_shorter_tells (g.V.Store.told c.args.vault.now.store) (g.V.Store.told c.start.new.vault.store) c.in-Ok.ensures.files)

pub returns-in-Err-write_image-clause-tells : goal.returns-in-Err-write_image-clause-tells
returns-in-Err-write_image-clause-tells g c = c.write_image.ensures.tells ∙ no_shorter_tells (g.V.Store.told c.args.vault.now.store) (g.V.Store.told c.start.new.vault.store) c.in-Ok.ensures.files
