use Rattle.std.proofs.Common.{◌<◌, ◌^◌, rules, sym, subst, ap, length, ◌∙◌}
use Rattle.dali_system.specs.Served.{Served}
use Rattle.dali_crash.specs.Disks.Places.{place_of}
use Rattle.dali_checkpoint.specs.Making.{HasNoImage}
use Rattle.dali_checkpoint.proofs.Imaging.{copied_cause, image_not_settled, image_not_audited, image_made}
use Rattle.dali_checkpoint.proofs.Onward.{image_right}
use Rattle.dali_checkpoint.proofs.Results.{err_same, no_cause}
use Rattle.dali_checkpoint.proofs.Lengths.{no_shorter_tells}
use Rattle.dali_checkpoint.proofs.making.write_image.Goals as goal

pub returns-in-Err-settle-clause-err : goal.returns-in-Err-settle-clause-err
returns-in-Err-settle-clause-err g c =
    let d = c.copy_all.new.checkpoint in
    let none =
    copied_cause g.V.Store c.args.regions.now c.copy_all.new.regions c.args.system.now.state c.args.vault.now c.copy_all.new.vault c.args.checkpoint.now d
    c.in-Ok.ensures.ok c.requires.all c.requires.sizes c.requires.runs in
    let said = c.in-Err-settle.ensures.fault none in
    subst (λ e. HasNoImage g.V.Store c.args.regions.now c.args.system.now.state c.args.vault.now c.args.checkpoint.now e c.copy_all.new.regions c.settle.new.system.state c.settle.new.vault c.settle.new.self)
    (sym (err_same said.0))
    (image_not_settled g.V.Store c.args.regions.now c.copy_all.new.regions c.args.system.now.state c.args.vault.now c.copy_all.new.vault c.args.checkpoint.now d
    c.in-Ok.ensures.ok c.requires.all c.requires.sizes c.settle.new.system.state c.settle.new.vault c.settle.new.self (place_of d.copied) (length d.table) c.in-Err-settle.ensures.same (ap (λ (s : Served). s.state) said.1) said.2 c.in-Err-settle.ensures.files)

pub returns-in-Ok-audit_all-clause-ok : goal.returns-in-Ok-audit_all-clause-ok
returns-in-Ok-audit_all-clause-ok g c =
    let number : c.settle.new.system.state.records < 2 ^ 64 = search rules in
    let few : length c.args.regions.now < 2 ^ 32 = search rules in
    image_made g.V.Store c.args.regions.now c.copy_all.new.regions c.args.system.now.state c.args.vault.now c.copy_all.new.vault c.args.checkpoint.now c.copy_all.new.checkpoint
    c.in-Ok.ensures.ok c.requires.all c.requires.sizes
    c.settle.new.system.state c.settle.new.vault c.settle.new.self c.in-Ok-settle.ensures.ok (ap (λ (s : Served). s.state) c.in-Ok-settle.ensures.settled.1) c.in-Ok-settle.ensures.settled.0 c.in-Ok-settle.ensures.files
    c.audit_all.new.regions c.audit_all.new.system.state c.in-Ok-audit_all.verdict c.in-Ok-audit_all.ensures.verdict (ap (λ (s : Served). s.state) c.in-Ok-audit_all.ensures.ok.0) c.in-Ok-audit_all.ensures.ok.1 c.in-Ok-audit_all.ensures.room
    number few c.in-Ok-settle.ensures.grows c.in-Ok-settle.ensures.store.calls

pub returns-in-Err-audit_all-clause-err : goal.returns-in-Err-audit_all-clause-err
returns-in-Err-audit_all-clause-err g c =
    image_not_audited g.V.Store c.args.regions.now c.copy_all.new.regions c.args.system.now.state c.args.vault.now c.copy_all.new.vault c.args.checkpoint.now c.copy_all.new.checkpoint
    c.in-Ok.ensures.ok c.requires.all c.requires.sizes
    c.settle.new.system.state c.settle.new.vault c.settle.new.self c.in-Ok-settle.ensures.ok (ap (λ (s : Served). s.state) c.in-Ok-settle.ensures.settled.1) c.in-Ok-settle.ensures.settled.0 c.in-Ok-settle.ensures.files
    c.audit_all.new.regions c.audit_all.new.system.state c.in-Err-audit_all.error c.from.result c.from.ensures c.requires.none_failed (no_cause c.args.system.now.state c.args.vault.now c.requires.runs).0 c.in-Err-audit_all.ensures.refused c.in-Err-audit_all.ensures.left

pub returns-in-Err-settle-clause-any_moment : goal.returns-in-Err-settle-clause-any_moment
returns-in-Err-settle-clause-any_moment g c =
    image_right g.V.Store c.args.regions.now c.copy_all.new.regions c.args.system.now.state c.args.vault.now c.copy_all.new.vault c.settle.new.vault c.args.checkpoint.now c.copy_all.new.checkpoint c.in-Ok.ensures.ok
    (place_of c.copy_all.new.checkpoint.copied) (length c.copy_all.new.checkpoint.table) c.copy_all.ensures.any_moment c.settle.ensures.any_moment

pub returns-in-Ok-audit_all-clause-any_moment : goal.returns-in-Ok-audit_all-clause-any_moment
returns-in-Ok-audit_all-clause-any_moment g c =
    image_right g.V.Store c.args.regions.now c.copy_all.new.regions c.args.system.now.state c.args.vault.now c.copy_all.new.vault c.settle.new.vault c.args.checkpoint.now c.copy_all.new.checkpoint c.in-Ok.ensures.ok
    (place_of c.copy_all.new.checkpoint.copied) (length c.copy_all.new.checkpoint.table) c.copy_all.ensures.any_moment c.settle.ensures.any_moment

pub returns-in-Err-audit_all-clause-any_moment : goal.returns-in-Err-audit_all-clause-any_moment
returns-in-Err-audit_all-clause-any_moment g c =
    image_right g.V.Store c.args.regions.now c.copy_all.new.regions c.args.system.now.state c.args.vault.now c.copy_all.new.vault c.settle.new.vault c.args.checkpoint.now c.copy_all.new.checkpoint c.in-Ok.ensures.ok
    (place_of c.copy_all.new.checkpoint.copied) (length c.copy_all.new.checkpoint.table) c.copy_all.ensures.any_moment c.settle.ensures.any_moment

pub returns-in-Err-clause-any_moment : goal.returns-in-Err-clause-any_moment
returns-in-Err-clause-any_moment g c = λ runs s B p h is. c.copy_all.ensures.any_moment runs s B p c.args.system.now.state h is

pub returns-in-Err-settle-clause-tells : goal.returns-in-Err-settle-clause-tells
returns-in-Err-settle-clause-tells g c = no_shorter_tells (g.V.Store.told c.copy_all.new.vault.store) (g.V.Store.told c.settle.new.vault.store) c.in-Err-settle.ensures.files ∙ c.copy_all.ensures.tells

pub returns-in-Ok-audit_all-clause-tells : goal.returns-in-Ok-audit_all-clause-tells
returns-in-Ok-audit_all-clause-tells g c = no_shorter_tells (g.V.Store.told c.copy_all.new.vault.store) (g.V.Store.told c.settle.new.vault.store) c.in-Ok-settle.ensures.files ∙ c.copy_all.ensures.tells

pub returns-in-Err-audit_all-clause-tells : goal.returns-in-Err-audit_all-clause-tells
returns-in-Err-audit_all-clause-tells g c = no_shorter_tells (g.V.Store.told c.copy_all.new.vault.store) (g.V.Store.told c.settle.new.vault.store) c.in-Ok-settle.ensures.files ∙ c.copy_all.ensures.tells
