-- Over an image that fits the kept records come to the same words, so each undo finds its slot there as it was left.
use Rattle.std.proofs.Common.{ap, sym, subst, ◌∙◌}
use Rattle.dali_record.specs.Epochs.{last_epoch}
use Rattle.dali_record.specs.Damage.{damage_of}
use Rattle.dali_record.specs.Legal.{sizes_of}
use Rattle.dali_record.specs.Settled.{redo_all}
use Rattle.dali_record.proofs.Keeping.{undos_of-kept}
use Rattle.dali_history.specs.Marked.{kept_of}
use Rattle.dali_history.specs.Recovered.{base_of}
use Rattle.dali_history.specs.Undos.{FindsAll, undos_in}
use Rattle.dali_history.proofs.HeadlineLemmas.AnyOrder.{rolls_back}
use Rattle.dali_history.specs.Undone.AsLeft.{FindAsLeft}
use Rattle.dali_history.proofs.UndoneLemmas.Restarts.{last_on, epoch_undos_find}
use Rattle.dali_runs.specs.Run.{log_in}
use Rattle.dali_crash.proofs.FromImage.{redone_from_image}
use Rattle.dali_resume.specs.Finding.{WritesAlike, FindsFromImage, FindsInLast, FindsAfterCrash, KeepsUndos}
use Rattle.dali_resume.proofs.Joined.{kept_at, undoes_alike}
use Rattle.dali_resume.proofs.FromFiles.{may_resume}

pub writes_alike : WritesAlike
writes_alike s base L F e fit legal spelled = ap (redo_all F.image) (sym (kept_at s L e F.first (may_resume s base L F e fit legal spelled))) ∙ redone_from_image s base L F e fit

pub finds_from_image : FindsFromImage
finds_from_image L F e base on fit order permutes =
    subst (λ image. FindsAll image (undos_in order (kept_of e)) × FindAsLeft base (kept_of e) image order)
    (sym (writes_alike (sizes_of L) base L F e fit on.history.legal on.history.spelled))
    ((rolls_back L on.history e on.epoch base on.map on.honest on.holds order permutes).found, epoch_undos_find L e base on order permutes)

pub finds_in_last : FindsInLast
finds_in_last L F history fit order permutes = finds_from_image L F (last_epoch L) (base_of (sizes_of L) L) (last_on L history) fit order permutes

pub finds_after_crash : FindsAfterCrash
finds_after_crash before c F right order permutes = (finds_in_last (log_in F) F right.restarts.history right.image.fits order permutes).1

pub keeps_undos : KeepsUndos
keeps_undos s base L F e fit legal spelled t h = sym ((undoes_alike s L e F.first (may_resume s base L F e fit legal spelled)).0 t h).1 ∙ sym (undos_of-kept (damage_of e) e.records t)
