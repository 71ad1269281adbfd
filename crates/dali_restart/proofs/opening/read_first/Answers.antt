use Rattle.std.proofs.Common.{inl, inr, sym, ◌∙◌}
use Rattle.dali_lists.proofs.Options.{if_some_then}
use Rattle.dali_geometry.specs.Sizes.{Sizes}
use Rattle.dali_log.proofs.Finds.{if_some_two, if_some_same}
use Rattle.dali_restart.proofs.Causes.{log_bad, image_bad}
use Rattle.dali_restart.proofs.Finding.{begins_with}
use Rattle.dali_restart.proofs.opening.read_first.Goals as goal

pub returns-in-Err-clause-bad : goal.returns-in-Err-clause-bad
returns-in-Err-clause-bad g c file at h =
    let b = log_bad c.in-Err.error file at (sym c.into.ensures ∙ h) in
    if_some_then _ _ (g.V.Store.told c.args.store.now) (c.in-Err.ensures.bad at b.1) (λ fs bad. inl (record { name = b.0; bad = bad }))

pub returns-in-Err-current-clause-bad : goal.returns-in-Err-current-clause-bad
returns-in-Err-current-clause-bad g c file at h =
    let b = image_bad c.in-Err-current.error file at (sym c.into-in-Err-current.ensures ∙ h) in
    let n = c.in-Err-current.ensures.bad file at b in
    let s : Sizes = record { index = c.in-Ok.opened.1.0; heap = c.in-Ok.opened.1.1 } in
    if_some_two _ _ _ (g.V.Store.told c.args.store.now) c.in-Ok.ensures.first (if_some_same _ (g.V.Store.told c.args.store.now) (g.V.Store.told c.open.new.store) c.in-Ok.ensures.store.reads.same n.1)
    (λ fs first none. inr (record { sizes = s; log = begins_with fs s c.in-Ok.opened.0 c.in-Ok.ensures.spelled first; name = n.0; bad = none }))
