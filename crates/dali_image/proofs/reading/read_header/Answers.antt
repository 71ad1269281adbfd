use Rattle.std.proofs.Common.{◌≡◌, ◌∙◌, subst, sym}
use Rattle.dali_lists.proofs.Options.{if_some_then}
use Rattle.dali_store.specs.Store.{file_of}
use Rattle.dali_image.specs.Headers.{HasHeading, NoHeading}
use Rattle.dali_image.proofs.Fronts.{begins, begins_badly}
use Rattle.dali_image.proofs.reading.read_header.Goals as goal

pub returns-in-Ok-clause-ok : goal.returns-in-Ok-clause-ok
returns-in-Ok-clause-ok g c =
    if_some_then _ _ (g.V.Store.told c.args.store.now) (c.in_ok-fill.ensures.whole c.if-not-branch.false)
    (λ fs read. subst (λ f. HasHeading (file_of f fs) c.in-Ok.header) c.image_of-file.ensures (begins (file_of c.image_of-file.result fs) c.fill.new.into c.in-Ok.header read.1 c.in-Ok.ensures.ok))

pub returns-in-Err-clause-bad : goal.returns-in-Err-clause-bad
returns-in-Err-clause-bad g c = λ file at e.
    let place : c.in-Err.bad.at ≡ at = cc in
    let named : c.image_of-file.result ≡ file = cc in (
      sym named ∙ c.image_of-file.ensures,
      if_some_then _ _ (g.V.Store.told c.args.store.now) (c.in_ok-fill.ensures.whole c.if-not-branch.false)
          (λ fs read. subst (λ f. NoHeading (file_of f fs) at) c.image_of-file.ensures (subst (λ n. NoHeading (file_of c.image_of-file.result fs) n) place (begins_badly (file_of c.image_of-file.result fs) c.fill.new.into c.in-Err.bad.at read.0 read.1 c.in-Err.ensures.bad))),
    )
