use Rattle.std.proofs.Common.{◌≡◌, inl, sym, ap, subst, ◌∙◌}
use Rattle.dali_lists.proofs.Options.{if_some_then}
use Rattle.dali_record.specs.Blocks.{AllAreWords}
use Rattle.dali_store.proofs.Moments.{started}
use Rattle.dali_log.proofs.Finds.{if_some_any, if_some_two}
use Rattle.dali_restart.specs.Renewal.Renewed.{AreReady}
use Rattle.dali_restart.specs.declared.restarting.Due.TheVariants as dues
use Rattle.dali_restart.specs.Deciding.{IsSmallRest, LogsRecord, Settles, WritesImage, resting_of}
use Rattle.dali_restart.proofs.Appending.{appends_image, appends_nothing, appends_record}
use Rattle.dali_restart.proofs.Due.{are_ready, if_ok_both, rest_is_small}
use Rattle.dali_restart.proofs.Settling.{settles_image, settles_nothing, settles_record, stops_image, stops_record}
use Rattle.dali_restart.proofs.restarting.settle.Goals as goal

-- nothing is written
pub returns-in-Nothing-clause-ready : goal.returns-in-Nothing-clause-ready
returns-in-Nothing-clause-ready g c =
    if_some_then _ _ (g.V.Store.told c.args.store.now) c.requires.read
    (λ fs is. subst (λ r. AreReady (g.V.Store.may_leave c.args.store.now) r.end r.current) (sym (c.rest_at.ensures ∙ ap resting_of c.end_of.ensures)) (are_ready fs _ c.args.found.now is))

pub returns-in-Nothing-clause-small : goal.returns-in-Nothing-clause-small
returns-in-Nothing-clause-small g c =
    subst (IsSmallRest c.args.found.now) (sym (c.rest_at.ensures ∙ ap resting_of c.end_of.ensures)) (rest_is_small c.args.found.now c.requires.in_order)

pub returns-in-Nothing-clause-settles : goal.returns-in-Nothing-clause-settles
returns-in-Nothing-clause-settles g c =
    let x = c.args.found.now in
    let may = g.V.Store.may_leave c.args.store.now in
    if_some_then _ _ (g.V.Store.told c.args.store.now) c.requires.read
    (λ fs is. subst (λ r. Settles fs x r may) (sym (c.rest_at.ensures ∙ ap resting_of c.end_of.ensures)) (settles_nothing fs x may (sym c.decide.ensures ∙ c.in-Nothing.is) is.only))

pub returns-in-Nothing-clause-any_moment : goal.returns-in-Nothing-clause-any_moment
returns-in-Nothing-clause-any_moment g c =
    let s = c.args.store.now in
    if_some_any _ (g.V.Store.told s) (λ fs F spells finds. started g.V.Store.moment g.V.Store.left_since s _ (λ d left. inl (g.met.V.Store.only_now s d left)))

-- the record and the image
pub returns-in-Record-clause-settles : goal.returns-in-Record-clause-settles
returns-in-Record-clause-settles g c =
    let x = c.args.found.now in
    if_ok_both (LogsRecord x) _ _ c.log_record.result c.log_record.ensures.ok c.log_record.ensures.written.renews
    (λ r logs all.
    if_some_two _ _ _ (g.V.Store.told c.args.store.now) c.requires.read all
    (λ fs is renews. settles_record g.V.Store.may_leave g.V.Store.moment g.V.Store.left_since fs x c.args.store.now c.log_record.new.store is.only (sym c.decide.ensures ∙ c.in-Record.is) r logs renews))

pub returns-in-Record-clause-any_moment : goal.returns-in-Record-clause-any_moment
returns-in-Record-clause-any_moment g c =
    let x = c.args.found.now in
    if_some_two _ _ _ (g.V.Store.told c.args.store.now) c.requires.read c.log_record.ensures.written.stops
    (λ fs is stops. stops_record g.V.Store.may_leave g.V.Store.moment g.V.Store.left_since fs x c.args.store.now c.log_record.new.store is.only (sym c.decide.ensures ∙ c.in-Record.is) stops is.reads)

pub returns-in-Record-clause-idle : goal.returns-in-Record-clause-idle
returns-in-Record-clause-idle g c idle = let never : dues.Record ≡ dues.Nothing = sym c.in-Record.is ∙ (c.decide.ensures ∙ idle) in absurd cc

-- the image alone
pub returns-in-Image-clause-idle : goal.returns-in-Image-clause-idle
returns-in-Image-clause-idle g c idle = let never : dues.Image c.in-Image.standing ≡ dues.Nothing = sym c.in-Image.is ∙ (c.decide.ensures ∙ idle) in absurd cc

pub returns-in-Image-clause-settles : goal.returns-in-Image-clause-settles
returns-in-Image-clause-settles g c =
    let x = c.args.found.now in
    if_ok_both (WritesImage x) _ _ c.write_image.result c.write_image.ensures.ok c.write_image.ensures.written.renews
    (λ r writes all.
    if_some_two _ _ _ (g.V.Store.told c.args.store.now) c.requires.read all
    (λ fs is renews. settles_image g.V.Store.may_leave g.V.Store.moment g.V.Store.left_since fs x c.args.store.now c.write_image.new.store is.only c.in-Image.standing (sym c.decide.ensures ∙ c.in-Image.is) r writes renews))

pub returns-in-Image-clause-any_moment : goal.returns-in-Image-clause-any_moment
returns-in-Image-clause-any_moment g c =
    let x = c.args.found.now in
    if_some_two _ _ _ (g.V.Store.told c.args.store.now) c.requires.read c.write_image.ensures.written.stops
    (λ fs is stops. stops_image g.V.Store.may_leave g.V.Store.moment g.V.Store.left_since fs x c.args.store.now c.write_image.new.store is.only c.in-Image.standing (sym c.decide.ensures ∙ c.in-Image.is) stops is.reads)

-- the log is only added to
pub returns-in-Nothing-clause-appends : goal.returns-in-Nothing-clause-appends
returns-in-Nothing-clause-appends g c =
    let s = c.args.store.now in
    if_some_any _ (g.V.Store.told s) (λ fs. appends_nothing g.V.Store.may_leave g.V.Store.moment g.V.Store.left_since fs s (λ d left. g.met.V.Store.only_now s d left))

pub returns-in-Record-clause-appends : goal.returns-in-Record-clause-appends
returns-in-Record-clause-appends g c =
    let x = c.args.found.now in
    if_some_two _ _ _ (g.V.Store.told c.args.store.now) c.requires.read c.log_record.ensures.written.keeps
    (λ fs is keeps. appends_record g.V.Store.may_leave g.V.Store.moment g.V.Store.left_since fs x c.requires.in_order (subst AllAreWords c.deref.ensures.value c.tell_all.ensures) c.args.store.now c.log_record.new.store is.only is.reads (sym c.decide.ensures ∙ c.in-Record.is) keeps)

pub returns-in-Image-clause-appends : goal.returns-in-Image-clause-appends
returns-in-Image-clause-appends g c =
    let x = c.args.found.now in
    if_some_two _ _ _ (g.V.Store.told c.args.store.now) c.requires.read c.write_image.ensures.written.keeps
    (λ fs is keeps. appends_image g.V.Store.may_leave g.V.Store.moment g.V.Store.left_since fs x c.requires.in_order (subst AllAreWords c.deref.ensures.value c.tell_all.ensures) c.args.store.now c.write_image.new.store is.only is.reads c.in-Image.standing (sym c.decide.ensures ∙ c.in-Image.is) keeps)
