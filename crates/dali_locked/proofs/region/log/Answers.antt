use Rattle.std.proofs.Common.{◌≡◌, [], ◌∷◌, ap, sym, subst, ◌∙◌}
use Rattle.dali_region.specs.State.{RegionState}
use Rattle.dali_notes.specs.History.{Added, MayAdd}
use Rattle.dali_calls.specs.Plans.{is_back}
use Rattle.dali_concurrent.specs.Told.{Item}
use Rattle.dali_locked.specs.Begun.{may_add}
use Rattle.dali_locked.specs.Regions.{logged_item}
use Rattle.dali_locked.proofs.region.log.Goals as goal

pub add_three-requires-clause-may : goal.add_three-requires-clause-may
add_three-requires-clause-may g c κs within =
    let p = c.args.plan.now in
    let item = logged_item c.args.id (is_back p) p.txn p.operation c.args.system.now.state in
    subst (λ (i : Item). MayAdd (may_add g.B.Beginning.begun) (c.args.client.now ∷ c.args.of_system.now ∷ c.args.note.now ∷ []) i)
    (sym (ap (λ (f : RegionState → Item). f c.commit.new.region) c.requires.item ∙ ap item c.in-Ok.ensures.ok))
    (c.requires.may c.commit.new.self c.commit.new.system (record { onward = λ way. c.in-Ok.ensures.onward way; back = λ way. c.in-Ok.ensures.back way }))

pub returns-in-Ok-clause-logs : goal.returns-in-Ok-clause-logs
returns-in-Ok-clause-logs g c = (record { onward = λ way. c.in-Ok.ensures.onward way; back = λ way. c.in-Ok.ensures.back way }, c.in-Ok.ensures.ok)

pub returns-in-Ok-clause-told : goal.returns-in-Ok-clause-told
returns-in-Ok-clause-told g c = (c.add_three.ensures.table, c.add_three.ensures.number, c.add_three.ensures.all, c.add_three.ensures.other, c.add_three.ensures.third)

pub returns-in-Ok-clause-added : goal.returns-in-Ok-clause-added
returns-in-Ok-clause-added g c =
    subst (λ (i : Item). Added (c.args.client.now ∷ c.args.of_system.now ∷ c.args.note.now ∷ []) i c.add_three.new.note.seen) (ap (λ (f : RegionState → Item). f c.commit.new.region) c.requires.item) c.add_three.ensures.added
