use Rattle.std.proofs.Common.{◌≢◌, ap, sym, subst, ◌∙◌, ◌+◌}
use Rattle.dali_store.proofs.Moments.{if_some, moved}
use Rattle.dali_crash.specs.Checkpoints.{side_of}
use Rattle.dali_crash.specs.Disks.Disks.{image_name}
use Rattle.dali_store.specs.declared.store.FileName.TheVariants.{Anchor}
use Rattle.dali_restart.proofs.RenewalLemmas.Beside.{now_beside}
use Rattle.dali_restart.proofs.RenewalLemmas.Kept.{image_keeps}
use Rattle.dali_restart.proofs.RenewalLemmas.Staged.{anchored_beside, image_stops, logs_kept, not_image, now_anchored_next, tells_beside}
use Rattle.dali_restart.proofs.RenewalLemmas.Turned.{keeps_moving, stops_moving, turns_moved}
use Rattle.dali_restart.proofs.renewal.renewing.turn_image.Goals as goal

pub returns-in_err-write_whole-clause-stops : goal.returns-in_err-write_whole-clause-stops
returns-in_err-write_whole-clause-stops g c =
    if_some (g.V.Store.told c.args.store.now)
    (image_stops g.V.Store.told g.V.Store.may_leave g.V.Store.moment g.V.Store.left_since g.met.V.Store.counts_now c.name_of-file.result c.args.standing.now c.args.regions.now c.args.store.now c.write_whole.new.store
    (c.name_of-file.ensures ∙ ap image_name c.side_of.ensures) c.write_whole.ensures.only)

pub move_anchor-requires-clause-anchored : goal.move_anchor-requires-clause-anchored
move_anchor-requires-clause-anchored g c =
    let may = g.V.Store.may_leave in
    let s0 = c.args.store.now in
    let s1 = c.write_whole.new.store in
    let name = c.name_of-file.ensures ∙ ap image_name c.side_of.ensures in
    moved _ (g.V.Store.told s0) (g.V.Store.told s1) (tells_beside c.name_of-file.result (g.V.Store.told s0) (g.V.Store.told s1) c.write_whole.ensures.only.reads) c.requires.anchored
    (λ anchored. anchored_beside (may s0) (may s1) c.name_of-file.result c.args.standing.now.current (subst (λ f. Anchor ≢ f) (sym name) (not_image (side_of (c.args.standing.now.current + 1))))
    (now_beside g.V.Store.told may g.V.Store.moment g.V.Store.left_since c.name_of-file.result s0 s1 g.met.V.Store.counts_now c.write_whole.ensures.only) anchored)

pub returns-in_err-move_anchor-clause-stops : goal.returns-in_err-move_anchor-clause-stops
returns-in_err-move_anchor-clause-stops g c =
    stops_moving g.V.Store.told g.V.Store.may_leave g.V.Store.moment g.V.Store.left_since g.met.V.Store.counts_now c.side_of.result c.name_of-file.result c.args.standing.now c.args.regions.now c.args.store.now c.write_whole.new.store c.move_anchor.new.store c.name_of-file.ensures c.side_of.ensures c.requires.small.1 c.requires.small.0 c.requires.whole
    c.write_whole.ensures.only c.in_ok-write_whole.ensures.written c.in_ok-write_whole.ensures.durable c.requires.anchored c.move_anchor.ensures.any_moment

pub returns-clause-turns : goal.returns-clause-turns
returns-clause-turns g c =
    turns_moved g.V.Store.told g.V.Store.may_leave g.V.Store.moment g.V.Store.left_since g.met.V.Store.counts_now c.side_of.result c.name_of-file.result c.args.standing.now c.args.regions.now c.args.store.now c.write_whole.new.store c.move_anchor.new.store c.name_of-file.ensures c.side_of.ensures c.requires.small.1 c.requires.small.0 c.requires.whole
    c.write_whole.ensures.only c.in_ok-write_whole.ensures.written c.in_ok-write_whole.ensures.durable c.requires.anchored c.in_ok-move_anchor.ensures.moved

pub returns-clause-stops : goal.returns-clause-stops
returns-clause-stops g c =
    stops_moving g.V.Store.told g.V.Store.may_leave g.V.Store.moment g.V.Store.left_since g.met.V.Store.counts_now c.side_of.result c.name_of-file.result c.args.standing.now c.args.regions.now c.args.store.now c.write_whole.new.store c.move_anchor.new.store c.name_of-file.ensures c.side_of.ensures c.requires.small.1 c.requires.small.0 c.requires.whole
    c.write_whole.ensures.only c.in_ok-write_whole.ensures.written c.in_ok-write_whole.ensures.durable c.requires.anchored c.move_anchor.ensures.any_moment

pub returns-clause-anchored : goal.returns-clause-anchored
returns-clause-anchored g c =
    let may = g.V.Store.may_leave in
    let s1 = c.write_whole.new.store in
    let t0 = g.V.Store.told c.args.store.now in
    let t1 = g.V.Store.told s1 in
    moved _ t1 t0 (sym (tells_beside c.name_of-file.result t0 t1 c.write_whole.ensures.only.reads)) c.in_ok-move_anchor.ensures.moved (now_anchored_next (may s1) (may c.move_anchor.new.store) c.args.standing.now.current)

pub returns-clause-logs : goal.returns-clause-logs
returns-clause-logs g c =
    let may = g.V.Store.may_leave in
    let s0 = c.args.store.now in
    let s1 = c.write_whole.new.store in
    let t0 = g.V.Store.told s0 in
    let t1 = g.V.Store.told s1 in
    moved _ t1 t0 (sym (tells_beside c.name_of-file.result t0 t1 c.write_whole.ensures.only.reads)) c.in_ok-move_anchor.ensures.moved
    (logs_kept (may s0) (may s1) (may c.move_anchor.new.store) c.name_of-file.result c.side_of.result c.args.standing.now.current c.name_of-file.ensures
    (now_beside g.V.Store.told may g.V.Store.moment g.V.Store.left_since c.name_of-file.result s0 s1 g.met.V.Store.counts_now c.write_whole.ensures.only))

-- whatever the words of the image are
pub returns-in_err-write_whole-clause-keeps : goal.returns-in_err-write_whole-clause-keeps
returns-in_err-write_whole-clause-keeps g c =
    if_some (g.V.Store.told c.args.store.now)
    (image_keeps g.V.Store.told g.V.Store.may_leave g.V.Store.moment g.V.Store.left_since g.met.V.Store.counts_now c.name_of-file.result c.args.standing.now c.args.regions.now c.args.store.now c.write_whole.new.store
    (c.name_of-file.ensures ∙ ap image_name c.side_of.ensures) c.write_whole.ensures.only)

pub returns-in_err-move_anchor-clause-keeps : goal.returns-in_err-move_anchor-clause-keeps
returns-in_err-move_anchor-clause-keeps g c =
    keeps_moving g.V.Store.told g.V.Store.may_leave g.V.Store.moment g.V.Store.left_since g.met.V.Store.counts_now c.side_of.result c.name_of-file.result c.args.standing.now c.args.regions.now c.args.store.now c.write_whole.new.store c.move_anchor.new.store c.name_of-file.ensures c.side_of.ensures c.requires.small.1 c.requires.small.0 c.requires.whole
    c.write_whole.ensures.only c.in_ok-write_whole.ensures.written c.in_ok-write_whole.ensures.durable c.requires.anchored c.move_anchor.ensures.any_moment

pub returns-clause-keeps : goal.returns-clause-keeps
returns-clause-keeps g c =
    keeps_moving g.V.Store.told g.V.Store.may_leave g.V.Store.moment g.V.Store.left_since g.met.V.Store.counts_now c.side_of.result c.name_of-file.result c.args.standing.now c.args.regions.now c.args.store.now c.write_whole.new.store c.move_anchor.new.store c.name_of-file.ensures c.side_of.ensures c.requires.small.1 c.requires.small.0 c.requires.whole
    c.write_whole.ensures.only c.in_ok-write_whole.ensures.written c.in_ok-write_whole.ensures.durable c.requires.anchored c.move_anchor.ensures.any_moment
