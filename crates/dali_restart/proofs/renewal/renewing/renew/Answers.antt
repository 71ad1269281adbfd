use Rattle.std.proofs.Common.{◌+◌, refl, subst}
use Rattle.dali_store.specs.Store.{Files}
use Rattle.dali_log.specs.Batch.{IsClosedAt}
use Rattle.dali_restart.specs.Renewal.Renewed.{end_before}
use Rattle.dali_store.proofs.Moments.{if_some, if_some_both, moved}
use Rattle.dali_restart.proofs.RenewalLemmas.Kept.{keeps_logged, keeps_unlogged, nothing_keeps}
use Rattle.dali_restart.proofs.RenewalLemmas.Staged.{answered, nothing_stops, ready_by, renews_logged, renews_unlogged, stops_logged, stops_unlogged}
use Rattle.dali_restart.proofs.renewal.renewing.renew.Goals as goal

pub returns-in-Err-clause-stops : goal.returns-in-Err-clause-stops
returns-in-Err-clause-stops g c =
    if_some (g.V.Store.told c.args.store.now) (nothing_stops g.V.Store.told g.V.Store.may_leave g.V.Store.moment g.V.Store.left_since g.met.V.Store.counts_now c.args.standing.now c.args.logged c.args.rolled_back.now c.args.deleted.now c.args.regions.now c.args.store.now c.args.store.now g.met.V.Store.only_now)

pub returns-in-Ok-turn_image-clause-renews : goal.returns-in-Ok-turn_image-clause-renews
returns-in-Ok-turn_image-clause-renews g c =
    let t0 = g.V.Store.told c.args.store.now in
    moved _ t0 t0 refl c.in-Ok-turn_image.ensures.turns (λ here. renews_logged g.V.Store.told g.V.Store.may_leave g.V.Store.moment g.V.Store.left_since g.met.V.Store.counts_now c.args.standing.now c.args.logged c.args.rolled_back.now c.args.deleted.now c.args.regions.now c.args.store.now c.turn_image.new.store c.in-Some.end c.in-Some.is here)

pub returns-in-Ok-turn_image-clause-ready : goal.returns-in-Ok-turn_image-clause-ready
returns-in-Ok-turn_image-clause-ready g c =
    let may = g.V.Store.may_leave in
    let t0 = g.V.Store.told c.args.store.now in
    if_some_both _ t0 c.requires.closed (λ closed.
    if_some_both _ t0 c.in-Ok-turn_image.ensures.logs (λ logs.
    moved _ t0 t0 refl c.in-Ok-turn_image.ensures.anchored
    (ready_by (may c.args.store.now) (may c.turn_image.new.store) c.in-Some.end (c.args.standing.now.current + 1) (subst (λ m. (d : Files) → may c.args.store.now d → IsClosedAt (end_before m c.args.standing.now) d.log) c.in-Some.is closed) logs)))

pub returns-in-Ok-turn_image-clause-stops : goal.returns-in-Ok-turn_image-clause-stops
returns-in-Ok-turn_image-clause-stops g c =
    let t0 = g.V.Store.told c.args.store.now in
    moved _ t0 t0 refl c.turn_image.ensures.stops (λ here. stops_logged g.V.Store.told g.V.Store.may_leave g.V.Store.moment g.V.Store.left_since g.met.V.Store.counts_now c.args.standing.now c.args.logged c.args.rolled_back.now c.args.deleted.now c.args.regions.now c.args.store.now c.turn_image.new.store c.in-Some.end c.in-Some.is here)

pub returns-in-Some-clause-stops : goal.returns-in-Some-clause-stops
returns-in-Some-clause-stops g c =
    let t0 = g.V.Store.told c.args.store.now in
    moved _ t0 t0 refl c.turn_image.ensures.stops (λ here. stops_logged g.V.Store.told g.V.Store.may_leave g.V.Store.moment g.V.Store.left_since g.met.V.Store.counts_now c.args.standing.now c.args.logged c.args.rolled_back.now c.args.deleted.now c.args.regions.now c.args.store.now c.turn_image.new.store c.in-Some.end c.in-Some.is here)

pub returns-in-Err-restart_frame-clause-stops : goal.returns-in-Err-restart_frame-clause-stops
returns-in-Err-restart_frame-clause-stops g c =
    if_some (g.V.Store.told c.args.store.now) (nothing_stops g.V.Store.told g.V.Store.may_leave g.V.Store.moment g.V.Store.left_since g.met.V.Store.counts_now c.args.standing.now c.args.logged c.args.rolled_back.now c.args.deleted.now c.args.regions.now c.args.store.now c.args.store.now g.met.V.Store.only_now)

pub returns-in-Err-room_for-clause-stops : goal.returns-in-Err-room_for-clause-stops
returns-in-Err-room_for-clause-stops g c =
    if_some (g.V.Store.told c.args.store.now) (nothing_stops g.V.Store.told g.V.Store.may_leave g.V.Store.moment g.V.Store.left_since g.met.V.Store.counts_now c.args.standing.now c.args.logged c.args.rolled_back.now c.args.deleted.now c.args.regions.now c.args.store.now c.args.store.now g.met.V.Store.only_now)

pub returns-in-Ok-log_and_turn-clause-renews : goal.returns-in-Ok-log_and_turn-clause-renews
returns-in-Ok-log_and_turn-clause-renews g c =
    let t0 = g.V.Store.told c.args.store.now in
    moved _ t0 t0 refl c.in-Ok-log_and_turn.ensures.turns (λ here. renews_unlogged g.V.Store.told g.V.Store.may_leave g.V.Store.moment g.V.Store.left_since g.met.V.Store.counts_now c.args.standing.now c.args.logged c.args.rolled_back.now c.args.deleted.now c.args.regions.now c.args.store.now c.log_and_turn.new.store c.in-Ok-restart_frame.frame.body c.in-None.is c.in-Ok-restart_frame.ensures.body here)

pub returns-in-Ok-log_and_turn-clause-stops : goal.returns-in-Ok-log_and_turn-clause-stops
returns-in-Ok-log_and_turn-clause-stops g c =
    let t0 = g.V.Store.told c.args.store.now in
    moved _ t0 t0 refl c.log_and_turn.ensures.stops (λ here. stops_unlogged g.V.Store.told g.V.Store.may_leave g.V.Store.moment g.V.Store.left_since g.met.V.Store.counts_now c.args.standing.now c.args.logged c.args.rolled_back.now c.args.deleted.now c.args.regions.now c.args.store.now c.log_and_turn.new.store c.in-Ok-restart_frame.frame.body c.in-None.is c.in-Ok-restart_frame.ensures.body here)

pub returns-clause-stops : goal.returns-clause-stops
returns-clause-stops g c =
    let t0 = g.V.Store.told c.args.store.now in
    moved _ t0 t0 refl c.log_and_turn.ensures.stops (λ here. stops_unlogged g.V.Store.told g.V.Store.may_leave g.V.Store.moment g.V.Store.left_since g.met.V.Store.counts_now c.args.standing.now c.args.logged c.args.rolled_back.now c.args.deleted.now c.args.regions.now c.args.store.now c.log_and_turn.new.store c.in-Ok-restart_frame.frame.body c.in-None.is c.in-Ok-restart_frame.ensures.body here)

-- so what a restart answers of what is left
pub returns-in-Err-clause-answers : goal.returns-in-Err-clause-answers
returns-in-Err-clause-answers g c = answered g.V.Store.told g.V.Store.may_leave g.V.Store.moment g.V.Store.left_since g.met.V.Store.counts_now c.args.standing.now c.args.logged c.args.rolled_back.now c.args.deleted.now c.args.regions.now c.args.store.now c.args.store.now (g.V.Store.told c.args.store.now) (returns-in-Err-clause-stops g c)

pub returns-in-Ok-turn_image-clause-answers : goal.returns-in-Ok-turn_image-clause-answers
returns-in-Ok-turn_image-clause-answers g c = answered g.V.Store.told g.V.Store.may_leave g.V.Store.moment g.V.Store.left_since g.met.V.Store.counts_now c.args.standing.now c.args.logged c.args.rolled_back.now c.args.deleted.now c.args.regions.now c.args.store.now c.turn_image.new.store (g.V.Store.told c.args.store.now) (returns-in-Ok-turn_image-clause-stops g c)

pub returns-in-Some-clause-answers : goal.returns-in-Some-clause-answers
returns-in-Some-clause-answers g c = answered g.V.Store.told g.V.Store.may_leave g.V.Store.moment g.V.Store.left_since g.met.V.Store.counts_now c.args.standing.now c.args.logged c.args.rolled_back.now c.args.deleted.now c.args.regions.now c.args.store.now c.turn_image.new.store (g.V.Store.told c.args.store.now) (returns-in-Some-clause-stops g c)

pub returns-in-Err-restart_frame-clause-answers : goal.returns-in-Err-restart_frame-clause-answers
returns-in-Err-restart_frame-clause-answers g c = answered g.V.Store.told g.V.Store.may_leave g.V.Store.moment g.V.Store.left_since g.met.V.Store.counts_now c.args.standing.now c.args.logged c.args.rolled_back.now c.args.deleted.now c.args.regions.now c.args.store.now c.args.store.now (g.V.Store.told c.args.store.now) (returns-in-Err-restart_frame-clause-stops g c)

pub returns-in-Err-room_for-clause-answers : goal.returns-in-Err-room_for-clause-answers
returns-in-Err-room_for-clause-answers g c = answered g.V.Store.told g.V.Store.may_leave g.V.Store.moment g.V.Store.left_since g.met.V.Store.counts_now c.args.standing.now c.args.logged c.args.rolled_back.now c.args.deleted.now c.args.regions.now c.args.store.now c.args.store.now (g.V.Store.told c.args.store.now) (returns-in-Err-room_for-clause-stops g c)

pub returns-in-Ok-log_and_turn-clause-answers : goal.returns-in-Ok-log_and_turn-clause-answers
returns-in-Ok-log_and_turn-clause-answers g c = answered g.V.Store.told g.V.Store.may_leave g.V.Store.moment g.V.Store.left_since g.met.V.Store.counts_now c.args.standing.now c.args.logged c.args.rolled_back.now c.args.deleted.now c.args.regions.now c.args.store.now c.log_and_turn.new.store (g.V.Store.told c.args.store.now) (returns-in-Ok-log_and_turn-clause-stops g c)

pub returns-clause-answers : goal.returns-clause-answers
returns-clause-answers g c = answered g.V.Store.told g.V.Store.may_leave g.V.Store.moment g.V.Store.left_since g.met.V.Store.counts_now c.args.standing.now c.args.logged c.args.rolled_back.now c.args.deleted.now c.args.regions.now c.args.store.now c.log_and_turn.new.store (g.V.Store.told c.args.store.now) (returns-clause-stops g c)

-- whatever the words of the image are
pub returns-in-Err-clause-keeps : goal.returns-in-Err-clause-keeps
returns-in-Err-clause-keeps g c =
    if_some (g.V.Store.told c.args.store.now) (nothing_keeps g.V.Store.told g.V.Store.may_leave g.V.Store.moment g.V.Store.left_since g.met.V.Store.counts_now c.args.standing.now c.args.logged c.args.rolled_back.now c.args.deleted.now c.args.regions.now c.args.store.now c.args.store.now g.met.V.Store.only_now)

pub returns-in-Ok-turn_image-clause-keeps : goal.returns-in-Ok-turn_image-clause-keeps
returns-in-Ok-turn_image-clause-keeps g c =
    let t0 = g.V.Store.told c.args.store.now in
    moved _ t0 t0 refl c.turn_image.ensures.keeps (λ here. keeps_logged g.V.Store.told g.V.Store.may_leave g.V.Store.moment g.V.Store.left_since g.met.V.Store.counts_now c.args.standing.now c.args.logged c.args.rolled_back.now c.args.deleted.now c.args.regions.now c.args.store.now c.turn_image.new.store c.in-Some.end c.in-Some.is here)

pub returns-in-Some-clause-keeps : goal.returns-in-Some-clause-keeps
returns-in-Some-clause-keeps g c =
    let t0 = g.V.Store.told c.args.store.now in
    moved _ t0 t0 refl c.turn_image.ensures.keeps (λ here. keeps_logged g.V.Store.told g.V.Store.may_leave g.V.Store.moment g.V.Store.left_since g.met.V.Store.counts_now c.args.standing.now c.args.logged c.args.rolled_back.now c.args.deleted.now c.args.regions.now c.args.store.now c.turn_image.new.store c.in-Some.end c.in-Some.is here)

pub returns-in-Err-restart_frame-clause-keeps : goal.returns-in-Err-restart_frame-clause-keeps
returns-in-Err-restart_frame-clause-keeps g c =
    if_some (g.V.Store.told c.args.store.now) (nothing_keeps g.V.Store.told g.V.Store.may_leave g.V.Store.moment g.V.Store.left_since g.met.V.Store.counts_now c.args.standing.now c.args.logged c.args.rolled_back.now c.args.deleted.now c.args.regions.now c.args.store.now c.args.store.now g.met.V.Store.only_now)

pub returns-in-Err-room_for-clause-keeps : goal.returns-in-Err-room_for-clause-keeps
returns-in-Err-room_for-clause-keeps g c =
    if_some (g.V.Store.told c.args.store.now) (nothing_keeps g.V.Store.told g.V.Store.may_leave g.V.Store.moment g.V.Store.left_since g.met.V.Store.counts_now c.args.standing.now c.args.logged c.args.rolled_back.now c.args.deleted.now c.args.regions.now c.args.store.now c.args.store.now g.met.V.Store.only_now)

pub returns-in-Ok-log_and_turn-clause-keeps : goal.returns-in-Ok-log_and_turn-clause-keeps
returns-in-Ok-log_and_turn-clause-keeps g c =
    let t0 = g.V.Store.told c.args.store.now in
    moved _ t0 t0 refl c.log_and_turn.ensures.keeps (λ here. keeps_unlogged g.V.Store.told g.V.Store.may_leave g.V.Store.moment g.V.Store.left_since g.met.V.Store.counts_now c.args.standing.now c.args.logged c.args.rolled_back.now c.args.deleted.now c.args.regions.now c.args.store.now c.log_and_turn.new.store c.in-Ok-restart_frame.frame.body c.in-None.is c.in-Ok-restart_frame.ensures.body here)

pub returns-clause-keeps : goal.returns-clause-keeps
returns-clause-keeps g c =
    let t0 = g.V.Store.told c.args.store.now in
    moved _ t0 t0 refl c.log_and_turn.ensures.keeps (λ here. keeps_unlogged g.V.Store.told g.V.Store.may_leave g.V.Store.moment g.V.Store.left_since g.met.V.Store.counts_now c.args.standing.now c.args.logged c.args.rolled_back.now c.args.deleted.now c.args.regions.now c.args.store.now c.log_and_turn.new.store c.in-Ok-restart_frame.frame.body c.in-None.is c.in-Ok-restart_frame.ensures.body here)
