use Rattle.std.proofs.Common.{◌+◌, [], ◌∷◌, refl, sym}
use Rattle.dali_log.specs.Appending.{next_place}
use Rattle.dali_store.specs.declared.store.FileName.TheVariants.{Log}
use Rattle.dali_store.proofs.Moments.{if_some_both, moved}
use Rattle.dali_restart.proofs.RenewalLemmas.Kept.{append_keeps}
use Rattle.dali_restart.proofs.RenewalLemmas.Staged.{anchored_beside, append_stops, log_turns, not_log, ready_by}
use Rattle.dali_restart.proofs.RenewalLemmas.Turned.{keeps_logged_turn, stops_logged_turn}
use Rattle.dali_restart.proofs.renewal.renewing.log_and_turn.Goals as goal

pub returns-in_err-end-clause-stops : goal.returns-in_err-end-clause-stops
returns-in_err-end-clause-stops g c =
    let t0 = g.V.Store.told c.args.store.now in
    if_some_both _ t0 c.requires.closed (λ closed.
    moved _ t0 t0 refl c.append.ensures.any_moment (λ run.
    append_stops g.V.Store.told g.V.Store.may_leave g.V.Store.moment g.V.Store.left_since g.met.V.Store.counts_now c.args.standing.now c.args.frame.now.body c.args.regions.now c.args.store.now c.append.new.store c.append.new.store closed run))

pub turn_image-requires-clause-anchored : goal.turn_image-requires-clause-anchored
turn_image-requires-clause-anchored g c =
    let may = g.V.Store.may_leave in
    let s0 = c.args.store.now in
    let s1 = c.append.new.store in
    let t0 = g.V.Store.told s0 in
    moved _ t0 (g.V.Store.told s1) c.append.ensures.tells
    (if_some_both _ t0 c.requires.anchored (λ anchored. moved _ t0 t0 refl c.in_ok-end.ensures.acknowledged (λ added. anchored_beside (may s0) (may s1) Log c.args.standing.now.current not_log (λ d left. (added d left).others) anchored)))
    (λ a. a)

pub returns-in_err-turn_image-clause-stops : goal.returns-in_err-turn_image-clause-stops
returns-in_err-turn_image-clause-stops g c =
    stops_logged_turn g.V.Store.told g.V.Store.may_leave g.V.Store.moment g.V.Store.left_since g.met.V.Store.counts_now c.args.standing.now c.args.frame.now.body c.args.regions.now c.args.store.now c.append.new.store c.turn_image.new.store c.append.ensures.tells c.requires.closed c.append.ensures.any_moment c.in_ok-end.ensures.acknowledged c.turn_image.ensures.stops

pub returns-clause-turns : goal.returns-clause-turns
returns-clause-turns g c =
    let s0 = c.args.store.now in
    let s1 = c.append.new.store in
    let t0 = g.V.Store.told s0 in
    let t1 = g.V.Store.told s1 in
    if_some_both _ t0 c.requires.closed (λ closed.
    if_some_both _ t0 c.in_ok-end.ensures.acknowledged (λ added.
    moved _ t1 t0 (sym c.append.ensures.tells) c.in_ok-turn_image.ensures.turns (λ turns.
    log_turns g.V.Store.told g.V.Store.may_leave g.V.Store.moment g.V.Store.left_since g.met.V.Store.counts_now c.args.standing.now c.args.frame.now.body c.args.regions.now s0 s1 c.turn_image.new.store closed added turns)))

pub returns-clause-stops : goal.returns-clause-stops
returns-clause-stops g c =
    stops_logged_turn g.V.Store.told g.V.Store.may_leave g.V.Store.moment g.V.Store.left_since g.met.V.Store.counts_now c.args.standing.now c.args.frame.now.body c.args.regions.now c.args.store.now c.append.new.store c.turn_image.new.store c.append.ensures.tells c.requires.closed c.append.ensures.any_moment c.in_ok-end.ensures.acknowledged c.turn_image.ensures.stops

pub returns-clause-ready : goal.returns-clause-ready
returns-clause-ready g c =
    let may = g.V.Store.may_leave in
    let s1 = c.append.new.store in
    let t0 = g.V.Store.told c.args.store.now in
    let t1 = g.V.Store.told s1 in
    let p = c.args.standing.now in
    if_some_both _ t0 c.in_ok-end.ensures.acknowledged (λ added.
    if_some_both _ t0 (moved _ t1 t0 (sym c.append.ensures.tells) c.in_ok-turn_image.ensures.logs (λ l. l)) (λ logs.
    moved _ t1 t0 (sym c.append.ensures.tells) c.in_ok-turn_image.ensures.anchored
    (ready_by (may s1) (may c.turn_image.new.store) (next_place p.place (c.args.frame.now.body ∷ [])) (p.current + 1) (λ d left. (added d left).closed) logs)))

-- whatever the words of the image are
pub returns-in_err-end-clause-keeps : goal.returns-in_err-end-clause-keeps
returns-in_err-end-clause-keeps g c =
    let t0 = g.V.Store.told c.args.store.now in
    moved _ t0 t0 refl c.append.ensures.any_moment (λ run.
    append_keeps g.V.Store.told g.V.Store.may_leave g.V.Store.moment g.V.Store.left_since g.met.V.Store.counts_now c.args.standing.now c.args.frame.now.body c.args.regions.now c.args.store.now c.append.new.store c.append.new.store run)

pub returns-in_err-turn_image-clause-keeps : goal.returns-in_err-turn_image-clause-keeps
returns-in_err-turn_image-clause-keeps g c =
    keeps_logged_turn g.V.Store.told g.V.Store.may_leave g.V.Store.moment g.V.Store.left_since g.met.V.Store.counts_now c.args.standing.now c.args.frame.now.body c.args.regions.now c.args.store.now c.append.new.store c.turn_image.new.store c.append.ensures.tells c.append.ensures.any_moment c.in_ok-end.ensures.acknowledged c.turn_image.ensures.keeps

pub returns-clause-keeps : goal.returns-clause-keeps
returns-clause-keeps g c =
    keeps_logged_turn g.V.Store.told g.V.Store.may_leave g.V.Store.moment g.V.Store.left_since g.met.V.Store.counts_now c.args.standing.now c.args.frame.now.body c.args.regions.now c.args.store.now c.append.new.store c.turn_image.new.store c.append.ensures.tells c.append.ensures.any_moment c.in_ok-end.ensures.acknowledged c.turn_image.ensures.keeps
