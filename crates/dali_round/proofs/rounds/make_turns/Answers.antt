use Rattle.std.proofs.Common.{◌≡◌, false, true, length, Ok, is_ok, ap, sym, ◌∙◌, arith}
use Rattle.std.proofs.lemmas.Option.{slice_get-get_or}
use Rattle.dali_turns.proofs.Commands.{err_false}
use Rattle.dali_round.proofs.Playing.{goes_on, goes_one, halts_one, goes_as}
use Rattle.dali_round.proofs.Keeping.{has_places, places_on, as_long, longer_on}
use Rattle.dali_round.proofs.Passing.{in_order, one_more_idle, all_idle}
use Rattle.dali_round.proofs.Moments.{ends_here, ends_on, ends_cut, ends_as, move_ends, move_cut}
use Rattle.dali_round.proofs.rounds.make_turns.Goals as goal
use Rattle.dali_round.proofs.rounds.make_turns.Goals.{then-went_on, else-went_on}

pub loop-place-init : goal.loop-place-init
loop-place-init g c = record { goes = λ s p bs f. f; places = c.requires.places; longer = as_long g.V.Store.told c.args.core.now.vault; moments = ends_here g.V.Store c.args.setting.now.precheck c.args.clients.now c.args.core.now.regions.items c.args.core.now.system.state c.args.core.now.vault (λ d past. g.met.V.Store.only_now c.args.core.now.vault.store d past); idle = λ e m i k below at_m at. absurd (omega (arith, below)) }

pub make_turn-requires : goal.make_turn-requires
make_turn-requires g c =
    has_places g.V.Store.told c.loop-place.clients c.loop-place.core.regions.items c.loop-place.core.vault _ _ (in_order c.args.order.now c.loop-place.place-index _ c.loop-place.clients c.args.clients.now c.requires.order c.loop-place-test.true c.loop-place.auto.clients) c.loop-place.invariant.places

pub loop-place-preserved : goal.loop-place-preserved
loop-place-preserved g c =
    record {
      goes = goes_on g.V.Store _ _ _ _ _ _ _ _ _ _ _ _ _ true c.loop-place.invariant.goes (goes_one g.V.Store _ _ _ _ _ _ _ _ _ _ _ (in_order c.args.order.now c.loop-place.place-index _ c.loop-place.clients c.args.clients.now c.requires.order c.loop-place-test.true c.loop-place.auto.clients) c.in_ok-moved.ensures.goes);
      places = places_on g.V.Store.told _ _ _ _ _ _ _ _ (in_order c.args.order.now c.loop-place.place-index _ c.loop-place.clients c.args.clients.now c.requires.order c.loop-place-test.true c.loop-place.auto.clients) c.in_ok-moved.ensures.places c.loop-place.invariant.places;
      longer = longer_on g.V.Store.told c.args.core.now.vault c.loop-place.core.vault c.make_turn.new.core.vault c.loop-place.invariant.longer c.in_ok-moved.ensures.places.longer;
      moments = ends_on g.V.Store c.args.setting.now.precheck _ _ _ _ _ _ _ _ _ _ _ _ c.loop-place.invariant.longer c.loop-place.invariant.moments (move_ends g.V.Store c.args.setting.now.precheck _ _ _ _ _ _ _ _ _ _ (in_order c.args.order.now c.loop-place.place-index _ c.loop-place.clients c.args.clients.now c.requires.order c.loop-place-test.true c.loop-place.auto.clients) (λ d past. g.met.V.Store.only_now c.loop-place.core.vault.store d past) c.in_ok-moved.ensures.goes c.in_ok-moved.ensures.any_moment);
      idle = elim c.if-went_on.branch [
        | then-went_on w ↦ λ e. let no : true ≡ false = sym w.if-went_on.true ∙ (sym w.went_on-is ∙ e) in absurd (cc)
        | else-went_on w ↦ λ e.
            let moved : c.in_ok-moved.moved ≡ false = sym w.went_on-is ∙ e in
            let put = c.make_turn.ensures.idle (c.in_ok-moved.was ∙ ap Ok moved) in
            one_more_idle _ _ _ c.args.order.now _ _ _ c.make_turn.new.client (ap (λ k. k.system.state) put.1) (slice_get-get_or c.args.order.now c.loop-place.place-index _ c.loop-place-test.true) put.0 (c.loop-place.invariant.idle w.if-went_on.false)
      ];
    }

pub returns-clause-turns : goal.returns-clause-turns
returns-clause-turns g c = record {
  goes = c.loop-place.invariant.goes;
  places = c.loop-place.invariant.places;
  longer = c.loop-place.invariant.longer;
  any_moment = c.loop-place.invariant.moments;
}

pub returns-in_err-moved-clause-turns : goal.returns-in_err-moved-clause-turns
returns-in_err-moved-clause-turns g c = record {
  goes =
      goes_as g.V.Store _ _ _ _ _ _ _ _ _ false (is_ok c.from_residual.result) (err_false c.from_residual.result c.from_residual.ensures.0)
      (goes_on g.V.Store _ _ _ _ _ _ _ _ _ _ _ _ _ false c.loop-place.invariant.goes (halts_one g.V.Store _ _ _ _ _ _ _ _ _ _ _ (in_order c.args.order.now c.loop-place.place-index _ c.loop-place.clients c.args.clients.now c.requires.order c.loop-place-test.true c.loop-place.auto.clients) c.in_err-moved.ensures.goes));
  places = places_on g.V.Store.told _ _ _ _ _ _ _ _ (in_order c.args.order.now c.loop-place.place-index _ c.loop-place.clients c.args.clients.now c.requires.order c.loop-place-test.true c.loop-place.auto.clients) c.in_err-moved.ensures.places c.loop-place.invariant.places;
  longer = longer_on g.V.Store.told c.args.core.now.vault c.loop-place.core.vault c.make_turn.new.core.vault c.loop-place.invariant.longer c.in_err-moved.ensures.places.longer;
  any_moment =
      ends_as g.V.Store c.args.setting.now.precheck _ _ _ _ _ _ _ _ false (is_ok c.from_residual.result) (err_false c.from_residual.result c.from_residual.ensures.0)
      (ends_cut g.V.Store c.args.setting.now.precheck _ _ _ _ _ _ _ _ _ _ _ _ c.loop-place.invariant.longer c.loop-place.invariant.moments (move_cut g.V.Store c.args.setting.now.precheck _ _ _ _ _ _ _ _ _ _ (in_order c.args.order.now c.loop-place.place-index _ c.loop-place.clients c.args.clients.now c.requires.order c.loop-place-test.true c.loop-place.auto.clients) c.in_err-moved.ensures.goes c.in_err-moved.ensures.any_moment));
}

pub returns-clause-idle : goal.returns-clause-idle
returns-clause-idle g c = λ e.
    let none : c.loop-place.went_on ≡ false = cc in
    all_idle c.loop-place.core.system.state c.loop-place.clients c.args.order.now c.loop-place.place-index (length c.args.clients.now) c.loop-place.auto.clients c.requires.order (omega (arith, c.loop-place-test.false)) (c.loop-place.invariant.idle none)
