use Rattle.std.proofs.Common.{◌≡◌, true, false, true≢false, is_ok, Ok, refl, ap, sym, subst, ◌∙◌}
use Rattle.std.proofs.lemmas.Result.{IfOk-at_ok}
use Rattle.dali_turns.proofs.Commands.{err_false}
use Rattle.dali_round.specs.Idle.{IsOrder}
use Rattle.dali_round.proofs.GoingOn.{idle_are_over}
use Rattle.dali_round.proofs.Keeping.{as_long, longer_on}
use Rattle.dali_round.proofs.Playing.{goes_on, goes_cut, goes_as}
use Rattle.dali_round.proofs.Moments.{ends_here, ends_on, ends_cut, ends_short, ends_as}
use Rattle.dali_round.proofs.rounds.run.Goals as goal

pub loop-init : goal.loop-init
loop-init g c = record { goes = λ s p bs f. f; places = c.requires.places; longer = as_long g.V.Store.told c.args.core.now.vault; size = refl; moments = ends_here g.V.Store c.args.setting.now.precheck c.args.clients.now c.args.core.now.regions.items c.args.core.now.system.state c.args.core.now.vault (λ d past. g.met.V.Store.only_now c.args.core.now.vault.store d past) }

pub make_turns-requires : goal.make_turns-requires
make_turns-requires g c = record { places = c.loop.invariant.places; order = subst (IsOrder c.args.order.now) (sym c.loop.invariant.size) c.requires.order }

pub loop-preserved : goal.loop-preserved
loop-preserved g c = record {
  goes = goes_on g.V.Store _ _ _ _ _ _ _ _ _ _ _ _ _ true c.loop.invariant.goes c.in_ok-make_turns.ensures.turns.goes;
  places = c.in_ok-make_turns.ensures.turns.places;
  longer = longer_on g.V.Store.told c.args.core.now.vault c.loop.core.vault c.make_turns.new.core.vault c.loop.invariant.longer c.in_ok-make_turns.ensures.turns.longer;
  size = c.make_turns.auto.clients ∙ c.loop.invariant.size;
  moments = ends_on g.V.Store c.args.setting.now.precheck _ _ _ _ _ _ _ _ _ _ _ _ c.loop.invariant.longer c.loop.invariant.moments c.in_ok-make_turns.ensures.turns.any_moment;
}

pub returns-in_err-make_turns-clause-turns : goal.returns-in_err-make_turns-clause-turns
returns-in_err-make_turns-clause-turns g c = record {
  goes =
      goes_as g.V.Store _ _ _ _ _ _ _ _ _ false (is_ok c.from_residual.result) (err_false c.from_residual.result c.from_residual.ensures.0)
      (goes_on g.V.Store _ _ _ _ _ _ _ _ _ _ _ _ _ false c.loop.invariant.goes c.in_err-make_turns.ensures.turns.goes);
  places = c.in_err-make_turns.ensures.turns.places;
  longer = longer_on g.V.Store.told c.args.core.now.vault c.loop.core.vault c.make_turns.new.core.vault c.loop.invariant.longer c.in_err-make_turns.ensures.turns.longer;
  any_moment =
      ends_as g.V.Store c.args.setting.now.precheck _ _ _ _ _ _ _ _ false (is_ok c.from_residual.result) (err_false c.from_residual.result c.from_residual.ensures.0)
      (ends_cut g.V.Store c.args.setting.now.precheck _ _ c.make_turns.new.clients _ _ _ _ _ _ _ _ _ c.loop.invariant.longer c.loop.invariant.moments c.in_err-make_turns.ensures.turns.any_moment);
}

pub returns-clause-turns : goal.returns-clause-turns
returns-clause-turns g c = record {
  goes = goes_cut g.V.Store _ _ _ _ _ _ _ _ _ c.loop.invariant.goes;
  places = c.loop.invariant.places;
  longer = c.loop.invariant.longer;
  any_moment = ends_short g.V.Store c.args.setting.now.precheck _ _ _ _ _ _ _ _ c.loop.invariant.moments;
}

pub returns-then-not-branch-clause-turns : goal.returns-then-not-branch-clause-turns
returns-then-not-branch-clause-turns g c = record {
  goes = goes_on g.V.Store _ _ _ _ _ _ _ _ _ _ _ _ _ true c.loop.invariant.goes c.in_ok-make_turns.ensures.turns.goes;
  places = c.in_ok-make_turns.ensures.turns.places;
  longer = longer_on g.V.Store.told c.args.core.now.vault c.loop.core.vault c.make_turns.new.core.vault c.loop.invariant.longer c.in_ok-make_turns.ensures.turns.longer;
  any_moment = ends_on g.V.Store c.args.setting.now.precheck _ _ _ _ _ _ _ _ _ _ _ _ c.loop.invariant.longer c.loop.invariant.moments c.in_ok-make_turns.ensures.turns.any_moment;
}

pub returns-then-not-branch-clause-stuck : goal.returns-then-not-branch-clause-stuck
returns-then-not-branch-clause-stuck g c = λ e s p bs f.
    let played = goes_on g.V.Store _ _ _ _ _ _ _ _ _ _ _ _ _ true c.loop.invariant.goes c.in_ok-make_turns.ensures.turns.goes s p bs f in
    let over = c.are_over.ensures.always (idle_are_over g.V.Store c.args.setting.now.precheck s p bs _ _ _ _ played (c.make_turns.ensures.idle (c.in_ok-make_turns.was ∙ ap Ok c.if-not-branch.true))) in
    absurd (true≢false (sym over ∙ sym (IfOk-at_ok (λ b. b ≡ c.are_over.result) e refl)))
