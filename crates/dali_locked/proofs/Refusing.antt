-- What a client knows of its plan whose call is refused.
use Rattle.std.proofs.Common.{◌≡◌, not, ap, ◌∙◌}
use Rattle.std.specs.Prelude.{◌||◌}
use Rattle.dali_calls.specs.Steps.{is_fresh}
use Rattle.dali_calls.specs.Plans.{Planned, refused}
use Rattle.dali_calls.specs.Followed.{PlanIsRefused, is_amid}
use Rattle.dali_calls.proofs.Following.{refused_rests}
use Rattle.dali_concurrent.specs.Rules.{log_by}
use Rattle.dali_concurrent.specs.Told.{plain, core_told}
use Rattle.dali_locked.specs.Begun.{Begun, outset}
use Rattle.dali_locked.specs.Refusing.{PlanTurns, PlanRests}

plan_refused : PlanIsRefused
plan_refused s L p before f =
    let same : is_amid p ≡ is_amid (refused p) = ap (λ z. not (z || is_fresh p.stage)) before in record {
      working = f.working;
      at_work = f.at_work;
      before = f.before;
      undos = f.undos;
      rests = λ e. f.rests (same ∙ e);
      progress = λ e. f.progress (same ∙ e);
      mark = λ e. f.mark (same ∙ e);
      winds = λ e. f.winds (same ∙ e);
      onward = λ e calls. absurd (cc);
    }

module _ (b : Begun) where
  pub plan_turns : PlanTurns b
  plan_turns c p T before drives s q from =
      let w = drives s q from in
      let o = outset b s q in record {
        acts = w.acts;
        rest = record { sizes = w.rest.sizes; whole = w.rest.whole; lives = w.rest.lives; closed = w.rest.closed };
        at = record { follows = plan_refused (core_told o T).system.sizes (log_by o (plain T)) p before w.at.follows; holds = w.at.holds; free = w.at.free };
      }

  pub plan_rests : PlanRests b
  plan_rests c p T whole none drives s q from =
      let w = drives s q from in
      let o = outset b s q in
      let r = refused_rests (core_told o T).system.sizes (log_by o (plain T)) p whole w.at.follows none in record {
        acts = w.acts;
        may = record { working = r.0; at_work = r.1; level = r.2; free = w.at.free };
      }
