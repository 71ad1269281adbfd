use Rattle.std.proofs.Common.{ap, ◌∙◌}
use Rattle.dali_system.specs.Served.{Served}
use Rattle.dali_calls.specs.Plans.{Planned}
use Rattle.dali_calls.proofs.SingleLemmas.Reaching.{answers_next}
use Rattle.dali_calls.proofs.SingleLemmas.Causes.{done_halts}
use Rattle.dali_calls.proofs.single.call.finish.Goals as goal

pub returns-in-Ok-done-clause-ok : goal.returns-in-Ok-done-clause-ok
returns-in-Ok-done-clause-ok c = record {
  plan = c.advance.new.plan;
  system = c.advance.new.system.state;
  advanced = c.in-Ok.ensures.goes;
  whole = c.advance.ensures.whole;
  wants = answers_next c.advance.new.plan (ap (λ (p : Planned). p.phase) c.advance.ensures.goes.same ∙ c.requires.calling) c.in-Ok.ensures.ends;
  given = c.in-Ok-done.ensures.ok.0;
  room = c.in-Ok-done.ensures.room;
  logged = ap (λ (s : Served). s.state) c.in-Ok-done.ensures.ok.1;
}

pub returns-in-Err-done-clause-cause : goal.returns-in-Err-done-clause-cause
returns-in-Err-done-clause-cause c = done_halts c.args.precheck c.args.regions.now c.advance.new.regions c.args.system.now.state c.advance.new.system.state c.done.new.system.state c.args.plan.now c.advance.new.plan c.done.new.self c.in-Err-done.cause c.advance.ensures.goes c.advance.ensures.whole (ap (λ (p : Planned). p.phase) c.advance.ensures.goes.same ∙ c.requires.calling) c.in-Ok.ensures.ends (ap (λ (s : Served). s.state) c.in-Err-done.ensures.err.0) c.in-Err-done.ensures.err.1 c.in-Err-done.ensures.refused c.in-Err-done.ensures.memory
