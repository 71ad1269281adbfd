use Rattle.std.proofs.Common.{refl, subst, false}
use Rattle.dali_calls.specs.Plans.{Planned}
use Rattle.dali_calls.specs.Single.Advanced.{Advanced, Halts}
use Rattle.dali_calls.proofs.single.call.give_up.Goals as goal

pub returns-in-Ok-clause-given_up : goal.returns-in-Ok-clause-given_up
returns-in-Ok-clause-given_up c = (refl, c.advance.new.plan, c.advance.ensures.whole, subst (λ (p : Planned). Advanced false c.args.regions.now c.args.system.now.state p c.advance.new.regions c.advance.new.system.state c.advance.new.plan) c.refuse.ensures c.advance.ensures.goes, c.in-Ok.ensures.ends)

pub returns-in-Err-clause-given_up : goal.returns-in-Err-clause-given_up
returns-in-Err-clause-given_up c = (c.advance.new.plan, subst (λ (p : Planned). Halts false c.args.regions.now c.args.system.now.state p c.advance.new.regions c.advance.new.system.state c.advance.new.plan c.in-Err.cause) c.refuse.ensures c.in-Err.ensures.cause)
