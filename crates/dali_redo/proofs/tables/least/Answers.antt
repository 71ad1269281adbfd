use Rattle.std.proofs.Common.{◌≡◌, subst}
use Rattle.std.specs.Prelude.{IfNone}
use Rattle.std.specs.FinMap.{empty}
use Rattle.dali_redo.proofs.Copies.{least_one, least_other}
use Rattle.dali_redo.proofs.tables.least.Goals as goal

pub returns-in-Some-None-clause-least : goal.returns-in-Some-None-clause-least
returns-in-Some-None-clause-least c = least_one c.args.one.now c.args.other.now c.in-Some-None.a c.in-Some-None.ensures.least c.in-Some-None.ensures'.none

pub returns-in-None-Some-clause-least : goal.returns-in-None-Some-clause-least
returns-in-None-Some-clause-least c =
    let none : c.args.one.now ≡ empty = subst (λ o. IfNone o (c.args.one.now ≡ empty)) c.in-None-Some.is-0 c.first.ensures.none in
    least_other c.args.one.now c.args.other.now c.in-None-Some.b none c.in-None-Some.ensures.least
