use Rattle.std.proofs.Common.{rules, ℕ, ◌+◌, ◌-◌, List, refl, sym, subst, ap, ◌∙◌, arith, length, get_or, bit_and}
use Rattle.dali_region.specs.State.{updated}
use Rattle.dali_system.specs.UnderWay.{IsUnderWay}
use Rattle.dali_system.proofs.UnderWays.{lowest, has_read, one_more, goes_on, is_done, some_left}
use Rattle.dali_system.proofs.operation.Operation.update.Goals as goal

pub returns-then-self-eq0-clause-none : goal.returns-then-self-eq0-clause-none
returns-then-self-eq0-clause-none c e =
    (refl, refl, is_done c.args.self.now.txn c.args.self.now.block c.args.self.now.left c.args.self.now.taken c.args.region.now c.requires c.if-self-eq0.true)

pub bounds-as_slice-self : goal.bounds-as_slice-self
bounds-as_slice-self c =
    let more = one_more c.args.self.now.txn c.args.self.now.block c.args.self.now.left c.args.self.now.taken c.args.region.now c.requires (some_left c.args.self.now.left c.if-self-eq0.false) in
    omega (arith, more, ap length c.as_slice.ensures.words)

pub update-requires : goal.update-requires
update-requires c = has_read c.args.self.now.txn c.args.self.now.block c.args.self.now.left c.args.self.now.taken c.args.region.now c.requires (some_left c.args.self.now.left c.if-self-eq0.false)

pub returns-clause-under_way : goal.returns-clause-under_way
returns-clause-under_way c =
    let now = c.update.ensures.after ∙ ap (λ (vs : List ℕ). updated (lowest c.args.self.now.left) (get_or vs c.args.self.now.taken 0) c.args.region.now) c.as_slice.ensures.words in
    subst (IsUnderWay c.args.self.now.txn c.args.self.now.block (bit_and c.args.self.now.left (c.args.self.now.left - 1)) (c.args.self.now.taken + 1)) (sym now)
    (goes_on c.args.self.now.txn c.args.self.now.block c.args.self.now.left c.args.self.now.taken c.args.region.now c.requires (some_left c.args.self.now.left c.if-self-eq0.false))

pub returns-clause-step : goal.returns-clause-step
returns-clause-step c e = (refl, (lowest c.args.self.now.left, get_or c.as_slice.result.now c.args.self.now.taken 0, (has_read c.args.self.now.txn c.args.self.now.block c.args.self.now.left c.args.self.now.taken c.args.region.now c.requires (some_left c.args.self.now.left c.if-self-eq0.false), search rules), c.update.ensures.after))

pub returns-clause-fewer : goal.returns-clause-fewer
returns-clause-fewer c e =
    let more = one_more c.args.self.now.txn c.args.self.now.block c.args.self.now.left c.args.self.now.taken c.args.region.now c.requires (some_left c.args.self.now.left c.if-self-eq0.false) in
    omega (arith, more)
