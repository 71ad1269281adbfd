use Rattle.dali_redo.proofs.TaintLemmas.Tells.{judged_drop, judged_keep}
use Rattle.dali_redo.proofs.taint.taint.Taint.judge.Goals as goal
use Rattle.std.proofs.Common.{sym, ◌∙◌}

pub returns-then-leaves_out-clause-ok : goal.returns-then-leaves_out-clause-ok
returns-then-leaves_out-clause-ok c = judged_drop c.args.self.now c.leave_out.new.self c.args.number c.args.logged.now (sym c.leaves_out.ensures ∙ c.if-leaves_out.true) (c.in_ok-leave_out.ensures).ok

pub returns-clause-ok : goal.returns-clause-ok
returns-clause-ok c = judged_keep c.args.self.now c.keep.new.self c.args.number c.args.logged.now (sym c.leaves_out.ensures ∙ c.if-leaves_out.false) (c.in_ok-keep.ensures).ok
