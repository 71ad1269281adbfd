use Rattle.std.proofs.Common.{sym, ap, ◌∙◌}
use Rattle.dali_system.specs.Promised.{of_entries, total}
use Rattle.dali_system.proofs.Totals.{total_none}
use Rattle.dali_system.proofs.promises.Promises.new.Goals as goal

pub invariant_of-result : goal.invariant_of-result
invariant_of-result c = sym (ap (λ es. total (of_entries es)) c.new.ensures.empty ∙ total_none)
