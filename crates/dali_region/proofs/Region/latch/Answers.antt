use Rattle.std.proofs.Common.{ap, sym}
use Rattle.dali_region.specs.State.{latched, restored, written}
use Rattle.dali_region.specs.Fields.{state_of}
use Rattle.dali_region.proofs.Holds.{latched_keeps, with_back}
use Rattle.dali_region.proofs.Region.latch.Goals as goal

pub invariant_of-self : goal.invariant_of-self
invariant_of-self c = with_back (latched c.args.txn (state_of c.self.inside)) _ (ap (λ o. restored (written o) c.self.inside.olds c.self.inside.words) (sym c.in_default.is)) (latched_keeps (state_of c.self.inside) c.args.txn c.self.invariant c.in_default.is)

pub returns-clause-protected : goal.returns-clause-protected
returns-clause-protected c = invariant_of-self c
