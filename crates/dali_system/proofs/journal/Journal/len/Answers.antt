use Rattle.std.proofs.Common.{subst}
use Rattle.dali_system.specs.Journaled.{IsSmall}
use Rattle.dali_system.proofs.Journals.{small_of}
use Rattle.dali_system.proofs.journal.Journal.len.Goals as goal

pub returns-clause-small : goal.returns-clause-small
returns-clause-small c = subst IsSmall c.self.view_is (small_of _ _ _ _ _ c.self.inside.promises c.self.invariant.0)
