use Rattle.std.proofs.Common.{sym, subst}
use Rattle.std.specs.Prelude.{IsSomeAnd}
use Rattle.dali_runs.specs.State.{state_of}
use Rattle.dali_runs.specs.Regions.{IsOpen}
use Rattle.dali_calls.specs.TakingBack.{is_claimed}
use Rattle.dali_clean.specs.Cleanup.Cleaned.{Cleaned}
use Rattle.dali_clean.proofs.CleanupLemmas.Claims.{claimed_behind}
use Rattle.dali_clean.proofs.cleanup.cleaning.Cleaning.commit.Goals as goal

pub returns-in-Ok-clause-claimed : goal.returns-in-Ok-clause-claimed
returns-in-Ok-clause-claimed c =
    subst (λ (v : Cleaned). IsSomeAnd (state_of c.commit.new.system.state v.txn) is_claimed) c.self.view_is
    (claimed_behind c.self.inside.back.operation c.args.system.now c.commit.new.system c.self.inside.back.txn _ _
    (subst (λ (v : Cleaned). IsSomeAnd v.operation (λ o. IsOpen c.args.region.now o.txn o.block)) (sym c.self.view_is) c.requires.written)
    c.in-Ok.ensures.ok (subst (λ (v : Cleaned). IsSomeAnd (state_of c.args.system.now.state v.txn) is_claimed) (sym c.self.view_is) c.requires.claimed))
