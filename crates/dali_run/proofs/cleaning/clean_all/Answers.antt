use Rattle.std.proofs.Common.{◌∙◌, refl}
use Rattle.dali_run.proofs.Cleaned.{cleans_on}
use Rattle.dali_run.proofs.cleaning.clean_all.Goals as goal
use Rattle.dali_calls.proofs.Flags.{flags_same, flags_further}

pub loop-txn-init : goal.loop-txn-init
loop-txn-init g c = record { cleans = refl; vault = refl; flags = flags_same c.args.core.now.regions.items }

pub loop-txn-preserved : goal.loop-txn-preserved
loop-txn-preserved g c = record {
  cleans =
      cleans_on g.V.Store c.args.dead.now c.loop-txn.txn-index 0 c.args.core.now c.loop-txn.core c.clean_up.new.core c.loop-txn-test.true
      c.loop-txn.invariant.cleans c.in_ok-clean_up.ensures.cleans;
  vault = c.clean_up.ensures.vault ∙ c.loop-txn.invariant.vault;
  flags = flags_further c.args.core.now.regions.items c.loop-txn.core.regions.items c.clean_up.new.core.regions.items c.loop-txn.invariant.flags c.clean_up.ensures.flags;
}

pub returns-in_err-clean_up-clause-flags : goal.returns-in_err-clean_up-clause-flags
returns-in_err-clean_up-clause-flags g c =
    flags_further c.args.core.now.regions.items c.loop-txn.core.regions.items c.clean_up.new.core.regions.items c.loop-txn.invariant.flags c.clean_up.ensures.flags
