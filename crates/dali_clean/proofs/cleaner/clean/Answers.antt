use Rattle.std.proofs.Common.{ap, None, ◌∙◌}
use Rattle.std.specs.FinMap.{remove}
use Rattle.dali_system.specs.Promised.{Promised}
use Rattle.dali_system.specs.Served.{Served}
use Rattle.dali_calls.proofs.Flags.{flags_further}
use Rattle.dali_calls.proofs.Others.{promises_same, promises_further}
use Rattle.dali_clean.proofs.Cleaning.{ends_so, given_back}
use Rattle.dali_clean.proofs.Others.{others_further, dead_others, kept_further, kept_in_state}
use Rattle.dali_att.specs.declared.state.State.TheVariants.{Dead}
use Rattle.dali_clean.proofs.cleaner.clean.Goals as goal

pub returns-in-Ok-finish-clause-ok : goal.returns-in-Ok-finish-clause-ok
returns-in-Ok-finish-clause-ok c = ends_so c.args.regions.now c.claim.new.regions c.finish.new.regions c.args.system.now.state c.claim.new.system.state c.finish.new.system.state c.args.txn c.in-Ok.ensures.ok.goes c.in-Ok-finish.ensures.ok

pub returns-in-Err-finish-clause-again : goal.returns-in-Err-finish-clause-again
returns-in-Err-finish-clause-again c not =
    given_back c.args.regions.now c.claim.new.regions c.finish.new.regions c.args.system.now.state c.claim.new.system.state c.finish.new.system.state c.mark_dead.new.self.state c.args.txn c.in-Ok.ensures.ok.goes c.in-Err-finish.ensures.goes c.in-Err-finish.ensures.is
    (ap (λ (s : Served). s.state) c.mark_dead.ensures)

pub returns-in-Ok-finish-clause-only : goal.returns-in-Ok-finish-clause-only
returns-in-Ok-finish-clause-only c = record {
  others = others_further c.args.regions.now c.claim.new.regions c.finish.new.regions c.args.system.now.state c.claim.new.system.state c.finish.new.system.state c.args.txn c.claim.ensures.others c.finish.ensures.only.others;
  promises = promises_further c.args.system.now c.claim.new.system c.finish.new.system c.args.txn (promises_same c.args.system.now c.claim.new.system c.args.txn c.claim.ensures.kept.promised) c.finish.ensures.only.promises;
  gone = c.in-Ok-finish.ensures.only.gone;
  released = c.in-Ok-finish.ensures.only.released ∙ ap (λ (m : Promised). remove m c.args.txn) c.claim.ensures.kept.promised;
  kept = tt;
  flags = flags_further c.args.regions.now c.claim.new.regions c.finish.new.regions c.claim.ensures.flags c.finish.ensures.only.flags;
}

pub returns-in-Err-finish-clause-only : goal.returns-in-Err-finish-clause-only
returns-in-Err-finish-clause-only c =
    let dead = kept_in_state c.finish.new.system c.mark_dead.new.self c.args.txn (Dead None) c.mark_dead.ensures in
    record {
      others = others_further c.args.regions.now c.finish.new.regions c.finish.new.regions c.args.system.now.state c.finish.new.system.state c.mark_dead.new.self.state c.args.txn
          (others_further c.args.regions.now c.claim.new.regions c.finish.new.regions c.args.system.now.state c.claim.new.system.state c.finish.new.system.state c.args.txn c.claim.ensures.others c.finish.ensures.only.others)
          (dead_others c.finish.new.regions c.finish.new.system.state c.mark_dead.new.self.state c.args.txn (ap (λ (s : Served). s.state) c.mark_dead.ensures));
      promises = promises_further c.args.system.now c.finish.new.system c.mark_dead.new.self c.args.txn
          (promises_further c.args.system.now c.claim.new.system c.finish.new.system c.args.txn (promises_same c.args.system.now c.claim.new.system c.args.txn c.claim.ensures.kept.promised) c.finish.ensures.only.promises)
          (promises_same c.finish.new.system c.mark_dead.new.self c.args.txn dead.promised);
      gone = tt;
      released = tt;
      kept = kept_further c.args.system.now c.finish.new.system c.mark_dead.new.self (kept_further c.args.system.now c.claim.new.system c.finish.new.system c.claim.ensures.kept c.in-Err-finish.ensures.only.kept) dead;
      flags = flags_further c.args.regions.now c.claim.new.regions c.finish.new.regions c.claim.ensures.flags c.finish.ensures.only.flags;
    }

pub returns-in-Err-clause-only : goal.returns-in-Err-clause-only
returns-in-Err-clause-only c = record {
  others = c.claim.ensures.others;
  promises = promises_same c.args.system.now c.claim.new.system c.args.txn c.claim.ensures.kept.promised;
  gone = tt;
  released = tt;
  kept = c.claim.ensures.kept;
  flags = c.claim.ensures.flags;
}
