use Rattle.std.proofs.Common.{refl}
use Rattle.std.proofs.lemmas.Result.{on_ok_weaker}
use Rattle.dali_calls.proofs.Flags.{flags_same}
use Rattle.dali_calls.proofs.Others.{promises_same}
use Rattle.dali_clean.specs.Cleaned.{Ends}
use Rattle.dali_clean.proofs.Others.{others_same, kept_same}
use Rattle.dali_core.specs.Cleaned.{EndsAt}
use Rattle.dali_core.proofs.CleanedUp.{ends_at, err_left}
use Rattle.dali_core.proofs.cleaning.clean_up.Goals as goal

pub returns-clause-goes : goal.returns-clause-goes
returns-clause-goes g c =
    on_ok_weaker {P = Ends c.args.regions.now c.args.system.now.state c.args.txn c.clean.new.regions c.clean.new.system.state}
    {Q = EndsAt g.V.Store c.args.regions.now c.args.system.now.state c.args.beside.now c.args.txn c.clean.new.regions c.clean.new.system.state}
    c.clean.result (ends_at g.V.Store c.args.regions.now c.clean.new.regions c.args.system.now.state c.clean.new.system.state c.args.beside.now c.args.txn) c.clean.ensures.ok

pub returns-clause-left : goal.returns-clause-left
returns-clause-left g c =
    λ may. err_left g.V.Store c.clean.result c.args.regions.now c.clean.new.regions c.args.system.now.state c.clean.new.system.state c.args.beside.now c.args.txn _ c.clean.ensures.again

pub returns-in-Some-clause-only : goal.returns-in-Some-clause-only
returns-in-Some-clause-only g c = record {
  others = others_same c.args.regions.now c.args.regions.now c.args.system.now.state c.args.system.now.state c.args.txn refl refl;
  promises = promises_same c.args.system.now c.args.system.now c.args.txn refl;
  gone = tt;
  released = tt;
  kept = kept_same c.args.system.now c.args.system.now refl;
  flags = flags_same c.args.regions.now;
}
