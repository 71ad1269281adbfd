use Rattle.std.proofs.Common.{ap, refl, ◌∙◌}
use Rattle.dali_system.specs.Served.{Served}
use Rattle.dali_system.specs.Promised.{Promised}
use Rattle.std.specs.FinMap.{remove}
use Rattle.dali_calls.proofs.Others.{ended_gone, promises_same, promises_ended}
use Rattle.dali_clean.proofs.Others.{others_further, others_same, ended_others, kept_further, kept_same}
use Rattle.dali_clean.proofs.cleaner.finish.Goals as goal

pub returns-in-Ok-ended-clause-ok : goal.returns-in-Ok-ended-clause-ok
returns-in-Ok-ended-clause-ok c = record {
  mid = c.take_back.new.system.state;
  goes = c.take_back.ensures.goes;
  is = c.take_back.ensures.is;
  none = c.in-Ok.ensures.all;
  runs = c.in-Ok-ended.ensures.receipt.runs;
  system = ap (λ (s : Served). s.state) c.in-Ok-ended.ensures.ok;
}

pub returns-in-Ok-ended-clause-only : goal.returns-in-Ok-ended-clause-only
returns-in-Ok-ended-clause-only c = record {
  others = others_further c.args.regions.now c.take_back.new.regions c.take_back.new.regions c.args.system.now.state c.take_back.new.system.state c.ended.new.self.state c.args.txn c.take_back.ensures.others (ended_others c.take_back.new.regions c.take_back.new.system.state c.ended.new.self.state c.args.txn (ap (λ (s : Served). s.state) c.in-Ok-ended.ensures.ok));
  promises = promises_ended c.args.system.now c.ended.new.self c.args.txn (ap (λ (s : Served). s.promised) c.in-Ok-ended.ensures.ok ∙ ap (λ (m : Promised). remove m c.args.txn) c.take_back.ensures.kept.promised);
  gone = ended_gone c.take_back.new.system.state c.ended.new.self.state c.args.txn (ap (λ (s : Served). s.state) c.in-Ok-ended.ensures.ok);
  released = ap (λ (s : Served). s.promised) c.in-Ok-ended.ensures.ok ∙ ap (λ (m : Promised). remove m c.args.txn) c.take_back.ensures.kept.promised;
  kept = tt;
  flags = c.take_back.ensures.flags;
}

pub returns-in-Err-ended-clause-only : goal.returns-in-Err-ended-clause-only
returns-in-Err-ended-clause-only c = record {
  others = others_further c.args.regions.now c.take_back.new.regions c.take_back.new.regions c.args.system.now.state c.take_back.new.system.state c.ended.new.self.state c.args.txn c.take_back.ensures.others (others_same c.take_back.new.regions c.take_back.new.regions c.take_back.new.system.state c.ended.new.self.state c.args.txn refl (ap (λ (s : Served). s.state) c.in-Err-ended.ensures.receipt.err));
  promises = promises_same c.args.system.now c.ended.new.self c.args.txn (ap (λ (s : Served). s.promised) c.in-Err-ended.ensures.receipt.err ∙ c.take_back.ensures.kept.promised);
  gone = tt;
  released = tt;
  kept = kept_further c.args.system.now c.take_back.new.system c.ended.new.self c.take_back.ensures.kept (kept_same c.take_back.new.system c.ended.new.self c.in-Err-ended.ensures.receipt.err);
  flags = c.take_back.ensures.flags;
}

pub returns-in-Err-clause-only : goal.returns-in-Err-clause-only
returns-in-Err-clause-only c = record {
  others = c.take_back.ensures.others;
  promises = promises_same c.args.system.now c.take_back.new.system c.args.txn c.take_back.ensures.kept.promised;
  gone = tt;
  released = tt;
  kept = c.take_back.ensures.kept;
  flags = c.take_back.ensures.flags;
}
