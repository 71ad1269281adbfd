use Rattle.std.proofs.Common.{ap, refl}
use Rattle.dali_system.specs.Served.{Served}
use Rattle.dali_clean.proofs.Flags.{recovered_flags}
use Rattle.dali_calls.proofs.Flags.{flags_same}
use Rattle.dali_clean.proofs.Cleaning.{left_there, claimed}
use Rattle.dali_clean.proofs.Others.{claim_others, others_same, kept_in_state, kept_same}
use Rattle.dali_att.specs.declared.state.State.TheVariants.{Cleaning}
use Rattle.dali_clean.proofs.cleaner.claim.Goals as goal

pub recover-requires : goal.recover-requires
recover-requires c = record { there = left_there c.args.regions.now c.args.system.now.state c.args.txn c.in-Ok.latched c.requires c.in-Ok.ensures.ok.0 }

pub returns-in-Ok-clause-ok : goal.returns-in-Ok-clause-ok
returns-in-Ok-clause-ok c = claimed c.args.regions.now c.recover.new.regions c.args.system.now.state c.claim.new.self.state c.args.txn c.in-Ok.latched c.requires c.in-Ok.ensures.ok.0 (ap (λ (s : Served). s.state) c.in-Ok.ensures.ok.1) c.recover.ensures

pub returns-in-Ok-clause-others : goal.returns-in-Ok-clause-others
returns-in-Ok-clause-others c = claim_others c.args.regions.now c.recover.new.regions c.args.system.now.state c.claim.new.self.state c.args.txn c.in-Ok.latched (ap (λ (s : Served). s.state) c.in-Ok.ensures.ok.1) c.recover.ensures

pub returns-in-Ok-clause-kept : goal.returns-in-Ok-clause-kept
returns-in-Ok-clause-kept c = kept_in_state c.args.system.now c.claim.new.self c.args.txn (Cleaning c.in-Ok.latched) c.in-Ok.ensures.ok.1

pub returns-in-Err-clause-others : goal.returns-in-Err-clause-others
returns-in-Err-clause-others c = others_same c.args.regions.now c.args.regions.now c.args.system.now.state c.claim.new.self.state c.args.txn refl (ap (λ (s : Served). s.state) c.in-Err.ensures.err)

pub returns-in-Err-clause-kept : goal.returns-in-Err-clause-kept
returns-in-Err-clause-kept c = kept_same c.args.system.now c.claim.new.self c.in-Err.ensures.err

pub returns-in-Ok-clause-flags : goal.returns-in-Ok-clause-flags
returns-in-Ok-clause-flags c = recovered_flags c.args.regions.now c.recover.new.regions c.in-Ok.latched c.recover.ensures

pub returns-in-Err-clause-flags : goal.returns-in-Err-clause-flags
returns-in-Err-clause-flags c = flags_same c.args.regions.now
