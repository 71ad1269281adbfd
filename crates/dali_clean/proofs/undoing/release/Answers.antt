use Rattle.std.proofs.Common.{ap}
use Rattle.dali_system.specs.Served.{Served}
use Rattle.dali_clean.proofs.Cleaning.{may_die}
use Rattle.dali_clean.proofs.undoing.release.Goals as goal

pub mark_dead-requires : goal.mark_dead-requires
mark_dead-requires c = record { moves = may_die c.args.system.now.state c.claim.new.self.state c.in-Some.hold.txn c.in-Ok.field-0 c.in-Ok.ensures.ok.0 (ap (λ (s : Served). s.state) c.in-Ok.ensures.ok.1) }
