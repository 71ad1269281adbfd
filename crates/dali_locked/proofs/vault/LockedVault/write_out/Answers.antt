use Rattle.std.proofs.Common.{sym, subst, arith}
use Rattle.dali_notes.specs.History.{Sight}
use Rattle.dali_concurrent.specs.Told.{Item}
use Rattle.dali_locked.proofs.VaultTelling.{HasFaultIn, ends_small}
use Rattle.dali_locked.specs.Begun.{homed}
use Rattle.dali_locked.proofs.vault.LockedVault.write_out.Goals as goal

pub returns-then-end-clause-err : goal.returns-then-end-clause-err
returns-then-end-clause-err g c s p here =
    let small = ends_small g.V.Store g.B.VaultBeginning.began (homed g.H.Home.table g.B.Beginning.begun) c.self.inside.vault c.self.inside.note.seen c.self.invariant.0.2 c.self.invariant.1 s p here in
    absurd (omega (arith, small, c.if-end.true, c.end.ensures))

pub fail-requires-clause-fault : goal.fail-requires-clause-fault
fail-requires-clause-fault g c κs within = (
  c.in-Ok.frame,
  c.self.inside.vault,
  subst (λ (n : Sight Item). HasFaultIn g.V.Store g.B.VaultBeginning.began (homed g.H.Home.table g.B.Beginning.begun) c.in-Ok.frame c.self.inside.vault c.flush_frame.new.vault n.seen) (sym c.in-Err-flush_frame.ensures.err.1)
      c.in-Err-flush_frame.ensures.fault,
)
