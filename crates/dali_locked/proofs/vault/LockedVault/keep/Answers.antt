use Rattle.std.proofs.Common.{arith}
use Rattle.dali_locked.proofs.VaultTelling.{ends_small}
use Rattle.dali_locked.proofs.HeadKept.{number_small}
use Rattle.dali_locked.specs.Begun.{homed}
use Rattle.dali_locked.proofs.vault.LockedVault.keep.Goals as goal

pub returns-then-end-clause-err : goal.returns-then-end-clause-err
returns-then-end-clause-err g c s p here =
    let small = ends_small g.V.Store g.B.VaultBeginning.began (homed g.H.Home.table g.B.Beginning.begun) c.self.inside.vault c.self.inside.note.seen c.self.invariant.0.2 c.self.invariant.1 s p here in
    absurd (omega (arith, small, c.if-end.true, c.end.ensures))

pub returns-then-current-clause-err : goal.returns-then-current-clause-err
returns-then-current-clause-err g c s p here =
    let small = number_small g.V.Store g.B.VaultBeginning.began (homed g.H.Home.table g.B.Beginning.begun) c.self.inside.vault c.self.inside.note.seen c.self.invariant.0.2 c.self.invariant.1 s p here in
    absurd (omega (arith, small, c.if-current.true, c.current.ensures))
