use Rattle.dali_locked.proofs.VaultTelling.{vault_note_on, may_flush, wrote_frame, wrote_all}
use Rattle.dali_locked.specs.Begun.{homed}
use Rattle.dali_locked.proofs.vault.tell_flush.Goals as goal

pub add-requires-clause-may : goal.add-requires-clause-may
add-requires-clause-may g c κs within =
    may_flush g.V.Store g.B.VaultBeginning.began (homed g.H.Home.table g.B.Beginning.begun) c.args.note.now c.requires.written.0 c.requires.written.1 c.args.vault.now c.requires.home.1 c.requires.written.2

pub returns-clause-home : goal.returns-clause-home
returns-clause-home g c = vault_note_on (homed g.H.Home.table g.B.Beginning.begun) c.args.note.now c.add.new.note c.requires.home.1 c.add.ensures.table c.add.ensures.number c.add.ensures.all

pub returns-clause-told : goal.returns-clause-told
returns-clause-told g c =
    wrote_frame g.V.Store g.B.VaultBeginning.began (homed g.H.Home.table g.B.Beginning.begun) c.args.note.now c.requires.written.0 c.requires.written.1 c.args.vault.now c.add.new.note.seen c.requires.home.1 c.requires.written.2
    c.add.ensures.added c.add.ensures.all

pub returns-clause-all : goal.returns-clause-all
returns-clause-all g c =
    wrote_all g.V.Store g.B.VaultBeginning.began (homed g.H.Home.table g.B.Beginning.begun) c.args.note.now c.requires.written.0 c.requires.written.1 c.args.vault.now c.add.new.note.seen c.requires.home.1 c.requires.written.2
    c.add.ensures.added c.add.ensures.all
