use Rattle.dali_system.proofs.journal.Journal.push_solo.Goals as goal

pub returns-clause-promised : goal.returns-clause-promised
returns-clause-promised c fits has = c.add.ensures.enough (fits, has)
