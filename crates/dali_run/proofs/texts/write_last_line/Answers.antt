use Rattle.dali_run.proofs.texts.write_last_line.Goals as goal

pub returns-in-BadWords-clause-some : goal.returns-in-BadWords-clause-some
returns-in-BadWords-clause-some g c = rw (c.in-BadWords.is) (c.write_all.ensures.some)

pub returns-in-ReadFault-clause-all : goal.returns-in-ReadFault-clause-all
returns-in-ReadFault-clause-all g c = rw (c.in-ReadFault.is) (c.write_all-in-ReadFault.ensures.all)

pub returns-in-ReadFault-clause-some : goal.returns-in-ReadFault-clause-some
returns-in-ReadFault-clause-some g c = rw (c.in-ReadFault.is) (c.write_all-in-ReadFault.ensures.some)

pub returns-in-Unformatted-clause-all : goal.returns-in-Unformatted-clause-all
returns-in-Unformatted-clause-all g c = rw (c.in-Unformatted.is) (c.write_all-in-Unformatted.ensures.all)

pub returns-in-Unformatted-clause-some : goal.returns-in-Unformatted-clause-some
returns-in-Unformatted-clause-some g c = rw (c.in-Unformatted.is) (c.write_all-in-Unformatted.ensures.some)

pub returns-in-NotLoaded-clause-some : goal.returns-in-NotLoaded-clause-some
returns-in-NotLoaded-clause-some g c = rw (c.in-NotLoaded.is) (c.write_all-in-NotLoaded.ensures.some)
