use Rattle.dali_turns.proofs.steps.transactions.close.Goals as goal

pub returns-in-Ok-clause-stands : goal.returns-in-Ok-clause-stands
returns-in-Ok-clause-stands c = c.in-Ok.ensures.ok.stands

pub returns-in-Err-clause-stands : goal.returns-in-Err-clause-stands
returns-in-Err-clause-stands c = c.in-Err.ensures.err.stands
