use Rattle.dali_run.proofs.RoundTexts.{alone_told}
use Rattle.dali_run.proofs.texts.put_alone.Goals as goal

pub returns-clause-added : goal.returns-clause-added
returns-clause-added c =
    alone_told c.args.transcript.now c.lines-said-items.result.now c.loop-said.said-index c.args.text.now.items c.loop-said.text.items c.lines-said-items.ensures c.loop-said-test.false c.loop-said.invariant
