use Rattle.std.proofs.Common.{◌∙◌, arith}
use Rattle.dali_run.proofs.RoundTexts.{none_yet, one_more, all_said}
use Rattle.dali_run.proofs.texts.text_of_round.Goals as goal

pub loop-number-init : goal.loop-number-init
loop-number-init c = c.new-text.ensures.items ∙ none_yet c.args.transcripts.now

pub loop-number-preserved : goal.loop-number-preserved
loop-number-preserved c =
    one_more c.args.transcripts.now c.loop-number.number c.loop-number.text.items c.put_client.new.text.items c.loop-number.invariant c.in_ok-put_client.ensures.added

pub returns-clause-text : goal.returns-clause-text
returns-clause-text c =
    all_said c.args.transcripts.now c.loop-number.number c.loop-number.text.items (omega (arith, c.loop-number-test.false, c.loop-number.auto.number-end)) c.loop-number.invariant
