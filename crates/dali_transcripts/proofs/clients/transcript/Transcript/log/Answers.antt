use Rattle.dali_transcripts.proofs.ClientsLemmas.Numbers.{one_more}
use Rattle.dali_transcripts.proofs.clients.transcript.Transcript.log.Goals as goal

pub loop-number-preserved : goal.loop-number-preserved
loop-number-preserved c =
    let i = c.loop-number.invariant in
    (one_more _ _ _ _ _ c.loop-number.auto.number i.0 c.in_ok-push.ensures.items, i.1, i.2)
