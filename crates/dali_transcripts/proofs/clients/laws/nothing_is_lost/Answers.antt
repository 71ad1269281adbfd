use Rattle.dali_transcripts.proofs.ClientsLemmas.Inverses.{each_is_told}
use Rattle.dali_transcripts.proofs.clients.laws.nothing_is_lost.Goals as goal

pub returns : goal.returns
returns c = record { told = each_is_told }
