use Rattle.dali_transcripts.proofs.Matches.{cut_lines_are_records}
use Rattle.dali_transcripts.proofs.laws.the_lines_of_a_cut_client_are_those_of_its_first_records.Goals as goal

pub returns : goal.returns
returns c = cut_lines_are_records
