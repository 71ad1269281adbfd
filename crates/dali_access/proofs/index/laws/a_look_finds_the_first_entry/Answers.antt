use Rattle.dali_access.proofs.IndexLemmas.EntryLaws.{look_finds_first}
use Rattle.dali_access.proofs.index.laws.a_look_finds_the_first_entry.Goals as goal

pub returns : goal.returns
returns c = look_finds_first
