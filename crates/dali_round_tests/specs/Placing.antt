-- Which blocks a round may run.
--     Leads within act behind      the act may stand there, in a transaction or outside of one, and behind it a transaction is open or not
--     IsBlock b                a block that a round may run
--     Ascend from blocks           their numbers ascend from there up to 64, and each act may stand where it does
use Rattle.std.specs.Prelude.{ℕ, ◌<◌, ◌≤◌, Bool, false, List, [], ◌∷◌}
use Rattle.dali_transcripts.specs.Words.{Act}
use Rattle.dali_transcripts.specs.Transcripts.{Told}
use Rattle.dali_transcripts.specs.Rounds.{IsPlaced}

abbrev pub Leads : Bool → Act → Bool → Type 0
Leads within act behind = (acts : List Act) → IsPlaced behind acts → IsPlaced within (act ∷ acts)

abbrev pub IsBlock : Told → Type 0
IsBlock b = (1 ≤ b.client) × (b.client ≤ 64) × IsPlaced false b.acts

abbrev pub Ascend : ℕ → List Told → Type 0
Ascend from [] = Unit {0}
Ascend from (b ∷ bs) = (from < b.client) × (b.client ≤ 64) × IsPlaced false b.acts × Ascend b.client bs
