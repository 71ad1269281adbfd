use Rattle.std.proofs.Common.{◌≡◌, drop, map}
use Rattle.dali_transcripts.specs.Clients.Told.{said_of}
use Rattle.dali_run.specs.Generating.{full_among}
use Rattle.dali_run.proofs.generating.full_among.Given as goal

-- no line that was seen says so
abbrev pub invariant-loop-said : goal.invariant-loop-said
invariant-loop-said l = full_among (map said_of l.lines) ≡ full_among (map said_of (drop l.said-index l.lines))
