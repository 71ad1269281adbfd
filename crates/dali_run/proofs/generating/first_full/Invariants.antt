use Rattle.std.proofs.Common.{◌≡◌, drop}
use Rattle.dali_run.specs.Generating.{first_full}
use Rattle.dali_run.proofs.generating.first_full.Given as goal

-- no client that was seen says so
abbrev pub invariant-loop-transcript : goal.invariant-loop-transcript
invariant-loop-transcript l = first_full l.transcripts ≡ first_full (drop l.transcript-index l.transcripts)
