use Rattle.std.proofs.Common.{◌≡◌, ◌++◌, take}
use Rattle.std.specs.Prelude.{flat_map}
use Rattle.dali_transcripts.specs.Clients.Told.{said_of}
use Rattle.dali_report.specs.Lines.{client_text}
use Rattle.dali_run.proofs.texts.put_transcript.Given as goal

abbrev pub invariant-loop-said : goal.invariant-loop-said
invariant-loop-said l = l.text.items ≡ l.fn.text.items ++ flat_map (λ s. client_text l.client (said_of s)) (take l.said-index l.said-items)
