use Rattle.std.proofs.Common.{◌≡◌, take}
use Rattle.std.specs.Prelude.{flat_map}
use Rattle.dali_run.specs.Texts.{alone_texts}
use Rattle.dali_run.proofs.texts.text_alone.Given as goal

abbrev pub invariant-loop-transcript : goal.invariant-loop-transcript
invariant-loop-transcript l = l.text.items ≡ flat_map alone_texts (take l.transcript-index l.transcripts)
