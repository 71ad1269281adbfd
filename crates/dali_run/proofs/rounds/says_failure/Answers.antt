use Rattle.std.proofs.Common.{◌≡◌, ◌∙◌, rules, tests}
use Rattle.std.specs.List.{list_any}
use Rattle.std.proofs.lemmas.Iterator.{YieldsList-from_slice}
use Rattle.std.proofs.lemmas.Iterator.Search.{any_from_yields_List}
use Rattle.dali_transcripts.specs.Clients.Told.{said_of}
use Rattle.dali_run.specs.Texts.{is_failure}
use Rattle.dali_run.proofs.RoundCalls.{any_said}
use Rattle.dali_run.proofs.rounds.says_failure.Goals as goal

pub returns : goal.returns
returns c =
    let one : c.any.result ≡ list_any (λ s. is_failure (said_of s)) c.args.transcript.now.lines =
    any_from_yields_List (λ s. is_failure (said_of s)) _ _ c.any.result c.any.ensures.ran (YieldsList-from_slice c.args.transcript.now.lines cc) (λ x b q k. search (rules, tests)) in
    one ∙ any_said c.args.transcript.now.lines
