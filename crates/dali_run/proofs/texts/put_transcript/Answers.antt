use Rattle.std.proofs.Common.{◌≡◌, ◌++◌, ℕ, take, subst}
use Rattle.std.specs.Prelude.{flat_map}
use Rattle.dali_transcripts.specs.Clients.Told.{said_of}
use Rattle.dali_report.specs.Lines.{client_text}
use Rattle.dali_run.proofs.RoundTexts.{client_told}
use Rattle.dali_run.proofs.texts.put_transcript.Goals as goal

pub returns-clause-added : goal.returns-clause-added
returns-clause-added c =
    let items = c.lines-said-items.result.now in
    client_told c.args.transcript.now items c.loop-said.said-index c.args.text.now.items c.loop-said.text.items c.lines-said-items.ensures c.loop-said-test.false
    (subst (λ (n : ℕ). c.loop-said.text.items ≡ c.args.text.now.items ++ flat_map (λ s. client_text n (said_of s)) (take c.loop-said.said-index items)) c.client-client.ensures c.loop-said.invariant)
