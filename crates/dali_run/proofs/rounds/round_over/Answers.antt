use Rattle.std.proofs.Common.{◌≡◌, ◌∙◌, List, true, map, sym, ap, subst}
use Rattle.std.proofs.lemmas.Result.{IfOk-weaker}
use Rattle.dali_lists.proofs.Options.{on_err_any}
use Rattle.dali_transcripts.specs.declared.clients.command.Block.{Block}
use Rattle.dali_transcripts.specs.Clients.Said.{Transcribed}
use Rattle.dali_transcripts.specs.Clients.Told.{told_of}
use Rattle.dali_transcripts.specs.Transcripts.{Told}
use Rattle.dali_transcripts.specs.Rounds.{AreBlocks}
use Rattle.dali_run.specs.Steps.{Plays, RunsRound, TellAll}
use Rattle.dali_run.specs.Texts.{said_texts}
use Rattle.dali_run.specs.Told.{told_by}
use Rattle.dali_run.proofs.RoundCalls.{ok_holds, played_whole, runs_round}
use Rattle.dali_run.proofs.rounds.round_over.Goals as goal

pub play-core-requires : goal.play-core-requires
play-core-requires g c = record {
  placed = subst (λ (bs : List Block). AreBlocks (map told_of bs)) (sym c.deref.ensures.value) (subst AreBlocks (sym c.in-Ok.ensures) c.requires.placed);
  places = c.requires.places;
}

pub returns-in-Ok-transcripts-clause-runs : goal.returns-in-Ok-transcripts-clause-runs
returns-in-Ok-transcripts-clause-runs g c =
    let blocks = map told_by c.args.told.now in
    let ts = c.in-Ok-transcripts.transcripts.items in
    let same : map told_of c.deref.result.now ≡ blocks = ap (λ (bs : List Block). map told_of bs) c.deref.ensures.value ∙ c.in-Ok.ensures in
    let plays : Plays g.V.Store c.args.setting.now.precheck true blocks c.args.core ts c.play-core.result.0 =
    subst (λ (b : List Told). Plays g.V.Store c.args.setting.now.precheck true b c.args.core ts c.play-core.result.0) same
    (ok_holds _ c.play-core.result.1 c.in-Ok-transcripts.transcripts c.in-Ok-transcripts.is c.play-core.ensures.plays) in
    let tell : TellAll blocks ts =
    subst (λ (b : List Told). TellAll b ts) same (ok_holds _ c.play-core.result.1 c.in-Ok-transcripts.transcripts c.in-Ok-transcripts.is c.play-core.ensures.tell) in
    IfOk-weaker c.text_of_round-text.result (λ text. text.items ≡ said_texts c.deref-in-Ok-transcripts.result.now)
    (λ text. RunsRound g.V.Store c.args.setting.now.precheck blocks c.args.core text.items c.play-core.result.0)
    (λ text is. runs_round g.V.Store c.args.setting.now.precheck blocks c.args.core c.play-core.result.0 ts text.items plays tell
    c.play-core.ensures.longer c.play-core.ensures.any_moment c.play-core.ensures.places (is ∙ ap (λ (l : List Transcribed). said_texts l) c.deref-in-Ok-transcripts.ensures.value))
    c.text_of_round-text.ensures.text

pub returns-in-Ok-transcripts-clause-lost : goal.returns-in-Ok-transcripts-clause-lost
returns-in-Ok-transcripts-clause-lost g c =
    let blocks = map told_by c.args.told.now in
    let ts = c.in-Ok-transcripts.transcripts.items in
    let same : map told_of c.deref.result.now ≡ blocks = ap (λ (bs : List Block). map told_of bs) c.deref.ensures.value ∙ c.in-Ok.ensures in
    on_err_any c.text_of_round-text.result
    (played_whole g.V.Store c.args.setting.now.precheck blocks c.args.core c.play-core.result.0 ts
    (subst (λ (b : List Told). Plays g.V.Store c.args.setting.now.precheck true b c.args.core ts c.play-core.result.0) same
    (ok_holds _ c.play-core.result.1 c.in-Ok-transcripts.transcripts c.in-Ok-transcripts.is c.play-core.ensures.plays)) c.play-core.ensures.longer c.play-core.ensures.any_moment)
