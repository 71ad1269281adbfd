use Rattle.std.proofs.Common.{◌≡◌, ◌<◌, ◌∙◌, true, false, List, refl, sym, ap, subst, inl, inr}
use Rattle.std.specs.Prelude.{flat_map}
use Rattle.std.specs.List.{list_any}
use Rattle.std.proofs.lemmas.Result.{IfOk-weaker}
use Rattle.dali_transcripts.specs.Clients.Said.{Transcribed}
use Rattle.dali_transcripts.specs.Clients.Told.{act_of}
use Rattle.dali_fuse.specs.Fuse.{failed_of}
use Rattle.dali_transcripts.specs.Transcripts.{Told}
use Rattle.dali_transcripts.specs.Rounds.{AreBlocks}
use Rattle.dali_run.specs.Fails.{AloneEnds, Played}
use Rattle.dali_run.specs.Steps.{ActsAlone, Plays}
use Rattle.dali_run.specs.Texts.{alone_texts, says_failure}
use Rattle.dali_run.specs.Told.{alone}
use Rattle.dali_run.proofs.RoundCalls.{acts_alone, fails_alone, if_memory, less_so, most_so, ok_holds, on_err_holds, played_whole}
use Rattle.dali_run.proofs.rounds.alone_over.Goals.{else-say_failure-via-then-say_failure+else-failed, else-say_failure-via-else-say_failure}
use Rattle.dali_run.proofs.rounds.alone_over.Goals as goal
use Rattle.dali_run.proofs.Courses.{err_of}

pub play-core-requires : goal.play-core-requires
play-core-requires g c = record {
  placed = subst AreBlocks (sym c.in-Ok.ensures) c.requires.placed;
  places = c.requires.places;
}

pub returns-in_default-clause-ends : goal.returns-in_default-clause-ends
returns-in_default-clause-ends g c = inl refl

pub returns-then-failed-clause-ends : goal.returns-then-failed-clause-ends
returns-then-failed-clause-ends g c =
    let act = act_of c.args.command.now in
    let ts = c.in-Ok-transcripts.transcripts.items in
    let plays : Plays g.V.Store c.args.setting.now.precheck true (alone act) c.args.core ts c.play-core.result.0 =
    subst (λ (b : List Told). Plays g.V.Store c.args.setting.now.precheck true b c.args.core ts c.play-core.result.0) c.in-Ok.ensures
    (ok_holds _ c.play-core.result.1 c.in-Ok-transcripts.transcripts c.in-Ok-transcripts.is c.play-core.ensures.plays) in
    fails_alone g.V.Store c.args.setting.now.precheck act c.args.core c.play-core.result.0 ts c.say_failure.result plays c.play-core.ensures.longer c.play-core.ensures.any_moment
    (c.say_failure.ensures ∙ ap (λ (l : List Transcribed). list_any says_failure l) c.deref.ensures.value) c.if-say_failure.true
    (most_so (failed_of c.play-core.result.0.vault.store) (failed_of c.args.core.vault.store) c.failed.result c.failed-failed.result c.failed.ensures c.failed-failed.ensures c.if-failed.true)

pub returns-else-say_failure-clause-acts : goal.returns-else-say_failure-clause-acts
returns-else-say_failure-clause-acts g c =
    let act = act_of c.args.command.now in
    let ts = c.in-Ok-transcripts.transcripts.items in
    let plays : Plays g.V.Store c.args.setting.now.precheck true (alone act) c.args.core ts c.play-core.result.0 =
    subst (λ (b : List Told). Plays g.V.Store c.args.setting.now.precheck true b c.args.core ts c.play-core.result.0) c.in-Ok.ensures
    (ok_holds _ c.play-core.result.1 c.in-Ok-transcripts.transcripts c.in-Ok-transcripts.is c.play-core.ensures.plays) in
    let fused : c.say_failure.result ≡ true → failed_of c.args.core.vault.store < failed_of c.play-core.result.0.vault.store =
    elim c.else-say_failure.branch [
      | else-say_failure-via-then-say_failure+else-failed w ↦ (λ is. less_so (failed_of c.args.core.vault.store) (failed_of c.play-core.result.0.vault.store) c.failed-failed.result w.failed.result c.failed-failed.ensures w.failed.ensures w.if-failed.false)
      | else-say_failure-via-else-say_failure w ↦ (λ is. let clash : true ≡ false = sym is ∙ w.if-say_failure.false in absurd cc)
    ] in
    IfOk-weaker c.text_alone-text.result (λ text. text.items ≡ flat_map alone_texts c.deref-in-Ok-transcripts.result.now)
    (λ text. ActsAlone g.V.Store c.args.setting.now.precheck act c.args.core text.items c.play-core.result.0)
    (λ text is. acts_alone g.V.Store c.args.setting.now.precheck act c.args.core c.play-core.result.0 ts text.items c.say_failure.result plays c.play-core.ensures.longer c.play-core.ensures.any_moment c.play-core.ensures.places
    (is ∙ ap (λ (l : List Transcribed). flat_map alone_texts l) c.deref-in-Ok-transcripts.ensures.value)
    (c.say_failure.ensures ∙ ap (λ (l : List Transcribed). list_any says_failure l) c.deref.ensures.value) fused)
    c.text_alone-text.ensures.text

pub returns-else-say_failure-clause-ends : goal.returns-else-say_failure-clause-ends
returns-else-say_failure-clause-ends g c =
    let act = act_of c.args.command.now in
    let ts = c.in-Ok-transcripts.transcripts.items in
    let plays : Plays g.V.Store c.args.setting.now.precheck true (alone act) c.args.core ts c.play-core.result.0 =
    subst (λ (b : List Told). Plays g.V.Store c.args.setting.now.precheck true b c.args.core ts c.play-core.result.0) c.in-Ok.ensures
    (ok_holds _ c.play-core.result.1 c.in-Ok-transcripts.transcripts c.in-Ok-transcripts.is c.play-core.ensures.plays) in
    if_memory c.text_alone-text.result (λ halt. AloneEnds g.V.Store c.args.setting.now.precheck halt act c.args.core c.play-core.result.0.vault.store)
    (played_whole g.V.Store c.args.setting.now.precheck (alone act) c.args.core c.play-core.result.0 ts plays c.play-core.ensures.longer c.play-core.ensures.any_moment) c.text_alone-text.ensures.memory

pub returns-in-Err-clause-ends : goal.returns-in-Err-clause-ends
returns-in-Err-clause-ends g c =
    let act = act_of c.args.command.now in
    let lost : Played g.V.Store c.args.setting.now.precheck (alone act) c.args.core c.play-core.result.0.vault.store =
    subst (λ (b : List Told). Played g.V.Store c.args.setting.now.precheck b c.args.core c.play-core.result.0.vault.store) c.in-Ok.ensures
    (on_err_holds c.play-core.result.1 c.in-Err.halt c.in-Err.is c.play-core.ensures.lost).0 in
    subst (λ halt. AloneEnds g.V.Store c.args.setting.now.precheck halt act c.args.core c.play-core.result.0.vault.store)
    (sym (err_of _ c.play-core.result.1 c.in-Err.halt c.in-Err.is c.play-core.ensures.memory)) (inr lost)
