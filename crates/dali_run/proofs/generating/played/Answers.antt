use Rattle.std.proofs.Common.{◌∙◌, List, Some, None, map, refl, sym, ap, subst, inl, inr}
use Rattle.std.specs.Prelude.{nat_lt}
use Rattle.dali_transcripts.specs.declared.clients.command.Block.{Block}
use Rattle.dali_transcripts.specs.Clients.Told.{told_of}
use Rattle.dali_fuse.specs.Fuse.{failed_of}
use Rattle.dali_run.specs.declared.halt.Halt.{Halt}
use Rattle.dali_run.specs.Generating.{RoundStops}
use Rattle.dali_run.specs.Told.{told_by}
use Rattle.dali_run.proofs.Generated.{fused, had_no_memory, is_round}
use Rattle.dali_run.proofs.RoundCalls.{ok_holds, on_err_holds}
use Rattle.dali_run.proofs.generating.played.Goals as goal
use Rattle.dali_run.proofs.Courses.{err_of}

pub returns-in_default-clause-stops : goal.returns-in_default-clause-stops
returns-in_default-clause-stops g c = inr (c.args.core.vault.store, inl refl, c.give_up.ensures.halt, sym c.give_up.ensures.store)

pub returns-in-None-clause-plays : goal.returns-in-None-clause-plays
returns-in-None-clause-plays g c = (
  is_round g.V.Store (map told_by c.args.told.now) (map told_of c.deref.result.now) c.args.core c.play-core.result.0 c.in-Ok-transcripts.transcripts.items
      c.deref-in-Ok-transcripts.result.now c.stopped-stop.result (nat_lt c.failed-failed.result c.failed.result) None c.halt_of_round.result c.args.setting.now.precheck c.requires.unchecked
      (ap (λ (bs : List Block). map told_of bs) c.deref.ensures.value ∙ c.in-Ok.ensures)
      (ok_holds _ c.play-core.result.1 c.in-Ok-transcripts.transcripts c.in-Ok-transcripts.is c.play-core.ensures.plays)
      c.play-core.ensures.longer c.play-core.ensures.any_moment c.play-core.ensures.places c.deref-in-Ok-transcripts.ensures.value c.stopped-stop.ensures (fused c.failed-failed.result c.failed.result (failed_of c.args.core.vault.store) (failed_of c.play-core.result.0.vault.store) c.failed-failed.ensures c.failed.ensures) c.halt_of_round.ensures c.in-None.is,
  c.play-core.ensures.places,
)

pub returns-in-Ok-transcripts-clause-stops : goal.returns-in-Ok-transcripts-clause-stops
returns-in-Ok-transcripts-clause-stops g c =
    let round = is_round g.V.Store (map told_by c.args.told.now) (map told_of c.deref.result.now) c.args.core c.play-core.result.0 c.in-Ok-transcripts.transcripts.items
    c.deref-in-Ok-transcripts.result.now c.stopped-stop.result (nat_lt c.failed-failed.result c.failed.result) (Some c.in-Some.halt) c.halt_of_round.result c.args.setting.now.precheck c.requires.unchecked
    (ap (λ (bs : List Block). map told_of bs) c.deref.ensures.value ∙ c.in-Ok.ensures)
    (ok_holds _ c.play-core.result.1 c.in-Ok-transcripts.transcripts c.in-Ok-transcripts.is c.play-core.ensures.plays)
    c.play-core.ensures.longer c.play-core.ensures.any_moment c.play-core.ensures.places c.deref-in-Ok-transcripts.ensures.value c.stopped-stop.ensures (fused c.failed-failed.result c.failed.result (failed_of c.args.core.vault.store) (failed_of c.play-core.result.0.vault.store) c.failed-failed.ensures c.failed.ensures) c.halt_of_round.ensures c.in-Some.is in
    subst (λ (h : Halt). RoundStops g.V.Store (map told_by c.args.told.now) c.args.core h c.give_up-in-Some.result.store) (sym c.give_up-in-Some.ensures.halt)
    (inl (c.play-core.result.0, round, sym c.give_up-in-Some.ensures.store))

pub returns-clause-stops : goal.returns-clause-stops
returns-clause-stops g c =
    had_no_memory g.V.Store (map told_by c.args.told.now) (map told_of c.deref.result.now) c.args.core c.play-core.result.0.vault.store c.args.setting.now.precheck
    c.in-Err.halt c.give_up-in-Err.result.halt c.give_up-in-Err.result.store c.requires.unchecked
    (ap (λ (bs : List Block). map told_of bs) c.deref.ensures.value ∙ c.in-Ok.ensures)
    (on_err_holds c.play-core.result.1 c.in-Err.halt c.in-Err.is c.play-core.ensures.lost)
    (err_of _ c.play-core.result.1 c.in-Err.halt c.in-Err.is c.play-core.ensures.memory) c.give_up-in-Err.ensures.halt c.give_up-in-Err.ensures.store
