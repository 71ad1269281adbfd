use Rattle.std.proofs.Common.{◌≡◌, refl, sym, ◌∙◌, ap, subst, inr}
use Rattle.dali_fuse.specs.Fuse.{inner}
use Rattle.dali_fuse.specs.declared.fuse.Fuse.{Fuse}
use Rattle.dali_streams.specs.Streams.{Appends}
use Rattle.dali_run.specs.declared.halt.Halt.{Halt}
use Rattle.dali_run.specs.Ends.{Generates}
use Rattle.dali_run.specs.Stops.{GeneratorHalts}
use Rattle.std.proofs.lemmas.Result.{IfErr-weaker, on_ok_weaker}
use Rattle.dali_run.proofs.Generated.{halts_so, summarizes}
use Rattle.dali_run.proofs.generating.generate.Goals as goal

stored : {V : Type 0} (f g : Fuse V) (end : V) → end ≡ inner f → f ≡ g → inner g ≡ end
stored f g end is same = ap inner (sym same) ∙ sym is

pub returns-in-Ok-printed-clause-done : goal.returns-in-Ok-printed-clause-done
returns-in-Ok-printed-clause-done g c =
    let left : Generates g.V.Store c.args.clients c.args.size c.args.number c.args.store c.deref.result.now c.into_inner-store.result =
    summarizes g.V.Store c.args.clients c.args.size c.args.number c.args.store c.into_inner-store.result c.deref.result.now _ c.in-Ok.core c.in-Ok.ensures.finds
    (stored c.into_store.result c.in-Ok.core.vault.store c.into_inner-store.result c.into_inner-store.ensures c.into_store.ensures) c.deref.ensures.value c.in-Ok-printed.ensures.summary in
    on_ok_weaker c.write_whole-written.result (λ (appends : Appends (g.K.Sink.taken c.args.sink.now) c.deref.result.now (g.K.Sink.taken c.write_whole-written.new.sink)). (c.deref.result.now, left, appends))
    c.write_whole-written.ensures.all

pub returns-in-Ok-printed-clause-stops : goal.returns-in-Ok-printed-clause-stops
returns-in-Ok-printed-clause-stops g c =
    let left : Generates g.V.Store c.args.clients c.args.size c.args.number c.args.store c.deref.result.now c.into_inner-store.result =
    summarizes g.V.Store c.args.clients c.args.size c.args.number c.args.store c.into_inner-store.result c.deref.result.now _ c.in-Ok.core c.in-Ok.ensures.finds
    (stored c.into_store.result c.in-Ok.core.vault.store c.into_inner-store.result c.into_inner-store.ensures c.into_store.ensures) c.deref.ensures.value c.in-Ok-printed.ensures.summary in
    IfErr-weaker c.write_whole-written.result _ _
    (λ halt cut. subst (λ (h : Halt). GeneratorHalts g.V.Store g.K.Sink c.args.clients c.args.size c.args.number h c.args.store c.into_inner-store.result c.args.sink.now c.write_whole-written.new.sink) (sym cut.0)
    (c.deref.result.now, left, cut.1, cut.2))
    c.write_whole-written.ensures.some

pub returns-in-Err-printed-clause-stops : goal.returns-in-Err-printed-clause-stops
returns-in-Err-printed-clause-stops g c =
    subst (λ (h : Halt). GeneratorHalts g.V.Store g.K.Sink c.args.clients c.args.size c.args.number h c.args.store c.into_inner-store.result c.args.sink.now c.args.sink.now) (sym c.in-Err-printed.ensures.memory)
    (inr (inr (inr (c.in-Ok.core, c.in-Ok.ensures.finds, stored c.into_store.result c.in-Ok.core.vault.store c.into_inner-store.result c.into_inner-store.ensures c.into_store.ensures))), refl)

pub returns-in-Err-clause-stops : goal.returns-in-Err-clause-stops
returns-in-Err-clause-stops g c =
    halts_so g.V.Store c.args.clients c.args.size c.args.number g.K.Sink c.in-Err.stopped.halt c.args.store c.in-Err.stopped.store c.args.sink.now c.in-Err.ensures.ends
