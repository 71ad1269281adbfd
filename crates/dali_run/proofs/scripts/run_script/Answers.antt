use Rattle.std.proofs.Common.{◌≡◌, ◌<◌, ◌∙◌, List, length, get_or, refl, sym, subst, arith}
use Rattle.dali_script.specs.declared.commands.Command.{Command}
use Rattle.dali_run.specs.Told.{IsFit}
use Rattle.dali_run.specs.declared.halt.Halt.{Halt}
use Rattle.dali_run.specs.declared.halt.Halt.TheVariants.{WriteFault}
use Rattle.dali_run.specs.Stops.{CommandStops}
use Rattle.dali_run.proofs.Courses.{begins, goes_on, stops_in, is_whole, ok_of, err_of, ok_is_no_err, holds_down, inner_of, sized}
use Rattle.dali_run.proofs.scripts.run_script.Goals as goal

pub loop-command-init : goal.loop-command-init
loop-command-init g c = record {
  reached = begins g.V.Store c.args.setting.now.limit c.args.setting.now.precheck c.args.store c.args.script.now (g.K.Sink.taken c.args.sink.now) c.down-program.result c.down-program.ensures;
  images = holds_down g.V.Store c.down-program.result c.args.store c.down-program.ensures;
  kept = refl;
}

pub run_command-next-requires : goal.run_command-next-requires
run_command-next-requires g c =
    let items = c.commands-command-items.ensures in
    let within : c.loop-command.command-index < length c.args.script.now = subst (λ (l : List Command). c.loop-command.command-index < length l) items c.loop-command-test.true in
    let is : c.command-item.result ≡ get_or c.args.script.now c.loop-command.command-index c.command-item.result = subst (λ (l : List Command). c.command-item.result ≡ get_or l c.loop-command.command-index c.command-item.result) items c.command-item.is in
    record {
      limit = c.requires.limit;
      fit = sized IsFit c.args.script.now c.loop-command.command-index c.command-item.result c.requires.fit within is;
      images = c.loop-command.invariant.images;
    }

pub returns-in-Err-clause-stops : goal.returns-in-Err-clause-stops
returns-in-Err-clause-stops g c =
    let items = c.commands-command-items.ensures in
    let within : c.loop-command.command-index < length c.args.script.now = subst (λ (l : List Command). c.loop-command.command-index < length l) items c.loop-command-test.true in
    let is : c.command-item.result ≡ get_or c.args.script.now c.loop-command.command-index c.command-item.result = subst (λ (l : List Command). c.command-item.result ≡ get_or l c.loop-command.command-index c.command-item.result) items c.command-item.is in
    stops_in g.V.Store c.args.setting.now.limit c.args.setting.now.precheck g.K.Sink c.in-Err.halt c.args.store c.args.script.now c.loop-command.command-index c.command-item.result
    c.args.sink.now c.loop-command.sink c.run_command-next.new.sink c.loop-command.program c.run_command-next.result.0 c.into_inner.result
    within is (inner_of c.run_command-next.result.0 c.into_store.result c.into_inner.result c.into_store.ensures c.into_inner.ensures) (omega (arith, c.loop-command.invariant.kept)) c.loop-command.invariant.reached
    (err_of
    (λ (halt : Halt).
    CommandStops g.V.Store g.K.Sink c.args.setting.now.limit c.args.setting.now.precheck halt c.command-item.result
    c.loop-command.program c.run_command-next.result.0 c.loop-command.sink c.run_command-next.new.sink)
    c.run_command-next.result.1 c.in-Err.halt c.in-Err.is c.run_command-next.ensures.stops)

pub returns-in-Err-clause-later : goal.returns-in-Err-clause-later
returns-in-Err-clause-later g c = omega (arith, c.loop-command.invariant.kept, c.run_command-next.ensures.later)

pub returns-in-Err-clause-kept : goal.returns-in-Err-clause-kept
returns-in-Err-clause-kept g c = λ other. c.run_command-next.ensures.kept (λ is. other (sym c.in-Err.is ∙ is)) ∙ c.loop-command.invariant.kept

pub loop-command-preserved : goal.loop-command-preserved
loop-command-preserved g c =
    let items = c.commands-command-items.ensures in
    let within : c.loop-command.command-index < length c.args.script.now = subst (λ (l : List Command). c.loop-command.command-index < length l) items c.loop-command-test.true in
    let is : c.command-item.result ≡ get_or c.args.script.now c.loop-command.command-index c.command-item.result = subst (λ (l : List Command). c.command-item.result ≡ get_or l c.loop-command.command-index c.command-item.result) items c.command-item.is in
    record {
      reached =
          goes_on g.V.Store c.args.setting.now.limit c.args.setting.now.precheck c.args.store c.args.script.now c.loop-command.command-index c.command-item.result
          (g.K.Sink.taken c.args.sink.now) (g.K.Sink.taken c.loop-command.sink) (g.K.Sink.taken c.run_command-next.new.sink) c.loop-command.program c.run_command-next.result.0 within is c.loop-command.invariant.reached
          (ok_of c.run_command-next.result.1 c.in_default.field-0 c.in_default.is c.run_command-next.ensures.done);
      images = c.run_command-next.ensures.images;
      kept = c.run_command-next.ensures.kept (ok_is_no_err c.run_command-next.result.1 c.in_default.field-0 WriteFault c.in_default.is) ∙ c.loop-command.invariant.kept;
    }

pub returns-clause-whole : goal.returns-clause-whole
returns-clause-whole g c =
    let items = c.commands-command-items.ensures in
    let all : c.loop-command.command-index ≡ length c.args.script.now = subst (λ (l : List Command). c.loop-command.command-index ≡ length l) items (omega (arith, c.loop-command-test.false, c.loop-command.auto.command-index-end)) in
    is_whole g.V.Store c.args.setting.now.limit c.args.setting.now.precheck c.args.store c.args.script.now c.loop-command.command-index (g.K.Sink.taken c.args.sink.now)
    (g.K.Sink.taken c.loop-command.sink) c.loop-command.program c.into_inner-2.result all (inner_of c.loop-command.program c.into_store-2.result c.into_inner-2.result c.into_store-2.ensures c.into_inner-2.ensures) c.loop-command.invariant.reached

pub returns-clause-later : goal.returns-clause-later
returns-clause-later g c = omega (arith, c.loop-command.invariant.kept)

pub returns-clause-kept : goal.returns-clause-kept
returns-clause-kept g c = λ other. c.loop-command.invariant.kept
