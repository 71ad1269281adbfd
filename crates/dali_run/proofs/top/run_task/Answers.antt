use Rattle.std.proofs.Common.{Some, sym, subst}
use Rattle.dali_arguments.specs.declared.task.Task.{Task}
use Rattle.dali_run.specs.Ends.{Ended, course}
use Rattle.dali_run.specs.Halts.{status_in}
use Rattle.dali_run.proofs.Generated.{generator_ended}
use Rattle.dali_run.proofs.top.run_task.Goals as goal

pub returns-in-Generate-clause-ended : goal.returns-in-Generate-clause-ended
returns-in-Generate-clause-ended g c =
    let mid = g.K.Sink.taken c.generate.new.sink in
    let count = g.K.Sink.faults c.generate.new.sink in
    let ran = course g.S.Source g.K.Sink c.args.source.now c.args.source.now c.args.sink.now c.generate.new.sink c.args.store c.generate.result.0 in
    subst (λ (t : Task). Ended g.V.Store (Some t) ran mid count (status_in c.generate.result.1)) (sym c.in-Generate.is)
    (generator_ended g.V.Store c.in-Generate.clients c.in-Generate.size c.in-Generate.number g.S.Source g.K.Sink c.args.source.now c.args.sink.now c.generate.new.sink c.args.store c.generate.result.0 c.generate.result.1
    c.generate.ensures.done c.generate.ensures.stops)
