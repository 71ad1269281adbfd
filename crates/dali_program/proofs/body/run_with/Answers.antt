use Rattle.std.proofs.Common.{List, Global, map, string_bytes, subst}
use Rattle.std.specs.Prelude.{String}
use Rattle.dali_run.specs.Ends.{course}
use Rattle.dali_run.proofs.Durable.{acknowledged_stay}
use Rattle.dali_run.proofs.Keeping.{acknowledged_survive}
use Rattle.dali_run.proofs.Survived.{runs_survive}
use Rattle.dali_program.specs.Exits.{ExitsWith}
use Rattle.dali_program.proofs.Words.{if_ok}
use Rattle.dali_program.proofs.body.run_with.Goals as goal

pub returns-in-Ok-clause-exits : goal.returns-in-Ok-clause-exits
returns-in-Ok-clause-exits g c =
    let ended = c.run-status.ensures.ended in
    let met = g.met.V.Store g.world.𝓛 g.world.𝓜 g.world.𝓡 ((λ s x. x), (λ x. x), (λ x. x), (λ x. x)) in
    if_ok _ c.args.words c.in-Ok.words c.in-Ok.is
    (subst (λ (ws : List (String Global)). ExitsWith g.V.Store (map string_bytes ws)
    (course g.S.Source g.K.Sink c.args.source.now c.run-status.new.source c.args.sink.now c.run-status.new.sink c.args.store c.run-status.result.1) c.code_of.result)
    c.deref.ensures.value
    (record {
      status = c.run-status.result.0;
      is_number = c.code_of.ensures;
      ended = ended;
      survives = λ base own honest.
          runs_survive g.V.Store met.reads_now met.counts_now
          _ _ c.run-status.result.0 base own ended honest;
      headline = λ base own.
          acknowledged_survive g.V.Store met.reads_now met.counts_now met.only_now
          _ _ c.run-status.result.0 base own ended;
      durable = λ base own.
          acknowledged_stay g.V.Store met.reads_now met.counts_now met.only_now
          _ _ c.run-status.result.0 base own ended;
    }))
