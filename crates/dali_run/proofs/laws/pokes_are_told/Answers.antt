use Rattle.dali_run.proofs.Telling.{pokes_are_told, strays_are_named}
use Rattle.dali_run.proofs.laws.pokes_are_told.Goals as goal

pub returns-clause-named : goal.returns-clause-named
returns-clause-named g c =
    let met = g.met.V.Store in
    λ limit precheck.
    strays_are_named g.V.Store met.reads_now met.counts_now limit precheck

pub returns-clause-told : goal.returns-clause-told
returns-clause-told g c =
    let met = g.met.V.Store in
    λ limit precheck.
    pokes_are_told g.V.Store met.reads_now met.counts_now limit precheck
