use Rattle.dali_run.proofs.Completing.{store_faults_rise}
use Rattle.dali_run.proofs.Rising.{generator_faults_rise}
use Rattle.dali_run.proofs.laws.store_faults_rise.Goals as goal

pub returns-clause-scripts : goal.returns-clause-scripts
returns-clause-scripts g c =
    let met = g.met.V.Store in
    λ limit precheck.
    store_faults_rise g.V.Store met.reads_now met.counts_now limit precheck

pub returns-clause-generated : goal.returns-clause-generated
returns-clause-generated g c =
    let met = g.met.V.Store in
    generator_faults_rise g.V.Store met.reads_now met.counts_now
