use Rattle.dali_restart.proofs.RenewalLemmas.Staged.{ends_behind, starts_run}
use Rattle.dali_restart.proofs.renewal.laws.a_run_may_start_behind_a_renewal.Goals as goal

pub returns : goal.returns
returns g c = record { starts = starts_run g.V.Store.may_leave; end = ends_behind }
