use Rattle.dali_crash.proofs.DisksLemmas.Ends.{end_is_small, log_is_framed, place_is_small}
use Rattle.dali_crash.proofs.disks.laws.a_log_ends_below_its_limit.Goals as goal

pub returns : goal.returns
returns g c = record { end = λ v. end_is_small (g.V.Store.may_leave v); place = λ v. place_is_small (g.V.Store.may_leave v); framed = log_is_framed }
