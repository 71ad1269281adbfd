use Rattle.dali_crash.proofs.DisksLemmas.Heads.{heads_fit, kept_fits, next_fits, stays_fitting}
use Rattle.dali_crash.proofs.disks.laws.a_kept_head_fits_its_fields.Goals as goal

pub returns-clause-fits : goal.returns-clause-fits
returns-clause-fits c = heads_fit

pub returns-clause-kept : goal.returns-clause-kept
returns-clause-kept c = kept_fits

pub returns-clause-later : goal.returns-clause-later
returns-clause-later c = stays_fitting

pub returns-clause-next : goal.returns-clause-next
returns-clause-next c = next_fits
