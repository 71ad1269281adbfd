use Rattle.dali_transactions.proofs.BesideLemmas.Calls.{release_goes, release_tells}
use Rattle.dali_transactions.proofs.BesideLemmas.Cleaning.{clean_goes, left_goes}
use Rattle.dali_transactions.proofs.beside.a_clean_up_goes.Goals as goal

pub returns-clause-release : goal.returns-clause-release
returns-clause-release g c = release_goes g.V.Store

pub returns-clause-tells : goal.returns-clause-tells
returns-clause-tells g c = release_tells g.V.Store

pub returns-clause-clean : goal.returns-clause-clean
returns-clause-clean g c = clean_goes g.V.Store

pub returns-clause-left : goal.returns-clause-left
returns-clause-left g c = left_goes g.V.Store
