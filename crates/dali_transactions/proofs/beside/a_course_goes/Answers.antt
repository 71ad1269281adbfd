use Rattle.dali_transactions.proofs.BesideLemmas.Going.{course_goes}
use Rattle.dali_transactions.proofs.beside.a_course_goes.Goals as goal

pub returns : goal.returns
returns g c = course_goes g.V.Store
