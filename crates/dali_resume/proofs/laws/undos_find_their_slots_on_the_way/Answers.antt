use Rattle.dali_resume.proofs.OnTheWay.{writes_on_the_way, finds_on_the_way, ends_are_histories}
use Rattle.dali_resume.proofs.laws.undos_find_their_slots_on_the_way.Goals as goal

pub returns-clause-written : goal.returns-clause-written
returns-clause-written c = writes_on_the_way

pub returns-clause-found : goal.returns-clause-found
returns-clause-found c = finds_on_the_way

pub returns-clause-ends : goal.returns-clause-ends
returns-clause-ends c = ends_are_histories
