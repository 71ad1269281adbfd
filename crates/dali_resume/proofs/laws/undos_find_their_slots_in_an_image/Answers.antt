use Rattle.dali_resume.proofs.Finding.{writes_alike, finds_from_image, finds_in_last, finds_after_crash, keeps_undos}
use Rattle.dali_resume.proofs.laws.undos_find_their_slots_in_an_image.Goals as goal

pub returns : goal.returns
returns c = record { written = writes_alike; found = finds_from_image; last = finds_in_last; crash = finds_after_crash; undos = keeps_undos }
