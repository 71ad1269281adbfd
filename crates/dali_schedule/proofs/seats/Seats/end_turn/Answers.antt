use Rattle.dali_schedule.proofs.Kept.{handed}
use Rattle.dali_schedule.proofs.seats.Seats.end_turn.Goals as goal

pub invariant_of-self : goal.invariant_of-self
invariant_of-self c = handed _ _ _ _ _ _ c.self.invariant.few c.as_slice.ensures.value c.next-self-inside.ensures
