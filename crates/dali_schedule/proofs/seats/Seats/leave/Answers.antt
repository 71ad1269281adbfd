use Rattle.std.proofs.Common.{sym, ap, ◌∙◌}
use Rattle.dali_schedule.specs.Seats.{is_holder}
use Rattle.dali_schedule.proofs.Kept.{handed, length_as, left}
use Rattle.dali_schedule.proofs.seats.Seats.leave.Goals as goal

pub invariant_of-self : goal.invariant_of-self
invariant_of-self c = handed _ _ _ _ _ _ (length_as _ _ _ c.set_seat.ensures c.self.invariant.few) c.as_slice.ensures.value c.next-self-inside.ensures

pub invariant_of-self-else-is_holder : goal.invariant_of-self-else-is_holder
invariant_of-self-else-is_holder c = left _ _ _ c.self.invariant c.set_seat.ensures (sym (c.if-is_holder.ensures ∙ ap (is_holder c.args.client) (sym c.self.view_is)))
