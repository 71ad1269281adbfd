use Rattle.std.proofs.Common.{refl, sym, arith}
use Rattle.dali_script.proofs.MoreBytes.{room_for_a_digit, small_with_a_digit, mask_goes_on}
use Rattle.dali_script.proofs.texts.mask.Goals as goal

pub overflow_mul-mask : goal.overflow_mul-mask
overflow_mul-mask c = omega (arith, room_for_a_digit c.loop-byte.mask c.loop-byte.byte-index 0 c.loop-byte.invariant.small (omega (arith, c.if-text-gt-MASK_DIGITS.false, c.loop-byte-test.true)) (omega arith))

pub overflow_add-mask : goal.overflow_add-mask
overflow_add-mask c = omega (arith, room_for_a_digit c.loop-byte.mask c.loop-byte.byte-index c.in_ok-mask.field-0 c.loop-byte.invariant.small (omega (arith, c.if-text-gt-MASK_DIGITS.false, c.loop-byte-test.true)) c.in_ok-mask.ensures.small)

pub loop-byte-preserved : goal.loop-byte-preserved
loop-byte-preserved c = record {
  small = small_with_a_digit c.loop-byte.mask c.loop-byte.byte-index c.in_ok-mask.field-0 c.loop-byte.invariant.small c.in_ok-mask.ensures.small;
  rest = mask_goes_on c.loop-byte.mask _ c.in_ok-mask.field-0 c.loop-byte.byte-index c.args.text.now _ c.loop-byte-test.true refl (sym c.in_ok-mask.ensures.digit) c.loop-byte.invariant.rest;
}
