use Rattle.std.proofs.Common.{◌≤◌, length, arith}
use Rattle.std.proofs.lemmas.Bool.Decides.{nat_tests}
use Rattle.dali_words.proofs.Fields.{has_fields}
use Rattle.dali_words.proofs.Value.from_bytes.Goals as goal

pub invariant_of-result : goal.invariant_of-result
invariant_of-result c =
    let some : 1 ≤ length c.args.bytes.now = grind (arith, nat_tests) in
    has_fields c.args.bytes.now c.copy_from_slice.new.self some c.if-bytes-gt-MAX_SIZE.false (λ i. omega (arith, c.type_inv.bytes i)) c.copy_from_slice.ensures.after
