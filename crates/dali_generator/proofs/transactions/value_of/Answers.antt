use Rattle.std.proofs.Common.{◌≡◌, ◌%◌, ◌≤◌, length, ap, arith}
use Rattle.std.specs.Fmt.{decimal}
use Rattle.dali_generator.proofs.Right.{short}
use Rattle.dali_generator.proofs.transactions.value_of.Goals as goal

pub slice_bounds-text-end : goal.slice_bounds-text-end
slice_bounds-text-end c =
    let same : c.as_bytes-digits.result.now ≡ decimal (c.args.drawn % 1000000) = cc in
    let few : length c.as_bytes-digits.result.now ≤ 6 = omega (arith, ap length same, short c.args.drawn) in
    omega arith
