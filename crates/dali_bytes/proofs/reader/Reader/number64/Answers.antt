use Rattle.std.proofs.Common.{◌≡◌, ◌+◌, ◌≤◌, ◌++◌, length, drop, subst, sym, ap, ◌∙◌, arith, length-drop}
use Rattle.std.proofs.lemmas.List.{take_rest}
use Rattle.byteorder.specs.Endian.{big_number}
use Rattle.dali_bytes.specs.Cursor.{Cursor, left}
use Rattle.dali_bytes.specs.Fields.{number64}
use Rattle.dali_bytes.proofs.Numbers.{number64_read}
use Rattle.dali_bytes.proofs.reader.Reader.number64.Goals as goal

pub returns-clause-next : goal.returns-clause-next
returns-clause-next c =
    let len : c.left.result ≡ length (drop c.self.inside.at c.self.inside.bytes.now) = c.left.ensures ∙ ap (λ (p : Cursor). length (left p)) (sym c.self.view_is) in
    let long : c.self.inside.at + 8 ≤ length c.self.inside.bytes.now = omega (arith, len, length-drop c.self.inside.at c.self.inside.bytes.now, c.if-left-lt8.false, c.self.invariant.0) in
    subst (λ (p : Cursor). left p ≡ number64 c.read_u64-number.result ++ drop (c.self.inside.at + 8) c.self.inside.bytes.now) c.self.view_is
    (number64_read c.self.inside.bytes.now c.self.inside.at c.read_u64-number.result long c.self.invariant.1 (c.read_u64-number.ensures ∙ ap (big_number 8) (take_rest c.self.inside.bytes.now c.self.inside.at)))
