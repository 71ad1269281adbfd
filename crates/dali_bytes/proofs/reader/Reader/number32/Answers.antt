use Rattle.std.proofs.Common.{◌≡◌, ◌+◌, ◌≤◌, ◌++◌, length, drop, subst, sym, ap, ◌∙◌, arith, length-drop}
use Rattle.std.proofs.lemmas.List.{take_rest}
use Rattle.byteorder.specs.Endian.{big_number}
use Rattle.dali_bytes.specs.Cursor.{Cursor, left}
use Rattle.dali_bytes.specs.Fields.{number32}
use Rattle.dali_bytes.proofs.Numbers.{number32_read}
use Rattle.dali_bytes.proofs.reader.Reader.number32.Goals as goal

pub returns-clause-next : goal.returns-clause-next
returns-clause-next c =
    let len : c.left.result ≡ length (drop c.self.inside.at c.self.inside.bytes.now) = c.left.ensures ∙ ap (λ (p : Cursor). length (left p)) (sym c.self.view_is) in
    let long : c.self.inside.at + 4 ≤ length c.self.inside.bytes.now = omega (arith, len, length-drop c.self.inside.at c.self.inside.bytes.now, c.if-left-lt4.false, c.self.invariant.0) in
    subst (λ (p : Cursor). left p ≡ number32 c.read_u32-number.result ++ drop (c.self.inside.at + 4) c.self.inside.bytes.now) c.self.view_is
    (number32_read c.self.inside.bytes.now c.self.inside.at c.read_u32-number.result long c.self.invariant.1 (c.read_u32-number.ensures ∙ ap (big_number 4) (take_rest c.self.inside.bytes.now c.self.inside.at)))
