use Rattle.std.proofs.Common.{append_assoc}
use Rattle.dali_dump.proofs.lines.put_block.Goals as goal

pub returns : goal.returns
returns c =
    rw (c.in_ok-put_with_hex-3.ensures.ok, c.in_ok-put_with_hex-2.ensures.ok, c.in_ok-put_with_hex.ensures.ok, c.in_ok-put_text-2.ensures.ok, c.as_bytes.ensures.value, c.name_of.ensures, c.in_ok-put_text.ensures.ok, c.in_ok-put_with_number-2.ensures.ok, c.in_ok-put_with_number.ensures.ok, c.from.ensures) (simp append_assoc)
