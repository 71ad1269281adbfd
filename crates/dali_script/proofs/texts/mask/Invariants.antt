use Rattle.std.proofs.Common.{◌≡◌, ◌<◌, ◌*◌, ◌^◌, drop}
use Rattle.dali_script.specs.Texts.{◌>>=◌, hex_from, nonzero}
use Rattle.dali_script.proofs.texts.mask.Given as goal

abbrev pub invariant-loop-byte : goal.invariant-loop-byte
invariant-loop-byte l = record {
  small : l.mask < 2 ^ (4 * l.byte-index);
  rest : (hex_from l.mask (drop l.byte-index l.text) >>= nonzero) ≡ (hex_from 0 l.text >>= nonzero);
}
