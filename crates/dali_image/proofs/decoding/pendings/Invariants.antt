use Rattle.std.proofs.Common.{◌≡◌, ◌-◌}
use Rattle.dali_image.specs.Decoding.{pendings_from}
use Rattle.dali_image.proofs.Loops.{with_front}
use Rattle.dali_image.proofs.decoding.pendings.Given as goal

abbrev pub invariant-loop : goal.invariant-loop
invariant-loop l = with_front l.undos.items (pendings_from l.geometry (l.count - l.counter) l.reader) ≡ pendings_from l.geometry l.count l.fn.reader
