use Rattle.std.proofs.Common.{sym, subst, arith}
use Rattle.dali_geometry.specs.Sizes.{AreInRange}
use Rattle.dali_image.proofs.Headings.{not_marked, marked, no_sizes, spelled}
use Rattle.dali_image.proofs.header.decode.Goals as goal

pub returns-then-not-starts_with-clause-bad : goal.returns-then-not-starts_with-clause-bad
returns-then-not-starts_with-clause-bad c = not_marked c.args.bytes.now c.starts_with.result c.starts_with.ensures.value c.if-not-starts_with.true

pub returns-in_default-clause-bad : goal.returns-in_default-clause-bad
returns-in_default-clause-bad c = no_sizes c.args.bytes.now c.number32-index.result c.number32-heap.result c.told-bytes (marked c.args.bytes.now c.starts_with.result c.starts_with.ensures.value c.if-not-starts_with.false) c.number32-index.ensures c.number32-heap.ensures (omega (arith, c.number32-index.type_inv)) (omega (arith, c.number32-heap.type_inv)) c.in_default.ensures

pub returns-clause-ok : goal.returns-clause-ok
returns-clause-ok c = rw c.in-Ok.ensures.1 (spelled c.args.bytes.now c.number32-index.result c.number32-heap.result c.number64.result c.number64-2.result c.number64-3.result c.number64-4.result c.number64-5.result c.number64-6.result c.told-bytes (marked c.args.bytes.now c.starts_with.result c.starts_with.ensures.value c.if-not-starts_with.false) c.number32-index.ensures c.number32-heap.ensures c.number64.ensures c.number64-2.ensures c.number64-3.ensures c.number64-4.ensures c.number64-5.ensures c.number64-6.ensures)

pub returns-clause-fits : goal.returns-clause-fits
returns-clause-fits c = record { sizes = subst AreInRange (sym c.in-Ok.ensures.1) c.in-Ok.ensures.0; number = omega (arith, c.number64.type_inv); place = omega (arith, c.number64-2.type_inv); first = omega (arith, c.number64-3.type_inv); weight = omega (arith, c.number64-4.type_inv); next = omega (arith, c.number64-5.type_inv); table = omega (arith, c.number64-6.type_inv) }
