use Rattle.std.proofs.Common.{◌≡◌, ◌≤◌, ◌<◌, ◌++◌, rules, ap, length, ◌∙◌, slice_index_or, arith, length-append}
use Rattle.dali_record.specs.Spelling.{words_bytes}
use Rattle.dali_checkpoint.proofs.Pieces.{gathers_next}
use Rattle.dali_checkpoint.proofs.parts.gather.Goals as goal

pub loop-number-preserved : goal.loop-number-preserved
loop-number-preserved c =
    let within : c.loop-number.number < length c.args.regions.now = search rules in
    let order : c.args.from ≤ c.loop-number.number = search rules in
    let appended : c.put.new.into.items ≡ c.loop-number.buffer.items ++ c.region_bytes.result = search rules in
    let bytes : c.region_bytes.result ≡ words_bytes (slice_index_or c.args.regions.now c.loop-number.number c.index-regions-number.result).back = search rules in
    let long : length c.region_bytes.result ≡ 512 = search rules in
    record {
      bytes = appended ∙ gathers_next c.args.from c.loop-number.number c.args.regions.now c.index-regions-number.result c.loop-number.buffer.items c.region_bytes.result order within c.loop-number.invariant.bytes bytes;
      size = ap length appended ∙ omega (arith, length-append c.loop-number.buffer.items c.region_bytes.result, long, c.loop-number.invariant.size, order);
      room = search rules;
    }
