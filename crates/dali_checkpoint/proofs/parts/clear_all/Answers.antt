use Rattle.std.proofs.Common.{◌<◌, ◌≤◌, rules, length}
use Rattle.dali_region.specs.Answers.{cleaned}
use Rattle.dali_checkpoint.proofs.Pieces.{changes_begin, changes_next}
use Rattle.dali_checkpoint.proofs.parts.clear_all.Goals as goal

pub loop-number-init : goal.loop-number-init
loop-number-init c = record { changed = changes_begin (cleaned c.args.side) c.args.from c.args.regions.now }

pub loop-number-preserved : goal.loop-number-preserved
loop-number-preserved c =
    let within : c.loop-number.number < length c.args.regions.now = search rules in
    let order : c.args.from ≤ c.loop-number.number = search rules in
    record { changed = changes_next (cleaned c.args.side) c.args.from c.loop-number.number c.args.regions.now c.loop-number.regions c.index-regions-number.result c.clear_dirty.new.self order within c.loop-number.invariant.changed c.clear_dirty.ensures.after }
