use Rattle.std.proofs.Common.{◌<◌, ◌≤◌, ◌+◌, rules, ap, length}
use Rattle.dali_checkpoint.proofs.Pieces.{run_stops, run_fills}
use Rattle.dali_checkpoint.proofs.parts.run_end.Goals as goal

pub returns-then-dirty-flag-clause-end : goal.returns-then-dirty-flag-clause-end
returns-then-dirty-flag-clause-end c =
    let inside : c.args.from + c.loop-count.count < length c.args.regions.now = search rules in
    let few : c.loop-count.count ≤ 128 = search rules in
    ap (λ n. c.args.from + n) (run_stops c.args.side c.args.regions.now c.args.from c.loop-count.count c.index-regions-from.result c.index-regions-from-in-loop-count.result c.dirty-flag.result c.requires.within (search rules) c.loop-count.invariant.alike few inside (search rules))

pub returns-clause-end : goal.returns-clause-end
returns-clause-end c = ap (λ n. c.args.from + n) (run_fills c.args.side c.args.regions.now c.args.from c.min-most.result c.index-regions-from.result c.dirty-flag.result c.requires.within (search rules) (search rules) (search rules))
