use Rattle.std.proofs.Common.{◌≡◌, ◌++◌, ◌∙◌, ap, arith}
use Rattle.std.specs.Prelude.{codes, flat_map}
use Rattle.dali_access.specs.Index.Records.{below}
use Rattle.dali_load.specs.Answers.{lines_at}
use Rattle.dali_load.specs.Scripts.{groups}
use Rattle.dali_load.proofs.judging.expected.Goals as goal

pub returns : goal.returns
returns c =
    let all : c.loop-group.group ≡ groups c.args.count = omega (arith, c.groups-group-end.ensures) in
    c.in_ok-extend_from_slice.ensures.items
    ∙ ap (λ text. text ++ codes "checkpoint 1\n") (c.loop-group.invariant ∙ ap (λ n. flat_map (lines_at c.args.count) (below n)) all)
