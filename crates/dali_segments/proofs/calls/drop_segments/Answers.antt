use Rattle.dali_segments.proofs.Droppings.{drops_torn, drops_quiet, drops_clear, marked_by}
use Rattle.dali_segments.proofs.calls.drop_segments.Goals as goal

pub returns-in_err-write_at-clause-drops : goal.returns-in_err-write_at-clause-drops
returns-in_err-write_at-clause-drops g c =
    drops_torn 0 _ _ c.requires.numbers.0 c.requires.numbers.1 _ c.part_of-bytes.ensures.length _ _ _ _ _ _ _ _ _ _
    c.write_at.ensures.tells c.write_at.ensures.torn c.write_at.ensures.crash c.write_at.ensures.going c.write_at.ensures.time

pub returns-in_err-sync-clause-drops : goal.returns-in_err-sync-clause-drops
returns-in_err-sync-clause-drops g c =
    drops_quiet 0 _ _ c.requires.numbers.0 c.requires.numbers.1 _ _ _ _ _ _ _ _ _ _ _ _ _ _ _
    (
    drops_torn 0 _ _ c.requires.numbers.0 c.requires.numbers.1 _ c.part_of-bytes.ensures.length _ _ _ _ _ _ _ _ _ _
    c.write_at.ensures.tells c.write_at.ensures.torn c.write_at.ensures.crash c.write_at.ensures.going c.write_at.ensures.time
    )
    (record { told = c.sync.ensures.told; crash = c.sync.ensures.crash; going = c.sync.ensures.going; time = c.sync.ensures.time })

pub returns-in_err-clear-clause-drops : goal.returns-in_err-clear-clause-drops
returns-in_err-clear-clause-drops g c =
    (
    drops_clear 0 _ _ c.requires.numbers.0 c.requires.numbers.1 _ _ _ _ _ _ _ _ _ _ _ _ _ _ _ c.requires.marked c.requires.left
    (
    drops_quiet 0 _ _ c.requires.numbers.0 c.requires.numbers.1 _ _ _ _ _ _ _ _ _ _ _ _ _ _ _
    (
    drops_torn 0 _ _ c.requires.numbers.0 c.requires.numbers.1 _ c.part_of-bytes.ensures.length _ _ _ _ _ _ _ _ _ _
    c.write_at.ensures.tells c.write_at.ensures.torn c.write_at.ensures.crash c.write_at.ensures.going c.write_at.ensures.time
    )
    (record { told = c.sync.ensures.told; crash = c.sync.ensures.crash; going = c.sync.ensures.going; time = c.sync.ensures.time })
    )
    (
    marked_by 0 _ _ c.requires.numbers.0 c.requires.numbers.1 c.part_of-bytes.result.now c.part_of-bytes.ensures.length _ _ _ _
    c.requires.marked c.in_ok-write_at.ensures.written c.sync.ensures.told c.in_ok-sync.ensures.durable
    )
    c.clear.ensures.clears
    ).0

pub returns-clause-drops : goal.returns-clause-drops
returns-clause-drops g c =
    (
    drops_clear 0 _ _ c.requires.numbers.0 c.requires.numbers.1 _ _ _ _ _ _ _ _ _ _ _ _ _ _ _ c.requires.marked c.requires.left
    (
    drops_quiet 0 _ _ c.requires.numbers.0 c.requires.numbers.1 _ _ _ _ _ _ _ _ _ _ _ _ _ _ _
    (
    drops_torn 0 _ _ c.requires.numbers.0 c.requires.numbers.1 _ c.part_of-bytes.ensures.length _ _ _ _ _ _ _ _ _ _
    c.write_at.ensures.tells c.write_at.ensures.torn c.write_at.ensures.crash c.write_at.ensures.going c.write_at.ensures.time
    )
    (record { told = c.sync.ensures.told; crash = c.sync.ensures.crash; going = c.sync.ensures.going; time = c.sync.ensures.time })
    )
    (
    marked_by 0 _ _ c.requires.numbers.0 c.requires.numbers.1 c.part_of-bytes.result.now c.part_of-bytes.ensures.length _ _ _ _
    c.requires.marked c.in_ok-write_at.ensures.written c.sync.ensures.told c.in_ok-sync.ensures.durable
    )
    c.clear.ensures.clears
    ).0

pub returns-clause-done : goal.returns-clause-done
returns-clause-done g c =
    (
    drops_clear 0 _ _ c.requires.numbers.0 c.requires.numbers.1 _ _ _ _ _ _ _ _ _ _ _ _ _ _ _ c.requires.marked c.requires.left
    (
    drops_quiet 0 _ _ c.requires.numbers.0 c.requires.numbers.1 _ _ _ _ _ _ _ _ _ _ _ _ _ _ _
    (
    drops_torn 0 _ _ c.requires.numbers.0 c.requires.numbers.1 _ c.part_of-bytes.ensures.length _ _ _ _ _ _ _ _ _ _
    c.write_at.ensures.tells c.write_at.ensures.torn c.write_at.ensures.crash c.write_at.ensures.going c.write_at.ensures.time
    )
    (record { told = c.sync.ensures.told; crash = c.sync.ensures.crash; going = c.sync.ensures.going; time = c.sync.ensures.time })
    )
    (
    marked_by 0 _ _ c.requires.numbers.0 c.requires.numbers.1 c.part_of-bytes.result.now c.part_of-bytes.ensures.length _ _ _ _
    c.requires.marked c.in_ok-write_at.ensures.written c.sync.ensures.told c.in_ok-sync.ensures.durable
    )
    c.clear.ensures.clears
    ).1
