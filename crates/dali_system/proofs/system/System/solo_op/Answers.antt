use Rattle.std.proofs.Common.{rules, ap, refl, ◌<◌, ◌^◌, ◌∙◌, ◌+◌}
use Rattle.dali_record.specs.declared.records.Record.TheVariants.{Solo}
use Rattle.dali_runs.specs.Steps.{solo_logged}
use Rattle.dali_system.specs.Served.{Served, solo_room}
use Rattle.dali_system.specs.Promised.{used}
use Rattle.dali_system.proofs.RowsAre.{rows_of_more}
use Rattle.dali_system.proofs.Systems.{stepped, bounded_begin}
use Rattle.dali_system.proofs.system.System.solo_op.Goals as goal

pub push_solo-requires : goal.push_solo-requires
push_solo-requires c = let fits : c.self.inside.next < 2 ^ 64 = search rules in (fits, c.ranges.parent.fits, c.requires.spelled.0, c.requires.spelled.1)

pub returns-clause-ok : goal.returns-clause-ok
returns-clause-ok c = (
  stepped c.self.inside c.push_solo.new.self (Solo c.self.inside.next c.args.parent c.args.block.now) _ c.self.inside.table c.self.inside.table c.self.inside.locks c.self.inside.locks _ _ (c.self.inside.next + 1) (c.self.inside.next + 1)
      c.in_ok-push_solo.ensures.ok refl refl (ap (λ n. c.self.inside.end + n) (c.solo_record_length-length.ensures.solo c.self.inside.next c.args.parent)) refl
      ∙ ap (λ (y : Served). let z : Served = record { state = solo_logged y.state c.args.parent c.args.block.now; promised = used y.promised c.args.parent solo_room } in z) c.self.view_is,
  c.touch.ensures.after,
)

pub invariant_of-self-2 : goal.invariant_of-self-2
invariant_of-self-2 c =
    let fits : c.self.inside.next < 2 ^ 64 = search rules in
    bounded_begin c.self.inside c.push_solo.new.self (Solo c.self.inside.next c.args.parent c.args.block.now) _ c.self.inside.table c.self.inside.locks _ c.self.invariant c.in_ok-push_solo.ensures.ok
    (c.solo_record_length-length.ensures.spelled c.self.inside.next c.args.parent (fits, c.ranges.parent.fits, c.requires.spelled.0, c.requires.spelled.1))
    (rows_of_more c.self.inside.next c.self.inside.table c.self.invariant.rows)
