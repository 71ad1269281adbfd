use Rattle.std.proofs.Common.{refl, sym, subst}
use Rattle.dali_record.specs.Damage.{Damage}
use Rattle.dali_redo.specs.Taint.Following.{Begins}
use Rattle.dali_recovery.proofs.Epochs.{begins_with}
use Rattle.dali_recovery.proofs.scan.Scan.new.Goals as goal

pub returns-clause-follows : goal.returns-clause-follows
returns-clause-follows c = λ k d e f b.
    let assumed : Damage = record { first = d.first; clean = c.args.clean; failing = c.in_ok-from_slice.field-0.items } in
    c.in_ok-new.ensures assumed k refl c.in_ok-from_slice.ensures.items (subst (Begins assumed k) (sym c.table.ensures) (begins_with d assumed k c.args.redo.now.table refl b))
