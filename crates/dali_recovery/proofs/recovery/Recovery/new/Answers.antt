use Rattle.std.proofs.Common.{ap, sym, refl}
use Rattle.std.specs.List.{list_any}
use Rattle.std.specs.Ordering.{nat_cmp}
use Rattle.std.specs.BTreeMap.{is_at}
use Rattle.dali_recovery.proofs.Epochs.{begins_here, built_as}
use Rattle.dali_recovery.proofs.Ordered.{starts_ordered}
use Rattle.dali_recovery.proofs.recovery.Recovery.new.Goals as goal

pub returns-clause-stands : goal.returns-clause-stands
returns-clause-stands c = λ F first next image starts. begins_here _ F c.args.table c.args.first first refl refl refl c.new-2.ensures.items refl refl (sym next) (built_as c.new.result c.args.geometry c.args.regions.items F.image c.args.table c.args.next F.next c.new.ensures (sym image) (sym next))
    (λ b. ap (list_any (is_at (nat_cmp b))) c.new-3.ensures.empty) refl refl c.new-4.ensures.items c.new-5.ensures.items starts

pub returns-clause-ordered : goal.returns-clause-ordered
returns-clause-ordered c = λ low. starts_ordered _ c.args.geometry c.args.regions.items c.args.table _ c.args.next refl c.new.ensures refl c.new-4.ensures.items c.new-5.ensures.items low
