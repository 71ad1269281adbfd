use Rattle.std.proofs.Common.{ap, sym, ◌∙◌, subst, refl}
use Rattle.std.specs.Prelude.{IsSome}
use Rattle.std.specs.Option.{option_copied_mut}
use Rattle.dali_system.proofs.Totals.{lowered, not_lowered}
use Rattle.dali_system.proofs.promises.lower.Goals as goal

pub returns-in-Some : goal.returns-in-Some
returns-in-Some c =
    let found = sym c.get_mut.ensures.value ∙ ap option_copied_mut c.in-Some.is in
    lowered c.args.each.now.entries c.args.txn _ c.args.by c.in-Some.bytes.now _ found c.saturating_sub.ensures ((c.get_mut.follows.holds c.saturating_sub.result).3 (subst IsSome (sym found) refl)).0

pub returns-in-None : goal.returns-in-None
returns-in-None c = rw c.get_mut.follows.holds-at-none (not_lowered c.args.each.now.entries c.args.txn c.args.by (sym c.get_mut.ensures.value ∙ ap option_copied_mut c.in-None.is))
