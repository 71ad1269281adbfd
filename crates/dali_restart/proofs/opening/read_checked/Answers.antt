use Rattle.std.proofs.Common.{inl}
use Rattle.dali_lists.proofs.Options.{if_some_then}
use Rattle.dali_restart.proofs.opening.read_checked.Goals as goal

pub returns-in-Err-clause-bad : goal.returns-in-Err-clause-bad
returns-in-Err-clause-bad g c file at e =
    let b = c.in-Err.ensures.bad file at e in (b.0, if_some_then _ _ (g.V.Store.told c.args.store.now) b.1 (λ fs none. inl none))
