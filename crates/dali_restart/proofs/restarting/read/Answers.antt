use Rattle.std.proofs.Common.{◌≡◌, [], ◌∷◌, ◌++◌, IfSome, rules, refl, sym, subst, arith}
use Rattle.dali_log.proofs.Finds.{if_some_any, if_some_same, if_some_two}
use Rattle.dali_log.proofs.Readings.{reads_then}
use Rattle.dali_restart.specs.Deciding.{AreKnown, FindsNext}
use Rattle.dali_restart.proofs.Passing.{comes_further, none_told, nothing_known, one_more_known}
use Rattle.dali_restart.proofs.restarting.read.Goals as goal

pub passes-init : goal.passes-init
passes-init g c =
    let none : c.new-known.result.items ≡ [] = search rules in
    record {
      known = if_some_any _ (g.V.Store.told c.args.store.now) (λ fs. subst (λ ds. AreKnown fs ds 0) (sym none) (nothing_known fs));
      reads = search rules;
      passes = search rules;
      kept = refl;
    }

-- a store that tells its contents comes further
pub returns-then-first-last-clause-steady : goal.returns-then-first-last-clause-steady
returns-then-first-last-clause-steady g c h =
    let told = g.V.Store.told in
    let d = c.in-Ok-Damaged.damage in
    let ds = c.passes.known.items in
    let next = rw c.in-Ok-Damaged.field-0-is at c.in-Ok-Damaged.ensures.damaged in
    none_told (λ fs. AreKnown fs ds c.passes.last × FindsNext fs ds d) (told c.args.store.now)
    (if_some_two _ _ _ (told c.args.store.now) c.passes.invariant.known (if_some_same _ _ _ c.passes.invariant.reads.same (subst (λ l. IfSome (told c.passes.store) (λ fs. FindsNext fs l d)) c.deref.ensures.value next)) (λ fs known next. (known, next)))
    (λ fs p. omega (arith, comes_further fs ds d c.passes.last p.0 p.1, c.if-first-last.true))

pub passes-preserved : goal.passes-preserved
passes-preserved g c =
    let told = g.V.Store.told in
    let d = c.in-Ok-Damaged.damage in
    let ds = c.passes.known.items in
    let next = rw c.in-Ok-Damaged.field-0-is at c.in-Ok-Damaged.ensures.damaged in
    let pushed : c.push.new.self.items ≡ ds ++ d ∷ [] = search rules in
    let more = if_some_two _ _ _ (told c.args.store.now) c.passes.invariant.known (if_some_same _ _ _ c.passes.invariant.reads.same (subst (λ l. IfSome (told c.passes.store) (λ fs. FindsNext fs l d)) c.deref.ensures.value next)) (λ fs known next. one_more_known fs ds d c.passes.last known next) in
    record {
      known = subst (λ l. IfSome (told c.args.store.now) (λ fs. AreKnown fs l d.first)) (sym pushed) more;
      reads = reads_then _ _ _ _ _ _ _ c.passes.invariant.reads c.pass.ensures.store.reads;
      passes = search rules;
      kept = search rules;
    }
