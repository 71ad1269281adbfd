use Rattle.std.proofs.lemmas.Option.{IfSome_then}
use Rattle.dali_core.proofs.StepsLemmas.Files.{was_running}
use Rattle.dali_core.proofs.steps.called.move_anchor.Goals as goal

pub returns-clause-fault : goal.returns-clause-fault
returns-clause-fault g c e = record {
  ran = was_running c.args.vault.now.stopped c.move_anchor.result e (λ stopped. (c.move_anchor.ensures.stopped stopped).0);
  vault = (c.move_anchor.ensures.fault e).0;
  rose = (c.move_anchor.ensures.fault e).1;
  tells = c.move_anchor.ensures.tells;
  crash = IfSome_then (g.V.Store.told c.args.vault.now.store) (c.move_anchor.ensures.any_moment (was_running c.args.vault.now.stopped c.move_anchor.result e (λ stopped. (c.move_anchor.ensures.stopped stopped).0)))
      (λ fs only d left. only.each d (g.met.V.Store.counts_now c.move_anchor.new.self.store (g.V.Store.moment c.args.vault.now.store) d only.later left));
}
