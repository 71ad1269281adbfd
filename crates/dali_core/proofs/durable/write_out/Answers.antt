use Rattle.std.proofs.Common.{◌∙◌, ap, drop}
use Rattle.std.proofs.lemmas.Result.{on_ok_weaker}
use Rattle.dali_store.specs.Calls.{fewer}
use Rattle.dali_log.specs.Log.{body_bytes}
use Rattle.dali_system.specs.Served.{Served}
use Rattle.dali_store.specs.declared.store.FileName.TheVariants.{Log}
use Rattle.dali_core.proofs.Lengths.{torn_length}
use Rattle.dali_core.proofs.Moments.{calls_of}
use Rattle.dali_core.proofs.durable.write_out.Goals as goal

pub returns-in-Ok-clause-calls : goal.returns-in-Ok-clause-calls
returns-in-Ok-clause-calls g c =
    on_ok_weaker c.flush.result (λ e. e ∙ ap (λ n. fewer n (g.V.Store.lets_pass c.args.vault.now.store)) (calls_of c.args.system.now.state c.in-Ok.frame.body c.in-Ok.ensures.frame.0)) c.flush.ensures.calls

pub returns-in-Err-clause-calls : goal.returns-in-Err-clause-calls
returns-in-Err-clause-calls g c =
    on_ok_weaker c.flush-flushed.result (λ e. e ∙ ap (λ n. fewer n (g.V.Store.lets_pass c.args.vault.now.store)) (calls_of c.args.system.now.state c.frame-in-Err.result.now.body (c.frame-in-Err.ensures.body ∙ ap (λ (s : Served). body_bytes (drop s.state.taken s.state.since)) c.in-Err.ensures.err))) c.flush-flushed.ensures.calls

pub returns-in-Ok-clause-files : goal.returns-in-Ok-clause-files
returns-in-Ok-clause-files g c = torn_length Log c.args.vault.now.end _ (g.V.Store.told c.args.vault.now.store) (g.V.Store.told c.flush.new.vault.store) (c.flush.ensures.torn c.requires.runs)

pub returns-in-Err-clause-files : goal.returns-in-Err-clause-files
returns-in-Err-clause-files g c = torn_length Log c.args.vault.now.end _ (g.V.Store.told c.args.vault.now.store) (g.V.Store.told c.flush-flushed.new.vault.store) (c.flush-flushed.ensures.torn c.requires.runs)

pub returns-in-Ok-clause-place : goal.returns-in-Ok-clause-place
returns-in-Ok-clause-place g c = c.flush.ensures.place

pub returns-in-Err-clause-place : goal.returns-in-Err-clause-place
returns-in-Err-clause-place g c = c.flush-flushed.ensures.place
