use Rattle.std.proofs.Common.{◌≡◌, Err, IfErr, ap, subst, sym, ◌∙◌}
use Rattle.dali_transactions.specs.Guards.{MayEnd}
use Rattle.dali_transactions.specs.declared.error.AbortError.{AbortError}
use Rattle.dali_transactions.specs.declared.error.AbortError.TheVariants.{Stopped, OutOfMemory, Unfit}
use Rattle.dali_turns.proofs.steps.transactions.take_back.Goals as goal

-- a running engine is told as stopped neither where the transaction may end nor where it may not
pub returns-in-Err-Stopped-clause-away : goal.returns-in-Err-Stopped-clause-away
returns-in-Err-Stopped-clause-away g c = λ runs.
    let told : c.abort.result ≡ Err (Stopped c.in-Err-Stopped.cause) = c.in-Err-Stopped.is ∙ ap Err c.in-Err-Stopped.field-0-is in
    let never : MayEnd c.args.core.now.regions.items c.args.core.now.system.state c.args.txn → ⊥ = λ may.
    let memory : Stopped c.in-Err-Stopped.cause ≡ OutOfMemory = subst (λ r. IfErr r (λ (e : AbortError). e ≡ OutOfMemory)) told (c.abort.ensures.memory runs may) in
    absurd (cc) in
    let unfit = sym told ∙ c.abort.ensures.other runs never in
    absurd (cc)
