use Rattle.std.proofs.Common.{◌≡◌, ◌/◌, ◌^◌, sym, ◌∙◌, ap}
use Rattle.dali_generator.specs.Generated.{next, state}
use Rattle.dali_generator.proofs.Parts.{state_more, transactions_more}
use Rattle.dali_generator.proofs.transactions.commands_of.Goals as goal

pub loop-transaction-preserved : goal.loop-transaction-preserved
loop-transaction-preserved c =
    let number = c.args.number in
    let client = c.args.client in
    let i = c.loop-transaction.transaction in
    let drawn : c.next-state.result ≡ next (state number client i) = c.next-state.ensures ∙ ap next c.loop-transaction.invariant.drawn in
    record {
      made = transactions_more number client i _ c.loop-transaction.commands.items c.add_transaction.new.commands.items c.loop-transaction.invariant.made (ap (λ x. x / 2 ^ 33) drawn) c.in_ok-add_transaction.ensures;
      drawn = drawn ∙ sym (state_more number client i);
    }
