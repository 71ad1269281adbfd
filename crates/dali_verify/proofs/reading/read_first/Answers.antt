use Rattle.std.proofs.Common.{◌∙◌, sym, subst, rules}
use Rattle.std.specs.Prelude.{IsNone}
use Rattle.dali_lists.proofs.Options.{if_some_then}
use Rattle.dali_log.specs.Log.{HasNoFormat}
use Rattle.dali_log.proofs.Finds.{if_some_two, if_some_same}
use Rattle.dali_verify.proofs.Logs.{first_stands, no_first, bad_first}
use Rattle.dali_verify.proofs.reading.read_first.Goals as goal

pub returns-in-Some-clause-first : goal.returns-in-Some-clause-first
returns-in-Some-clause-first g c =
    let some = rw c.in-Some.is at c.format_of.ensures.some in
    let found = rw c.in-Ok-Batch.field-0-is at c.in-Ok-Batch.ensures.found in
    (some.0, if_some_then _ _ (g.V.Store.told c.args.vault.now.store) found (λ fs at. first_stands fs.log c.in-Ok-Batch.body c.in-Ok-Batch.next c.in-Some.index c.in-Some.heap at.0 at.1 some.0 (sym c.bytes.ensures ∙ some.1)))

pub returns-in-Ok-Batch-clause-bad : goal.returns-in-Ok-Batch-clause-bad
returns-in-Ok-Batch-clause-bad g c = λ bad e.
    let nothing : IsNone c.format_of.result = search rules in
    let none = subst HasNoFormat c.bytes.ensures (c.format_of.ensures.none nothing) in
    let found = rw c.in-Ok-Batch.field-0-is at c.in-Ok-Batch.ensures.found in
    if_some_then _ _ (g.V.Store.told c.args.vault.now.store) found (λ fs at. no_first fs.log c.in-Ok-Batch.body bad at.0 none e)

pub returns-in-Err-BadLog-clause-bad : goal.returns-in-Err-BadLog-clause-bad
returns-in-Err-BadLog-clause-bad g c = λ bad e.
    let is = c.in-Err-BadLog.ensures.bad c.in-Err-BadLog.at c.in-Err-BadLog.field-0-is in
    let short = if_some_same _ _ _ c.read_log.ensures.reads.same c.in_ok-is_short-in-Err-BadLog.ensures.short in
    if_some_two _ _ _ (g.V.Store.told c.args.vault.now.store) is short (λ fs is long. bad_first fs.log c.in-Err-BadLog.at bad (long.1 c.if-branch.false) is e)
