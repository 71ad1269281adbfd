use Rattle.std.proofs.Common.{rules, ◌≡◌, [], ◌∷◌}
use Rattle.std.proofs.lemmas.Result.{err_from_is_err_and}
use Rattle.dali_record.specs.declared.records.Record.TheVariants.{Format}
use Rattle.dali_log.proofs.Finds.{if_some_two, if_some_same}
use Rattle.dali_verify.proofs.Logs.{file_bad, file_read}
use Rattle.dali_verify.proofs.reading.read_file.Goals as goal

pub returns-in_err-read_on-clause-bad : goal.returns-in_err-read_on-clause-bad
returns-in_err-read_on-clause-bad g c =
    let p = err_from_is_err_and c.from_residual-in_err-read_on.result c.from_residual-in_err-read_on.ensures.1 in
    let first = rw c.in-Some.is at c.in_ok-first.ensures.first in
    rw (p.1, p.2) (λ bad e.
    if_some_two _ _ _ (g.V.Store.told c.args.vault.now.store) first.1 (if_some_same _ _ _ c.read_first.ensures.reads.same (c.in_err-read_on.ensures.bad bad e))
    (λ fs front is. file_bad fs.log c.in-Some.first.index c.in-Some.first.heap c.in-Some.first.next bad front is))

pub returns-clause-file : goal.returns-clause-file
returns-clause-file g c =
    let first = rw c.in-Some.is at c.in_ok-first.ensures.first in
    let pushed : c.push.new.self.items ≡ Format c.in-Some.first.index c.in-Some.first.heap ∷ [] = search rules in
    if_some_two _ _ _ (g.V.Store.told c.args.vault.now.store) first.1 (if_some_same _ _ _ c.read_first.ensures.reads.same c.in_ok-read_on.ensures.tail)
    (λ fs front tail. file_read fs.log c.in-Some.first.index c.in-Some.first.heap c.in-Some.first.next tail.1 tail.0 c.push.new.self.items c.read_on.new.records.items front pushed tail.2 tail.3)
