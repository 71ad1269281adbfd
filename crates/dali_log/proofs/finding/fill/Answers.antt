use Rattle.std.proofs.Common.{◌≡◌, length, arith}
use Rattle.std.proofs.lemmas.Bool.Decides.{nat_tests}
use Rattle.dali_lists.proofs.Options.{if_some_then}
use Rattle.dali_log.proofs.Finds.{filled}
use Rattle.dali_log.proofs.finding.fill.Goals as goal

pub returns-clause-whole : goal.returns-clause-whole
returns-clause-whole g c = λ all.
    let same : c.in_ok-count.count ≡ length c.args.into.now = grind (arith, nat_tests, all) in
    if_some_then _ _ (g.V.Store.told c.args.store.now) c.in_ok-count.ensures.bytes (λ fs reads. filled fs.log c.args.into.now c.read_at.new.into c.args.at _ c.requires reads same)
