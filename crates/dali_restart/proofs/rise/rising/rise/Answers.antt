use Rattle.dali_restart.specs.Rise.Risen.{IsRisen}
use Rattle.dali_restart.proofs.RiseLemmas.Begun.{is_whole, run_begins}
use Rattle.dali_restart.proofs.rise.rising.rise.Goals as goal

pub returns-in-Ok-clause-whole : goal.returns-in-Ok-clause-whole
returns-in-Ok-clause-whole g c =
    let risen : IsRisen c.args.resting.now c.args.words.now c.args.limit c.args.store c.in-Ok.made.regions.items c.in-Ok.made.system c.new.result = record { regions = c.in-Ok.ensures.regions; system = c.in-Ok.ensures.system; vault = c.new.ensures } in
    is_whole g.V.Store.told c.args.resting.now c.args.words.now c.args.limit c.args.store c.in-Ok.made.regions.items c.in-Ok.made.system c.new.result c.requires.whole risen

pub returns-in-Ok-clause-begins : goal.returns-in-Ok-clause-begins
returns-in-Ok-clause-begins g c =
    let risen : IsRisen c.args.resting.now c.args.words.now c.args.limit c.args.store c.in-Ok.made.regions.items c.in-Ok.made.system c.new.result = record { regions = c.in-Ok.ensures.regions; system = c.in-Ok.ensures.system; vault = c.new.ensures } in
    run_begins g.V.Store c.args.resting.now c.args.words.now c.args.limit c.args.store c.in-Ok.made.regions.items c.in-Ok.made.system c.new.result c.requires.limit risen
