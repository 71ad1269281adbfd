use Rattle.dali_restart.proofs.Formatted.{is_closed, is_new, is_whole, run_begins}
use Rattle.dali_restart.proofs.formatting.format.Goals as goal

pub new-requires-clause-closed : goal.new-requires-clause-closed
new-requires-clause-closed g c =
    is_closed g.V.Store.told g.V.Store.may_leave c.args.geometry c.args.store c.make_in.new.store c.in-Ok.end c.in-Ok.ensures.end c.make_in.ensures.tells c.in-Ok.ensures.makes

pub returns-in-Ok-clause-whole : goal.returns-in-Ok-clause-whole
returns-in-Ok-clause-whole g c =
    is_whole g.V.Store.told c.args.geometry c.args.limit c.in-Ok.made.regions.items c.in-Ok.made.system c.new.result
    (is_new c.args.geometry c.args.limit c.in-Ok.made.regions.items c.in-Ok.made.system c.make_in.new.store c.in-Ok.end c.new.result c.in-Ok.ensures.regions c.in-Ok.ensures.system c.in-Ok.ensures.end c.new.ensures)

pub returns-in-Ok-clause-begins : goal.returns-in-Ok-clause-begins
returns-in-Ok-clause-begins g c =
    run_begins g.V.Store c.args.geometry c.args.limit c.in-Ok.made.regions.items c.in-Ok.made.system c.make_in.new.store c.in-Ok.end c.new.result c.args.store
    (is_new c.args.geometry c.args.limit c.in-Ok.made.regions.items c.in-Ok.made.system c.make_in.new.store c.in-Ok.end c.new.result c.in-Ok.ensures.regions c.in-Ok.ensures.system c.in-Ok.ensures.end c.new.ensures)
    c.new.ensures c.requires c.in-Ok.ensures.spelled c.make_in.ensures.tells c.in-Ok.ensures.makes
