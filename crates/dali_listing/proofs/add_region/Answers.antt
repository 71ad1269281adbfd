use Rattle.dali_access.specs.Index.Records.{stored}
use Rattle.dali_listing.specs.Listing.{in_memory}
use Rattle.dali_listing.proofs.Rows.{added, all}
use Rattle.dali_listing.proofs.add_region.Goals as goal

pub loop-entry-preserved : goal.loop-entry-preserved
loop-entry-preserved c = added (stored c.args.geometry.now (in_memory c.args.regions.now) c.args.region) c.args.rows.now.items c.loop-entry.rows.items c.add_row.new.rows.items c.loop-entry.entry c.stored.result c.loop-entry.invariant c.stored.ensures c.in_ok-add_row.ensures

pub returns : goal.returns
returns c = all (stored c.args.geometry.now (in_memory c.args.regions.now) c.args.region) c.args.rows.now.items c.loop-entry.rows.items c.loop-entry.entry c.loop-entry.invariant c.loop-entry.auto.entry-end c.loop-entry-test.false
