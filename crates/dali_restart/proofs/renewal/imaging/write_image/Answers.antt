use Rattle.dali_restart.proofs.RenewalLemmas.Images.{image_held}
use Rattle.dali_restart.proofs.renewal.imaging.write_image.Goals as goal

pub returns-in-Ok-write_whole-clause-image : goal.returns-in-Ok-write_whole-clause-image
returns-in-Ok-write_whole-clause-image g c =
    image_held c.args.side c.name_of.result c.args.header.now c.args.regions.now (g.V.Store.told c.args.store.now) (g.V.Store.told c.write_whole.new.store) (g.V.Store.may_leave c.write_whole.new.store) c.name_of.ensures
    c.in-Ok-write_whole.ensures.written c.in-Ok-write_whole.ensures.durable
