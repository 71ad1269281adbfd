use Rattle.std.proofs.Common.{List, sym, subst}
use Rattle.dali_listing.specs.declared.Listed.{Listed}
use Rattle.dali_load.proofs.Loadable.{right_script}
use Rattle.dali_run.specs.Loading.{HasRows, IsLoadable}
use Rattle.dali_run.proofs.Courses.{err_of}
use Rattle.dali_run.proofs.Loads.{not_ended}
use Rattle.dali_run.proofs.loading.load.Goals as goal

pub store_rows-store-requires-clause-loadable : goal.store_rows-store-requires-clause-loadable
store_rows-store-requires-clause-loadable g c =
    let has = c.in-Ok.ensures.read in
    subst (λ (rows : List Listed). IsLoadable c.args.index c.args.heap rows) (sym c.deref.ensures.value)
    (right_script has.bytes c.in-Ok.rows.items c.args.index c.args.heap has.spelled c.requires.index.0 c.requires.index.1 c.requires.heap.0 c.requires.heap.1)

pub returns-clause-ended : goal.returns-clause-ended
returns-clause-ended g c =
    let has : HasRows (g.S.Source.left c.args.source.now) c.deref.result.now (g.S.Source.left c.read_rows.new.source) =
    subst (λ (rows : List Listed). HasRows (g.S.Source.left c.args.source.now) rows (g.S.Source.left c.read_rows.new.source)) (sym c.deref.ensures.value) c.in-Ok.ensures.read in
    not_ended g.V.Store g.S.Source g.K.Sink c.args.index c.args.heap c.args.source.now c.read_rows.new.source c.deref.result.now c.in-Err-stored.halt c.args.sink.now c.args.store
    c.store_rows-store.result.0 has (err_of _ c.store_rows-store.result.1 c.in-Err-stored.halt c.in-Err-stored.is c.store_rows-store.ensures.stops)
