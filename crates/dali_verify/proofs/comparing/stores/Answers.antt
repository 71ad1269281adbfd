use Rattle.std.proofs.lemmas.Slice.Eq.{slice_eq-Decides}
use Rattle.dali_verify.proofs.Compared.{rows_decide, stores_just}
use Rattle.dali_verify.proofs.comparing.stores.Goals as goal

pub returns-clause-is : goal.returns-clause-is
returns-clause-is c =
    let just = stores_just c.args.geometry.now _ c.in_ok-stored.stored.items c.in_ok-expected.expected.items c.args.map.now c.in_ok-stored.ensures c.in_ok-expected.ensures.pairs c.listed.ensures.ordered in
    let decides = slice_eq-Decides rows_decide c.in_ok-stored.stored.items c.in_ok-expected.expected.items c.eq.result c.eq.ensures in
    (λ is. just.0 (decides.0 is), λ holds. decides.1 (just.1 holds))
