use Rattle.std.proofs.Common.{◌≡◌, ◌+◌, [], ◌∷◌, ◌++◌, length, sym, ap, subst, ◌∙◌, arith}
use Rattle.dali_notes.specs.History.{AreOf, Place, Sight}
use Rattle.dali_concurrent.specs.Told.{Item}
use Rattle.dali_locked.specs.Begun.{homed}
use Rattle.dali_locked.proofs.RoundLeft.{of_more, left_so}
use Rattle.dali_locked.proofs.locks.Locks.gather.Goals as goal

pub gather_regions-requires-clause-none : goal.gather_regions-requires-clause-none
gather_regions-requires-clause-none g c κs within = (c.self.invariant.2, c.self.invariant.4)

pub gather_regions-requires-clause-room : goal.gather_regions-requires-clause-room
gather_regions-requires-clause-room g c κs within =
    let i = c.self.invariant in
    let many : length c.args.clients.items + (g.B.Beginning.begun.count + 2) ≡ c.self.inside.notes.count = c.requires.all ∙ ap (λ (p : Place). p.count) (sym c.self.view_is) in
    (omega (arith, i.1, i.3), omega (arith, i.1, i.5, many))

pub gather_clients-requires-clause-tables : goal.gather_clients-requires-clause-tables
gather_clients-requires-clause-tables g c κs within =
    let t = g.H.Home.table in
    let told = c.gather_regions.ensures.told c.if-not-gather_regions.false in
    let rs = c.gather_regions.new.notes.items in
    let n = c.into_parts-system.result.1 in
    let m = c.into_parts-vault.result.1 in
    let one : AreOf t (rs ++ n ∷ []) = of_more t rs n told.1 c.into_parts-system.ensures.note.0 in
    let two : AreOf t ((rs ++ n ∷ []) ++ m ∷ []) = of_more t (rs ++ n ∷ []) m one c.into_parts-vault.ensures.note.0 in
    subst (AreOf t) (sym (c.push_reserved-2.ensures.items ∙ ap (λ l. l ++ m ∷ []) c.push_reserved.ensures.items)) two

pub returns-clause-left : goal.returns-clause-left
returns-clause-left g c =
    let b = (homed g.H.Home.table g.B.Beginning.begun) in
    let i = c.self.invariant in
    let many : length c.args.clients.items + (g.B.Beginning.begun.count + 2) ≡ c.self.inside.notes.count = c.requires.all ∙ ap (λ (p : Place). p.count) (sym c.self.view_is) in
    let done = c.gather_regions.ensures.all c.if-not-gather_regions.false in
    let told = c.gather_regions.ensures.told c.if-not-gather_regions.false in
    let rs = c.gather_regions.new.notes.items in
    let n = c.into_parts-system.result.1 in
    let m = c.into_parts-vault.result.1 in
    let more = c.gather_clients.ensures.more in
    let end = c.finish.ensures in
    left_so g.V.Store g.B.VaultBeginning.began b c.args.clients.items c.gather_regions.new.regions.items c.into_parts-system.result.0.state c.into_parts-vault.result.0 end.0 c.gather_clients.new.notes.items rs more.0 n m
    (more.1 ∙ ap (λ l. l ++ more.0) (c.push_reserved-2.ensures.items ∙ ap (λ l. l ++ m ∷ []) c.push_reserved.ensures.items))
    c.into_parts-system.ensures.note.1 c.into_parts-system.ensures.note.2 c.into_parts-system.ensures.told c.into_parts-vault.ensures.note.1 c.into_parts-vault.ensures.told
    told.0 c.gather_clients.ensures.seen end.1 end.2 (omega (arith, done.1, i.1, many)) (done.0 ∙ i.1)
