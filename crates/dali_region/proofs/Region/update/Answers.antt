use Rattle.std.proofs.Common.{◌≡◌, ◌<◌, ◌^◌, length, ap, sym, ◌∙◌, arith}
use Rattle.std.proofs.Common.{rules}
use Rattle.std.specs.Prelude.{bit_or, slice_set}
use Rattle.dali_region.specs.State.{restored, written}
use Rattle.dali_region.specs.Fields.{state_of}
use Rattle.dali_region.proofs.Holds.{read_word_is_below, has_read_word, updated_keeps, updated_is, with_back}
use Rattle.dali_region.proofs.Olds.{updated_back}
use Rattle.dali_region.proofs.Region.update.Goals as goal

pub keep-requires : goal.keep-requires
keep-requires c =
    let fits : c.unwrap-hold.result.read < 2 ^ 64 = search rules in
    read_word_is_below (state_of c.self.inside) c.args.self.now c.unwrap-hold.result c.args.word c.self.view_is c.unwrap-hold.ensures fits c.requires

pub bounds-self-inside-at : goal.bounds-self-inside-at
bounds-self-inside-at c =
    let fits : c.unwrap-hold.result.read < 2 ^ 64 = search rules in
    read_word_is_below (state_of c.self.inside) c.args.self.now c.unwrap-hold.result c.args.word c.self.view_is c.unwrap-hold.ensures fits c.requires

pub bounds-self-inside-at-2 : goal.bounds-self-inside-at-2
bounds-self-inside-at-2 c =
    let fits : c.unwrap-hold.result.read < 2 ^ 64 = search rules in
    read_word_is_below (state_of c.self.inside) c.args.self.now c.unwrap-hold.result c.args.word c.self.view_is c.unwrap-hold.ensures fits c.requires

pub bit-requires : goal.bit-requires
bit-requires c =
    let fits : c.unwrap-hold.result.read < 2 ^ 64 = search rules in
    read_word_is_below (state_of c.self.inside) c.args.self.now c.unwrap-hold.result c.args.word c.self.view_is c.unwrap-hold.ensures fits c.requires

-- the word is one of the region's
below : (c : goal.After-self-3-1) → c.args.word < 64
below c =
    let fits : c.unwrap-hold.result.read < 2 ^ 64 = search rules in
    read_word_is_below (state_of c.self.inside) c.args.self.now c.unwrap-hold.result c.args.word c.self.view_is c.unwrap-hold.ensures fits c.requires

-- the words without the hold stay
back_is : (c : goal.After-self-3-1) → restored (bit_or c.unwrap-hold.result.write c.bit.result) c.keep.new.olds (slice_set c.self.inside.words c.args.word c.args.value) ≡ (state_of c.self.inside).back
back_is c =
    let even : length c.self.inside.olds ≡ length c.self.inside.words = c.self.told.1 ∙ sym c.self.told.0 in
    updated_back c.unwrap-hold.result c.args.word c.args.value c.bit.result c.self.inside.olds c.keep.new.olds c.self.inside.words even (omega (arith, c.self.told.0, below c)) c.bit.ensures c.keep.ensures
    ∙ sym (ap (λ o. restored (written o) c.self.inside.olds c.self.inside.words) c.unwrap-hold.ensures)

pub invariant_of-self : goal.invariant_of-self
invariant_of-self c =
    with_back _ _ (back_is c)
    (updated_keeps (state_of c.self.inside) c.unwrap-hold.result c.args.word c.args.value c.bit.result c.self.invariant c.unwrap-hold.ensures (below c) c.bit.ensures c.ranges.value.fits (has_read_word (state_of c.self.inside) c.args.self.now c.unwrap-hold.result c.args.word c.self.view_is c.unwrap-hold.ensures c.requires))

pub returns-clause-protected : goal.returns-clause-protected
returns-clause-protected c = invariant_of-self c

pub returns-clause-after : goal.returns-clause-after
returns-clause-after c = updated_is (state_of c.self.inside) c.args.self.now c.unwrap-hold.result c.args.word c.args.value c.bit.result _ c.self.view_is c.unwrap-hold.ensures c.bit.ensures (back_is c)
