use Rattle.std.specs.Prelude.{slice_set}
use Rattle.std.proofs.Common.{[], ◌∷◌, subst, ◌∙◌, ap}
use Rattle.dali_calls.proofs.SingleLemmas.Flags.{freed_flag, left_flag}
use Rattle.std.proofs.lemmas.Option.{slice_get-get_or, get_or_from_slice_get}
use Rattle.dali_region.specs.State.{RegionState}
use Rattle.dali_calls.specs.Single.Operated.{IsLeftOf}
use Rattle.dali_calls.specs.Single.Settling.{Freed}
use Rattle.dali_runs.specs.Regions.{is_alive}
use Rattle.dali_runs.specs.State.{SystemState}
use Rattle.dali_system.specs.Promised.{Promised, used}
use Rattle.dali_system.specs.Served.{Served, solo_room}
use Rattle.dali_calls.proofs.Flags.{flags_further, flags_set}
use Rattle.dali_lists.proofs.Lists.{get_set}
use Rattle.dali_transactions.proofs.Releasing.{cleared}
use Rattle.dali_transactions.proofs.Alone.{removal_within, may_still, promised_on}
use Rattle.dali_transactions.proofs.Freeing.{frees_promised, releasable_one, frees_in, freed_others, freed_still, unfreed_left, unfreed_still}
use Rattle.dali_transactions.proofs.parts.free_one.Goals as goal

pub bounds-regions-place : goal.bounds-regions-place
bounds-regions-place c = removal_within c.args.regions.now c.args.system.now.state c.args.txn c.args.removal.now c.requires.whole c.requires.may

pub release-requires : goal.release-requires
release-requires c =
    let there = removal_within c.args.regions.now c.args.system.now.state c.args.txn c.args.removal.now c.requires.whole c.requires.may in
    record { dead = releasable_one c.args.regions.now c.args.removal.now _ c.requires.releasable (slice_get-get_or c.args.regions.now _ _ there) }

pub free-requires : goal.free-requires
free-requires c =
    let there = removal_within c.args.regions.now c.args.system.now.state c.args.txn c.args.removal.now c.requires.whole c.requires.may in
    let one = cleared c.args.regions.now c.args.system.now c.release.new.system c.args.txn _ _ c.release.new.region (ap is_alive c.requires.committed) (slice_get-get_or c.args.regions.now _ _ there) c.release.ensures.released c.release.ensures.promised in
    (may_still c.args.txn (c.args.removal.now ∷ []) c.args.regions.now _ c.args.system.now c.release.new.system one (c.requires.may, tt)).0

-- ---- it is freed
pub returns-in-Ok-clause-freed : goal.returns-in-Ok-clause-freed
returns-in-Ok-clause-freed c =
    let there = removal_within c.args.regions.now c.args.system.now.state c.args.txn c.args.removal.now c.requires.whole c.requires.may in
    let at = slice_get-get_or c.args.regions.now _ _ there in
    let one = cleared c.args.regions.now c.args.system.now c.release.new.system c.args.txn _ _ c.release.new.region (ap is_alive c.requires.committed) at c.release.ensures.released c.release.ensures.promised in
    let now = get_set c.args.regions.now _ _ c.release.new.region at in
    frees_in c.args.txn c.args.removal.now c.args.regions.now _ c.args.system.now c.release.new.system c.free.new.system.state _ c.free.new.region c.ranges.txn.fits one c.requires.may c.requires.committed now (subst (λ (k : RegionState). Freed c.args.removal.now k c.release.new.system.state c.args.txn c.free.new.region c.free.new.system.state) (get_or_from_slice_get (slice_set c.args.regions.now c.args.removal.now.region c.release.new.region) c.args.removal.now.region c.release.new.region c.index-regions-place-2.result now) c.in-Ok.ensures.ok.1)

pub returns-in-Ok-clause-others : goal.returns-in-Ok-clause-others
returns-in-Ok-clause-others c =
    let there = removal_within c.args.regions.now c.args.system.now.state c.args.txn c.args.removal.now c.requires.whole c.requires.may in
    let at = slice_get-get_or c.args.regions.now _ _ there in
    let one = cleared c.args.regions.now c.args.system.now c.release.new.system c.args.txn _ _ c.release.new.region (ap is_alive c.requires.committed) at c.release.ensures.released c.release.ensures.promised in
    let now = get_set c.args.regions.now _ _ c.release.new.region at in
    freed_others c.args.txn c.args.removal.now c.args.regions.now _ c.args.system.now c.release.new.system c.free.new.system.state _ c.free.new.region one now (subst (λ (k : RegionState). Freed c.args.removal.now k c.release.new.system.state c.args.txn c.free.new.region c.free.new.system.state) (get_or_from_slice_get (slice_set c.args.regions.now c.args.removal.now.region c.release.new.region) c.args.removal.now.region c.release.new.region c.index-regions-place-2.result now) c.in-Ok.ensures.ok.1)

pub returns-in-Ok-clause-still : goal.returns-in-Ok-clause-still
returns-in-Ok-clause-still c =
    let there = removal_within c.args.regions.now c.args.system.now.state c.args.txn c.args.removal.now c.requires.whole c.requires.may in
    let at = slice_get-get_or c.args.regions.now _ _ there in
    let one = cleared c.args.regions.now c.args.system.now c.release.new.system c.args.txn _ _ c.release.new.region (ap is_alive c.requires.committed) at c.release.ensures.released c.release.ensures.promised in
    let now = get_set c.args.regions.now _ _ c.release.new.region at in
    freed_still c.args.txn c.args.removal.now c.args.regions.now _ c.args.system.now c.release.new.system c.free.new.system.state _ c.free.new.region one c.requires.committed c.in-Ok.ensures.ok.1

pub returns-in-Ok-clause-flags : goal.returns-in-Ok-clause-flags
returns-in-Ok-clause-flags c =
    let there = removal_within c.args.regions.now c.args.system.now.state c.args.txn c.args.removal.now c.requires.whole c.requires.may in
    let at = slice_get-get_or c.args.regions.now _ _ there in
    let one = cleared c.args.regions.now c.args.system.now c.release.new.system c.args.txn _ _ c.release.new.region (ap is_alive c.requires.committed) at c.release.ensures.released c.release.ensures.promised in
    let now = get_set c.args.regions.now _ _ c.release.new.region at in
    flags_further c.args.regions.now _ _ (flags_set c.args.regions.now _ _ c.release.new.region at c.release.ensures.flags)
    (flags_set _ _ _ c.free.new.region now (freed_flag _ _ c.free.new.region c.release.new.system.state c.free.new.system.state c.args.txn (subst (λ (k : RegionState). Freed c.args.removal.now k c.release.new.system.state c.args.txn c.free.new.region c.free.new.system.state) (get_or_from_slice_get (slice_set c.args.regions.now c.args.removal.now.region c.release.new.region) c.args.removal.now.region c.release.new.region c.index-regions-place-2.result now) c.in-Ok.ensures.ok.1)))

-- ---- or refused
pub returns-in-Err-clause-left : goal.returns-in-Err-clause-left
returns-in-Err-clause-left c =
    let there = removal_within c.args.regions.now c.args.system.now.state c.args.txn c.args.removal.now c.requires.whole c.requires.may in
    let at = slice_get-get_or c.args.regions.now _ _ there in
    let one = cleared c.args.regions.now c.args.system.now c.release.new.system c.args.txn _ _ c.release.new.region (ap is_alive c.requires.committed) at c.release.ensures.released c.release.ensures.promised in
    let now = get_set c.args.regions.now _ _ c.release.new.region at in
    unfreed_left c.args.txn _ c.args.regions.now _ c.args.system.now c.release.new.system c.free.new.system _ c.free.new.region one c.requires.committed now c.in-Err.ensures.err.0 (subst (λ (k : RegionState). IsLeftOf c.args.txn k c.free.new.region) (get_or_from_slice_get (slice_set c.args.regions.now c.args.removal.now.region c.release.new.region) c.args.removal.now.region c.release.new.region c.index-regions-place-2.result now) c.in-Err.ensures.err.1)

pub returns-in-Err-clause-still : goal.returns-in-Err-clause-still
returns-in-Err-clause-still c =
    let there = removal_within c.args.regions.now c.args.system.now.state c.args.txn c.args.removal.now c.requires.whole c.requires.may in
    let at = slice_get-get_or c.args.regions.now _ _ there in
    let one = cleared c.args.regions.now c.args.system.now c.release.new.system c.args.txn _ _ c.release.new.region (ap is_alive c.requires.committed) at c.release.ensures.released c.release.ensures.promised in
    let now = get_set c.args.regions.now _ _ c.release.new.region at in
    unfreed_still c.args.txn c.args.regions.now _ c.args.system.now c.release.new.system c.free.new.system one c.requires.committed c.in-Err.ensures.err.0

pub returns-in-Err-clause-others : goal.returns-in-Err-clause-others
returns-in-Err-clause-others c =
    let there = removal_within c.args.regions.now c.args.system.now.state c.args.txn c.args.removal.now c.requires.whole c.requires.may in
    let at = slice_get-get_or c.args.regions.now _ _ there in
    let one = cleared c.args.regions.now c.args.system.now c.release.new.system c.args.txn _ _ c.release.new.region (ap is_alive c.requires.committed) at c.release.ensures.released c.release.ensures.promised in
    let now = get_set c.args.regions.now _ _ c.release.new.region at in
    (unfreed_left c.args.txn _ c.args.regions.now _ c.args.system.now c.release.new.system c.free.new.system _ c.free.new.region one c.requires.committed now c.in-Err.ensures.err.0 (subst (λ (k : RegionState). IsLeftOf c.args.txn k c.free.new.region) (get_or_from_slice_get (slice_set c.args.regions.now c.args.removal.now.region c.release.new.region) c.args.removal.now.region c.release.new.region c.index-regions-place-2.result now) c.in-Err.ensures.err.1)).others

pub returns-in-Err-clause-flags : goal.returns-in-Err-clause-flags
returns-in-Err-clause-flags c =
    let there = removal_within c.args.regions.now c.args.system.now.state c.args.txn c.args.removal.now c.requires.whole c.requires.may in
    let at = slice_get-get_or c.args.regions.now _ _ there in
    let one = cleared c.args.regions.now c.args.system.now c.release.new.system c.args.txn _ _ c.release.new.region (ap is_alive c.requires.committed) at c.release.ensures.released c.release.ensures.promised in
    let now = get_set c.args.regions.now _ _ c.release.new.region at in
    flags_further c.args.regions.now _ _ (flags_set c.args.regions.now _ _ c.release.new.region at c.release.ensures.flags)
    (flags_set _ _ _ c.free.new.region now (left_flag c.args.txn _ c.free.new.region (subst (λ (k : RegionState). IsLeftOf c.args.txn k c.free.new.region) (get_or_from_slice_get (slice_set c.args.regions.now c.args.removal.now.region c.release.new.region) c.args.removal.now.region c.release.new.region c.index-regions-place-2.result now) c.in-Err.ensures.err.1)))

pub returns-in-Ok-clause-locks : goal.returns-in-Ok-clause-locks
returns-in-Ok-clause-locks c =
    let there = removal_within c.args.regions.now c.args.system.now.state c.args.txn c.args.removal.now c.requires.whole c.requires.may in
    let at = slice_get-get_or c.args.regions.now _ _ there in
    let one = cleared c.args.regions.now c.args.system.now c.release.new.system c.args.txn _ _ c.release.new.region (ap is_alive c.requires.committed) at c.release.ensures.released c.release.ensures.promised in
    ap (λ (x : SystemState). x.locks) c.in-Ok.ensures.ok.1.system ∙ one.locks

pub returns-in-Err-clause-locks : goal.returns-in-Err-clause-locks
returns-in-Err-clause-locks c =
    let there = removal_within c.args.regions.now c.args.system.now.state c.args.txn c.args.removal.now c.requires.whole c.requires.may in
    let at = slice_get-get_or c.args.regions.now _ _ there in
    let one = cleared c.args.regions.now c.args.system.now c.release.new.system c.args.txn _ _ c.release.new.region (ap is_alive c.requires.committed) at c.release.ensures.released c.release.ensures.promised in
    ap (λ (x : Served). x.state.locks) c.in-Err.ensures.err.0 ∙ one.locks

-- ---- what is promised
pub returns-in-Ok-clause-uses : goal.returns-in-Ok-clause-uses
returns-in-Ok-clause-uses c = c.in-Ok.ensures.uses ∙ ap (λ (m : Promised). used m c.args.txn solo_room) c.release.ensures.promised

pub returns-in-Err-clause-unused : goal.returns-in-Err-clause-unused
returns-in-Err-clause-unused c = ap (λ (x : Served). x.promised) c.in-Err.ensures.err.0 ∙ c.release.ensures.promised

pub returns-in-Err-clause-promised : goal.returns-in-Err-clause-promised
returns-in-Err-clause-promised c = λ promised.
    let there = removal_within c.args.regions.now c.args.system.now.state c.args.txn c.args.removal.now c.requires.whole c.requires.may in
    let at = slice_get-get_or c.args.regions.now _ _ there in
    let one = cleared c.args.regions.now c.args.system.now c.release.new.system c.args.txn _ _ c.release.new.region (ap is_alive c.requires.committed) at c.release.ensures.released c.release.ensures.promised in
    let now = get_set c.args.regions.now _ _ c.release.new.region at in
    absurd (frees_promised c.args.txn c.release.new.region c.free.new.region c.free.new.system.state c.in-Err.error c.release.ensures.unheld
    (subst (λ (k : RegionState). IsLeftOf c.args.txn k c.free.new.region) (get_or_from_slice_get (slice_set c.args.regions.now c.args.removal.now.region c.release.new.region) c.args.removal.now.region c.release.new.region c.index-regions-place-2.result now) c.in-Err.ensures.err.1)
    c.in-Err.ensures.cause
    (c.in-Err.ensures.promised (promised_on c.args.txn solo_room c.args.regions.now _ c.args.system.now c.release.new.system one promised)))
