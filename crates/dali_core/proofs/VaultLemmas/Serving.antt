-- A vault serves on behind each of its calls.
use Rattle.std.proofs.Common.{◌≡◌, ℕ, ◌+◌, List, Option, Some, None, IfSome, is_some, sym, subst}
use Rattle.dali_store.specs.declared.store.FileName.TheVariants.{Log, Anchor}
use Rattle.dali_store.specs.Store.{Files, TornIn, Follows}
use Rattle.dali_region.specs.declared.Side.{Side}
use Rattle.dali_region.specs.declared.Side.TheVariants.{A, B}
use Rattle.dali_log.specs.Batch.{IsClosedAt}
use Rattle.dali_log.specs.Appending.{next_place, AllAdded}
use Rattle.dali_crash.specs.Disks.Disks.{image_name}
use Rattle.dali_log.specs.Anchors.{IsAnchor}
use Rattle.dali_log.specs.Anchors.{HasMoved, AreAnchored}

-- what is said where the store tells stays said, for it tells as before
pub still : {X Y : Type 0} (old new : Option Files) → is_some new ≡ is_some old → (X → Y) → IfSome old (λ _. X) → IfSome new (λ _. Y)
still old None e f h = tt
still None (Some n) e f h = absurd cc
still (Some o) (Some n) e f h = f h

pub both : {X Y Z : Type 0} (old new : Option Files) → is_some new ≡ is_some old → (X → Y → Z) → IfSome old (λ _. X) → IfSome old (λ _. Y) → IfSome new (λ _. Z)
both old None e f h k = tt
both None (Some n) e f h k = absurd cc
both (Some o) (Some n) e f h k = f h k

abbrev Closed : (Files → Type 0) → ℕ → Type 0
Closed may end = (c : Files) → may c → IsClosedAt end c.log

-- ---- a flush
pub closed_added : (old new : Files → Type 0) (at : ℕ) (more : List (List ℕ)) → ((c : Files) → new c → AllAdded old at more c) → Closed new (next_place at more)
closed_added old new at more added c left = (added c left).closed

pub anchored_added : (old new : Files → Type 0) (at n : ℕ) (more : List (List ℕ)) → AreAnchored old n → ((c : Files) → new c → AllAdded old at more c) → AreAnchored new n
anchored_added old new at n more are added c left =
    let others = (added c left).others in
    subst (λ (bytes : List ℕ). IsAnchor bytes n) (sym (others.2 Anchor (λ e. cc))) (are others.0 others.1)

-- ---- the anchor's move
pub closed_moved : (old new : Files → Type 0) (end n : ℕ) → Closed old end → ((c : Files) → new c → HasMoved old n c) → Closed new end
closed_moved old new end n are moved c left =
    let others = (moved c left).others in
    subst (λ (bytes : List ℕ). IsClosedAt end bytes) (sym (others.2 Log (λ e. cc))) (are others.0 others.1)

pub anchored_moved : (old new : Files → Type 0) (n : ℕ) → ((c : Files) → new c → HasMoved old n c) → AreAnchored new (n + 1)
anchored_moved old new n moved c left = (moved c left).anchor

-- ---- a write to an image
no_log : (side : Side) → Log ≡ image_name side → ⊥
no_log A e = cc
no_log B e = cc

no_anchor : (side : Side) → Anchor ≡ image_name side → ⊥
no_anchor A e = cc
no_anchor B e = cc

pub closed_written : (old new : Files → Type 0) (side : Side) (at n end : ℕ) → Closed old end → Follows (TornIn (image_name side) at n) old new → Closed new end
closed_written old new side at n end are follows c left =
    let from = follows c left in
    subst (λ (bytes : List ℕ). IsClosedAt end bytes) (sym (from.2.same Log (no_log side))) (are from.0 from.1)

pub anchored_written : (old new : Files → Type 0) (side : Side) (at n k : ℕ) → AreAnchored old k → Follows (TornIn (image_name side) at n) old new → AreAnchored new k
anchored_written old new side at n k are follows c left =
    let from = follows c left in
    subst (λ (bytes : List ℕ). IsAnchor bytes k) (sym (from.2.same Anchor (no_anchor side))) (are from.0 from.1)
