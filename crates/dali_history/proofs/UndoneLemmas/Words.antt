-- The words of a slot, from what the slots of its key hold.
use Rattle.std.proofs.Common.{◌≡◌, ℕ, true, List, ◌∷◌, refl, ap, sym, ◌∙◌, arith}
use Rattle.dali_geometry.specs.Sizes.{Sizes}
use Rattle.dali_geometry.specs.Places.{is_index, is_heap}
use Rattle.dali_access.specs.Index.Invariant.{IsImage}
use Rattle.dali_record.specs.declared.operations.Pending.{Pending}
use Rattle.dali_record.specs.declared.operations.Undo.{Undo}
use Rattle.dali_record.specs.declared.operations.Undo.TheVariants.{FreeCell as UndoFreeCell, ReviveCell as UndoReviveCell, Restore as UndoRestore, FreeEntry as UndoFreeEntry, ReviveEntry as UndoReviveEntry}
use Rattle.dali_record.specs.Settled.{words_in}
use Rattle.dali_access.proofs.IndexLemmas.Slots.{cell_is, cell_none, entry_is, value_of-value_at}
use Rattle.dali_access.proofs.IndexLemmas.Worlds.{part}
use Rattle.dali_access.proofs.IndexLemmas.Fitting.{part_cell, part_entry, heap_kind, heap_bounds}
use Rattle.dali_history.proofs.SlotsLemmas.SlotUndos.{Left, Finds, slot_of}
use Rattle.dali_history.specs.Undone.AsLeft.{cell_slot, entry_slot, slot_in, slot_at}

pub cell_seen : (s : Sizes) (image : List (List ℕ)) (k r c x : ℕ) (xs : List ℕ) → IsImage s image → is_heap s r ≡ true → part s image k r c ≡ x ∷ xs → cell_slot (words_in image r) c ≡ x ∷ k ∷ xs
cell_seen s image k r c x xs form kind e =
    let at = sym (part_cell s image k r c (heap_kind s r kind)) ∙ e in
    let long = form.words r (heap_bounds s r kind).1 in
    let small = cell_none k (words_in image r) c x xs long at in
    let is = cell_is k (words_in image r) c x xs at in
    let value = value_of-value_at (words_in image r) c (omega (arith, long, small.1)) in
    let state = is.0 in let key = is.2 in let held = is.1 in
    rw (state, key, value, held) refl

pub entry_seen : (s : Sizes) (image : List (List ℕ)) (k r e x : ℕ) (xs : List ℕ) → is_index s r ≡ true → part s image k r e ≡ x ∷ xs → entry_slot (words_in image r) e ≡ x ∷ k ∷ xs
entry_seen s image k r e x xs kind h =
    let is = entry_is k (words_in image r) e x xs (sym (part_entry s image k r e kind) ∙ h) in
    let state = is.0 in let key = is.2 in let held = is.1 in
    rw (state, key, held) refl

-- the region of an undo that finds its slot is of its kind
abbrev pub IsKind : Sizes → ℕ → Undo → Type 0
IsKind s r (UndoFreeCell c) = is_heap s r ≡ true
IsKind s r (UndoReviveCell c) = is_heap s r ≡ true
IsKind s r (UndoRestore c n vs) = is_heap s r ≡ true
IsKind s r (UndoFreeEntry e) = is_index s r ≡ true
IsKind s r (UndoReviveEntry e) = is_index s r ≡ true

pub slot_seen : (s : Sizes) (image : List (List ℕ)) (k r : ℕ) (d : Undo) (x : ℕ) (xs : List ℕ) → IsImage s image → IsKind s r d → part s image k r (slot_of d) ≡ x ∷ xs → slot_in (words_in image r) d ≡ x ∷ k ∷ xs
slot_seen s image k r (UndoFreeCell c) x xs form kind e = cell_seen s image k r c x xs form kind e
slot_seen s image k r (UndoReviveCell c) x xs form kind e = cell_seen s image k r c x xs form kind e
slot_seen s image k r (UndoRestore c n vs) x xs form kind e = cell_seen s image k r c x xs form kind e
slot_seen s image k r (UndoFreeEntry i) x xs form kind e = entry_seen s image k r i x xs kind e
slot_seen s image k r (UndoReviveEntry i) x xs form kind e = entry_seen s image k r i x xs kind e

left_some : (s : Sizes) (r : ℕ) (d : Undo) (xs : List ℕ) → Left s r d xs → IsKind s r d × (x : ℕ) × (ys : List ℕ) × (xs ≡ x ∷ ys)
left_some s r (UndoFreeCell c) xs h = (h.0, 1, h.1, h.2)
left_some s r (UndoReviveCell c) xs h = (h.0, 2, h.1, h.2)
left_some s r (UndoRestore c n vs) xs h = (h.0, 1, h.1, h.2)
left_some s r (UndoFreeEntry e) xs h = (h.0, 1, h.1, h.2)
left_some s r (UndoReviveEntry e) xs h = (h.0, 2, h.1, h.2)

-- two images whose slots of the undo hold the same have the same words there
pub same_slot_at : (s : Sizes) (image other : List (List ℕ)) (p : Pending) → IsImage s image → IsImage s other → Finds s p (part s image p.key) → part s image p.key ≡ part s other p.key → slot_at image p ≡ slot_at other p
same_slot_at s image other p form form_other finds same =
    let h = left_some s p.region p.undo (part s image p.key p.region (slot_of p.undo)) finds in
    slot_seen s image p.key p.region p.undo h.1 h.2 form h.0 h.3
    ∙ sym (slot_seen s other p.key p.region p.undo h.1 h.2 form_other h.0 (sym (ap (λ (P : ℕ → ℕ → List ℕ). P p.region (slot_of p.undo)) same) ∙ h.3))
