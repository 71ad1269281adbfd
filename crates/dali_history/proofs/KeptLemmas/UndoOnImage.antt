-- One undo, on an image.
use Rattle.std.proofs.Common.{◌≡◌, ℕ, true, List, [], ◌∷◌, length, refl, ap, sym, ◌∙◌}
use Rattle.std.specs.Prelude.{◌==◌, ◌&&◌}
use Rattle.std.proofs.lemmas.Bool.{eq-eqb}
use Rattle.dali_geometry.specs.Sizes.{Sizes}
use Rattle.dali_geometry.specs.Places.{is_index, is_heap}
use Rattle.dali_record.specs.declared.operations.Pending.{Pending}
use Rattle.dali_record.specs.declared.operations.Undo.{Undo}
use Rattle.dali_record.specs.declared.operations.Undo.TheVariants.{FreeCell as UndoFreeCell, ReviveCell as UndoReviveCell, Restore as UndoRestore, FreeEntry as UndoFreeEntry, ReviveEntry as UndoReviveEntry}
use Rattle.dali_record.specs.Operations.{effect, undo_op}
use Rattle.dali_record.specs.Legal.{on_kind}
use Rattle.dali_record.specs.Settled.{words_in}
use Rattle.dali_access.specs.Index.Invariant.{IsImage}
use Rattle.dali_history.specs.Undos.{finds, finds_undo, FindsAll, undone}
use Rattle.dali_history.specs.Recovered.{undo_into}
use Rattle.dali_access.proofs.IndexLemmas.Slots.{entry_is, cell_is}
use Rattle.dali_access.proofs.IndexLemmas.Worlds.{World, part, flags, put_at}
use Rattle.dali_history.proofs.SlotsLemmas.BlockOnSlots.{performs, part_entry, part_cell}
use Rattle.dali_history.proofs.SlotsLemmas.SlotUndos.{Leads, leads_first, Finds, Left, slot_of, undone_slot}
use Rattle.dali_words.specs.declared.Effect.{Effect}
use Rattle.dali_words.proofs.Masks.{length-write_all}
use Rattle.dali_history.proofs.SlotsLemmas.SoundBlocks.{is_effect, image_set}
use Rattle.dali_history.proofs.SlotsLemmas.AnswersAndBacks.{undoes_leads}
use Rattle.dali_history.proofs.SlotsLemmas.SlotSteps.{undo_does}
use Rattle.dali_history.proofs.KeptLemmas.InvariantAlong.{region_within, image_region}
use Rattle.dali_access.proofs.IndexLemmas.Fitting.{heap_kind}

-- the region of an undo that was left is of the undo's kind
left_kind : (s : Sizes) (r : ℕ) (d : Undo) (xs : List ℕ) → Left s r d xs → on_kind s r (undo_op d) ≡ true
left_kind s r (UndoFreeCell c) xs h = h.0
left_kind s r _ xs h = h.0

-- an undo whose slot was left as it was changes that slot alone, and no flag
pub undo_into_does : (s : Sizes) (image : List (List ℕ)) (p : Pending) → IsImage s image → Finds s p (part s image p.key) → (part s (undo_into image p) ≡ put_at (part s image) p.key p.region (slot_of p.undo) (undone_slot p.undo (part s image p.key p.region (slot_of p.undo)))) × (flags (undo_into image p) ≡ flags image)
undo_into_does s image p form h =
    let kind = left_kind s p.region p.undo (part s image p.key p.region (slot_of p.undo)) h in
    let region = image_region s image p.region form (region_within s p.region (undo_op p.undo) kind) in
    undo_does s (part s image) (part s (undo_into image p)) (flags image) (flags (undo_into image p)) p (effect (undo_op p.undo) p.key (words_in image p.region)).1 (effect (undo_op p.undo) p.key (words_in image p.region)).2 (performs s image p.key p.region (undo_op p.undo) region kind) h

-- such an undo finds its slot, as the law says it
pub left_finds : (s : Sizes) (image : List (List ℕ)) (p : Pending) → Finds s p (part s image p.key) → finds image p ≡ true
left_finds s image p h = go p.undo h
  where
    of_cell : (c x : ℕ) (xs : List ℕ) → is_heap s p.region ≡ true → part s image p.key p.region c ≡ x ∷ xs → ((Rattle.dali_access.specs.Heap.Cells.state_of (words_in image p.region) c == x) && (Rattle.dali_access.specs.Heap.Cells.key_of (words_in image p.region) c == p.key)) ≡ true
    of_cell c x xs kind e =
        let is = cell_is p.key (words_in image p.region) c x xs (sym (part_cell s image p.key p.region c (heap_kind s p.region kind)) ∙ e) in
        rw (eq-eqb (Rattle.dali_access.specs.Heap.Cells.state_of (words_in image p.region) c) x is.0, eq-eqb (Rattle.dali_access.specs.Heap.Cells.key_of (words_in image p.region) c) p.key is.2) refl

    of_entry : (i x : ℕ) (xs : List ℕ) → is_index s p.region ≡ true → part s image p.key p.region i ≡ x ∷ xs → ((Rattle.dali_access.specs.Index.Entries.state_of (words_in image p.region) i == x) && (Rattle.dali_access.specs.Index.Entries.key_of (words_in image p.region) i == p.key)) ≡ true
    of_entry i x xs kind e =
        let is = entry_is p.key (words_in image p.region) i x xs (sym (part_entry s image p.key p.region i kind) ∙ e) in
        rw (eq-eqb (Rattle.dali_access.specs.Index.Entries.state_of (words_in image p.region) i) x is.0, eq-eqb (Rattle.dali_access.specs.Index.Entries.key_of (words_in image p.region) i) p.key is.2) refl

    go : (d : Undo) → Left s p.region d (part s image p.key p.region (slot_of d)) → finds_undo (words_in image p.region) p.key d ≡ true
    go (UndoFreeCell c) l = of_cell c 1 l.1 l.0 l.2
    go (UndoReviveCell c) l = of_cell c 2 l.1 l.0 l.2
    go (UndoRestore c n vs) l = of_cell c 1 l.1 l.0 l.2
    go (UndoFreeEntry e) l = of_entry e 1 l.1 l.0 l.2
    go (UndoReviveEntry e) l = of_entry e 2 l.1 l.0 l.2

-- an undo keeps the form of an image
pub undo_image : (s : Sizes) (image : List (List ℕ)) (p : Pending) → IsImage s image → IsImage s (undo_into image p)
undo_image s image p form = image_set s image p.region (effect (undo_op p.undo) p.key (words_in image p.region)).0.after form (λ below. long ∙ form.words p.region below)
  where
    long : length (effect (undo_op p.undo) p.key (words_in image p.region)).0.after ≡ length (words_in image p.region)
    long = let e = is_effect (undo_op p.undo) p.key (words_in image p.region) in ap (λ (x : Effect). length x.after) e.2 ∙ length-write_all (words_in image p.region) e.1

-- a list of undos that leads from each key's slots to others finds each slot, and leads the image there
pub undo_list : (s : Sizes) (ps : List Pending) (image : List (List ℕ)) (Q : World) → IsImage s image → ((k : ℕ) → Leads s k ps (part s image k) (Q k)) → FindsAll image ps × ((k : ℕ) → part s (undone image ps) k ≡ Q k) × (flags (undone image ps) ≡ flags image) × IsImage s (undone image ps)
undo_list s [] image Q form h = (tt, h, refl, form)
undo_list s (p ∷ ps) image Q form h =
    let first = leads_first s p.key p ps (part s image p.key) (Q p.key) refl (h p.key) in
    let does = undo_into_does s image p form first.0 in
    let rest = undo_list s ps (undo_into image p) Q (undo_image s image p form) (λ k. undoes_leads s (part s image) (part s (undo_into image p)) p k ps (Q k) does.0 (h k)) in
    ((left_finds s image p first.0, rest.0), rest.1, rest.2 ∙ does.1, rest.3)
