-- Redo, undo and the freeing of dead slots keep the shape of an image: as many regions as before, each of 64 words.
use Rattle.std.proofs.Common.{◌≡◌, ℕ, ◌+◌, ◌<◌, ◌≤◌, Bool, true, false, cond, List, [], ◌∷◌, ◌++◌, length, take, drop, Option, Some, None, refl, ◌∙◌, ⊎_elim, arith}
use Rattle.std.specs.Prelude.{fold, map, zip, slice_set, slice_index, All, ◌==◌}
use Rattle.std.proofs.lemmas.List.{length-set, length-map, length-take, length-drop, length-append, set_past}
use Rattle.std.proofs.lemmas.List.Elements.{All-set, All-same, All-get_or, All-map, All-take, All-drop, All-append, All-weaker}
use Rattle.std.proofs.lemmas.Bool.{cases_lt}
use Rattle.dali_geometry.specs.Sizes.{Sizes}
use Rattle.dali_access.specs.Heap.Cells as cell
use Rattle.dali_access.specs.Index.Entries as entry
use Rattle.dali_record.specs.declared.operations.Pending.{Pending}
use Rattle.dali_record.specs.declared.operations.Undo.{Undo}
use Rattle.dali_record.specs.declared.operations.Undo.TheVariants.{FreeCell as UndoFreeCell, ReviveCell as UndoReviveCell, Restore as UndoRestore, FreeEntry as UndoFreeEntry, ReviveEntry as UndoReviveEntry}
use Rattle.dali_record.specs.declared.records.Record.{Record}
use Rattle.dali_record.specs.Operations.{effect, undo_op}
use Rattle.dali_record.specs.Blocks.{rewritten}
use Rattle.dali_record.specs.Log.{Touch, touch_of}
use Rattle.dali_record.specs.Settled.{words_in, redo, redo_touch, redo_all}
use Rattle.dali_history.specs.Recovered.{undo_into, free_word, freed}
use Rattle.dali_access.specs.Index.Invariant.{IsImage}
use Rattle.dali_history.specs.Undos.{undone}
use Rattle.dali_words.proofs.Masks.{length-write_under, length-write_all}

-- ---- the length of a region

pub length-undo : (u : Undo) (key : ℕ) (ws : List ℕ) → length (effect (undo_op u) key ws).0.after ≡ length ws
length-undo (UndoFreeCell c) key ws = length-write_all ws ((cell.state_word c, 0) ∷ [])
length-undo (UndoReviveCell c) key ws = length-write_all ws ((cell.state_word c, 1) ∷ [])
length-undo (UndoRestore c n vs) key ws = length-write_all ws (zip (cell.length_word c ∷ cell.value_words c) (n ∷ vs))
length-undo (UndoFreeEntry e) key ws = length-write_all ws ((entry.state_word e, 0) ∷ [])
length-undo (UndoReviveEntry e) key ws = length-write_all ws ((entry.state_word e, 1) ∷ [])

length-by_test : (b : Bool) (xs ys : List ℕ) (n : ℕ) → length xs ≡ n → length ys ≡ n → length (cond b xs ys) ≡ n
length-by_test true xs ys n e f = e
length-by_test false xs ys n e f = f

pub length-free_words : (is ws : List ℕ) → length (fold free_word ws is) ≡ length ws
length-free_words [] ws = refl
length-free_words (i ∷ is) ws = length-free_words is (free_word ws i) ∙ length-by_test (slice_index ws i == 2) (slice_set ws i 0) ws (length ws) (length-set ws i 0) refl

-- ---- the shape of an image
abbrev pub IsRegion : List ℕ → Type 0
IsRegion ws = length ws ≡ 64

-- n regions of 64 words
pub record IsShaped (n : ℕ) (image : List (List ℕ)) : Type 0 where
  pub count : length image ≡ n
  pub whole : All IsRegion image

-- one region rewritten to as many words
pub shaped_put : (n : ℕ) (image : List (List ℕ)) (r : ℕ) (ws : List ℕ) → length ws ≡ length (words_in image r) → IsShaped n image → IsShaped n (slice_set image r ws)
shaped_put n image r ws e shape = record { count = length-set image r ws ∙ shape.count; whole = ⊎_elim within past (cases_lt r (length image)) }
  where
    within : r < length image → All IsRegion (slice_set image r ws)
    within h = All-set IsRegion image r ws (e ∙ All-get_or IsRegion image r [] h shape.whole) shape.whole

    past : length image ≤ r → All IsRegion (slice_set image r ws)
    past h = All-same IsRegion (slice_set image r ws) image (set_past image r ws h) shape.whole

-- one block redone
pub shaped_redo : (n : ℕ) (image : List (List ℕ)) (r : Record) → IsShaped n image → IsShaped n (redo image r)
shaped_redo n image r shape = by_touch (touch_of r)
  where
    by_touch : (o : Option Touch) → IsShaped n (redo_touch image o)
    by_touch None = shape
    by_touch (Some a) = shaped_put n image a.block.region (rewritten a.block (words_in image a.block.region)) (length-write_under a.block.write a.block.after (words_in image a.block.region)) shape

-- all blocks redone
pub shaped_redo_all : (n : ℕ) (image : List (List ℕ)) (K : List Record) → IsShaped n image → IsShaped n (redo_all image K)
shaped_redo_all n image [] shape = shape
shaped_redo_all n image (r ∷ K) shape = shaped_redo_all n (redo image r) K (shaped_redo n image r shape)

-- one change undone
pub shaped_undo : (n : ℕ) (image : List (List ℕ)) (p : Pending) → IsShaped n image → IsShaped n (undo_into image p)
shaped_undo n image p shape = shaped_put n image p.region (effect (undo_op p.undo) p.key (words_in image p.region)).0.after (length-undo p.undo p.key (words_in image p.region)) shape

-- all of these undone
pub shaped_undone : (n : ℕ) (image : List (List ℕ)) (ps : List Pending) → IsShaped n image → IsShaped n (undone image ps)
shaped_undone n image [] shape = shape
shaped_undone n image (p ∷ ps) shape = shaped_undone n (undo_into image p) ps (shaped_undo n image p shape)

-- dead slots freed
pub shaped_freed : (n : ℕ) (s : Sizes) (image : List (List ℕ)) → IsShaped n image → IsShaped n (freed s image)
shaped_freed n s image shape = record { count = count; whole = All-append IsRegion front rest (each entry_words (take s.index image) (All-take IsRegion s.index image shape.whole)) (each cell_words (drop s.index image) (All-drop IsRegion s.index image shape.whole)) }
  where
    entry_words : List ℕ
    entry_words = map entry.state_word entry.entries

    cell_words : List ℕ
    cell_words = map cell.state_word cell.cells

    front : List (List ℕ)
    front = map (λ ws. fold free_word ws entry_words) (take s.index image)

    rest : List (List ℕ)
    rest = map (λ ws. fold free_word ws cell_words) (drop s.index image)

    each : (is : List ℕ) (part : List (List ℕ)) → All IsRegion part → All IsRegion (map (λ ws. fold free_word ws is) part)
    each is part h = All-map IsRegion (λ ws. fold free_word ws is) part (All-weaker IsRegion (λ ws. length (fold free_word ws is) ≡ 64) (λ ws e. length-free_words is ws ∙ e) part h)

    count : length (front ++ rest) ≡ n
    count =
        let sum : length (front ++ rest) ≡ length front + length rest = length-append front rest in
        let a : length front ≡ length (take s.index image) = length-map (take s.index image) (λ ws. fold free_word ws entry_words) in
        let b : length rest ≡ length (drop s.index image) = length-map (drop s.index image) (λ ws. fold free_word ws cell_words) in
        omega (arith, sum, a, b, length-take s.index image, length-drop s.index image, shape.count)

-- ---- an image is a shape
pub shape_of : (s : Sizes) (image : List (List ℕ)) → IsImage s image → IsShaped (s.index + s.heap) image
shape_of s image i = record { count = i.count; whole = Rattle.std.proofs.lemmas.List.Elements.All-from_get_or IsRegion image [] (λ r h. i.words r (omega (arith, h, i.count))) }

-- a shape is an image
pub image_of : (s : Sizes) (image : List (List ℕ)) → 0 < s.index → 0 < s.heap → IsShaped (s.index + s.heap) image → IsImage s image
image_of s image a b shape = record { some_index = a; some_heap = b; count = shape.count; words = λ r h. All-get_or IsRegion image r [] (omega (arith, h, shape.count)) shape.whole }

-- what is freed of an image is one
pub image_freed : (s : Sizes) (image : List (List ℕ)) → IsImage s image → IsImage s (freed s image)
image_freed s image h = image_of s (freed s image) h.some_index h.some_heap (shaped_freed (s.index + s.heap) s image (shape_of s image h))
