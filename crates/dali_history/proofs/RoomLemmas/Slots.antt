-- Which slots of an image are taken, and what one operation leaves of them.
--     IsTaken W r i            slot i of region r holds something of some key
--     IsUsed kind ws i         the same in words: the state of an entry or a cell isn't 0
--     TakesSlot op o i         the operation with this outcome takes slot i
--     Revives op i             it revives it
use Rattle.std.proofs.Common.{◌≡◌, ℕ, zero, suc, ◌+◌, ◌*◌, ◌<◌, ◌≤◌, Bool, true, false, List, [], ◌∷◌, length, get_or, set, Option, Some, None, refl, ap, sym, subst, ◌∙◌, ◌⊎◌, inl, inr, ⊎_elim, ◌≢◌, arith}
use Rattle.std.specs.Prelude.{◌==◌, ⊤, zip, if◌then◌else◌}
use Rattle.std.proofs.lemmas.Bool.{ne_eqb}
use Rattle.std.proofs.lemmas.Bool.Decides.{eqb_tells}
use Rattle.dali_words.specs.Effects.{write_all}
use Rattle.dali_geometry.specs.Sizes.{Sizes}
use Rattle.dali_geometry.specs.Places.{is_index, formatted_image}
use Rattle.dali_access.specs.Heap.Cells as cell
use Rattle.dali_access.specs.Heap.Rows as heap
use Rattle.dali_access.specs.declared.heap.PutOutcome.{PutOutcome}
use Rattle.dali_access.specs.declared.heap.PutOutcome.TheVariants.{Put as PutDone, NoCell as PutNoCell}
use Rattle.dali_access.specs.Heap.Laws as cells
use Rattle.dali_access.proofs.HeapLemmas.CellLaws.{put_takes_first}
use Rattle.dali_access.specs.Index.Entries as entry
use Rattle.dali_access.specs.Index.Rows as index
use Rattle.dali_access.specs.declared.index.AddOutcome.{AddOutcome}
use Rattle.dali_access.specs.declared.index.AddOutcome.TheVariants.{Added as AddDone, NoEntry as AddNoEntry}
use Rattle.dali_access.specs.Index.Laws as entries
use Rattle.dali_access.proofs.IndexLemmas.EntryLaws.{add_takes_first}
use Rattle.dali_access.proofs.IndexLemmas.Fitting.{heap_kind}
use Rattle.dali_access.proofs.IndexLemmas.Slots.{value_at, cell_part, seen, seen_used, Misses, word_kept}
use Rattle.dali_access.proofs.IndexLemmas.Worlds.{World, Flags, part, put_at, put_at-cases, words_in-same, words_in-other}
use Rattle.dali_record.specs.declared.operations.Op.{Op}
use Rattle.dali_record.specs.declared.operations.Op.TheVariants.{Look, Add, KillEntry, Put, Read, Change, KillCell, FreeCell, ReviveCell, Restore, FreeEntry, ReviveEntry}
use Rattle.dali_record.specs.declared.operations.Outcome.{Outcome}
use Rattle.dali_record.specs.declared.operations.Outcome.TheVariants.{Added, NoEntry, Put as PutIn, NoCell}
use Rattle.dali_record.specs.declared.operations.Undo.{Undo}
use Rattle.dali_record.specs.declared.operations.Undo.TheVariants.{FreeCell as UndoFreeCell, ReviveCell as UndoReviveCell, Restore as UndoRestore, FreeEntry as UndoFreeEntry, ReviveEntry as UndoReviveEntry}
use Rattle.dali_record.specs.Operations.{effect, stored, added}
use Rattle.dali_record.specs.Settled.{words_in}
use Rattle.dali_record.specs.Legal.{is_removal, on_kind}
use Rattle.dali_history.proofs.Formatted.{formatted_word}
use Rattle.dali_history.proofs.SlotsLemmas.BlockOnSlots.{Does, part_entry, part_cell}
use Rattle.dali_history.proofs.SlotsLemmas.SlotSteps.{IsForward, Changed}
use Rattle.dali_history.proofs.SlotsLemmas.SlotUndos.{slot_of, undone_slot}

abbrev pub IsTaken : World → ℕ → ℕ → Type 0
IsTaken W r i = (q : ℕ) × (W q r i ≢ [])

-- ---- operations of calls
abbrev pub TakesSlot : Op → Outcome → ℕ → Type 0
TakesSlot (Put v) o i = o ≡ PutIn i
TakesSlot (Add p) o i = o ≡ Added i
TakesSlot _ o i = ⊥

taken_same : (W V : World) (p i : ℕ) → V ≡ W → IsTaken V p i → IsTaken W p i
taken_same W V p i e h = subst (λ (X : World). IsTaken X p i) e h

taken_put : (W V : World) (k r j : ℕ) (xs : List ℕ) (p i : ℕ) → V ≡ put_at W k r j xs → IsTaken V p i → IsTaken W p i ⊎ ((p ≡ r) × (i ≡ j))
taken_put W V k r j xs p i e h = ⊎_elim (λ a. inr (a.1, a.2)) (λ a. inl (h.0, λ z. h.1 (ap (λ (X : World). X h.0 p i) e ∙ a.1 ∙ z))) (put_at-cases W k r j xs h.0 p i)

-- a slot that held something and is written
taken_over : (W V : World) (k r j x : ℕ) (ys xs : List ℕ) (p i : ℕ) → W k r j ≡ x ∷ ys → V ≡ put_at W k r j xs → IsTaken V p i → IsTaken W p i
taken_over W V k r j x ys xs p i was e h = ⊎_elim (λ a. a) (λ a. subst (λ z. IsTaken W z i) (sym a.0) (subst (λ z. IsTaken W r z) (sym a.1) (k, λ z. absurd (nil x ys (sym was ∙ z))))) (taken_put W V k r j xs p i e h)
  where
    nil : (x : ℕ) (ys : List ℕ) → x ∷ ys ≡ [] → ⊥
    nil x ys e = cc (e)

pub does_take :
    (W V : World) (F G : Flags) (k r : ℕ) (op : Op) (o : Outcome) (u : Option Undo) → Does W F V G k r op o u → IsForward op
    → (p i : ℕ) → IsTaken V p i → IsTaken W p i ⊎ ((p ≡ r) × TakesSlot op o i)
does_take W V F G k r Look o u h f p i t = inl (taken_same W V p i h.0.0 t)
does_take W V F G k r (Add a) o u (inl h) f p i t = ⊎_elim (λ x. inl x) (λ x. inr (x.0, h.1 ∙ ap (λ z. Added z) (sym x.1))) (taken_put W V k r h.0 (1 ∷ a ∷ []) p i h.5 t)
does_take W V F G k r (Add a) o u (inr h) f p i t = inl (taken_same W V p i h.2 t)
does_take W V F G k r (KillEntry e) o u (inl h) f p i t = inl (taken_over W V k r e 1 (h.0 ∷ []) (2 ∷ h.0 ∷ []) p i h.3 h.4 t)
does_take W V F G k r (KillEntry e) o u (inr h) f p i t = inl (taken_same W V p i h.0.0 t)
does_take W V F G k r (Put v) o u (inl h) f p i t = ⊎_elim (λ x. inl x) (λ x. inr (x.0, h.1 ∙ ap (λ z. PutIn z) (sym x.1))) (taken_put W V k r h.0 _ p i h.6 t)
does_take W V F G k r (Put v) o u (inr h) f p i t = inl (taken_same W V p i h.0.0 t)
does_take W V F G k r (Read c) o u h f p i t = inl (taken_same W V p i h.0.0 t)
does_take W V F G k r (Change c v) o u h f p i t = inl (⊎_elim (λ a. taken_over W V k r c 1 (a.0 ∷ a.1) _ p i a.4.0 a.5 t) (λ a. taken_same W V p i a.0.0 t) (h f.0 f.1))
does_take W V F G k r (KillCell c) o u h f p i t = inl (⊎_elim (λ a. taken_over W V k r c 1 (a.0 ∷ a.1) _ p i a.4.0 a.5 t) (λ a. taken_same W V p i a.0.0 t) (h f.0 f.1))
does_take W V F G k r (FreeCell c) o u h f p i t = absurd f
does_take W V F G k r (ReviveCell c) o u h f p i t = absurd f
does_take W V F G k r (Restore c n vs) o u h f p i t = absurd f
does_take W V F G k r (FreeEntry e) o u h f p i t = absurd f
does_take W V F G k r (ReviveEntry e) o u h f p i t = absurd f

-- what an operation removes was there
pub does_remove : (s : Sizes) (W V : World) (k r : ℕ) (u : Option Undo) (d : Undo) → Changed s W V k r u → u ≡ Some d → is_removal d ≡ true → IsTaken W r (slot_of d)
does_remove s W V k r u d (inl h) e m = let no : None ≡ Some d = sym h.1 ∙ e in absurd (cc (no))
does_remove s W V k r u d (inr h) e m = let same : Some h.0 ≡ Some d = sym h.2 ∙ e in let at : h.0 ≡ d = cc (same) in subst (λ x. IsTaken W r (slot_of x)) at (go h.0 (subst (λ x. is_removal x ≡ true) (sym at) m) h.5)
  where
    used : (n x : ℕ) (ys : List ℕ) → x ∷ ys ≡ W k r n → IsTaken W r n
    used n x ys e = (k, λ z. let no : x ∷ ys ≡ [] = e ∙ z in cc (no))

    go : (x : Undo) → is_removal x ≡ true → undone_slot x h.1 ≡ W k r (slot_of x) → IsTaken W r (slot_of x)
    go (UndoFreeCell c) m e = absurd (cc (m))
    go (UndoReviveCell c) m e = used c 1 _ e
    go (UndoRestore c n vs) m e = absurd (cc (m))
    go (UndoFreeEntry c) m e = absurd (cc (m))
    go (UndoReviveEntry c) m e = used c 1 _ e

-- ---- the same in words
abbrev pub IsUsed : Bool → List ℕ → ℕ → Type 0
IsUsed true ws i = entry.state_of ws i ≢ 0
IsUsed false ws i = (i ≢ 0) × (cell.state_of ws i ≢ 0)

nothing : (x : ℕ) (ys : List ℕ) → x ∷ ys ≡ [] → ⊥
nothing x ys e = cc (e)

pub used_taken : (s : Sizes) (image : List (List ℕ)) (r i : ℕ) → IsUsed (is_index s r) (words_in image r) i → IsTaken (part s image) r i
used_taken s image r i h = go (is_index s r) refl h
  where
    go : (b : Bool) → is_index s r ≡ b → IsUsed b (words_in image r) i → IsTaken (part s image) r i
    go true e u =
        (entry.key_of (words_in image r) i, λ z. nothing (entry.state_of (words_in image r) i) (entry.place_of (words_in image r) i ∷ []) (sym (seen_used (entry.key_of (words_in image r) i) (entry.state_of (words_in image r) i) (entry.place_of (words_in image r) i ∷ []) u) ∙ sym (part_entry s image (entry.key_of (words_in image r) i) r i e) ∙ z))
    go false e u =
        (cell.key_of (words_in image r) i, λ z. nothing (cell.state_of (words_in image r) i) _ (sym (at (words_in image r) u) ∙ sym (part_cell s image (cell.key_of (words_in image r) i) r i e) ∙ z))
      where
        at : (ws : List ℕ) → (i ≢ 0) × (cell.state_of ws i ≢ 0) → cell_part (cell.key_of ws i) ws i ≡ cell.state_of ws i ∷ cell.length_of ws i ∷ value_at ws i
        at ws v = rw (ne_eqb i 0 v.0) (seen_used (cell.key_of ws i) (cell.state_of ws i) (cell.length_of ws i ∷ value_at ws i) v.1)

pub taken_used : (s : Sizes) (image : List (List ℕ)) (r i : ℕ) → IsTaken (part s image) r i → IsUsed (is_index s r) (words_in image r) i
taken_used s image r i h = go (is_index s r) refl
  where
    go : (b : Bool) → is_index s r ≡ b → IsUsed b (words_in image r) i
    go true e = λ z. h.1 (part_entry s image h.0 r i e ∙ free (entry.state_of (words_in image r) i) z)
      where
        free : (state : ℕ) → state ≡ 0 → seen h.0 state (entry.key_of (words_in image r) i) (entry.place_of (words_in image r) i ∷ []) ≡ []
        free state z = rw z refl
    go false e = (λ z. h.1 (part_cell s image h.0 r i e ∙ none z), λ z. h.1 (part_cell s image h.0 r i e ∙ free (i == 0) z))
      where
        none : i ≡ 0 → cell_part h.0 (words_in image r) i ≡ []
        none z = rw z refl

        free : (b : Bool) → cell.state_of (words_in image r) i ≡ 0 → (if b then [] else seen h.0 (cell.state_of (words_in image r) i) (cell.key_of (words_in image r) i) (cell.length_of (words_in image r) i ∷ value_at (words_in image r) i)) ≡ []
        free true z = refl
        free false z = rw z refl

-- nothing is taken of the formatted image
pub formatted_free : (s : Sizes) (r i : ℕ) → IsTaken (part s (formatted_image s)) r i → ⊥
formatted_free s r i h = go (is_index s r) (taken_used s (formatted_image s) r i h)
  where
    go : (b : Bool) → IsUsed b (words_in (formatted_image s) r) i → ⊥
    go true u = u (formatted_word s r (3 * i + 1) (omega arith))
    go false u = u.1 (formatted_word s r (8 * i) (let n : i ≢ 0 = u.0 in omega (arith, n)))

-- ---- operations that take back or free
abbrev pub Revives : Op → ℕ → Type 0
Revives (ReviveCell c) i = c ≡ i
Revives (ReviveEntry e) i = e ≡ i
Revives _ i = ⊥

abbrev pub IsBackward : Op → Type 0
IsBackward (FreeCell c) = ⊤
IsBackward (ReviveCell c) = ⊤
IsBackward (Restore c n vs) = ⊤
IsBackward (FreeEntry e) = ⊤
IsBackward (ReviveEntry e) = ⊤
IsBackward _ = ⊥

set_cases : (ws : List ℕ) (j x i : ℕ) → (get_or (set ws j x) i 0 ≡ get_or ws i 0) ⊎ ((i ≡ j) × (get_or (set ws j x) i 0 ≡ x))
set_cases [] j x i = inl refl
set_cases (w ∷ ws) zero x zero = inr (refl, refl)
set_cases (w ∷ ws) zero x (suc i) = inl refl
set_cases (w ∷ ws) (suc j) x zero = inl refl
set_cases (w ∷ ws) (suc j) x (suc i) = ⊎_elim (λ a. inl a) (λ a. inr (ap suc a.0, a.1)) (set_cases ws j x i)

abbrev AllApart : ℕ → List ℕ → Type 0
AllApart j [] = ⊤
AllApart j (i ∷ is) = (j ≢ i) × AllApart j is

misses_zip : (j : ℕ) (is xs : List ℕ) → AllApart j is → Misses j (zip is xs)
misses_zip j [] [] h = tt
misses_zip j [] (x ∷ xs) h = tt
misses_zip j (i ∷ is) [] h = tt
misses_zip j (i ∷ is) (x ∷ xs) h = (h.0, misses_zip j is xs h.1)

-- a word that is freed
free_word : (ws : List ℕ) (j i : ℕ) → get_or (set ws j 0) i 0 ≢ 0 → get_or ws i 0 ≢ 0
free_word ws j i h = ⊎_elim (λ a z. h (a ∙ z)) (λ a. absurd (h a.1)) (set_cases ws j 0 i)

live_word : (ws : List ℕ) (j i : ℕ) → get_or (set ws j 1) i 0 ≢ 0 → (get_or ws i 0 ≢ 0) ⊎ (i ≡ j)
live_word ws j i h = ⊎_elim (λ a. inl (λ z. h (a ∙ z))) (λ a. inr a.0) (set_cases ws j 1 i)

-- cells stand in no index region
no_heap : (s : Sizes) (r c : ℕ) → is_index s r ≡ true → on_kind s r (FreeCell c) ≡ true → ⊥
no_heap s r c e k = let f : true ≡ false = sym e ∙ heap_kind s r k in cc (f)

-- in the words of the region
words_after : (s : Sizes) (r : ℕ) (op : Op) (key : ℕ) (ws : List ℕ) (i : ℕ) → IsBackward op → (b : Bool) → is_index s r ≡ b → on_kind s r op ≡ true → IsUsed b (effect op key ws).0.after i → IsUsed b ws i ⊎ Revives op i
words_after s r (FreeCell c) key ws i back true e kind u = absurd (no_heap s r c e kind)
words_after s r (FreeCell c) key ws i back false e kind u = inl (u.0, free_word ws (8 * c) (8 * i) u.1)
words_after s r (ReviveCell c) key ws i back true e kind u = absurd (no_heap s r c e kind)
words_after s r (ReviveCell c) key ws i back false e kind u = ⊎_elim (λ a. inl (u.0, a)) (λ a. inr (omega (arith, a))) (live_word ws (8 * c) (8 * i) u.1)
words_after s r (Restore c n vs) key ws i back true e kind u = absurd (no_heap s r c e kind)
words_after s r (Restore c n vs) key ws i back false e kind u = inl (u.0, λ z. u.1 (kept ∙ z))
  where
    kept : get_or (write_all ws (zip (cell.length_word c ∷ cell.value_words c) (n ∷ vs))) (8 * i) 0 ≡ get_or ws (8 * i) 0
    kept = word_kept ws (zip (cell.length_word c ∷ cell.value_words c) (n ∷ vs)) (8 * i) (misses_zip (8 * i) (cell.length_word c ∷ cell.value_words c) (n ∷ vs) (omega arith, (omega arith, (omega arith, (omega arith, (omega arith, (omega arith, tt)))))))
words_after s r (FreeEntry c) key ws i back false e kind u = let g : false ≡ true = sym e ∙ kind in absurd (cc (g))
words_after s r (FreeEntry c) key ws i back true e kind u = inl (free_word ws (3 * c + 1) (3 * i + 1) u)
words_after s r (ReviveEntry c) key ws i back false e kind u = let g : false ≡ true = sym e ∙ kind in absurd (cc (g))
words_after s r (ReviveEntry c) key ws i back true e kind u = ⊎_elim (λ a. inl a) (λ a. inr (omega (arith, a))) (live_word ws (3 * c + 1) (3 * i + 1) u)
words_after s r Look key ws i back b e kind u = absurd back
words_after s r _ key ws i back b e kind u = absurd back

pub backward_take :
    (s : Sizes) (image : List (List ℕ)) (r : ℕ) (op : Op) (key : ℕ) → r < length image → IsBackward op → on_kind s r op ≡ true
    → (p i : ℕ) → IsTaken (part s (set image r (effect op key (words_in image r)).0.after)) p i → IsTaken (part s image) p i ⊎ ((p ≡ r) × Revives op i)
backward_take s image r op key within back kind p i t = go (eqb_tells p r)
  where
    vs : List ℕ
    vs = (effect op key (words_in image r)).0.after

    used : IsUsed (is_index s p) (words_in (set image r (effect op key (words_in image r)).0.after) p) i
    used = taken_used s (set image r (effect op key (words_in image r)).0.after) p i t

    go : (((p == r) ≡ true) × (p ≡ r)) ⊎ (((p == r) ≡ false) × (p ≢ r)) → IsTaken (part s image) p i ⊎ ((p ≡ r) × Revives op i)
    go (inl a) =
        let at : IsUsed (is_index s r) (words_in (set image r (effect op key (words_in image r)).0.after) r) i = subst (λ q. IsUsed (is_index s q) (words_in (set image r (effect op key (words_in image r)).0.after) q) i) a.1 used in
        let here : IsUsed (is_index s r) (effect op key (words_in image r)).0.after i = subst (λ ws. IsUsed (is_index s r) ws i) (words_in-same image r (effect op key (words_in image r)).0.after within) at in
        ⊎_elim (λ x. inl (subst (λ q. IsTaken (part s image) q i) (sym a.1) (used_taken s image r i x))) (λ x. inr (a.1, x)) (words_after s r op key (words_in image r) i back (is_index s r) refl kind here)
    go (inr a) = inl (used_taken s image p i (subst (λ ws. IsUsed (is_index s p) ws i) (words_in-other image r (effect op key (words_in image r)).0.after p a.1) used))

-- ---- where no slot is free
pub no_cell : (ws : List ℕ) (key : ℕ) (v : List ℕ) → (effect (Put v) key ws).1 ≡ NoCell → (d : ℕ) → 1 ≤ d → d ≤ 7 → cell.state_of ws d ≢ 0
no_cell ws key v e = go (heap.put ws key v).1 e (put_takes_first ws v key)
  where
    go : (o : PutOutcome) → stored o ≡ NoCell → cells.TakesFirst ws o → (d : ℕ) → 1 ≤ d → d ≤ 7 → cell.state_of ws d ≢ 0
    go (PutDone c) e h = absurd (cc (e))
    go PutNoCell e h = h

pub no_entry : (ws : List ℕ) (key p : ℕ) → (effect (Add p) key ws).1 ≡ NoEntry → (d : ℕ) → d ≤ 20 → entry.state_of ws d ≢ 0
no_entry ws key p e = go (index.add ws key p).1 e (add_takes_first ws key p)
  where
    go : (o : AddOutcome) → added o ≡ NoEntry → entries.TakesFirst ws o → (d : ℕ) → d ≤ 20 → entry.state_of ws d ≢ 0
    go (AddDone c) e h = absurd (cc (e))
    go AddNoEntry e h = h
