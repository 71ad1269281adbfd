-- Undos on different slots, in any order: the same image, word for word.
--     low d, high d            the words of an undo's slot are those from low on, below high
--     IsBeside p q             the undos are in other regions, or on other words
--     AreBeside ps qs          each of ps is beside each of qs
--     any_order                lists beside each other, performed in any order, leave the same image
use Rattle.std.proofs.Common.{◌≡◌, ℕ, zero, suc, ◌+◌, ◌*◌, ◌<◌, ◌≤◌, List, [], ◌∷◌, ◌++◌, length, get_or, set, fold, refl, ap, sym, ◌∙◌, ◌⊎◌, inl, inr, ⊎_elim, ◌≢◌, arith, IsPermutation}
use Rattle.std.specs.Prelude.{⊤, zip, flat_map}
use Rattle.std.proofs.lemmas.Bool.Decides.{eqb_tells}
use Rattle.std.proofs.lemmas.List.{set_comm}
use Rattle.std.proofs.lemmas.List.Edits.{swap_is}
use Rattle.std.proofs.lemmas.List.Sorted.{IsPermutation-keeps}
use Rattle.dali_words.specs.Effects.{write_all}
use Rattle.dali_access.specs.Heap.Cells as cell
use Rattle.dali_access.specs.Index.Entries as entry
use Rattle.dali_record.specs.declared.operations.Pending.{Pending}
use Rattle.dali_record.specs.declared.operations.Undo.{Undo}
use Rattle.dali_record.specs.declared.operations.Undo.TheVariants.{FreeCell as UndoFreeCell, ReviveCell as UndoReviveCell, Restore as UndoRestore, FreeEntry as UndoFreeEntry, ReviveEntry as UndoReviveEntry}
use Rattle.dali_record.specs.Operations.{effect, undo_op}
use Rattle.dali_history.specs.Undos.{undone}
use Rattle.dali_history.specs.Recovered.{undo_into}
use Rattle.dali_access.proofs.IndexLemmas.Slots.{Misses}

-- ---- a list that is edited at two places
edit_edit :
    (image : List (List ℕ)) (r q : ℕ) (f g : List ℕ → List ℕ) → (r ≡ q → (ws : List ℕ) → g (f ws) ≡ f (g ws))
    → set (set image r (f (get_or image r []))) q (g (get_or (set image r (f (get_or image r []))) q [])) ≡ set (set image q (g (get_or image q []))) r (f (get_or (set image q (g (get_or image q []))) r []))
edit_edit [] r q f g h = refl
edit_edit (ws ∷ image) zero zero f g h = ap (λ vs. vs ∷ image) (h refl ws)
edit_edit (ws ∷ image) zero (suc q) f g h = refl
edit_edit (ws ∷ image) (suc r) zero f g h = refl
edit_edit (ws ∷ image) (suc r) (suc q) f g h = ap (λ (x : List (List ℕ)). ws ∷ x) (edit_edit image r q f g (λ e. h (ap suc e)))

-- ---- writes of words apart
abbrev Inside : ℕ → ℕ → List (ℕ × ℕ) → Type 0
Inside m n [] = ⊤
Inside m n (p ∷ ps) = (m ≤ p.0) × (p.0 < n) × Inside m n ps

abbrev AreInside : ℕ → ℕ → List ℕ → Type 0
AreInside m n [] = ⊤
AreInside m n (i ∷ is) = (m ≤ i) × (i < n) × AreInside m n is

inside_zip : (m n : ℕ) (is xs : List ℕ) → AreInside m n is → Inside m n (zip is xs)
inside_zip m n [] xs h = tt
inside_zip m n (i ∷ is) [] h = tt
inside_zip m n (i ∷ is) (x ∷ xs) h = (h.0, h.1, inside_zip m n is xs h.2)

misses_inside : (m n i : ℕ) (ps : List (ℕ × ℕ)) → (i < m) ⊎ (n ≤ i) → Inside m n ps → Misses i ps
misses_inside m n i [] h inside = tt
misses_inside m n i (p ∷ ps) h inside = ((λ e. ⊎_elim (λ a. absurd (omega (arith, a, e, inside.0))) (λ a. absurd (omega (arith, a, e, inside.1))) h), misses_inside m n i ps h inside.2)

set_write : (ws : List ℕ) (qs : List (ℕ × ℕ)) (i x : ℕ) → Misses i qs → set (write_all ws qs) i x ≡ write_all (set ws i x) qs
set_write ws [] i x h = refl
set_write ws (q ∷ qs) i x h = set_write (set ws q.0 q.1) qs i x h.1 ∙ ap (λ vs. write_all vs qs) (set_comm ws q.0 i q.1 x (λ e. h.0 (sym e)))

write_write : (a b m n : ℕ) (ps qs : List (ℕ × ℕ)) (ws : List ℕ) → (b ≤ m) ⊎ (n ≤ a) → Inside a b ps → Inside m n qs → write_all (write_all ws ps) qs ≡ write_all (write_all ws qs) ps
write_write a b m n [] qs ws h f g = refl
write_write a b m n (p ∷ ps) qs ws h f g =
    let out : (p.0 < m) ⊎ (n ≤ p.0) = ⊎_elim (λ x. inl (omega (arith, x, f.1))) (λ x. inr (omega (arith, x, f.0))) h in
    write_write a b m n ps qs (set ws p.0 p.1) h f.2 g ∙ ap (λ vs. write_all vs ps) (sym (set_write ws qs p.0 p.1 (misses_inside m n p.0 qs out g)))

-- ---- the words of an undo
abbrev pub low : Undo → ℕ
low (UndoFreeCell c) = 8 * c
low (UndoReviveCell c) = 8 * c
low (UndoRestore c n vs) = 8 * c
low (UndoFreeEntry e) = 3 * e + 1
low (UndoReviveEntry e) = 3 * e + 1

abbrev pub high : Undo → ℕ
high (UndoFreeCell c) = 8 * c + 8
high (UndoReviveCell c) = 8 * c + 8
high (UndoRestore c n vs) = 8 * c + 8
high (UndoFreeEntry e) = 3 * e + 4
high (UndoReviveEntry e) = 3 * e + 4

abbrev writes : Undo → List (ℕ × ℕ)
writes (UndoFreeCell c) = (cell.state_word c, 0) ∷ []
writes (UndoReviveCell c) = (cell.state_word c, 1) ∷ []
writes (UndoRestore c n vs) = zip (cell.length_word c ∷ cell.value_words c) (n ∷ vs)
writes (UndoFreeEntry e) = (entry.state_word e, 0) ∷ []
writes (UndoReviveEntry e) = (entry.state_word e, 1) ∷ []

undo_writes : (d : Undo) (key : ℕ) (ws : List ℕ) → (effect (undo_op d) key ws).0.after ≡ write_all ws (writes d)
undo_writes (UndoFreeCell c) key ws = refl
undo_writes _ key ws = refl

writes_inside : (d : Undo) → Inside (low d) (high d) (writes d)
writes_inside (UndoFreeCell c) = (omega arith, omega arith, tt)
writes_inside (UndoReviveCell c) = (omega arith, omega arith, tt)
writes_inside (UndoRestore c n vs) = inside_zip (8 * c) (8 * c + 8) (cell.length_word c ∷ cell.value_words c) (n ∷ vs) (omega arith, omega arith, (omega arith, omega arith, (omega arith, omega arith, (omega arith, omega arith, (omega arith, omega arith, (omega arith, omega arith, tt))))))
writes_inside (UndoFreeEntry e) = (omega arith, omega arith, tt)
writes_inside (UndoReviveEntry e) = (omega arith, omega arith, tt)

-- ---- undos
abbrev pub IsBeside : Pending → Pending → Type 0
IsBeside p q = (p.region ≢ q.region) ⊎ ((high p.undo ≤ low q.undo) ⊎ (high q.undo ≤ low p.undo))

abbrev pub IsBesideAll : Pending → List Pending → Type 0
IsBesideAll p [] = ⊤
IsBesideAll p (q ∷ qs) = IsBeside p q × IsBesideAll p qs

abbrev pub AreBeside : List Pending → List Pending → Type 0
AreBeside [] qs = ⊤
AreBeside (p ∷ ps) qs = IsBesideAll p qs × AreBeside ps qs

-- two undos
pub undo_undo : (image : List (List ℕ)) (p q : Pending) → IsBeside p q → undo_into (undo_into image p) q ≡ undo_into (undo_into image q) p
undo_undo image p q h = edit_edit image p.region q.region (λ ws. (effect (undo_op p.undo) p.key ws).0.after) (λ ws. (effect (undo_op q.undo) q.key ws).0.after) words
  where
    both : (ws : List ℕ) → (high p.undo ≤ low q.undo) ⊎ (high q.undo ≤ low p.undo) → (effect (undo_op q.undo) q.key (effect (undo_op p.undo) p.key ws).0.after).0.after ≡ (effect (undo_op p.undo) p.key (effect (undo_op q.undo) q.key ws).0.after).0.after
    both ws apart =
        let one : (effect (undo_op q.undo) q.key (effect (undo_op p.undo) p.key ws).0.after).0.after ≡ write_all (write_all ws (writes p.undo)) (writes q.undo) =
        undo_writes q.undo q.key (effect (undo_op p.undo) p.key ws).0.after ∙ ap (λ vs. write_all vs (writes q.undo)) (undo_writes p.undo p.key ws) in
        let two : (effect (undo_op p.undo) p.key (effect (undo_op q.undo) q.key ws).0.after).0.after ≡ write_all (write_all ws (writes q.undo)) (writes p.undo) =
        undo_writes p.undo p.key (effect (undo_op q.undo) q.key ws).0.after ∙ ap (λ vs. write_all vs (writes p.undo)) (undo_writes q.undo q.key ws) in
        one ∙ write_write (low p.undo) (high p.undo) (low q.undo) (high q.undo) (writes p.undo) (writes q.undo) ws apart (writes_inside p.undo) (writes_inside q.undo) ∙ sym two

    words : p.region ≡ q.region → (ws : List ℕ) → (effect (undo_op q.undo) q.key (effect (undo_op p.undo) p.key ws).0.after).0.after ≡ (effect (undo_op p.undo) p.key (effect (undo_op q.undo) q.key ws).0.after).0.after
    words e ws = ⊎_elim (λ n. absurd (n e)) (λ a. both ws a) h

-- one undo, before or behind others
undo_past : (image : List (List ℕ)) (p : Pending) (qs : List Pending) → IsBesideAll p qs → undo_into (undone image qs) p ≡ undone (undo_into image p) qs
undo_past image p [] h = refl
undo_past image p (q ∷ qs) h = undo_past (undo_into image q) p qs h.1 ∙ ap (λ (x : List (List ℕ)). undone x qs) (sym (undo_undo image p q h.0))

-- two lists
pub undone_undone : (image : List (List ℕ)) (ps qs : List Pending) → AreBeside ps qs → undone (undone image ps) qs ≡ undone (undone image qs) ps
undone_undone image [] qs h = refl
undone_undone image (p ∷ ps) qs h = undone_undone (undo_into image p) ps qs h.1 ∙ ap (λ (x : List (List ℕ)). undone x ps) (sym (undo_past image p qs h.0))

pub undone_append : (image : List (List ℕ)) (ps qs : List Pending) → undone image (ps ++ qs) ≡ undone (undone image ps) qs
undone_append image [] qs = refl
undone_append image (p ∷ ps) qs = undone_append (undo_into image p) ps qs

-- ---- a fold whose steps may be swapped
fold_front : {A X : Type 0} (f : A → X → A) → ((a : A) (x y : X) → f (f a x) y ≡ f (f a y) x) → (a : A) (x : X) (xs : List X) (j : ℕ) (d : X) → j < length xs → fold f (f a (get_or xs j d)) (set xs j x) ≡ fold f (f a x) xs
fold_front f swaps a x [] j d h = absurd (omega (arith, h))
fold_front f swaps a x (y ∷ ys) zero d h = ap (λ b. fold f b ys) (swaps a y x)
fold_front f swaps a x (y ∷ ys) (suc j) d h = ap (λ b. fold f b (set ys j x)) (swaps a (get_or ys j d) y) ∙ fold_front f swaps (f a y) x ys j d (omega (arith, h)) ∙ ap (λ b. fold f b ys) (swaps a y x)

fold_swap : {A X : Type 0} (f : A → X → A) → ((a : A) (x y : X) → f (f a x) y ≡ f (f a y) x) → (a : A) (xs : List X) (i j : ℕ) (d : X) → i < length xs → j < length xs → fold f a (set (set xs i (get_or xs j d)) j (get_or xs i d)) ≡ fold f a xs
fold_swap f swaps a [] i j d p q = absurd (omega (arith, p))
fold_swap f swaps a (x ∷ xs) zero zero d p q = refl
fold_swap f swaps a (x ∷ xs) zero (suc j) d p q = fold_front f swaps a x xs j d (omega (arith, q))
fold_swap f swaps a (x ∷ xs) (suc i) zero d p q = fold_front f swaps a x xs i d (omega (arith, p))
fold_swap f swaps a (x ∷ xs) (suc i) (suc j) d p q = fold_swap f swaps (f a x) xs i j d (omega (arith, p)) (omega (arith, q))

pub fold_any_order : {A : Type 0} (f : A → ℕ → A) → ((a : A) (x y : ℕ) → f (f a x) y ≡ f (f a y) x) → (a : A) (xs ys : List ℕ) → IsPermutation xs ys → fold f a ys ≡ fold f a xs
fold_any_order f swaps a xs ys = IsPermutation-keeps xs (λ l. fold f a l ≡ fold f a xs) refl (λ l i j p q h. ap (fold f a) (sym (swap_is l i j 0 p q)) ∙ fold_swap f swaps a l i j 0 p q ∙ h) ys

-- ---- lists of undos
undone_flat : (us : ℕ → List Pending) (ts : List ℕ) (image : List (List ℕ)) → undone image (flat_map us ts) ≡ fold (λ (x : List (List ℕ)) t. undone x (us t)) image ts
undone_flat us [] image = refl
undone_flat us (t ∷ ts) image = undone_append image (us t) (flat_map us ts) ∙ undone_flat us ts (undone image (us t))

-- the lists of different numbers are beside each other, so these may come in any order
pub any_order : (us : ℕ → List Pending) → ((t u : ℕ) → t ≢ u → AreBeside (us t) (us u)) → (image : List (List ℕ)) (xs ys : List ℕ) → IsPermutation xs ys → undone image (flat_map us xs) ≡ undone image (flat_map us ys)
any_order us beside image xs ys moved = undone_flat us xs image ∙ sym (fold_any_order (λ (x : List (List ℕ)) t. undone x (us t)) swaps image xs ys moved) ∙ sym (undone_flat us ys image)
  where
    swaps : (x : List (List ℕ)) (t u : ℕ) → undone (undone x (us t)) (us u) ≡ undone (undone x (us u)) (us t)
    swaps x t u = ⊎_elim (λ a. rw (a.1) refl) (λ a. undone_undone x (us t) (us u) (beside t u a.1)) (eqb_tells t u)
