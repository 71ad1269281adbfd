-- The image with its dead slots freed.
--     cleared x                what a state becomes
--     emptied xs               a slot's content, where it isn't dead
--     alive P                  the slots P without the dead ones
use Rattle.std.proofs.Common.{◌≡◌, ℕ, zero, suc, ◌+◌, ◌*◌, ◌<◌, ◌≤◌, Bool, true, false, cond, not, List, [], ◌∷◌, ◌++◌, length, map, get_or, set, take, drop, fold, Option, Some, None, refl, ap, sym, ◌∙◌, ◌⊎◌, inl, inr, ⊎_elim, ◌≢◌, arith, get_or-set_other, get_or-set_same}
use Rattle.std.specs.Prelude.{◌==◌, if◌then◌else◌}
use Rattle.std.proofs.lemmas.Bool.Decides.{eqb_tells, nat_tests}
use Rattle.std.proofs.lemmas.List.{get_or_past}
use mathlib.Core.Path.{fun_ext}
use Rattle.dali_lists.proofs.Lists.{length_of_halves, past_is_zero}
use Rattle.dali_geometry.specs.Sizes.{Sizes}
use Rattle.dali_geometry.specs.Places.{is_index}
use Rattle.dali_access.specs.Heap.Cells as cell
use Rattle.dali_access.specs.Index.Entries as entry
use Rattle.dali_record.specs.Settled.{words_in}
use Rattle.dali_access.specs.Index.Invariant.{IsImage}
use Rattle.dali_history.specs.Recovered.{free_word, freed}
use Rattle.dali_history.proofs.SlotsLemmas.OperationFinds.{from, entries-from, cells-from}
use Rattle.dali_access.proofs.IndexLemmas.Slots.{seen, entry_part, cell_part, value_at}
use Rattle.dali_access.proofs.IndexLemmas.Worlds.{Flags, part, flags}
use Rattle.dali_history.proofs.SlotsLemmas.BlockOnSlots.{part_entry, part_cell}
use Rattle.dali_access.proofs.IndexLemmas.Parts.{Part}
use Rattle.dali_history.proofs.SlotsLemmas.ValueSlots.{Reached, Stands, lives_in}

abbrev pub cleared : ℕ → ℕ
cleared x = if x == 2 then 0 else x

abbrev pub emptied : List ℕ → List ℕ
emptied [] = []
emptied (x ∷ xs) = if x == 2 then [] else x ∷ xs

abbrev pub alive : Part → Part
alive P r i = emptied (P r i)

-- ---- words
free_other : (ws : List ℕ) (i j : ℕ) → j ≢ i → get_or (free_word ws i) j 0 ≡ get_or ws j 0
free_other ws i j h = go (get_or ws i 0 == 2)
  where
    go : (b : Bool) → get_or (cond b (set ws i 0) ws) j 0 ≡ get_or ws j 0
    go true = get_or-set_other ws i j 0 0 h
    go false = refl

free_same : (ws : List ℕ) (i : ℕ) → get_or (free_word ws i) i 0 ≡ cleared (get_or ws i 0)
free_same ws i = go (eqb_tells (get_or ws i 0) 2) (split i (length ws))
  where
    split : (a b : ℕ) → (a < b) ⊎ (b ≤ a)
    split a b = grind arith

    go : (((get_or ws i 0 == 2) ≡ true) × (get_or ws i 0 ≡ 2)) ⊎ (((get_or ws i 0 == 2) ≡ false) × (get_or ws i 0 ≢ 2)) → (i < length ws) ⊎ (length ws ≤ i) → get_or (free_word ws i) i 0 ≡ cleared (get_or ws i 0)
    go (inl a) (inl b) = rw (a.0) (get_or-set_same ws i 0 0 b)
    go (inl a) (inr b) = let none : get_or ws i 0 ≡ 0 = past_is_zero ws i b in absurd (omega (arith, none, a.1))
    go (inr a) b = rw (a.0) refl

-- a word that isn't among these stays
free_kept : (f : ℕ → ℕ) (n m : ℕ) (ws : List ℕ) (j : ℕ) → ((i : ℕ) → n ≤ i → i < n + m → j ≢ f i) → get_or (fold free_word ws (map f (from n m))) j 0 ≡ get_or ws j 0
free_kept f n zero ws j h = refl
free_kept f n (suc m) ws j h = free_kept f (suc n) m (free_word ws (f n)) j (λ i a b. h i (omega arith) (omega arith)) ∙ free_other ws (f n) j (h n (omega arith) (omega arith))

-- one of these is cleared
free_cleared : (f : ℕ → ℕ) → ((i j : ℕ) → i ≢ j → f i ≢ f j) → (n m : ℕ) (ws : List ℕ) (i : ℕ) → n ≤ i → i < n + m → get_or (fold free_word ws (map f (from n m))) (f i) 0 ≡ cleared (get_or ws (f i) 0)
free_cleared f apart n zero ws i a b = absurd (omega arith)
free_cleared f apart n (suc m) ws i a b = go (eqb_tells i n) (free_cleared f apart (suc n) m (free_word ws (f n)) i)
  where
    go : (((i == n) ≡ true) × (i ≡ n)) ⊎ (((i == n) ≡ false) × (i ≢ n)) → (suc n ≤ i → i < suc n + m → get_or (fold free_word (free_word ws (f n)) (map f (from (suc n) m))) (f i) 0 ≡ cleared (get_or (free_word ws (f n)) (f i) 0)) → get_or (fold free_word ws (map f (from n (suc m)))) (f i) 0 ≡ cleared (get_or ws (f i) 0)
    go (inl c) ih = rw (c.1) (free_kept f (suc n) m (free_word ws (f n)) (f n) (λ j l k. apart n j (λ e. omega (arith, l, e))) ∙ free_same ws (f n))
    go (inr c) ih = ih (omega (arith, c.1)) (omega arith) ∙ ap cleared (free_other ws (f n) (f i) (apart i n c.1))

-- ---- slots
seen_cleared : (k key state : ℕ) (rest : List ℕ) → seen k (cleared state) key rest ≡ emptied (seen k state key rest)
seen_cleared k key state rest = go (eqb_tells state 2) (eqb_tells state 0) (key == k) refl
  where
    go : (((state == 2) ≡ true) × (state ≡ 2)) ⊎ (((state == 2) ≡ false) × (state ≢ 2)) → (((state == 0) ≡ true) × (state ≡ 0)) ⊎ (((state == 0) ≡ false) × (state ≢ 0)) → (b : Bool) → (key == k) ≡ b → seen k (cleared state) key rest ≡ emptied (seen k state key rest)
    go (inl a) (inl c) b e = absurd (omega (arith, a.1, c.1))
    go (inl a) (inr c) true e = rw (a.0, c.0, e, a.0) refl
    go (inl a) (inr c) false e = rw (a.0, c.0, e) refl
    go (inr a) (inl c) b e = rw (a.0, c.0) refl
    go (inr a) (inr c) true e = rw (a.0, c.0, e, a.0) refl
    go (inr a) (inr c) false e = rw (a.0, c.0, e) refl

abbrev pub freed_entries : List ℕ → List ℕ
freed_entries ws = fold free_word ws (map entry.state_word entry.entries)

abbrev pub freed_cells : List ℕ → List ℕ
freed_cells ws = fold free_word ws (map cell.state_word cell.cells)

-- the state of an entry
entry_cleared : (ws : List ℕ) (e : ℕ) → length ws ≤ 64 → entry.state_of (freed_entries ws) e ≡ cleared (entry.state_of ws e)
entry_cleared ws e long = rw entries-from (⊎_elim inside outside (split e))
  where
    split : (i : ℕ) → (i < 21) ⊎ (21 ≤ i)
    split i = grind arith

    inside : e < 21 → get_or (fold free_word ws (map entry.state_word (from 0 21))) (entry.state_word e) 0 ≡ cleared (entry.state_of ws e)
    inside b = free_cleared entry.state_word (λ i j h g. h (omega arith)) 0 21 ws e (omega arith) (omega arith)

    outside : 21 ≤ e → get_or (fold free_word ws (map entry.state_word (from 0 21))) (entry.state_word e) 0 ≡ cleared (entry.state_of ws e)
    outside b = let none : get_or ws (3 * e + 1) 0 ≡ 0 = past_is_zero ws (3 * e + 1) (omega arith) in free_kept entry.state_word 0 21 ws (entry.state_word e) (λ i l h. omega arith) ∙ none ∙ sym (ap cleared none)

entry_left : (ws : List ℕ) (j : ℕ) → ((i : ℕ) → j ≢ 3 * i + 1) → get_or (freed_entries ws) j 0 ≡ get_or ws j 0
entry_left ws j h = rw entries-from (free_kept entry.state_word 0 21 ws j (λ i a b. h i))

entry_freed : (k : ℕ) (ws : List ℕ) (e : ℕ) → length ws ≤ 64 → entry_part k (freed_entries ws) e ≡ emptied (entry_part k ws e)
entry_freed k ws e long = rw (entry_cleared ws e long, entry_left ws (3 * e + 2) (λ i. omega arith), entry_left ws (3 * e + 3) (λ i. omega arith)) (seen_cleared k (entry.key_of ws e) (entry.state_of ws e) (entry.place_of ws e ∷ []))

-- the state of a cell
cell_cleared : (ws : List ℕ) (c : ℕ) → length ws ≤ 64 → c ≢ 0 → cell.state_of (freed_cells ws) c ≡ cleared (cell.state_of ws c)
cell_cleared ws c long some = rw cells-from (⊎_elim inside outside (split c))
  where
    split : (i : ℕ) → (i < 8) ⊎ (8 ≤ i)
    split i = grind arith

    inside : c < 8 → get_or (fold free_word ws (map cell.state_word (from 1 7))) (cell.state_word c) 0 ≡ cleared (cell.state_of ws c)
    inside b = free_cleared cell.state_word (λ i j h g. h (omega arith)) 1 7 ws c (omega (arith, some)) (omega arith)

    outside : 8 ≤ c → get_or (fold free_word ws (map cell.state_word (from 1 7))) (cell.state_word c) 0 ≡ cleared (cell.state_of ws c)
    outside b = let none : get_or ws (8 * c) 0 ≡ 0 = past_is_zero ws (8 * c) (omega arith) in free_kept cell.state_word 1 7 ws (cell.state_word c) (λ i l h. omega arith) ∙ none ∙ sym (ap cleared none)

cell_left : (ws : List ℕ) (j : ℕ) → ((i : ℕ) → 1 ≤ i → j ≢ 8 * i) → get_or (freed_cells ws) j 0 ≡ get_or ws j 0
cell_left ws j h = rw cells-from (free_kept cell.state_word 1 7 ws j (λ i a b. h i a))

cell_rest : (ws : List ℕ) (c : ℕ) → cell.length_of (freed_cells ws) c ∷ value_at (freed_cells ws) c ≡ cell.length_of ws c ∷ value_at ws c
cell_rest ws c = rw (cell_left ws (8 * c + 2) (λ i b. omega arith), cell_left ws (8 * c + 3) (λ i b. omega arith), cell_left ws (8 * c + 4) (λ i b. omega arith), cell_left ws (8 * c + 5) (λ i b. omega arith), cell_left ws (8 * c + 6) (λ i b. omega arith), cell_left ws (8 * c + 7) (λ i b. omega arith)) refl

cell_freed : (k : ℕ) (ws : List ℕ) (c : ℕ) → length ws ≤ 64 → cell_part k (freed_cells ws) c ≡ emptied (cell_part k ws c)
cell_freed k ws c long = go (eqb_tells c 0)
  where
    go : (((c == 0) ≡ true) × (c ≡ 0)) ⊎ (((c == 0) ≡ false) × (c ≢ 0)) → cell_part k (freed_cells ws) c ≡ emptied (cell_part k ws c)
    go (inl a) = rw (a.0) refl
    go (inr a) = rw (a.0, cell_cleared ws c long a.1, cell_left ws (8 * c + 1) (λ i b. omega arith), cell_rest ws c) (seen_cleared k (cell.key_of ws c) (cell.state_of ws c) (cell.length_of ws c ∷ value_at ws c))

-- ---- regions
regions_low : (f g : List ℕ → List ℕ) (n : ℕ) (xs : List (List ℕ)) (r : ℕ) → r < n → r < length xs → get_or (map f (take n xs) ++ map g (drop n xs)) r [] ≡ f (get_or xs r [])
regions_low f g zero xs r a b = absurd (omega arith)
regions_low f g (suc n) [] r a b = absurd (omega arith)
regions_low f g (suc n) (x ∷ xs) zero a b = refl
regions_low f g (suc n) (x ∷ xs) (suc r) a b = regions_low f g n xs r (omega arith) (omega arith)

regions_map : (g : List ℕ → List ℕ) (xs : List (List ℕ)) (r : ℕ) → r < length xs → get_or (map g xs) r [] ≡ g (get_or xs r [])
regions_map g [] r b = absurd (omega arith)
regions_map g (x ∷ xs) zero b = refl
regions_map g (x ∷ xs) (suc r) b = regions_map g xs r (omega arith)

regions_high : (f g : List ℕ → List ℕ) (n : ℕ) (xs : List (List ℕ)) (r : ℕ) → n ≤ r → r < length xs → get_or (map f (take n xs) ++ map g (drop n xs)) r [] ≡ g (get_or xs r [])
regions_high f g zero xs r a b = regions_map g xs r b
regions_high f g (suc n) [] r a b = absurd (omega arith)
regions_high f g (suc n) (x ∷ xs) zero a b = absurd (omega arith)
regions_high f g (suc n) (x ∷ xs) (suc r) a b = regions_high f g n xs r (omega arith) (omega arith)

pub length-freed : (s : Sizes) (image : List (List ℕ)) → length (freed s image) ≡ length image
length-freed s image = length_of_halves freed_entries freed_cells s.index image

pub freed_index : (s : Sizes) (image : List (List ℕ)) (r : ℕ) → r < s.index → r < length image → words_in (freed s image) r ≡ freed_entries (words_in image r)
freed_index s image r a b = regions_low freed_entries freed_cells s.index image r a b

pub freed_heap : (s : Sizes) (image : List (List ℕ)) (r : ℕ) → s.index ≤ r → r < length image → words_in (freed s image) r ≡ freed_cells (words_in image r)
freed_heap s image r a b = regions_high freed_entries freed_cells s.index image r a b

-- a region of each kind, or none
abbrev FreedAt : Sizes → List (List ℕ) → ℕ → Type 0
FreedAt s image r =
    (words_in image r ≡ []) × (words_in (freed s image) r ≡ []) ⊎ (length (words_in image r) ≡ 64) × (is_index s r ≡ true) × (words_in (freed s image) r ≡ freed_entries (words_in image r)) ⊎ (length (words_in image r) ≡ 64) × (is_index s r ≡ false) × (words_in (freed s image) r ≡ freed_cells (words_in image r))

freed_at : (s : Sizes) (image : List (List ℕ)) (r : ℕ) → IsImage s image → FreedAt s image r
freed_at s image r form = ⊎_elim (λ b. ⊎_elim (λ a. inr (inl (form.words r (omega (arith, form.count)), yes s r a, freed_index s image r a b))) (λ a. inr (inr (form.words r (omega (arith, form.count)), no s r a, freed_heap s image r a b))) (split r s.index)) (λ b. inl (get_or_past image r [] b, get_or_past (freed s image) r [] (omega (arith, length-freed s image)))) (split r (length image))
  where
    split : (a b : ℕ) → (a < b) ⊎ (b ≤ a)
    split a b = grind arith

    yes : (z : Sizes) (q : ℕ) → q < z.index → is_index z q ≡ true
    yes z q h = grind (arith, nat_tests)

    no : (z : Sizes) (q : ℕ) → z.index ≤ q → is_index z q ≡ false
    no z q h = grind (arith, nat_tests)

-- a dead slot holds nothing, and the others what they held
pub part_freed : (s : Sizes) (image : List (List ℕ)) (k r i : ℕ) → IsImage s image → part s (freed s image) k r i ≡ emptied (part s image k r i)
part_freed s image k r i form = ⊎_elim none (λ a. ⊎_elim index heap a) (freed_at s image r form)
  where
    index : (length (words_in image r) ≡ 64) × (is_index s r ≡ true) × (words_in (freed s image) r ≡ freed_entries (words_in image r)) → part s (freed s image) k r i ≡ emptied (part s image k r i)
    index a = part_entry s (freed s image) k r i a.1 ∙ ap (λ ws. entry_part k ws i) a.2 ∙ entry_freed k (words_in image r) i (omega (arith, a.0)) ∙ sym (ap emptied (part_entry s image k r i a.1))

    heap : (length (words_in image r) ≡ 64) × (is_index s r ≡ false) × (words_in (freed s image) r ≡ freed_cells (words_in image r)) → part s (freed s image) k r i ≡ emptied (part s image k r i)
    heap a = part_cell s (freed s image) k r i a.1 ∙ ap (λ ws. cell_part k ws i) a.2 ∙ cell_freed k (words_in image r) i (omega (arith, a.0)) ∙ sym (ap emptied (part_cell s image k r i a.1))

    empty_entry : (ws : List ℕ) → ws ≡ [] → entry_part k ws i ≡ []
    empty_entry ws e = rw e refl

    empty_cell : (c : ℕ) → (b : Bool) → (c == 0) ≡ b → cell_part k [] c ≡ []
    empty_cell c true e = rw e refl
    empty_cell c false e = rw e refl

    nothing : (im : List (List ℕ)) → words_in im r ≡ [] → (b : Bool) → is_index s r ≡ b → part s im k r i ≡ []
    nothing im e true b = part_entry s im k r i b ∙ empty_entry (words_in im r) e
    nothing im e false b = part_cell s im k r i b ∙ ap (λ ws. cell_part k ws i) e ∙ empty_cell i (i == 0) refl

    none : (words_in image r ≡ []) × (words_in (freed s image) r ≡ []) → part s (freed s image) k r i ≡ emptied (part s image k r i)
    none a = nothing (freed s image) a.1 (is_index s r) refl ∙ sym (ap emptied (nothing image a.0 (is_index s r) refl))

pub freed_alive : (s : Sizes) (image : List (List ℕ)) (k : ℕ) → IsImage s image → part s (freed s image) k ≡ alive (part s image k)
freed_alive s image k form = fun_ext (λ r. fun_ext (λ i. part_freed s image k r i form))

-- the flags stay
pub flags_freed : (s : Sizes) (image : List (List ℕ)) → IsImage s image → flags (freed s image) ≡ flags image
unfolding flags
flags_freed s image form = fun_ext (λ r. ap (λ x. not (x == 0)) (each r))
  where
    each : (r : ℕ) → entry.flag_of (words_in (freed s image) r) ≡ entry.flag_of (words_in image r)
    each r = ⊎_elim (λ a. ap entry.flag_of (a.1 ∙ sym a.0)) (λ a. ⊎_elim (λ b. ap entry.flag_of b.2 ∙ entry_left (words_in image r) 0 (λ i. omega arith)) (λ b. ap entry.flag_of b.2 ∙ cell_left (words_in image r) 0 (λ i l. omega arith)) a) (freed_at s image r form)

-- ---- slots without the dead ones
-- what is left was there, and isn't dead
pub emptied_is : (xs : List ℕ) (y : ℕ) (ys : List ℕ) → emptied xs ≡ y ∷ ys → (xs ≡ y ∷ ys) × (y ≢ 2)
emptied_is [] y ys e = absurd (cc (e))
emptied_is (x ∷ xs) y ys e = go (eqb_tells x 2)
  where
    go : (((x == 2) ≡ true) × (x ≡ 2)) ⊎ (((x == 2) ≡ false) × (x ≢ 2)) → (x ∷ xs ≡ y ∷ ys) × (y ≢ 2)
    go (inl a) = let no : [] ≡ y ∷ ys = rw (a.0) at e in absurd (cc (no))
    go (inr a) = let same : x ∷ xs ≡ y ∷ ys = rw (a.0) at e in let head : x ≡ y = cc (same) in (same, λ h. a.1 (head ∙ h))

-- no dead slot is left
pub none_dead : (P : Part) (r i x : ℕ) (xs : List ℕ) → alive P r i ≡ x ∷ xs → x ≢ 2
none_dead P r i x xs e = (emptied_is (P r i) x xs e).1

pub stands_alive : (s : Sizes) (P : Part) (o : Option (List ℕ)) → Stands s P o → Stands s (alive P) o
stands_alive s P None h = λ q i x xs e. h q i x xs (emptied_is (P q i) x xs e).0
stands_alive s P (Some v) h = lives_in s P (alive P) v h (ap emptied h.entry) (ap emptied h.cell.0) (λ q i a b x xs e. h.others q i a b x xs (emptied_is (P q i) x xs e).0)

pub reached_alive : (s : Sizes) (F : Flags) (k : ℕ) (P : Part) → Reached s F k P → Reached s F k (alive P)
reached_alive s F k P h r i x xs low e = h r i x xs low (emptied_is (P r i) x xs e).0
