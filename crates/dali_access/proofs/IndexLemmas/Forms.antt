-- States and lengths that operations write, and the formatted image.
use Rattle.std.proofs.Common.{◌≡◌, ◌≢◌, ℕ, zero, suc, ◌+◌, ◌*◌, ◌<◌, ◌≤◌, Bool, true, false, cond, List, [], ◌∷◌, ◌++◌, length, get_or, set, refl, ap, sym, subst, ◌∙◌, ◌⊎◌, inl, inr, ⊎_elim, arith, Option, None, length-set, get_or-set_same, get_or-set_other}
use Rattle.std.specs.Prelude.{◌==◌, replicate, zip, filter_map, flat_map}
use Rattle.std.proofs.lemmas.Bool.Decides.{eqb_tells}
use Rattle.std.proofs.lemmas.List.{length-append, length-replicate}
use Rattle.dali_lists.proofs.Numbers.{one_of_two}
use Rattle.dali_words.specs.declared.Effect.{Effect}
use Rattle.dali_words.specs.Values.{is_size, packed}
use Rattle.dali_words.specs.Effects.{write_all}
use Rattle.dali_words.proofs.Masks.{IsIn}
use Rattle.dali_words.proofs.Rows.{unwritten, zip_within}
use Rattle.dali_geometry.specs.Sizes.{Sizes}
use Rattle.dali_geometry.specs.Places.{is_heap, formatted_image}
use Rattle.dali_access.specs.declared.heap.PutOutcome.{PutOutcome}
use Rattle.dali_access.specs.declared.heap.PutOutcome.TheVariants.{Put, NoCell}
use Rattle.dali_access.specs.Heap.Cells as cell
use Rattle.dali_access.specs.Heap.Rows as heap
use Rattle.dali_access.proofs.HeapLemmas.CellLaws.{Walked, put_walked}
use Rattle.dali_access.specs.declared.index.AddOutcome.{AddOutcome}
use Rattle.dali_access.specs.declared.index.AddOutcome.TheVariants.{Added, NoEntry}
use Rattle.dali_access.specs.Index.Entries as entry
use Rattle.dali_access.specs.Index.Rows as index
use Rattle.dali_access.specs.Index.Records.{words_of, records, stored, below}
use Rattle.dali_access.specs.Index.Invariant.{IsImage, IsIndexed, IsTidy}
use Rattle.dali_access.specs.Index.Form.{IsInForm, TidyIsForm, HasCells, HasEntries, FormIsKept, FormattedIsEmpty}
use Rattle.dali_access.proofs.IndexLemmas.EntryLaws.{Tried, add_walked, look_walked}
use Rattle.dali_access.proofs.IndexLemmas.Slots.{word_kept, word_put}
use Rattle.dali_access.proofs.IndexLemmas.Moves.{entry_writes}
use Rattle.dali_access.proofs.IndexLemmas.Worlds.{words_in-same, words_in-other}
use Rattle.dali_access.proofs.IndexLemmas.Fitting.{index_below, heap_bounds}
use Rattle.dali_access.proofs.IndexLemmas.Keeping.{Kills, cell_kills, entry_kills, reads_stay, changes_are, value_written, value_stays}

-- ---- tidy images
two_or_less : (n : ℕ) → n < 3 → n ≢ 2 → n < 2
two_or_less n a b = omega (arith, a, b)

not_two : (n : ℕ) → n < 2 → n ≢ 2
not_two n a e = omega (arith, a, e)

pub tidy_is_form : TidyIsForm
tidy_is_form = record {
  form = λ s image t. record {
    entries = λ r e a b. omega (arith, t.entries r e a b);
    cells = λ r c h a b. omega (arith, t.cells r c h a b);
    sizes = λ r c h a b used. t.sizes r c (h, a, b, one_of_two (cell.state_of (words_of image r) c) (t.cells r c h a b) used);
  };
  no_dead = λ s image t. record {
    entries = λ r e a b. not_two (entry.state_of (words_of image r) e) (t.entries r e a b);
    cells = λ r c h a b. not_two (cell.state_of (words_of image r) c) (t.cells r c h a b);
  };
  tidy = λ s image f d. record {
    entries = λ r e a b. two_or_less (entry.state_of (words_of image r) e) (f.entries r e a b) (d.entries r e a b);
    cells = λ r c h a b. two_or_less (cell.state_of (words_of image r) c) (f.cells r c h a b) (d.cells r c h a b);
    sizes = λ r c x. f.sizes r c x.0 x.1 x.2 (λ e. absurd (omega (arith, x.3, e)));
  };
}

-- ---- the words of one region
abbrev CellForm : List ℕ → Type 0
CellForm ws = (c : ℕ) → 0 < c → c < 8 → (cell.state_of ws c < 3) × (cell.state_of ws c ≢ 0 → is_size (cell.length_of ws c) ≡ true)

abbrev EntryForm : List ℕ → Type 0
EntryForm ws = (e : ℕ) → e < 21 → entry.state_of ws e < 3

cells_of : (s : Sizes) (image : List (List ℕ)) (r : ℕ) → HasCells s image r → CellForm (words_of image r)
cells_of s image r h c a b = (h.form.cells r c h.kind a b, h.form.sizes r c h.kind a b)

entries_of : (s : Sizes) (image : List (List ℕ)) (r : ℕ) → HasEntries s image r → EntryForm (words_of image r)
entries_of s image r h e b = h.form.entries r e (index_below s r h.kind) b

cells_long : (s : Sizes) (image : List (List ℕ)) (r : ℕ) → HasCells s image r → length (words_of image r) ≡ 64
cells_long s image r h = h.image_is.words r (heap_bounds s r h.kind).1

entries_long : (s : Sizes) (image : List (List ℕ)) (r : ℕ) → HasEntries s image r → length (words_of image r) ≡ 64
entries_long s image r h = h.image_is.words r (omega (arith, index_below s r h.kind))

-- a region is written
put_cells : (s : Sizes) (image : List (List ℕ)) (r : ℕ) (vs : List ℕ) → HasCells s image r → CellForm vs → IsInForm s (set image r vs)
put_cells s image r vs h f = record {
  entries = λ q e a b. subst (λ ws. entry.state_of ws e < 3) (sym (words_in-other image r vs q (λ x. absurd (omega (arith, a, x, at.0))))) (h.form.entries q e a b);
  cells = λ q c k a b. ⊎_elim (λ x. subst (λ ws. cell.state_of ws c < 3) (sym (here q x.1)) (f c a b).0) (λ x. subst (λ ws. cell.state_of ws c < 3) (sym (words_in-other image r vs q x.1)) (h.form.cells q c k a b)) (eqb_tells q r);
  sizes = λ q c k a b. ⊎_elim (λ x. subst (λ ws. cell.state_of ws c ≢ 0 → is_size (cell.length_of ws c) ≡ true) (sym (here q x.1)) (f c a b).1) (λ x. subst (λ ws. cell.state_of ws c ≢ 0 → is_size (cell.length_of ws c) ≡ true) (sym (words_in-other image r vs q x.1)) (h.form.sizes q c k a b)) (eqb_tells q r);
}
  where
    at : (s.index ≤ r) × (r < s.index + s.heap)
    at = heap_bounds s r h.kind

    here : (q : ℕ) → q ≡ r → words_of (set image r vs) q ≡ vs
    here q e = ap (λ z. words_of (set image r vs) z) e ∙ words_in-same image r vs (omega (arith, at.1, h.image_is.count))

put_entries : (s : Sizes) (image : List (List ℕ)) (r : ℕ) (vs : List ℕ) → HasEntries s image r → EntryForm vs → IsInForm s (set image r vs)
put_entries s image r vs h f = record {
  entries = λ q e a b. ⊎_elim (λ x. subst (λ ws. entry.state_of ws e < 3) (sym (here q x.1)) (f e b)) (λ x. subst (λ ws. entry.state_of ws e < 3) (sym (words_in-other image r vs q x.1)) (h.form.entries q e a b)) (eqb_tells q r);
  cells = λ q c k a b. subst (λ ws. cell.state_of ws c < 3) (sym (words_in-other image r vs q (other q k))) (h.form.cells q c k a b);
  sizes = λ q c k a b. subst (λ ws. cell.state_of ws c ≢ 0 → is_size (cell.length_of ws c) ≡ true) (sym (words_in-other image r vs q (other q k))) (h.form.sizes q c k a b);
}
  where
    low : r < s.index
    low = index_below s r h.kind

    other : (q : ℕ) → is_heap s q ≡ true → q ≢ r
    other q k e = omega (arith, (heap_bounds s q k).0, low, e)

    here : (q : ℕ) → q ≡ r → words_of (set image r vs) q ≡ vs
    here q e = ap (λ z. words_of (set image r vs) z) e ∙ words_in-same image r vs (omega (arith, low, h.image_is.count))

to_words : (F : List ℕ → Type 0) (us vs : List ℕ) → us ≡ vs → F vs → F us
to_words F us vs e h = subst F (sym e) h

-- ---- cells
abbrev Good : ℕ → ℕ → Type 0
Good state size = (state < 3) × (state ≢ 0 → is_size size ≡ true)

-- one cell was written, and is as it may be
cell_form : (ws vs : List ℕ) (c : ℕ) → CellForm ws → ((j : ℕ) → j ≢ c → (cell.state_of vs j ≡ cell.state_of ws j) × (cell.length_of vs j ≡ cell.length_of ws j)) → (0 < c → c < 8 → (cell.state_of vs c < 3) × (cell.state_of vs c ≢ 0 → is_size (cell.length_of vs c) ≡ true)) → CellForm vs
cell_form ws vs c f others own j a b = ⊎_elim same other (eqb_tells j c)
  where
    same : ((j == c) ≡ true) × (j ≡ c) → Good (cell.state_of vs j) (cell.length_of vs j)
    same x = subst (λ z. Good (cell.state_of vs z) (cell.length_of vs z)) (sym x.1) (own (subst (λ z. 0 < z) x.1 a) (subst (λ z. z < 8) x.1 b))

    other : ((j == c) ≡ false) × (j ≢ c) → Good (cell.state_of vs j) (cell.length_of vs j)
    other x = let k = others j x.1 in subst (λ z. Good z (cell.length_of vs j)) (sym k.0) (subst (λ z. Good (cell.state_of ws j) z) (sym k.1) (f j a b))

-- its state was written
state_form : (ws : List ℕ) (c x : ℕ) → length ws ≡ 64 → c ≤ 7 → CellForm ws → x < 3 → (x ≢ 0 → cell.state_of ws c ≢ 0) → CellForm (set ws (8 * c) x)
state_form ws c x long few f small used = cell_form ws (set ws (8 * c) x) c f (λ j ne. (get_or-set_other ws (8 * c) (8 * j) x 0 (omega arith), get_or-set_other ws (8 * c) (8 * j + 2) x 0 (omega arith))) own
  where
    state : get_or (set ws (8 * c) x) (8 * c) 0 ≡ x
    state = get_or-set_same ws (8 * c) x 0 (omega arith)

    size : get_or (set ws (8 * c) x) (8 * c + 2) 0 ≡ get_or ws (8 * c + 2) 0
    size = get_or-set_other ws (8 * c) (8 * c + 2) x 0 (omega arith)

    own : 0 < c → c < 8 → (cell.state_of (set ws (8 * c) x) c < 3) × (cell.state_of (set ws (8 * c) x) c ≢ 0 → is_size (cell.length_of (set ws (8 * c) x) c) ≡ true)
    own a b = (omega (arith, state, small), λ h. ap is_size size ∙ (f c a b).1 (used (λ e. h (state ∙ e))))

-- its length and its value were written
value_form : (ws : List ℕ) (c n : ℕ) (rest : List ℕ) → length ws ≡ 64 → c ≤ 7 → CellForm ws → is_size n ≡ true → CellForm (value_written ws c (n ∷ rest))
value_form ws c n rest long few f good = cell_form ws (value_written ws c (n ∷ rest)) c f (λ j ne. (out (8 * j) (λ a b. ne (omega arith)), out (8 * j + 2) (λ a b. ne (omega arith)))) own
  where
    side : (i : ℕ) → (8 * c + 2 ≤ i → i < 8 * c + 8 → ⊥) → (i < 8 * c + 2) ⊎ (8 * c + 8 ≤ i)
    side i h = grind arith

    out : (i : ℕ) → (8 * c + 2 ≤ i → i < 8 * c + 8 → ⊥) → get_or (value_written ws c (n ∷ rest)) i 0 ≡ get_or ws i 0
    out i h = value_stays ws c (n ∷ rest) i (side i h)

    later : (i : ℕ) → IsIn (cell.value_words c) i → 8 * c + 3 ≤ i
    later i (inl e) = omega (arith, e)
    later i (inr (inl e)) = omega (arith, e)
    later i (inr (inr (inl e))) = omega (arith, e)
    later i (inr (inr (inr (inl e)))) = omega (arith, e)
    later i (inr (inr (inr (inr (inl e))))) = omega (arith, e)
    later i (inr (inr (inr (inr (inr h))))) = absurd h

    size : cell.length_of (value_written ws c (n ∷ rest)) c ≡ n
    size = unwritten (set ws (8 * c + 2) n) (zip (cell.value_words c) rest) (8 * c + 2) (λ h. omega (arith, later (8 * c + 2) (zip_within (cell.value_words c) rest (8 * c + 2) h))) ∙ get_or-set_same ws (8 * c + 2) n 0 (omega arith)

    state : cell.state_of (value_written ws c (n ∷ rest)) c ≡ cell.state_of ws c
    state = out (8 * c) (λ a b. absurd (omega arith))

    own : 0 < c → c < 8 → (cell.state_of (value_written ws c (n ∷ rest)) c < 3) × (cell.state_of (value_written ws c (n ∷ rest)) c ≢ 0 → is_size (cell.length_of (value_written ws c (n ∷ rest)) c) ≡ true)
    own a b = (omega (arith, state, (f c a b).0), λ h. ap is_size size ∙ good)

put_form : (ws : List ℕ) (k : ℕ) (v : List ℕ) (e : Effect) (o : PutOutcome) → length ws ≡ 64 → CellForm ws → is_size (length v) ≡ true → Walked ws k v 1 7 e o → CellForm e.after
put_form ws k v e NoCell long f good h = to_words CellForm e.after ws h.1 f
put_form ws k v e (Put c) long f good h = to_words CellForm e.after (write_all ws writes) h.4 (cell_form ws (write_all ws writes) c f (λ j ne. (word_kept ws writes (8 * j) (omega arith), word_kept ws writes (8 * j + 2) (omega arith))) own)
  where
    writes : List (ℕ × ℕ)
    writes = zip (cell.cell_words c) (1 ∷ k ∷ length v ∷ packed v)

    state : cell.state_of (write_all ws writes) c ≡ 1
    state = word_put ws (8 * c) 1 (zip (cell.key_word c ∷ cell.length_word c ∷ cell.value_words c) (k ∷ length v ∷ packed v)) (omega (arith, long, h.1)) (omega arith)

    two : List ℕ
    two = set (set ws (8 * c) 1) (8 * c + 1) k

    two_long : length two ≡ 64
    two_long = length-set (set ws (8 * c) 1) (8 * c + 1) k ∙ length-set ws (8 * c) 1 ∙ long

    size : cell.length_of (write_all ws writes) c ≡ length v
    size = word_put two (8 * c + 2) (length v) (zip (cell.value_words c) (packed v)) (omega (arith, two_long, h.1)) (omega arith)

    own : 0 < c → c < 8 → (cell.state_of (write_all ws writes) c < 3) × (cell.state_of (write_all ws writes) c ≢ 0 → is_size (cell.length_of (write_all ws writes) c) ≡ true)
    own a b = (omega (arith, state), λ u. ap is_size size ∙ good)

-- ---- entries
entry_form : (ws : List ℕ) (e x : ℕ) → length ws ≡ 64 → e ≤ 20 → EntryForm ws → x < 3 → EntryForm (set ws (3 * e + 1) x)
entry_form ws e x long few f small j b = ⊎_elim (λ a. omega (arith, ap (λ z. get_or (set ws (3 * e + 1) x) (3 * z + 1) 0) a.1, get_or-set_same ws (3 * e + 1) x 0 (omega arith))) (λ a. omega (arith, f j b, get_or-set_other ws (3 * e + 1) (3 * j + 1) x 0 (omega (arith, a.1)))) (eqb_tells j e)

add_form : (ws : List ℕ) (k p : ℕ) (e : Effect) (o : AddOutcome) → length ws ≡ 64 → EntryForm ws → Tried ws k p 0 21 e o → EntryForm e.after
add_form ws k p e (Added j) long f h = to_words EntryForm e.after (write_all ws (entry_writes j k p)) h.4 each
  where
    state : entry.state_of (write_all ws (entry_writes j k p)) j ≡ 1
    state = word_put ws (3 * j + 1) 1 ((entry.key_word j, k) ∷ (entry.place_word j, p) ∷ []) (omega (arith, long, h.1)) (omega arith)

    each : EntryForm (write_all ws (entry_writes j k p))
    each i b = ⊎_elim (λ a. omega (arith, ap (λ z. entry.state_of (write_all ws (entry_writes j k p)) z) a.1, state)) (λ a. omega (arith, f i b, word_kept ws (entry_writes j k p) (3 * i + 1) (omega (arith, a.1)))) (eqb_tells i j)
add_form ws k p e NoEntry long f h = to_words EntryForm e.after (cond (entry.flag_of ws == 0) (set ws 0 1) ws) h.1 (go (entry.flag_of ws == 0))
  where
    go : (b : Bool) → EntryForm (cond b (set ws 0 1) ws)
    go true i b = omega (arith, f i b, get_or-set_other ws 0 (3 * i + 1) 1 0 (omega arith))
    go false i b = f i b

-- ---- all operations
pub form_is_kept : FormIsKept
form_is_kept = record {
  put = λ s image r k v h good. put_cells s image r (heap.put (words_of image r) k v).0.after h (put_form (words_of image r) k v (heap.put (words_of image r) k v).0 (heap.put (words_of image r) k v).1 (cells_long s image r h) (cells_of s image r h) good (put_walked (words_of image r) k v));
  read = λ s image r c k h. put_cells s image r (heap.read (words_of image r) c k).0.after h (to_words CellForm (heap.read (words_of image r) c k).0.after (words_of image r) (reads_stay (words_of image r) c k) (cells_of s image r h));
  change = λ s image r c k v h few good. put_cells s image r (heap.change (words_of image r) c k v).0.after h (⊎_elim (λ e. to_words CellForm (heap.change (words_of image r) c k v).0.after (value_written (words_of image r) c (length v ∷ packed v)) e (value_form (words_of image r) c (length v) (packed v) (cells_long s image r h) few (cells_of s image r h) good)) (λ e. to_words CellForm (heap.change (words_of image r) c k v).0.after (words_of image r) e (cells_of s image r h)) (changes_are (words_of image r) c k v));
  kill_cell = λ s image r c k h few. put_cells s image r (heap.kill (words_of image r) c k).0.after h (killed s image r c k h few (cell_kills (words_of image r) c k));
  free_cell = λ s image r c h few. put_cells s image r (set (words_of image r) (8 * c) 0) h (state_form (words_of image r) c 0 (cells_long s image r h) few (cells_of s image r h) (omega arith) (λ e. absurd (e refl)));
  revive_cell = λ s image r c h low few used. put_cells s image r (set (words_of image r) (8 * c) 1) h (state_form (words_of image r) c 1 (cells_long s image r h) few (cells_of s image r h) (omega arith) (λ e. used));
  restore = λ s image r c n vs h few good. put_cells s image r (value_written (words_of image r) c (n ∷ vs)) h (value_form (words_of image r) c n vs (cells_long s image r h) few (cells_of s image r h) good);
  look = λ s image r k h. put_entries s image r (index.look (words_of image r) k).0.after h (to_words EntryForm (index.look (words_of image r) k).0.after (words_of image r) (look_walked (words_of image r) k).1.1 (entries_of s image r h));
  add = λ s image r k p h. put_entries s image r (index.add (words_of image r) k p).0.after h (add_form (words_of image r) k p (index.add (words_of image r) k p).0 (index.add (words_of image r) k p).1 (entries_long s image r h) (entries_of s image r h) (add_walked (words_of image r) k p));
  kill_entry = λ s image r e k h few. put_entries s image r (index.kill (words_of image r) e k).0.after h (⊎_elim (λ a. to_words EntryForm (index.kill (words_of image r) e k).0.after (set (words_of image r) (3 * e + 1) 2) a.3 (entry_form (words_of image r) e 2 (entries_long s image r h) few (entries_of s image r h) (omega arith))) (λ a. to_words EntryForm (index.kill (words_of image r) e k).0.after (words_of image r) a.1 (entries_of s image r h)) (entry_kills (words_of image r) e k));
  free_entry = λ s image r e h few. put_entries s image r (set (words_of image r) (3 * e + 1) 0) h (entry_form (words_of image r) e 0 (entries_long s image r h) few (entries_of s image r h) (omega arith));
  revive_entry = λ s image r e h few. put_entries s image r (set (words_of image r) (3 * e + 1) 1) h (entry_form (words_of image r) e 1 (entries_long s image r h) few (entries_of s image r h) (omega arith));
}
  where
    killed : (s : Sizes) (image : List (List ℕ)) (r c k : ℕ) → HasCells s image r → c ≤ 7 → Kills (words_of image r) (8 * c) k (heap.kill (words_of image r) c k).0 (heap.kill (words_of image r) c k).1 → CellForm (heap.kill (words_of image r) c k).0.after
    killed s image r c k h few (inl a) = to_words CellForm (heap.kill (words_of image r) c k).0.after (set (words_of image r) (8 * c) 2) a.3 (state_form (words_of image r) c 2 (cells_long s image r h) few (cells_of s image r h) (omega arith) (λ x e. absurd (omega (arith, a.1, e))))
    killed s image r c k h few (inr a) = to_words CellForm (heap.kill (words_of image r) c k).0.after (words_of image r) a.1 (cells_of s image r h)

-- ---- the formatted image
abbrev blanks : ℕ → List ℕ
blanks n = replicate n 0

zeros : (n i : ℕ) → get_or (blanks n) i 0 ≡ 0
zeros zero i = refl
zeros (suc n) zero = refl
zeros (suc n) (suc i) = zeros n i

-- what holds of the words of both kinds of region, and of none, holds of each region's
each_region : (P : List ℕ → Type 0) (xs ys : List ℕ) → P xs → P ys → P [] → (a b r : ℕ) → P (get_or (replicate a xs ++ replicate b ys) r [])
each_region P xs ys p q o zero zero r = o
each_region P xs ys p q o zero (suc b) zero = q
each_region P xs ys p q o zero (suc b) (suc r) = each_region P xs ys p q o zero b r
each_region P xs ys p q o (suc a) b zero = p
each_region P xs ys p q o (suc a) b (suc r) = each_region P xs ys p q o a b r

-- the same of the regions there are
each_of : (P : List ℕ → Type 0) (xs ys : List ℕ) → P xs → P ys → (a b r : ℕ) → r < a + b → P (get_or (replicate a xs ++ replicate b ys) r [])
each_of P xs ys p q zero zero r h = absurd (omega arith)
each_of P xs ys p q zero (suc b) zero h = q
each_of P xs ys p q zero (suc b) (suc r) h = each_of P xs ys p q zero b r (omega arith)
each_of P xs ys p q (suc a) b zero h = p
each_of P xs ys p q (suc a) b (suc r) h = each_of P xs ys p q a b r (omega arith)

-- each word but a region's first is 0
formatted_word : (s : Sizes) (r n : ℕ) → 0 < n → get_or (words_of (formatted_image s) r) n 0 ≡ 0
formatted_word s r zero h = absurd (omega arith)
formatted_word s r (suc n) h = each_region (λ ws. get_or ws (suc n) 0 ≡ 0) (blanks 64) (1 ∷ blanks 63) (zeros 64 (suc n)) (zeros 63 n) refl s.index s.heap r

formatted_entry : (s : Sizes) (r e : ℕ) → entry.state_of (words_of (formatted_image s) r) e ≡ 0
formatted_entry s r e = formatted_word s r (3 * e + 1) (omega arith)

formatted_cell : (s : Sizes) (r c : ℕ) → 0 < c → cell.state_of (words_of (formatted_image s) r) c ≡ 0
formatted_cell s r c h = formatted_word s r (8 * c) (omega (arith, h))

pub formatted_is_image : (s : Sizes) → 0 < s.index → 0 < s.heap → IsImage s (formatted_image s)
formatted_is_image s a b = record {
  some_index = a;
  some_heap = b;
  count = omega (arith, length-append (replicate s.index (blanks 64)) (replicate s.heap (1 ∷ blanks 63)), length-replicate s.index (blanks 64), length-replicate s.heap (1 ∷ blanks 63));
  words = λ r h. each_of (λ ws. length ws ≡ 64) (blanks 64) (1 ∷ blanks 63) refl refl s.index s.heap r h;
}

-- no entry and no cell is live
pub formatted_is_indexed : (s : Sizes) → IsIndexed s (formatted_image s)
formatted_is_indexed s = record {
  one_entry = λ r e q f a b k. absurd (omega (arith, a.2, formatted_entry s r e));
  reached = λ r e u. absurd (omega (arith, u.2, formatted_entry s r e));
  names_cell = λ r e a. absurd (omega (arith, a.2, formatted_entry s r e));
  is_named = λ r c a. absurd (omega (arith, a.3, formatted_cell s r c a.1));
}

pub formatted_is_tidy : (s : Sizes) → IsTidy s (formatted_image s)
formatted_is_tidy s = record {
  entries = λ r e h g. omega (arith, formatted_entry s r e);
  cells = λ r c h a b. omega (arith, formatted_cell s r c a);
  sizes = λ r c a. absurd (omega (arith, a.3, formatted_cell s r c a.1));
}

no_entry : (s : Sizes) (r e : ℕ) → stored s (formatted_image s) r e ≡ None
no_entry s r e = rw (formatted_entry s r e) refl

none_of : (h : ℕ → Option (ℕ × List ℕ)) → ((e : ℕ) → h e ≡ None) → (es : List ℕ) → filter_map h es ≡ []
none_of h none [] = refl
none_of h none (e ∷ es) = rw (none e) (none_of h none es)

none_in : (f : ℕ → List (ℕ × List ℕ)) → ((r : ℕ) → f r ≡ []) → (rs : List ℕ) → flat_map f rs ≡ []
none_in f none [] = refl
none_in f none (r ∷ rs) = rw (none r) (none_in f none rs)

pub formatted_records : (s : Sizes) → records s (formatted_image s) ≡ []
formatted_records s = none_in (λ r. filter_map (stored s (formatted_image s) r) entry.entries) (λ r. none_of (stored s (formatted_image s) r) (no_entry s r) entry.entries) (below s.index)

pub formatted_is_empty : FormattedIsEmpty
formatted_is_empty = record { image_is = formatted_is_image; indexed = formatted_is_indexed; tidy = formatted_is_tidy; no_records = formatted_records }
