-- A tidy image has nothing to free, so the recovery of an epoch without records leaves its base.
use Rattle.std.proofs.Common.{◌≡◌, ℕ, ◌+◌, ◌<◌, ◌≤◌, true, false, List, [], ◌∷◌, ◌++◌, take, drop, refl, ap, sym, ◌∙◌, arith}
use Rattle.std.specs.Prelude.{fold, map, slice_index, All, ◌==◌, ◌&&◌, nat_lt, nat_le}
use Rattle.std.specs.List.{list_all, AllByRecursion}
use Rattle.std.proofs.lemmas.List.{take-append-drop, length-take, length-drop, get_or-take, get_or-drop}
use Rattle.std.proofs.lemmas.List.Elements.{All-from_get_or}
use Rattle.std.proofs.lemmas.List.Folds.{map_fixed}
use Rattle.std.proofs.lemmas.Bool.{and_parts, and_from, ltb-true, lt-ltb, le-leb, ne_eqb}
use Rattle.dali_geometry.specs.Sizes.{Sizes}
use Rattle.dali_geometry.specs.Places.{formatted_image, is_heap, regions}
use Rattle.dali_access.specs.Heap.Cells as cell
use Rattle.dali_access.specs.Index.Entries as entry
use Rattle.dali_record.specs.declared.records.Record.{Record}
use Rattle.dali_record.specs.Epochs.{Epoch, Cut, cut, last_epoch}
use Rattle.dali_record.specs.Settled.{words_in}
use Rattle.dali_record.specs.Legal.{sizes_of}
use Rattle.dali_record.proofs.Pushes.{cut_push, separates}
use Rattle.dali_history.specs.Recovered.{free_word, freed, recover, base_of, recovered, recovered_now}
use Rattle.dali_access.specs.Index.Invariant.{IsImage, IsTidy}
use Rattle.dali_history.specs.History.{IsHistory}
use Rattle.dali_history.proofs.Bases.{recovered-restarted}
use Rattle.dali_history.proofs.OwnEpoch.{cut_step_more}
use Rattle.dali_history.proofs.HeadlineLemmas.EpochByEpoch.{base_holds}
use Rattle.dali_history.proofs.Restarts.{restarted, recovered-same}

-- ---- one region
-- numbers below n that a list holds
below_all : (n : ℕ) (P : ℕ → Type 0) → ((i : ℕ) → 0 < i → i < n → P i) → (is : List ℕ) → list_all (λ i. nat_lt 0 i && nat_lt i n) is ≡ true → AllByRecursion P is
below_all n P h [] e = tt
below_all n P h (i ∷ is) e =
    let p = and_parts (nat_lt 0 i && nat_lt i n) (list_all (λ j. nat_lt 0 j && nat_lt j n) is) e in
    let q = and_parts (nat_lt 0 i) (nat_lt i n) p.0 in
    (h i (ltb-true 0 i q.0) (ltb-true i n q.1), below_all n P h is p.1)

from_all : (n : ℕ) (P : ℕ → Type 0) → ((i : ℕ) → i < n → P i) → (is : List ℕ) → list_all (λ i. nat_lt i n) is ≡ true → AllByRecursion P is
from_all n P h [] e = tt
from_all n P h (i ∷ is) e =
    let p = and_parts (nat_lt i n) (list_all (λ j. nat_lt j n) is) e in
    (h i (ltb-true i n p.0), from_all n P h is p.1)

free_word_same : (ws : List ℕ) (i : ℕ) → slice_index ws i < 2 → free_word ws i ≡ ws
free_word_same ws i h = let other : (slice_index ws i == 2) ≡ false = ne_eqb (slice_index ws i) 2 (λ e. absurd (omega (arith, h, e))) in rw other refl

free_words_same : (f : ℕ → ℕ) (is : List ℕ) (ws : List ℕ) → AllByRecursion (λ i. slice_index ws (f i) < 2) is → fold free_word ws (map f is) ≡ ws
free_words_same f [] ws h = refl
free_words_same f (i ∷ is) ws h = ap (λ vs. fold free_word vs (map f is)) (free_word_same ws (f i) h.0) ∙ free_words_same f is ws h.1

entries_below : list_all (λ e. nat_lt e 21) entry.entries ≡ true
unfolding entry.entries
entries_below = refl

cells_below : list_all (λ c. nat_lt 0 c && nat_lt c 8) cell.cells ≡ true
unfolding cell.cells
cells_below = refl

-- ---- the image
pub freed_tidy : (s : Sizes) (image : List (List ℕ)) → IsImage s image → IsTidy s image → freed s image ≡ image
freed_tidy s image is_image tidy =
    ap (λ xs. xs ++ map on_cells (drop s.index image)) (map_fixed on_entries (take s.index image) front)
    ∙ ap (λ xs. take s.index image ++ xs) (map_fixed on_cells (drop s.index image) rest)
    ∙ take-append-drop s.index image
  where
    on_entries : List ℕ → List ℕ
    on_entries ws = fold free_word ws (map entry.state_word entry.entries)

    on_cells : List ℕ → List ℕ
    on_cells ws = fold free_word ws (map cell.state_word cell.cells)

    an_index : (r : ℕ) → r < s.index → on_entries (words_in image r) ≡ words_in image r
    an_index r h = free_words_same entry.state_word entry.entries (words_in image r) (from_all 21 (λ e. entry.state_of (words_in image r) e < 2) (λ e l. tidy.entries r e h l) entry.entries entries_below)

    a_heap : (r : ℕ) → s.index ≤ r → r < s.index + s.heap → on_cells (words_in image r) ≡ words_in image r
    a_heap r h l =
        let heap : is_heap s r ≡ true = and_from (nat_le s.index r) (nat_lt r (regions s)) (Rattle.std.proofs.lemmas.Bool.le-leb s.index r h) (lt-ltb r (regions s) l) in
        free_words_same cell.state_word cell.cells (words_in image r) (below_all 8 (λ c. cell.state_of (words_in image r) c < 2) (λ c a b. tidy.cells r c heap a b) cell.cells cells_below)

    front : All (λ ws. on_entries ws ≡ ws) (take s.index image)
    front = All-from_get_or (λ ws. on_entries ws ≡ ws) (take s.index image) [] (λ r h. let l : r < s.index = omega (arith, h, length-take s.index image) in rw (get_or-take s.index image r [] l) (an_index r l))

    rest : All (λ ws. on_cells ws ≡ ws) (drop s.index image)
    rest = All-from_get_or (λ ws. on_cells ws ≡ ws) (drop s.index image) [] (λ r h. rw (get_or-drop s.index image r []) (a_heap (s.index + r) (omega arith) (omega (arith, h, length-drop s.index image, is_image.count))))

-- ---- an epoch without records
pub recover_nothing : (s : Sizes) (base : List (List ℕ)) (e : Epoch) → IsImage s base → IsTidy s base → e.records ≡ [] → recover s base e ≡ base
recover_nothing s base e is_image tidy none = ap (λ R. recover s base (record { first = e.first; records = R })) none ∙ freed_tidy s base is_image tidy

-- the record of a restart changes the recovered image of no history, whether its last epoch has a record or not
pub recovered-restarted_history :
    (L : List Record) (rs ds : List ℕ) → IsHistory L → recovered (sizes_of L) (restarted L rs ds) ≡ recovered (sizes_of L) L
recovered-restarted_history L rs ds history = by_records (last_epoch L).records refl
  where
    by_records : (E : List Record) → (last_epoch L).records ≡ E → recovered (sizes_of L) (restarted L rs ds) ≡ recovered (sizes_of L) L
    by_records [] e =
        let b = base_holds L history in
        recovered-restarted (sizes_of L) L rs ds ∙ recover_nothing (sizes_of L) (base_of (sizes_of L) L) (last_epoch L) b.2.image_is b.2.tidy e
        ∙ sym (ap (λ R. recovered_now (sizes_of L) (base_of (sizes_of L) L) (cut L).now R) e)
    by_records (r ∷ E) e = recovered-same (sizes_of L) L r E rs ds e

-- ---- the base of a log that goes on
-- records that separate no epochs leave the base
pub base_of-more : (s : Sizes) (L : List Record) (r : Record) → separates r ≡ false → base_of s (L ++ r ∷ []) ≡ base_of s L
base_of-more s L r f = ap (λ (c : Cut). fold (recover s) (formatted_image s) c.closed) (cut_push L r ∙ cut_step_more (cut L) r f)

-- where the last epoch has no record, the base is what a restart recovers
pub recovered-base : (s : Sizes) (L : List Record) → (last_epoch L).records ≡ [] → recovered s L ≡ base_of s L
recovered-base s L none = ap (λ R. recovered_now s (base_of s L) (cut L).now R) none
