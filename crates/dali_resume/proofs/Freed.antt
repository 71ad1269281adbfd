-- What was freed stays so: an image that rests has nothing to free, whatever its log.
use Rattle.std.proofs.Common.{◌≡◌, ℕ, zero, suc, Bool, true, false, cond, List, [], ◌∷◌, ◌++◌, take, drop, refl, ap, sym, subst, ◌∙◌}
use Rattle.std.specs.Prelude.{◌==◌, fold, map, replicate, slice_index, slice_set}
use Rattle.std.specs.List.{AllByRecursion}
use Rattle.std.proofs.lemmas.List.Sums.{fold_push}
use Rattle.dali_geometry.specs.Sizes.{Sizes}
use Rattle.dali_geometry.specs.Places.{formatted_image}
use Rattle.dali_access.specs.Heap.Cells as cell
use Rattle.dali_access.specs.Index.Entries as entry
use Rattle.dali_record.specs.Epochs.{Epoch, cut}
use Rattle.dali_record.proofs.Ends.{by_push}
use Rattle.dali_history.specs.Recovered.{free_word, freed, recover}
use Rattle.dali_history.proofs.HeadlineLemmas.NothingToFree.{recovered-base}
use Rattle.dali_resume.specs.Onward.{RestsFree}

-- ---- one region
-- a word that isn't freed
abbrev Stays : List ℕ → ℕ → Type 0
Stays ws i = (slice_index ws i == 2) ≡ false

set_stays : (ws : List ℕ) (i j : ℕ) → Stays ws j → Stays (slice_set ws i 0) j
set_stays [] i j h = h
set_stays (w ∷ ws) zero zero h = refl
set_stays (w ∷ ws) zero (suc j) h = h
set_stays (w ∷ ws) (suc i) zero h = h
set_stays (w ∷ ws) (suc i) (suc j) h = set_stays ws i j h

set_here : (ws : List ℕ) (i : ℕ) → Stays (slice_set ws i 0) i
set_here [] zero = refl
set_here [] (suc i) = refl
set_here (w ∷ ws) zero = refl
set_here (w ∷ ws) (suc i) = set_here ws i

word_stays : (ws : List ℕ) (i j : ℕ) → Stays ws j → Stays (free_word ws i) j
word_stays ws i j h = by_test (slice_index ws i == 2)
  where
    by_test : (b : Bool) → Stays (cond b (slice_set ws i 0) ws) j
    by_test true = set_stays ws i j h
    by_test false = h

word_here : (ws : List ℕ) (i : ℕ) → Stays (free_word ws i) i
word_here ws i = by_test (slice_index ws i == 2) refl
  where
    by_test : (b : Bool) → (slice_index ws i == 2) ≡ b → Stays (cond b (slice_set ws i 0) ws) i
    by_test true e = set_here ws i
    by_test false e = e

words_stay : (is ws : List ℕ) (j : ℕ) → Stays ws j → Stays (fold free_word ws is) j
words_stay [] ws j h = h
words_stay (i ∷ is) ws j h = words_stay is (free_word ws i) j (word_stays ws i j h)

words_freed : (is ws : List ℕ) → AllByRecursion (Stays (fold free_word ws is)) is
words_freed [] ws = tt
words_freed (i ∷ is) ws = (words_stay is (free_word ws i) i (word_here ws i), words_freed is (free_word ws i))

nothing_freed : (is ws : List ℕ) → AllByRecursion (Stays ws) is → fold free_word ws is ≡ ws
nothing_freed [] ws h = refl
nothing_freed (i ∷ is) ws h = ap (λ b. fold free_word (cond b (slice_set ws i 0) ws) is) h.0 ∙ nothing_freed is ws h.1

region_twice : (is ws : List ℕ) → fold free_word (fold free_word ws is) is ≡ fold free_word ws is
region_twice is ws = nothing_freed is (fold free_word ws is) (words_freed is ws)

-- ---- all regions
map_twice : (f : List ℕ → List ℕ) (xs : List (List ℕ)) → ((ws : List ℕ) → f (f ws) ≡ f ws) → map f (map f xs) ≡ map f xs
map_twice f [] h = refl
map_twice f (x ∷ xs) h = ap (λ w. w ∷ map f (map f xs)) (h x) ∙ ap (λ ws. f x ∷ ws) (map_twice f xs h)

both_twice :
    (f g : List ℕ → List ℕ) (n : ℕ) (xs : List (List ℕ)) → ((ws : List ℕ) → f (f ws) ≡ f ws) → ((ws : List ℕ) → g (g ws) ≡ g ws)
    → map f (take n (map f (take n xs) ++ map g (drop n xs))) ++ map g (drop n (map f (take n xs) ++ map g (drop n xs)))
    ≡ map f (take n xs) ++ map g (drop n xs)
both_twice f g zero xs a b = map_twice g xs b
both_twice f g (suc n) [] a b = refl
both_twice f g (suc n) (x ∷ xs) a b =
    ap (λ w. w ∷ (map f (take n (map f (take n xs) ++ map g (drop n xs))) ++ map g (drop n (map f (take n xs) ++ map g (drop n xs))))) (a x)
    ∙ ap (λ ws. f x ∷ ws) (both_twice f g n xs a b)

freed_twice : (s : Sizes) (image : List (List ℕ)) → freed s (freed s image) ≡ freed s image
freed_twice s image =
    both_twice (λ ws. fold free_word ws (map entry.state_word entry.entries)) (λ ws. fold free_word ws (map cell.state_word cell.cells)) s.index image
    (region_twice (map entry.state_word entry.entries)) (region_twice (map cell.state_word cell.cells))

-- ---- a format
all_stay : (ws : List ℕ) → ((i : ℕ) → Stays ws i) → (is : List ℕ) → AllByRecursion (Stays ws) is
all_stay ws h [] = tt
all_stay ws h (i ∷ is) = (h i, all_stay ws h is)

zeros_stay : (n i : ℕ) → Stays (replicate n 0) i
zeros_stay zero zero = refl
zeros_stay zero (suc i) = refl
zeros_stay (suc n) zero = refl
zeros_stay (suc n) (suc i) = zeros_stay n i

heap_stays : (i : ℕ) → Stays (1 ∷ replicate 63 0) i
heap_stays zero = refl
heap_stays (suc i) = zeros_stay 63 i

map_same : (f : List ℕ → List ℕ) (n : ℕ) (ws : List ℕ) → f ws ≡ ws → map f (replicate n ws) ≡ replicate n ws
map_same f zero ws h = refl
map_same f (suc n) ws h = ap (λ w. w ∷ map f (replicate n ws)) h ∙ ap (λ xs. ws ∷ xs) (map_same f n ws h)

both_same :
    (f g : List ℕ → List ℕ) (n m : ℕ) (us ws : List ℕ) → f us ≡ us → g ws ≡ ws
    → map f (take n (replicate n us ++ replicate m ws)) ++ map g (drop n (replicate n us ++ replicate m ws)) ≡ replicate n us ++ replicate m ws
both_same f g zero m us ws a b = map_same g m ws b
both_same f g (suc n) m us ws a b =
    ap (λ w. w ∷ (map f (take n (replicate n us ++ replicate m ws)) ++ map g (drop n (replicate n us ++ replicate m ws)))) a
    ∙ ap (λ xs. us ∷ xs) (both_same f g n m us ws a b)

freed_formatted : (s : Sizes) → freed s (formatted_image s) ≡ formatted_image s
freed_formatted s =
    both_same (λ ws. fold free_word ws (map entry.state_word entry.entries)) (λ ws. fold free_word ws (map cell.state_word cell.cells))
    s.index s.heap (replicate 64 0) (1 ∷ replicate 63 0)
    (nothing_freed (map entry.state_word entry.entries) (replicate 64 0) (all_stay (replicate 64 0) (zeros_stay 64) (map entry.state_word entry.entries)))
    (nothing_freed (map cell.state_word cell.cells) (1 ∷ replicate 63 0) (all_stay (1 ∷ replicate 63 0) heap_stays (map cell.state_word cell.cells)))

-- ---- an empty epoch
base_freed : (s : Sizes) (es : List Epoch) → freed s (fold (recover s) (formatted_image s) es) ≡ fold (recover s) (formatted_image s) es
base_freed s = by_push (λ es. freed s (fold (recover s) (formatted_image s) es) ≡ fold (recover s) (formatted_image s) es) (freed_formatted s)
    (λ es e before. subst (λ im. freed s im ≡ im) (sym (fold_push (recover s) (formatted_image s) es e)) (freed_twice s _))

pub rests_free : RestsFree
rests_free s L none = base_freed s (cut L).closed ∙ sym (recovered-base s L none)
