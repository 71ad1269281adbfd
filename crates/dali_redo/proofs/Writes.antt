-- Words that are written one after another, and undos that are performed from the last.
use Rattle.std.proofs.Common.{◌≡◌, ℕ, zero, suc, ◌+◌, ◌/◌, ◌<◌, ◌≤◌, Bool, true, false, cond, List, [], ◌∷◌, ◌++◌, take, drop, length, refl, ap, ◌∙◌, arith, get_or, set}
use Rattle.std.specs.Prelude.{map}
use Rattle.dali_words.specs.Words.{write_under, has_first}
use Rattle.dali_access.specs.Heap.Cells as cell
use Rattle.dali_access.specs.Index.Entries as entry

-- no words for the set
pub write_none : (m : ℕ) (ws : List ℕ) → write_under m [] ws ≡ ws
write_none m [] = refl
write_none m (w ∷ ws) = by_test (write_none (m / 2) ws) (has_first m)
  where
    by_test : write_under (m / 2) [] ws ≡ ws → (b : Bool) → cond b w w ∷ write_under (m / 2) (cond b [] []) ws ≡ w ∷ ws
    by_test ih true = ap (λ us. w ∷ us) ih
    by_test ih false = ap (λ us. w ∷ us) ih

pub next_one : (xs : List ℕ) (i : ℕ) → i < length xs → drop i xs ≡ get_or xs i 0 ∷ drop (i + 1) xs
next_one xs i h = let one : suc i ≡ i + 1 = omega arith in by_suc xs i h ∙ ap (λ n. get_or xs i 0 ∷ drop n xs) one
  where
    by_suc : (ys : List ℕ) (j : ℕ) → j < length ys → drop j ys ≡ get_or ys j 0 ∷ drop (suc j) ys
    by_suc [] j g = absurd (omega (arith, g))
    by_suc (y ∷ ys) zero g = refl
    by_suc (y ∷ ys) (suc j) g = by_suc ys j (omega (arith, g))

pub none_left : (xs : List ℕ) (i : ℕ) → length xs ≤ i → drop i xs ≡ []
none_left [] zero h = refl
none_left [] (suc i) h = refl
none_left (x ∷ xs) zero h = absurd (omega (arith, h))
none_left (x ∷ xs) (suc i) h = none_left xs i (omega (arith, h))

-- one more of some items that a function changes in their places
pub one_more : {X : Type 0} (f : X → X) (xs : List X) (i : ℕ) (d : X) → i < length xs → set (map f (take i xs) ++ drop i xs) i (f (get_or (map f (take i xs) ++ drop i xs) i d)) ≡ map f (take (i + 1) xs) ++ drop (i + 1) xs
one_more {X = X} f xs i d h = let one : suc i ≡ i + 1 = omega arith in by_suc xs i h ∙ ap (λ n. map f (take n xs) ++ drop n xs) one
  where
    by_suc : (ys : List X) (j : ℕ) → j < length ys → set (map f (take j ys) ++ drop j ys) j (f (get_or (map f (take j ys) ++ drop j ys) j d)) ≡ map f (take (suc j) ys) ++ drop (suc j) ys
    by_suc [] j g = absurd (omega (arith, g))
    by_suc (y ∷ ys) zero g = refl
    by_suc (y ∷ ys) (suc j) g = ap (λ l. f y ∷ l) (by_suc ys j (omega (arith, g)))

-- the same of a list that is so changed as far as i
pub one_more_in : {X : Type 0} (f : X → X) (xs start : List X) (i : ℕ) (d v : X) → i < length start → xs ≡ map f (take i start) ++ drop i start → v ≡ f (get_or xs i d) → set xs i v ≡ map f (take (i + 1) start) ++ drop (i + 1) start
one_more_in f xs start i d v h same is = ap (set xs i) is ∙ (ap (λ l. set l i (f (get_or l i d))) same ∙ one_more f start i d h)

pub states_of_entries : 1 ∷ 4 ∷ 7 ∷ 10 ∷ 13 ∷ 16 ∷ 19 ∷ 22 ∷ 25 ∷ 28 ∷ 31 ∷ 34 ∷ 37 ∷ 40 ∷ 43 ∷ 46 ∷ 49 ∷ 52 ∷ 55 ∷ 58 ∷ 61 ∷ [] ≡ map entry.state_word entry.entries
unfolding entry.entries
states_of_entries = refl

pub states_of_cells : 8 ∷ 16 ∷ 24 ∷ 32 ∷ 40 ∷ 48 ∷ 56 ∷ [] ≡ map cell.state_word cell.cells
unfolding cell.cells
states_of_cells = refl
