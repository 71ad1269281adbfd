-- The walk of a put over the cells.
use Rattle.std.proofs.Common.{◌≡◌, ◌≢◌, ℕ, suc, ◌+◌, ◌-◌, ◌*◌, ◌^◌, ◌<◌, ◌≤◌, true, false, cond, List, [], ◌∷◌, ◌++◌, length, take, drop, refl, ap, sym, ◌∙◌, arith, get_or, map}
use Rattle.std.specs.Prelude.{◌==◌, zip, bit_or}
use Rattle.std.proofs.lemmas.Bool.Decides.{nat_tests, Decides-eqb}
use Rattle.std.proofs.lemmas.List.{drop_more, take_more, map-append}
use Rattle.dali_words.specs.declared.Effect.{Effect}
use Rattle.dali_words.specs.Words.{mask_of, row_of}
use Rattle.dali_words.specs.Values.{packed}
use Rattle.dali_words.specs.Effects.{effect_of, write_all, reading, writing}
use Rattle.dali_words.proofs.Rows.{mask_of-append, mask_of-push}
use Rattle.dali_access.specs.declared.heap.PutOutcome.{PutOutcome}
use Rattle.dali_access.specs.declared.heap.PutOutcome.TheVariants.{Put, NoCell}
use Rattle.dali_access.specs.Heap.Cells.{state_word, cell_words, cells, state_of}
use Rattle.dali_access.specs.Heap.Rows.{put, put_among}

count_cells : length cells ≡ 7
unfolding cells
count_cells = refl

cell_at_index : (i : ℕ) → i < 7 → get_or cells i 0 ≡ i + 1
unfolding cells
cell_at_index (suc (suc (suc (suc (suc (suc (suc i))))))) h = absurd (omega arith)
cell_at_index _ h = refl

cell_is : (c : ℕ) → 1 ≤ c → c < 8 → get_or cells (c - 1) 0 ≡ c
cell_is c low high = let e : c - 1 + 1 ≡ c = omega arith in cell_at_index (c - 1) (omega arith) ∙ e

drop_cell : (c : ℕ) → 1 ≤ c → c < 8 → drop (c - 1) cells ≡ c ∷ drop (c + 1 - 1) cells
drop_cell c low high =
    let e : c - 1 + 1 ≡ c + 1 - 1 = omega arith in
    drop_more cells (c - 1) 0 (omega (arith, count_cells)) ∙ ap (λ x. x ∷ drop (c - 1 + 1) cells) (cell_is c low high) ∙ ap (λ i. c ∷ drop i cells) e

states_more : (c : ℕ) → 1 ≤ c → c < 8 → map state_word (take (c + 1 - 1) cells) ≡ map state_word (take (c - 1) cells) ++ state_word c ∷ []
states_more c low high =
    let e : c + 1 - 1 ≡ c - 1 + 1 = omega arith in
    ap (λ i. map state_word (take i cells)) e ∙ ap (map state_word) (take_more cells (c - 1) 0 (omega (arith, count_cells)) ∙ ap (λ x. take (c - 1) cells ++ x ∷ []) (cell_is c low high)) ∙ map-append state_word (take (c - 1) cells) (c ∷ [])

-- one cell more that isn't free
pub seen_more : (c m b : ℕ) → 1 ≤ c → c < 8 → m ≡ mask_of (map state_word (take (c - 1) cells)) → b ≡ 2 ^ (8 * c) → bit_or m b ≡ mask_of (map state_word (take (c + 1 - 1) cells))
seen_more c m b low high is bit = ap (λ x. bit_or x b) is ∙ ap (bit_or (mask_of (map state_word (take (c - 1) cells)))) bit ∙ sym (mask_of-push (map state_word (take (c - 1) cells)) (state_word c)) ∙ ap mask_of (sym (states_more c low high))

opened : (ws : List ℕ) (key : ℕ) (v seen : List ℕ) (c : ℕ) → 1 ≤ c → c < 8 → put_among ws key v seen (drop (c - 1) cells) ≡ put_among ws key v seen (c ∷ drop (c + 1 - 1) cells)
opened ws key v seen c low high = ap (put_among ws key v seen) (drop_cell c low high)

pub rest_more : (ws : List ℕ) (key : ℕ) (v : List ℕ) (c : ℕ) → 1 ≤ c → c < 8 → state_of ws c ≢ 0 → put_among ws key v (map state_word (take (c - 1) cells)) (drop (c - 1) cells) ≡ put ws key v → put_among ws key v (map state_word (take (c + 1 - 1) cells)) (drop (c + 1 - 1) cells) ≡ put ws key v
rest_more ws key v c low high used so_far =
    let test : (state_of ws c == 0) ≡ false = grind (arith, nat_tests) in
    let seen : List ℕ = map state_word (take (c - 1) cells) in
    let full : Effect × PutOutcome = (effect_of ws (seen ++ cell_words c) (zip (cell_words c) (1 ∷ key ∷ length v ∷ packed v)), Put c) in
    let step : put_among ws key v seen (c ∷ drop (c + 1 - 1) cells) ≡ put_among ws key v (seen ++ state_word c ∷ []) (drop (c + 1 - 1) cells) = ap (λ t. cond t full (put_among ws key v (seen ++ state_word c ∷ []) (drop (c + 1 - 1) cells))) test in
    ap (λ s. put_among ws key v s (drop (c + 1 - 1) cells)) (states_more c low high) ∙ sym step ∙ sym (opened ws key v seen c low high) ∙ so_far

-- the words of a cell stand in a row
pub cell_row : (c : ℕ) → row_of (8 * c) 8 ≡ cell_words c
cell_row c =
    let e2 : 8 * c + 1 + 1 ≡ 8 * c + 2 = omega arith in
    let e3 : 8 * c + 2 + 1 ≡ 8 * c + 3 = omega arith in
    let e4 : 8 * c + 3 + 1 ≡ 8 * c + 4 = omega arith in
    let e5 : 8 * c + 4 + 1 ≡ 8 * c + 5 = omega arith in
    let e6 : 8 * c + 5 + 1 ≡ 8 * c + 6 = omega arith in
    let e7 : 8 * c + 6 + 1 ≡ 8 * c + 7 = omega arith in
    rw (e2, e3, e4, e5, e6, e7) refl

-- the first free cell
pub found : (ws : List ℕ) (key : ℕ) (v news : List ℕ) (c m b : ℕ) → 1 ≤ c → c < 8 → state_of ws c ≡ 0 → m ≡ mask_of (map state_word (take (c - 1) cells)) → b ≡ mask_of (row_of (8 * c) 8) → news ≡ 1 ∷ key ∷ length v ∷ packed v → put_among ws key v (map state_word (take (c - 1) cells)) (drop (c - 1) cells) ≡ put ws key v → (writing ws (bit_or m b) (8 * c) news, Put c) ≡ put ws key v
found ws key v news c m b low high free is bits new so_far =
    let seen : List ℕ = map state_word (take (c - 1) cells) in
    let test : (state_of ws c == 0) ≡ true = (Decides-eqb (state_of ws c) 0).1 free in
    let full : Effect × PutOutcome = (effect_of ws (seen ++ cell_words c) (zip (cell_words c) (1 ∷ key ∷ length v ∷ packed v)), Put c) in
    let reads : bit_or m b ≡ mask_of (seen ++ cell_words c) = ap (λ x. bit_or x b) is ∙ ap (bit_or (mask_of seen)) (bits ∙ ap mask_of (cell_row c)) ∙ sym (mask_of-append seen (cell_words c)) in
    let step : put_among ws key v seen (c ∷ drop (c + 1 - 1) cells) ≡ full = ap (λ t. cond t full (put_among ws key v (seen ++ state_word c ∷ []) (drop (c + 1 - 1) cells))) test in
    let row : (writing ws (mask_of (seen ++ cell_words c)) (8 * c) (1 ∷ key ∷ length v ∷ packed v), Put c) ≡ full = written (row_of (8 * c) 8) (cell_row c) in
    ap (λ x. (writing ws x (8 * c) news, Put c)) reads ∙ ap (λ ns. (writing ws (mask_of (seen ++ cell_words c)) (8 * c) ns, Put c)) new ∙ row ∙ sym step ∙ sym (opened ws key v seen c low high) ∙ so_far
  where
    to_effect : List ℕ → Effect × PutOutcome
    to_effect is = (record { read = mask_of (map state_word (take (c - 1) cells) ++ cell_words c); write = mask_of is; after = write_all ws (zip is (1 ∷ key ∷ length v ∷ packed v)) }, Put c)

    written : (is : List ℕ) → is ≡ cell_words c → to_effect is ≡ to_effect (cell_words c)
    written is e = ap to_effect e

-- no cell is free
pub none : (ws : List ℕ) (key : ℕ) (v : List ℕ) (c m : ℕ) → 8 ≤ c → c ≤ 8 → m ≡ mask_of (map state_word (take (c - 1) cells)) → put_among ws key v (map state_word (take (c - 1) cells)) (drop (c - 1) cells) ≡ put ws key v → (reading ws m, NoCell) ≡ put ws key v
unfolding cells
none ws key v c m low high is so_far =
    let e : c ≡ 8 = omega arith in
    let done : put_among ws key v (map state_word (take (c - 1) cells)) (drop (c - 1) cells) ≡ (effect_of ws (map state_word (take (c - 1) cells)) [], NoCell) = ap (λ k. put_among ws key v (map state_word (take (c - 1) cells)) (drop (k - 1) cells)) e in
    ap (λ x. (reading ws x, NoCell)) is ∙ sym done ∙ so_far
