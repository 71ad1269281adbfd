-- Words in a row.
use Rattle.std.proofs.Common.{◌≡◌, ◌<◌, refl, ℕ, zero, suc, ◌+◌, ◌-◌, ◌^◌, ◌≤◌, List, [], ◌∷◌, ◌++◌, length, take, drop, ap, sym, ◌∙◌, arith, set, fold, take-append-drop, drop-drop, append_assoc, length-set, length-drop, get_or, get_or-set_other, map, inl, inr}
use Rattle.std.specs.Prelude.{zip, bit_or}
use Rattle.std.proofs.lemmas.List.{take_more_set, drop-set-lt, take_at, drop_at, length-take-le}
use Rattle.std.proofs.lemmas.List.Sums.{fold_push, fold-append}
use Rattle.std.proofs.lemmas.Nat.Bits.{same_from_bits, bit_at_or, bit_at-zero}
use Rattle.dali_words.specs.Words.{mask_of, row_of}
use Rattle.dali_words.specs.Effects.{write_all}
use Rattle.dali_words.proofs.Masks.{IsIn, length-write_all}

-- one word more of a row
pub row_push : (k n : ℕ) → row_of k (suc n) ≡ row_of k n ++ (k + n) ∷ []
row_push k zero = let e : k + 0 ≡ k = omega arith in ap (λ i. i ∷ []) (sym e)
row_push k (suc n) = let e : k + 1 + n ≡ k + suc n = omega arith in ap (λ is. k ∷ is) (row_push (k + 1) n) ∙ ap (λ i. k ∷ (row_of (k + 1) n ++ i ∷ [])) e

pub row_mask_more : (k n w m b : ℕ) → n ≡ w - k → k ≤ w → m ≡ mask_of (row_of k n) → b ≡ 2 ^ w → bit_or m b ≡ mask_of (row_of k (w + 1 - k))
row_mask_more k n w m b e le is bit =
    let here : k + n ≡ w = omega arith in
    let more : w + 1 - k ≡ suc n = omega arith in
    sym (ap (λ j. mask_of (row_of k j)) more ∙ ap mask_of (row_push k n) ∙ fold_push (λ x i. bit_or x (2 ^ i)) 0 (row_of k n) (k + n) ∙ ap (λ i. bit_or (mask_of (row_of k n)) (2 ^ i)) here ∙ ap (λ x. bit_or x (2 ^ w)) (sym is) ∙ ap (λ x. bit_or m x) (sym bit))

-- new words in a row stand in place of the old ones
pub write_row : (k : ℕ) (news ws : List ℕ) → k + length news ≤ length ws → write_all ws (zip (row_of k (length news)) news) ≡ take k ws ++ (news ++ drop (length news) (drop k ws))
write_row k [] ws room = sym (take-append-drop k ws)
write_row k (n ∷ ns) ws room = write_row (k + 1) ns (set ws k n) (omega (arith, length-set ws k n)) ∙ ap (λ xs. xs ++ (ns ++ drop (length ns) (drop (k + 1) (set ws k n)))) front ∙ append_assoc (take k ws) (n ∷ []) (ns ++ drop (length ns) (drop (k + 1) (set ws k n))) ∙ ap (λ xs. take k ws ++ (n ∷ (ns ++ xs))) behind
  where
    front : take (k + 1) (set ws k n) ≡ take k ws ++ n ∷ []
    front = take_more_set ws k n (omega arith)

    behind : drop (length ns) (drop (k + 1) (set ws k n)) ≡ drop (suc (length ns)) (drop k ws)
    behind =
        let e : k + 1 + length ns ≡ k + suc (length ns) = omega arith in
        ap (drop (length ns)) (drop-set-lt (k + 1) ws k n (omega arith)) ∙ drop-drop (length ns) (k + 1) ws ∙ ap (λ i. drop i ws) e ∙ sym (drop-drop (suc (length ns)) k ws)

-- the same for the part of a slice that was written
pub part_written : (k n : ℕ) (ws mid news : List ℕ) → k + length news ≤ length ws → n ≡ length news → mid ≡ news → take k ws ++ (mid ++ drop n (drop k ws)) ≡ write_all ws (zip (row_of k (length news)) news)
part_written k n ws mid news room size same = ap (λ xs. take k ws ++ (xs ++ drop n (drop k ws))) same ∙ ap (λ j. take k ws ++ (news ++ drop j (drop k ws))) size ∙ sym (write_row k news ws room)

-- ---- sets of words, put together
or_zero : (a : ℕ) → bit_or a 0 ≡ a
or_zero a = same_from_bits (bit_or a 0) a (λ i. omega (arith, bit_at_or a 0 i, bit_at-zero i))

pub or_assoc : (a b c : ℕ) → bit_or (bit_or a b) c ≡ bit_or a (bit_or b c)
or_assoc a b c = same_from_bits (bit_or (bit_or a b) c) (bit_or a (bit_or b c)) (λ i. omega (arith, bit_at_or (bit_or a b) c i, bit_at_or a b i, bit_at_or a (bit_or b c) i, bit_at_or b c i))

mask_from : (a : ℕ) (is : List ℕ) → fold (λ m i. bit_or m (2 ^ i)) a is ≡ bit_or a (mask_of is)
mask_from a [] = sym (or_zero a)
mask_from a (i ∷ is) = mask_from (bit_or a (2 ^ i)) is ∙ or_assoc a (2 ^ i) (mask_of is) ∙ ap (bit_or a) (ap (λ m. bit_or m (mask_of is)) (sym (zero_or (2 ^ i))) ∙ sym (mask_from (bit_or 0 (2 ^ i)) is))
  where
    zero_or : (b : ℕ) → bit_or 0 b ≡ b
    zero_or b = same_from_bits (bit_or 0 b) b (λ j. omega (arith, bit_at_or 0 b j, bit_at-zero j))

pub mask_of-append : (is js : List ℕ) → mask_of (is ++ js) ≡ bit_or (mask_of is) (mask_of js)
mask_of-append is js = fold-append (λ m i. bit_or m (2 ^ i)) 0 is js ∙ mask_from (mask_of is) js

pub mask_of-push : (is : List ℕ) (i : ℕ) → mask_of (is ++ i ∷ []) ≡ bit_or (mask_of is) (2 ^ i)
mask_of-push is i = fold_push (λ m j. bit_or m (2 ^ j)) 0 is i

-- the numbers of a row
pub in_row : (k n i : ℕ) → IsIn (row_of k n) i → (k ≤ i) × (i < k + n)
in_row k zero i h = absurd h
in_row k (suc n) i (inl e) = (omega arith, omega arith)
in_row k (suc n) i (inr h) = let at = in_row (k + 1) n i h in (omega arith, omega arith)

-- a word that no pair names stays
pub unwritten : (ws : List ℕ) (ps : List (ℕ × ℕ)) (i : ℕ) → (IsIn (map (λ p. p.0) ps) i → ⊥) → get_or (write_all ws ps) i 0 ≡ get_or ws i 0
unwritten ws [] i h = refl
unwritten ws (p ∷ ps) i h = unwritten (set ws p.0 p.1) ps i (λ g. h (inr g)) ∙ get_or-set_other ws p.0 i p.1 0 (λ e. h (inl (sym e)))

pub zip_within : (is vs : List ℕ) (i : ℕ) → IsIn (map (λ p. p.0) (zip is vs)) i → IsIn is i
zip_within [] vs i h = h
zip_within (j ∷ js) [] i h = absurd h
zip_within (j ∷ js) (v ∷ vs) i (inl e) = inl e
zip_within (j ∷ js) (v ∷ vs) i (inr h) = inr (zip_within js vs i h)

-- words in a row, written and written back
pub row_back : (k : ℕ) (news ws olds : List ℕ) → k + length news ≤ length ws → olds ≡ take (length news) (drop k ws) → write_all (write_all ws (zip (row_of k (length news)) news)) (zip (row_of k (length olds)) olds) ≡ ws
row_back k news ws olds room is = ap (λ xs. write_all xs (zip (row_of k (length olds)) olds)) first ∙ second ∙ third
  where
    size : length olds ≡ length news
    size = ap length is ∙ length-take-le (length news) (drop k ws) (omega (arith, length-drop k ws))

    after : List ℕ
    after = take k ws ++ (news ++ drop (length news) (drop k ws))

    first : write_all ws (zip (row_of k (length news)) news) ≡ after
    first = write_row k news ws room

    long : length after ≡ length ws
    long = ap length (sym first) ∙ length-write_all ws (zip (row_of k (length news)) news)

    second : write_all after (zip (row_of k (length olds)) olds) ≡ take k after ++ (olds ++ drop (length olds) (drop k after))
    second = write_row k olds after (omega (arith, long, size))

    front : take k after ≡ take k ws
    front = take_at (take k ws) (news ++ drop (length news) (drop k ws)) k (length-take-le k ws (omega arith))

    behind : drop k after ≡ news ++ drop (length news) (drop k ws)
    behind = drop_at (take k ws) (news ++ drop (length news) (drop k ws)) k (length-take-le k ws (omega arith))

    rest : drop (length olds) (drop k after) ≡ drop (length news) (drop k ws)
    rest = ap (drop (length olds)) behind ∙ drop_at news (drop (length news) (drop k ws)) (length olds) (sym size)

    third : take k after ++ (olds ++ drop (length olds) (drop k after)) ≡ ws
    third =
        ap (λ xs. xs ++ (olds ++ drop (length olds) (drop k after))) front ∙ ap (λ xs. take k ws ++ (olds ++ xs)) rest
        ∙ ap (λ xs. take k ws ++ (xs ++ drop (length news) (drop k ws))) is ∙ ap (λ xs. take k ws ++ xs) (take-append-drop (length news) (drop k ws)) ∙ take-append-drop k ws
